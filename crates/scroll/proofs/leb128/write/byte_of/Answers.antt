use Rattle.std.proofs.Common.{◌≡◌, ◌/◌, ◌%◌, ◌^◌, sym, ◌∙◌, arith}
use Rattle.scroll.specs.Encoding.{ten_groups}
use Rattle.scroll.proofs.lemmas.LebWriteLemmas.{group_digit, tenth_digit, marked_byte, last_byte, mod_room}
use Rattle.scroll.proofs.leb128.write.byte_of.Goals as goal
use Rattle.scroll.proofs.leb128.write.byte_of.Goals.{then-i-lt9, else-i-lt9}

pub returns-then-i-count : goal.returns-then-i-count
returns-then-i-count c =
    let a = c.args in
    let digit : c.if-i-lt9.group ≡ ten_groups a.low a.tenth % 128 ^ a.count / 128 ^ a.i % 128 =
    elim c.if-i-lt9.branch [
      | then-i-lt9 w ↦
          group_digit a.low a.tenth a.count a.i _ c.requires.within w.if-i-lt9.true w.group-is
      | else-i-lt9 w ↦ w.group-is
          ∙ sym (tenth_digit a.low a.tenth a.count a.i c.requires.group c.requires.within
          w.if-i-lt9.false c.requires.few)
    ] in
    marked_byte _ a.count a.i _ c.if-i-count.true digit

pub returns-else-i-count : goal.returns-else-i-count
returns-else-i-count c =
    let a = c.args in
    let digit : c.if-i-lt9.group ≡ ten_groups a.low a.tenth % 128 ^ a.count / 128 ^ a.i % 128 =
    elim c.if-i-lt9.branch [
      | then-i-lt9 w ↦
          group_digit a.low a.tenth a.count a.i _ c.requires.within w.if-i-lt9.true w.group-is
      | else-i-lt9 w ↦ w.group-is
          ∙ sym (tenth_digit a.low a.tenth a.count a.i c.requires.group c.requires.within
          w.if-i-lt9.false c.requires.few)
    ] in
    last_byte _ a.count a.i _ (mod_room _ a.count) c.requires.within (omega arith) digit
