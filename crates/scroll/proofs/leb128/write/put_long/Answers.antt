use Rattle.std.proofs.Common.{◌≡◌, ℕ, ◌<◌, ◌≤◌, ◌%◌, ◌^◌, ◌∙◌, length, arith}
use Rattle.std.proofs.Math.ListN.{set}
use Rattle.std.proofs.lemmas.List.{drop-set-lt, length-set}
use Rattle.std.proofs.lemmas.List.Edits.{fill_by_more}
use Rattle.scroll.specs.Encoding.{encoded_byte, ten_groups}
use Rattle.scroll.proofs.lemmas.LebWriteLemmas.{encoding_written}
use Rattle.scroll.proofs.lemmas.LebWordLemmas.{eight_written}
use Rattle.scroll.proofs.leb128.write.put_long.Goals as goal

pub returns-else-count-eq10 : goal.returns-else-count-eq10
returns-else-count-eq10 c =
    let a = c.args in
    let one = c.put_four.ensures in
    let two = c.put_four-2.ensures in
    let eight =
    eight_written a.low a.tenth a.count a.dst.now c.put_four.new.dst c.put_four-2.new.dst _ _
    c.requires.some c.open_groups.ensures c.open_groups-2.ensures
    (record { put = one.put; before = one.before; after = one.after })
    (record { put = two.put; before = two.before; after = two.after }) in
    let bytes =
    fill_by_more (encoded_byte (ten_groups a.low a.tenth % 128 ^ a.count) a.count)
    c.put_four-2.new.dst 8 0 (omega arith) eight.0 in
    let room : a.count ≤ length
    (set c.put_four-2.new.dst 8
    (encoded_byte (ten_groups a.low a.tenth % 128 ^ a.count) a.count 8)) =
    rw length-set (omega arith) in
    rw c.byte_of.ensures (encoding_written (ten_groups a.low a.tenth % 128 ^ a.count) a.count
    a.dst.now _ room (λ (k : ℕ) (h : k < a.count). bytes k (omega arith))
    (drop-set-lt a.count c.put_four-2.new.dst 8 _ (omega arith) ∙ eight.1))

pub returns-then-count-eq10 : goal.returns-then-count-eq10
returns-then-count-eq10 c =
    let a = c.args in
    let one = c.put_four.ensures in
    let two = c.put_four-2.ensures in
    let eight =
    eight_written a.low a.tenth a.count a.dst.now c.put_four.new.dst c.put_four-2.new.dst _ _
    c.requires.some c.open_groups.ensures c.open_groups-2.ensures
    (record { put = one.put; before = one.before; after = one.after })
    (record { put = two.put; before = two.before; after = two.after }) in
    let text = encoded_byte (ten_groups a.low a.tenth % 128 ^ a.count) a.count in
    let nine =
    set c.put_four-2.new.dst 8
    (encoded_byte (ten_groups a.low a.tenth % 128 ^ a.count) a.count 8) in
    let size : length nine ≡ length c.put_four-2.new.dst = length-set c.put_four-2.new.dst 8 _ in
    let first = fill_by_more text c.put_four-2.new.dst 8 0 (omega arith) eight.0 in
    let bytes = fill_by_more text nine 9 0 (omega arith) first in
    let room : a.count ≤ length (set nine 9 (text 9)) = rw length-set (omega arith) in
    rw (c.byte_of.ensures, c.byte_of-then-count-eq10.ensures)
    (encoding_written (ten_groups a.low a.tenth % 128 ^ a.count) a.count a.dst.now _ room
    (λ (k : ℕ) (h : k < a.count). bytes k (omega arith))
    (drop-set-lt a.count nine 9 _ (omega arith)
    ∙ drop-set-lt a.count c.put_four-2.new.dst 8 _ (omega arith) ∙ eight.1))
