use Rattle.std.proofs.Common.{ℕ, ◌<◌, ◌≤◌, ◌%◌, ◌^◌, length, arith}
use Rattle.std.proofs.Math.ListN.{set}
use Rattle.std.proofs.lemmas.List.{drop-set-lt, length-set}
use Rattle.std.proofs.lemmas.List.Edits.{fill_by_more}
use Rattle.scroll.specs.Encoding.{encoded_byte, ten_groups}
use Rattle.scroll.proofs.lemmas.LebWriteLemmas.{encoding_written}
use Rattle.scroll.proofs.leb128.write.put_one.Goals as goal

pub returns : goal.returns
returns c =
    let a = c.args in
    let u = ten_groups a.low a.tenth % 128 ^ 1 in
    let room : 1 ≤ length (set a.dst.now 0 (encoded_byte u 1 0)) = rw length-set c.requires.room in
    let bytes =
    fill_by_more (encoded_byte u 1) a.dst.now 0 0 (omega (arith, c.requires.room))
    (λ (k : ℕ) (h : k < 0). absurd (omega (arith, h))) in
    rw c.byte_of.ensures (encoding_written u 1 a.dst.now _ room bytes
    (drop-set-lt 1 a.dst.now 0 _ (omega arith)))
