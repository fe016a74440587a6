use Rattle.std.proofs.Common.{◌≡◌, ◌∙◌, ◌%◌, ◌^◌, arith}
use Rattle.scroll.specs.Encoding.{ten_groups}
use Rattle.scroll.proofs.lemmas.LebWriteLemmas.{open_same, short_written}
use Rattle.scroll.proofs.leb128.write.put_short.Goals as goal

pub returns : goal.returns
returns c =
    let a = c.args in
    let x = ten_groups a.low a.tenth in
    short_written (x % 128 ^ a.count) a.count _ _ _ a.dst.now c.requires.some c.requires.few
    c.requires.room
    (c.byte_of.ensures ∙ open_same x 3 a.count 0 (omega arith) (omega (arith, c.requires.some)))
    (λ (three : a.count ≡ 3). c.byte_of-2.ensures
    ∙ open_same x 3 a.count 1 (omega arith) (omega (arith, three)))
    c.last_of_short-last.ensures
