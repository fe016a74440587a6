use Rattle.std.proofs.Common.{◌≡◌, ◌*◌, ◌%◌, ◌^◌, ap, ◌∙◌}
use Rattle.std.specs.Int.{w64}
use Rattle.std.proofs.lemmas.Int.{to_z-of_z}
use Rattle.scroll.specs.Encoding.{magnitude_bits}
use Rattle.scroll.proofs.lemmas.LebWriteLemmas.{twice_magnitude, signed_least}
use Rattle.scroll.proofs.leb128.signed.I64LebNumber.shortest.Goals as goal

pub returns : goal.returns
returns c =
    let back = to_z-of_z w64 c.args.self c.ranges.self in
    let word : c.to_magnitude.result * 2 % 2 ^ 64 ≡ 2 * magnitude_bits c.args.self =
    ap (λ x. x * 2 % 2 ^ 64) (c.to_magnitude.ensures ∙ ap magnitude_bits back)
    ∙ twice_magnitude c.args.self c.ranges.self in
    signed_least c.args.self _ c.ranges.self (rw word at c.shortest_count.ensures)
