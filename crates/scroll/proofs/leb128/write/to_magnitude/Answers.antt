use Rattle.std.proofs.Common.{◌-◌, ap, ◌∙◌, of_z, arith}
use Rattle.std.specs.Int.{w64}
use Rattle.std.proofs.lemmas.Int.{to_z-of_z, of_z-to_z}
use Rattle.scroll.proofs.lemmas.LebWriteLemmas.{magnitude_below, magnitude_above}
use Rattle.scroll.proofs.leb128.write.to_magnitude.Goals as goal

pub returns-then-value-lt0 : goal.returns-then-value-lt0
returns-then-value-lt0 c =
    let back = to_z-of_z w64 c.args.value c.ranges.value in
    magnitude_below c.args.value _ c.ranges.value (rw back at c.if-value-lt0.true)
    (c.cast_unsigned.ensures
    ∙ of_z-to_z w64 (18446744073709551615 - of_z w64 c.args.value) (omega arith))

pub returns-else-value-lt0 : goal.returns-else-value-lt0
returns-else-value-lt0 c =
    let back = to_z-of_z w64 c.args.value c.ranges.value in
    magnitude_above c.args.value _ (rw back at c.if-value-lt0.false)
    (c.cast_unsigned-else-value-lt0.ensures ∙ ap (of_z w64) back)
