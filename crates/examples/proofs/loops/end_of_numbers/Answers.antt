use Rattle.std.proofs.Common.{◌++◌, [], ◌∷◌}
use Rattle.scroll.proofs.lemmas.callers.Cursors.{ReadsAll-next}
use Rattle.examples.proofs.loops.end_of_numbers.Goals as goal

pub loop-number-preserved : goal.loop-number-preserved
loop-number-preserved c =
    let before = c.loop-number.invariant in (
      before.0 ++ c.in-Ok._number ∷ [],
      ReadsAll-next _ _ 0 before.0 _ _ c.in-Ok._number before.1 c.in-Ok.ensures.read,
    )
