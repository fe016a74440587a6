use Rattle.scroll.proofs.lemmas.Leaves.{nested-leaves}
use Rattle.scroll.proofs.laws.histories.array_has_leaves.Goals as goal

pub returns : goal.returns
returns g c ctx leaves counts has =
    nested-leaves leaves (g.T.TryIntoCtx.writes ctx) (g.T.TryIntoCtx.refuses ctx) has counts
