use Rattle.scroll.proofs.lemmas.Leaves.{call-leaves}
use Rattle.scroll.proofs.laws.histories.write_is_of_its_leaves.Goals as goal

pub returns : goal.returns
returns g c ctx leaves has x old new offset r wrote refused =
    call-leaves leaves (g.T.TryIntoCtx.writes ctx) (g.T.TryIntoCtx.refuses ctx) has x old offset new
    r wrote refused
