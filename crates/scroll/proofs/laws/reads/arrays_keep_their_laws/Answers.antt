use Rattle.scroll.proofs.lemmas.OneAnswer.{reader-nested}
use Rattle.scroll.proofs.laws.reads.arrays_keep_their_laws.Goals as goal

pub returns : goal.returns
returns g c ctx counts laws =
    reader-nested (g.T.TryFromCtx.reads ctx) (g.T.TryFromCtx.refuses ctx) laws counts
