use Rattle.scroll.proofs.lemmas.OneAnswer.{local-nested, bounded-nested, within-nested}
use Rattle.scroll.proofs.laws.reads.array_depends_on_its_bytes.Goals as goal

pub returns-clause-local : goal.returns-clause-local
returns-clause-local g c ctx counts local = local-nested (g.T.TryFromCtx.reads ctx) local counts

pub returns-clause-bounded : goal.returns-clause-bounded
returns-clause-bounded g c ctx counts bounded =
    bounded-nested (g.T.TryFromCtx.reads ctx) bounded counts

pub returns-clause-within : goal.returns-clause-within
returns-clause-within g c ctx counts within = within-nested (g.T.TryFromCtx.reads ctx) within counts
