use Rattle.scroll.proofs.lemmas.ArrayLemmas.{IsFilled}
use Rattle.scroll.proofs.ctx.arrays.ArrayTryFromCtx.try_from_ctx.Given as goal

abbrev pub invariant-loop-i : goal.invariant-loop-i
invariant-loop-i g l = IsFilled (g.T.TryFromCtx.reads l.ctx) l.from l.slots.items l._i l.offset
