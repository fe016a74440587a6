use Rattle.std.specs.Array.Iter.{array_into_iter_items}
use Rattle.scroll.proofs.lemmas.ArrayLemmas.{IsPartWritten}
use Rattle.scroll.proofs.ctx.arrays.ArrayTryIntoCtx.try_into_ctx.Given as goal

abbrev pub invariant-loop-i : goal.invariant-loop-i
invariant-loop-i g l =
    IsPartWritten (g.T.TryIntoCtx.writes l.ctx) l.fn.self (array_into_iter_items l.values)
    l.initial.dst l.dst l._i l.offset
