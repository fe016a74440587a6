use Rattle.std.proofs.Common.{◌≡◌, true, refl, arith, rules}
use Rattle.std.proofs.lemmas.Grind.{common_steps}
use Rattle.std.proofs.lemmas.Result.{err_from_is_err_and}
use Rattle.std.specs.Array.Iter.{array_into_iter_items}
use Rattle.scroll.proofs.lemmas.ArrayLemmas.{IsPartWritten-none, IsPartWritten-next, IsPartWritten-fails}
use Rattle.scroll.proofs.ctx.arrays.ArrayTryIntoCtx.try_into_ctx.Goals as goal

pub loop-i-init : goal.loop-i-init
loop-i-init g c =
    IsPartWritten-none (g.T.TryIntoCtx.writes c.args.ctx) c.args.self
    (array_into_iter_items c.into_iter-values.result) c.args.dst.now (search rules)

pub loop-i-preserved : goal.loop-i-preserved
loop-i-preserved g c =
    IsPartWritten-next (g.T.TryIntoCtx.writes c.args.ctx) c.args.self _ _ c.args.dst.now _ _ _ _ _
    c.in-Some.value
    c.loop-i.invariant c.in-Some.ensures.steps c.in_ok-offset-in-Some.ensures.wrote
    c.in_ok-offset-in-Some.ensures.inside

pub returns-then-not-fits-clause-refused : goal.returns-then-not-fits-clause-refused
returns-then-not-fits-clause-refused g c = (
  λ h.
      let is_true : c.fits.result ≡ true = c.fits.ensures.small h in
      absurd (cc),
  λ _. (refl, refl),
)

pub into_iter-values-requires : goal.into_iter-values-requires
into_iter-values-requires g c = (search rules, c.if-not-fits.ensures.fits refl)

pub drop-values-requires : goal.drop-values-requires
drop-values-requires g c = c.if-not-fits.ensures.fits refl

pub drop-values-requires-2 : goal.drop-values-requires-2
drop-values-requires-2 g c = c.if-not-fits.ensures.fits refl

pub next-requires : goal.next-requires
next-requires g c = (c.if-not-fits.ensures.fits refl, search rules)

pub returns-in_err-offset-in-Some-clause-refused : goal.returns-in_err-offset-in-Some-clause-refused
returns-in_err-offset-in-Some-clause-refused g c =
    let failed =
    IsPartWritten-fails (g.T.TryIntoCtx.writes c.args.ctx) (g.T.TryIntoCtx.refuses c.args.ctx)
    c.args.self _ _ c.args.dst.now _ _ _ _ c.in-Some.value _
    c.loop-i.invariant c.in-Some.ensures.steps c.in_err-offset-in-Some.ensures.refused in
    let p = err_from_is_err_and c.from_residual.result c.from_residual.ensures.1 in
    rw (p.1, p.2) (λ _. failed, λ no. absurd (no (c.if-not-fits.ensures.only refl)))

pub unreachable-requires : goal.unreachable-requires
unreachable-requires g c = grind (arith, common_steps)

pub unreachable-unreachable : goal.unreachable-unreachable
unreachable-unreachable g c = grind (arith, common_steps)

pub returns-clause-wrote : goal.returns-clause-wrote
returns-clause-wrote g c = grind (arith, common_steps)

pub returns-clause-refused : goal.returns-clause-refused
returns-clause-refused g c = grind (arith, common_steps)
