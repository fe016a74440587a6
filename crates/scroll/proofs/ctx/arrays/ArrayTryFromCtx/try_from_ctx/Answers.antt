use Rattle.std.proofs.Common.{◌≡◌, true, Some, refl, ap, arith, rules, sym, length, ◌∙◌}
use Rattle.std.proofs.lemmas.List.{length-map}
use Rattle.std.proofs.lemmas.Result.{err_from_is_err_and}
use Rattle.scroll.specs.Errors.{PastEnd}
use Rattle.scroll.proofs.lemmas.ArrayLemmas.{IsFilled-none, IsFilled-push, IsFilled-refused, map_some-same}
use Rattle.scroll.proofs.ctx.arrays.ArrayTryFromCtx.try_from_ctx.Goals as goal

pub returns-then-not-fits-clause-refused : goal.returns-then-not-fits-clause-refused
returns-then-not-fits-clause-refused g c = (
  λ h.
      let is_true : c.fits.result ≡ true = c.fits.ensures.small h in
      absurd (cc),
  λ _. c.from.ensures,
)

pub loop-i-init : goal.loop-i-init
loop-i-init g c =
    IsFilled-none (g.T.TryFromCtx.reads c.args.ctx) c.args.from.now c.new-slots.result.items
    (search rules)

pub loop-i-preserved : goal.loop-i-preserved
loop-i-preserved g c =
    IsFilled-push (g.T.TryFromCtx.reads c.args.ctx) c.args.from.now _ _ _ _ _ _ c.loop-i.invariant
    c.push.ensures.items c.in_ok-value.ensures.read

pub returns-clause-read : goal.returns-clause-read
returns-clause-read g c =
    let was = c.loop-i.invariant in
    let same = map_some-same _ _ (sym was.slots ∙ c.unwrap_slots-values.ensures) in
    rw (← same) (record { len = omega arith; each = was.each })

pub returns-in_err-value-clause-refused : goal.returns-in_err-value-clause-refused
returns-in_err-value-clause-refused g c =
    let refused =
    IsFilled-refused (g.T.TryFromCtx.reads c.args.ctx) (g.T.TryFromCtx.refuses c.args.ctx)
    (PastEnd g.E.From.from_gives) c.args.from.now
    _ _ g.row.N _ c.in_err-value.field-0.0 c.loop-i.invariant c.loop-i-test.true
    c.in_err-value.ensures.refused in
    let p = err_from_is_err_and c.from_residual.result c.from_residual.ensures.1 in
    rw (p.1, p.2) (λ _. refused, λ no. absurd (no (c.if-not-fits.ensures.only refl)))

pub push-requires : goal.push-requires
push-requires g c =
    let was = c.loop-i.invariant in (
      c.if-not-fits.ensures.fits refl,
      omega (arith, ap length was.slots, length-map was.values (λ x. Some x), was.len),
    )

pub unwrap_slots-values-requires : goal.unwrap_slots-values-requires
unwrap_slots-values-requires g c =
    let was = c.loop-i.invariant in (
      c.if-not-fits.ensures.fits refl,
      (search rules, (was.values, was.slots, omega (arith, was.len))),
    )

pub new-slots-requires : goal.new-slots-requires
new-slots-requires g c = c.if-not-fits.ensures.fits refl
