-- One more value was read, which is the last one or isn't.
use Rattle.std.proofs.Common.{◌+◌, ◌++◌, ◌∷◌, [], length-append, ap, subst, ◌∙◌, arith, rules}
use Rattle.scroll_layouts.specs.Closed.{CountedClosed}
use Rattle.scroll_layouts.specs.lemmas.ClosedLemmas.{closed-push, open-push}
use Rattle.scroll_layouts.proofs.closed.find_last.Goals as goal

pub returns-then-is_last-clause-read : goal.returns-then-is_last-clause-read
returns-then-is_last-clause-read g c =
    let f = g.K.Listed.item in
    let closes = g.K.Closed.closes in
    let h = c.loop-end.invariant in
    let next = c.in_ok-end.ensures in
    subst (CountedClosed f closes c.args.order c.args.bytes.now c.in_ok-end.end)
    (ap (λ n. n + 1) h.2)
    (closed-push f closes c.args.order c.args.bytes.now h.0 c.loop-end.at c.in_ok-end.end
    next.read.0 h.1 next.read.1 next.read.2 (omega (arith, next.forward.0))
    (next.read.3 ∙ c.if-is_last.true))

pub loop-end-preserved : goal.loop-end-preserved
loop-end-preserved g c =
    let f = g.K.Listed.item in
    let closes = g.K.Closed.closes in
    let h = c.loop-end.invariant in
    let next = c.in_ok-end.ensures in (
      h.0 ++ next.read.0 ∷ [],
      open-push f closes c.args.order c.args.bytes.now h.0 c.loop-end.at c.in_ok-end.end next.read.0
          h.1 next.read.1 next.read.2 (omega (arith, next.forward.0))
          (next.read.3 ∙ c.if-is_last.false),
      length-append h.0 (next.read.0 ∷ []) ∙ ap (λ n. n + 1) h.2,
      next.forward.1,
      search rules,
    )
