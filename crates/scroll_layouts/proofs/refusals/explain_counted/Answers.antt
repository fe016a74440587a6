-- One more value was read.
use Rattle.std.proofs.Common.{rules}
use Rattle.scroll_layouts.specs.lemmas.ListLemmas.{counted-push}
use Rattle.scroll_layouts.proofs.refusals.explain_counted.Goals as goal

pub loop-done-preserved : goal.loop-done-preserved
loop-done-preserved g c =
    let next = c.in_ok-at.ensures in (
      counted-push g.K.Listed.item c.args.order c.args.bytes.now 0 c.loop-done.at c.in_ok-at.at
          c.loop-done.done next.ends.value c.loop-done.invariant.0 next.ends.there next.ends.moves
          next.forward,
      next.inside,
      search rules,
    )
