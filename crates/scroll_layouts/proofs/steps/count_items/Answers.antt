-- One more value was read.
use Rattle.std.proofs.Common.{rules}
use Rattle.scroll_layouts.specs.lemmas.ListLemmas.{counted-push}
use Rattle.scroll_layouts.proofs.steps.count_items.Goals as goal

pub loop-at-preserved : goal.loop-at-preserved
loop-at-preserved g c =
    let next = c.in_ok-at.ensures in (
      counted-push g.K.Listed.item c.args.order c.args.bytes.now 0 c.loop-at.at c.in_ok-at.at
          c.loop-at.count next.ends.value c.loop-at.invariant.0 next.ends.there next.ends.moves
          next.forward,
      next.inside,
      search rules,
    )
