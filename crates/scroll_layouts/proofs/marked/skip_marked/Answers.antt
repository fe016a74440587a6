-- One more value was read.
use Rattle.std.proofs.Common.{rules}
use Rattle.scroll_layouts.specs.lemmas.MarkLemmas.{before-push}
use Rattle.scroll_layouts.proofs.marked.skip_marked.Goals as goal

pub loop-end-preserved : goal.loop-end-preserved
loop-end-preserved g c =
    let next = c.in_ok-at.ensures in (
      before-push g.K.End.EndMark.mark g.K.Listed.item c.args.order c.args.bytes.now c.loop-end.at
          c.in_ok-at.at c.loop-end.count next.ends.value c.loop-end.invariant.0 (search rules)
          next.ends.there next.ends.moves next.forward,
      next.inside,
      search rules,
    )
