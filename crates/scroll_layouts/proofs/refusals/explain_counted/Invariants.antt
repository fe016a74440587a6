-- The values so far follow one another.
use Rattle.std.proofs.Common.{◌≤◌, ◌-◌, length}
use Rattle.scroll_layouts.specs.Lists.{CountedItems}
use Rattle.scroll_layouts.proofs.refusals.explain_counted.Given as goal

abbrev pub invariant-loop-done : goal.invariant-loop-done
invariant-loop-done g l =
    CountedItems g.K.Listed.item l.order l.bytes 0 l.at l.done × (l.at ≤ length l.bytes)
    × (l.done ≤ l.count)

abbrev pub decreases-loop-done : goal.decreases-loop-done
decreases-loop-done g l = l.count - l.done
