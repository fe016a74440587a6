-- The values so far follow one another.
use Rattle.std.proofs.Common.{◌≤◌, ◌-◌, length}
use Rattle.scroll_layouts.specs.Lists.{CountedItems}
use Rattle.scroll_layouts.proofs.refusals.explain_items.Given as goal

abbrev pub invariant-loop-at : goal.invariant-loop-at
invariant-loop-at g l =
    CountedItems g.K.Listed.item l.order l.bytes 0 l.at l.count
    × (l.at ≤ length l.bytes) × (l.count ≤ l.at)

abbrev pub decreases-loop-at : goal.decreases-loop-at
decreases-loop-at g l = length l.bytes - l.at
