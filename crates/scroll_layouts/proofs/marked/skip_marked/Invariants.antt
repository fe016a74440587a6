-- The values so far stand before the mark.
use Rattle.std.proofs.Common.{◌≤◌, ◌-◌, length}
use Rattle.scroll_layouts.specs.Marks.{CountedBefore}
use Rattle.scroll_layouts.proofs.marked.skip_marked.Given as goal

abbrev pub invariant-loop-end : goal.invariant-loop-end
invariant-loop-end g l =
    CountedBefore g.K.End.EndMark.mark g.K.Listed.item l.order l.bytes l.at
    l.count × (l.at ≤ length l.bytes) × (l.count ≤ l.at)

abbrev pub decreases-loop-end : goal.decreases-loop-end
decreases-loop-end g l = length l.bytes - l.at
