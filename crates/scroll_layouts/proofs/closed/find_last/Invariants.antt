-- None of the values so far says that it is the last.
use Rattle.std.proofs.Common.{◌≡◌, ◌≤◌, ◌-◌, List, length}
use Rattle.scroll_layouts.specs.Closed.{OpenList}
use Rattle.scroll_layouts.proofs.closed.find_last.Given as goal

abbrev pub invariant-loop-end : goal.invariant-loop-end
invariant-loop-end g l =
    (values : List _) × OpenList g.K.Listed.item g.K.Closed.closes l.order l.bytes values l.at
    × (length values ≡ l.count) × (l.at ≤ length l.bytes) × (l.count ≤ l.at)

abbrev pub decreases-loop-end : goal.decreases-loop-end
decreases-loop-end g l = length l.bytes - l.at
