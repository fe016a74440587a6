-- The values so far are appended, and stand before the mark.
use Rattle.std.proofs.Common.{◌≡◌, ◌≤◌, ◌-◌, ◌++◌, List, length}
use Rattle.std.specs.Prelude.{vec_capacity}
use Rattle.scroll_layouts.specs.Marks.{ItemsBefore}
use Rattle.scroll_layouts.proofs.marked.until.append_until.Given as goal

abbrev pub invariant-loop-end : goal.invariant-loop-end
invariant-loop-end g l =
    (found : List _)
    × ItemsBefore g.K.End.EndMark.mark g.K.Listed.item l.order l.rest 0 found l.at
    × (l.values.items ≡ l.initial.values.items ++ found) × (l.at ≤ length l.rest)
    × (vec_capacity l.initial.values ≤ vec_capacity l.values)

abbrev pub decreases-loop-end : goal.decreases-loop-end
decreases-loop-end g l = length l.rest - l.at
