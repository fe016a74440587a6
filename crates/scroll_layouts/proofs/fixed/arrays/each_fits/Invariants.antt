-- The values so far fit.
use Rattle.std.proofs.Common.{◌<◌, ◌≤◌, ◌-◌, ℕ, length}
use Rattle.std.specs.Prelude.{slice_index_or}
use Rattle.scroll_layouts.specs.Layouts.{fits}
use Rattle.scroll_layouts.proofs.fixed.arrays.each_fits.Given as goal

abbrev pub invariant-loop-i : goal.invariant-loop-i
invariant-loop-i g l = ((k : ℕ) → (d : g.row.T.Denot) → k < l.i
    → fits g.T.FixedLayout.layout (slice_index_or l.values k d)) × (l.i ≤ length l.values)

abbrev pub decreases-loop-i : goal.decreases-loop-i
decreases-loop-i g l = length l.values - l.i
