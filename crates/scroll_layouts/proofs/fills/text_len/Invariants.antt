-- The bytes behind fill.
use Rattle.std.proofs.Common.{◌≡◌, ◌≤◌, ◌-◌, length, drop}
use Rattle.std.specs.Prelude.{replicate}
use Rattle.scroll_layouts.proofs.fills.text_len.Given as goal

abbrev pub invariant-loop-end : goal.invariant-loop-end
invariant-loop-end l =
    (drop l.end l.field ≡ replicate (length l.field - l.end) l.fill) × (l.end ≤ length l.field)

abbrev pub decreases-loop-end : goal.decreases-loop-end
decreases-loop-end l = l.end
