-- The bytes so far are blanks.
use Rattle.std.proofs.Common.{◌≡◌, ◌≤◌, ◌<◌, ◌-◌, ◌==◌, ℕ, length, get_or, true}
use Rattle.scroll_layouts.proofs.numerals.blanks.Given as goal

abbrev pub invariant-loop-at : goal.invariant-loop-at
invariant-loop-at l =
    ((k : ℕ) → k < l.at → (get_or l.field k 0 == 32) ≡ true) × (l.at ≤ length l.field)

abbrev pub decreases-loop-at : goal.decreases-loop-at
decreases-loop-at l = length l.field - l.at
