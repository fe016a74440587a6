-- The bytes so far are digits.
use Rattle.std.proofs.Common.{◌≡◌, ◌≤◌, ◌<◌, ◌-◌, ℕ, length, get_or, true}
use Rattle.std.specs.Char.{digit_value}
use Rattle.std.specs.Prelude.{nat_lt}
use Rattle.scroll_layouts.proofs.numerals.digits_len.Given as goal

abbrev pub invariant-loop-at : goal.invariant-loop-at
invariant-loop-at l =
    ((k : ℕ) → k < l.at → nat_lt (digit_value (get_or l.rest k 0)) l.base ≡ true)
    × (l.at ≤ length l.rest)

abbrev pub decreases-loop-at : goal.decreases-loop-at
decreases-loop-at l = length l.rest - l.at
