-- The number of the digits so far.
use Rattle.std.proofs.Common.{◌≡◌, ◌≤◌, ◌-◌, length, take}
use Rattle.std.specs.Str.Parse.{digits_value}
use Rattle.scroll_layouts.proofs.numerals.value_of.Given as goal

abbrev pub invariant-loop-at : goal.invariant-loop-at
invariant-loop-at l =
    (l.value ≡ digits_value l.base (take l.at l.digits)) × (l.at ≤ length l.digits)

abbrev pub decreases-loop-at : goal.decreases-loop-at
decreases-loop-at l = length l.digits - l.at
