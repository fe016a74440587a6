-- The bytes so far go on, and have the number.
use Rattle.std.proofs.Common.{◌≡◌, ◌≤◌, ◌<◌, ◌-◌, ℕ, length, take, get_or, false}
use Rattle.std.specs.Prelude.{nat_lt}
use Rattle.scroll_layouts.specs.Varints.{groups_number}
use Rattle.scroll_layouts.proofs.vlq.parts.read_vlq.Given as goal

abbrev pub invariant-loop-count : goal.invariant-loop-count
invariant-loop-count l =
    (l.value ≡ groups_number (take l.count l.from))
    × ((k : ℕ) → k < l.count → nat_lt (get_or l.from k 0) 128 ≡ false)
    × (l.count ≤ length l.from) × (l.count ≤ 10)

abbrev pub decreases-loop-count : goal.decreases-loop-count
decreases-loop-count l = 10 - l.count
