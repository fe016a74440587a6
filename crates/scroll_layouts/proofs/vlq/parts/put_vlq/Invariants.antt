-- The bytes from an offset on are written.
use Rattle.std.proofs.Common.{◌≡◌, ◌<◌, ◌++◌, List, ℕ, length, drop}
use Rattle.scroll_layouts.specs.Varints.{high_groups, vlq_bytes}
use Rattle.scroll_layouts.proofs.vlq.parts.put_vlq.Given as goal

abbrev pub invariant-loop-at : goal.invariant-loop-at
invariant-loop-at l =
    (tail : List ℕ)
    × (vlq_bytes l.value l.count ≡ high_groups l.left l.at ++ tail)
    × (drop l.at l.dst ≡ tail ++ drop l.count l.initial.dst) × (l.at < length l.dst)

abbrev pub decreases-loop-at : goal.decreases-loop-at
decreases-loop-at l = l.at
