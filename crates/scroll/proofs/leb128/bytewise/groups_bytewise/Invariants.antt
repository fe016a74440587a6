use Rattle.std.proofs.Common.{◌≡◌, ℕ, ◌<◌, ◌≤◌, get_or, length}
use Rattle.scroll.specs.Leb128.{groups_value}
use Rattle.scroll.proofs.leb128.bytewise.groups_bytewise.Given as goal

abbrev pub invariant-loop-i : goal.invariant-loop-i
invariant-loop-i l = record {
  within : l.i ≤ length l.src;
  open_so_far : (k : ℕ) → k < l.i → 128 ≤ get_or l.src k 0;
  value : l.groups ≡ groups_value l.src l.i;
}
