use Rattle.std.proofs.Common.{◌≡◌, ℕ, ◌+◌, ◌<◌, ◌≤◌, get_or, length}
use Rattle.scroll.specs.Leb128.{groups_value}
use Rattle.scroll.proofs.leb128.by_loads.short_groups.Given as goal

abbrev pub invariant-loop-i : goal.invariant-loop-i
invariant-loop-i l = record {
  same : l.src.bytes ≡ l.initial.src.bytes;
  counted : l.src.made ≡ l.initial.src.made + l.i;
  within : l.i ≤ length l.src.bytes;
  open_so_far : (k : ℕ) → k < l.i → 128 ≤ get_or l.src.bytes k 0;
  value : l.groups ≡ groups_value l.src.bytes l.i;
}
