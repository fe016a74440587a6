-- The values so far are appended, to a vector that has at least the room it had.
use Rattle.std.proofs.Common.{take, ◌≤◌}
use Rattle.std.specs.Prelude.{vec_capacity}
use Rattle.scroll_layouts.specs.Wholes.{AppendsEach}
use Rattle.scroll_layouts.proofs.append.append_each.Given as goal

abbrev pub invariant-loop-i : goal.invariant-loop-i
invariant-loop-i g l = record {
  appended : AppendsEach (g.L.Part.format l.ctx) l.order l.initial.target.items (take l.i l.values)
      l.target.items;
  room : vec_capacity l.initial.target ≤ vec_capacity l.target;
}
