-- The size of the values so far.
use Rattle.std.proofs.Common.{◌≡◌, ◌-◌, ◌^◌, length, take, min}
use Rattle.std.specs.List.{flat_map}
use Rattle.scroll_layouts.specs.Formats.{bytes}
use Rattle.scroll_layouts.proofs.each.size_each.Given as goal

abbrev pub invariant-loop-i : goal.invariant-loop-i
invariant-loop-i g l =
    l.size ≡ min (length (flat_map (bytes (g.L.Part.format l.ctx) l.order) (take l.i l.values)))
    (2 ^ 64 - 1)
