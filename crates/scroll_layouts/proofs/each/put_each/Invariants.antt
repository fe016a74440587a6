-- The values so far are written, and the offset is after them.
use Rattle.std.proofs.Common.{take}
use Rattle.std.specs.List.{flat_map}
use Rattle.scroll.proofs.lemmas.callers.Cursors.{Begins}
use Rattle.scroll_layouts.specs.Formats.{bytes}
use Rattle.scroll_layouts.proofs.each.put_each.Given as goal

abbrev pub invariant-loop-i : goal.invariant-loop-i
invariant-loop-i g l =
    Begins l.offset (flat_map (bytes (g.L.Part.format l.ctx) l.order) (take l.i l.values))
    l.initial.dst l.dst
