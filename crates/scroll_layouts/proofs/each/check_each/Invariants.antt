-- The values so far agree.
use Rattle.std.proofs.Common.{take}
use Rattle.std.specs.List.{All}
use Rattle.scroll_layouts.specs.Formats.{agrees}
use Rattle.scroll_layouts.proofs.each.check_each.Given as goal

abbrev pub invariant-loop-i : goal.invariant-loop-i
invariant-loop-i g l = All (agrees (g.L.Part.format l.ctx) l.order) (take l.i l.values)
