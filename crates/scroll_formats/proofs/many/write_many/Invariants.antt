-- The values so far are written, and the cursor is after them.
use Rattle.std.proofs.Common.{take}
use Rattle.scroll.specs.Arrays.{WritesAll}
use Rattle.scroll_formats.proofs.many.write_many.Given as goal

abbrev pub invariant-loop-i : goal.invariant-loop-i
invariant-loop-i g l =
    WritesAll (g.T.TryIntoCtx.writes l.ctx) l.initial.dst l.initial.offset (take l.i l.values) l.dst
    l.offset
