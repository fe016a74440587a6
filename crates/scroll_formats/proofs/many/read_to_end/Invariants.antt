-- The values so far follow one another.
use Rattle.std.proofs.Common.{◌-◌, length}
use Rattle.scroll.specs.Reads.{ReadsAll}
use Rattle.scroll_formats.specs.Many.{WithBytes}
use Rattle.scroll_formats.proofs.many.read_to_end.Given as goal

abbrev pub invariant-loop-end : goal.invariant-loop-end
invariant-loop-end g l =
    ReadsAll (WithBytes (g.T.TryFromCtx.reads l.ctx)) l.from l.offset l.values.items l.end

abbrev pub decreases-loop-end : goal.decreases-loop-end
decreases-loop-end g l = length l.from - l.end
