-- The values so far follow one another, and the cursor is after them.
use Rattle.std.proofs.Common.{◌≡◌, length}
use Rattle.scroll.specs.Reads.{ReadsAll}
use Rattle.scroll_formats.proofs.many.read_many.Given as goal

abbrev pub invariant-loop-i : goal.invariant-loop-i
invariant-loop-i g l =
    ReadsAll (g.T.TryFromCtx.reads l.ctx) l.from l.initial.offset l.values.items l.offset
    × (length l.values.items ≡ l._i)
