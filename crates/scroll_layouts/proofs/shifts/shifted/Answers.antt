-- A shift that has no room.
use Rattle.scroll_layouts.specs.lemmas.ShiftLemmas.{shift-great}
use Rattle.scroll_layouts.proofs.shifts.shifted.Goals as goal

pub returns-else-bits-lt64 : goal.returns-else-bits-lt64
returns-else-bits-lt64 c =
    shift-great c.args.number c.args.bits c.if-number-eq0.false c.if-bits-lt64.false
