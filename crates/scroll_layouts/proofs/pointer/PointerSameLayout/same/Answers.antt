-- An offset is its number, wherever its bytes stand.
use Rattle.std.proofs.Common.{drop, refl}
use Rattle.scroll_layouts.proofs.pointer.PointerSameLayout.same.Goals as goal

pub returns-clause-makes : goal.returns-clause-makes
returns-clause-makes g c = λ order s at x h.
    c.same.ensures.makes order s at x.offset
    (g.met.O.Fixed.local order (drop at s) 0 s at x.offset refl h)
