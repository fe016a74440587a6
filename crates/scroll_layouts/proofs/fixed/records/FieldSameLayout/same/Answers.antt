-- The fields of a struct are its parts, wherever its bytes stand.
use Rattle.std.proofs.Common.{drop, refl}
use Rattle.scroll_layouts.proofs.fixed.records.FieldSameLayout.same.Goals as goal

pub returns-clause-makes : goal.returns-clause-makes
returns-clause-makes g c = λ order s at x h.
    let parts = g.R.Record.parts_of x.0 in
    c.same.ensures.makes order s at parts
    (g.met.R.Parts.Fixed.local order (drop at s) 0 s at parts refl
    (g.met.R.Record.parts_of_fields order (drop at s) x.0 h))
