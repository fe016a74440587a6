-- Each element is made as its own type says, and has the bytes that it says.
use Rattle.std.proofs.Common.{◌*◌, drop, ap}
use Rattle.scroll_layouts.specs.Layouts.{width, laid_bytes, makes}
use Rattle.scroll_layouts.specs.lemmas.ArrayLemmas.{array-bytes-same, array-makes-same}
use Rattle.scroll_layouts.proofs.fixed.arrays.ArraySameLayout.same.Goals as goal

pub returns-clause-width : goal.returns-clause-width
returns-clause-width g c = ap (λ k. k * g.row.N) c.same.ensures.width

pub returns-clause-makes : goal.returns-clause-makes
returns-clause-makes g c = λ order s at xs h.
    array-makes-same (width g.T.FixedLayout.layout) g.T.Fixed.width g.row.N
    (λ t x. makes g.T.FixedLayout.layout order t 0 x) (λ t x. g.T.Fixed.makes order t 0 x)
    c.same.ensures.width (λ t x k. c.same.ensures.makes order t 0 x k) (drop at s) xs h

pub returns-clause-bytes : goal.returns-clause-bytes
returns-clause-bytes g c = λ order xs.
    array-bytes-same (width g.T.FixedLayout.layout) g.T.Fixed.width g.row.N
    (laid_bytes g.T.FixedLayout.layout order) (g.T.Fixed.bytes order) c.same.ensures.width
    (c.same.ensures.bytes order) xs
