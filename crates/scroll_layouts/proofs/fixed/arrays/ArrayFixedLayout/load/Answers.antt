-- Each element is made as its own type says.
use Rattle.std.proofs.Common.{drop}
use Rattle.scroll_layouts.specs.Layouts.{width, makes}
use Rattle.scroll_layouts.specs.lemmas.ArrayLemmas.{array-makes-same}
use Rattle.scroll_layouts.proofs.fixed.arrays.ArrayFixedLayout.load.Goals as goal

pub returns : goal.returns
returns g c =
    array-makes-same (width g.T.FixedLayout.layout) g.T.Fixed.width g.row.N
    (λ s x. makes g.T.FixedLayout.layout c.args.order s 0 x)
    (λ s x. g.T.Fixed.makes c.args.order s 0 x) c.same.ensures.width
    (λ s x h. c.same.ensures.makes c.args.order s 0 x h)
    (drop c.args.offset c.args.from.now) c.read_at.result c.read_at.ensures
