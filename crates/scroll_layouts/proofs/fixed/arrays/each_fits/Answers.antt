-- One more value fits.
use Rattle.std.proofs.Common.{◌≡◌, arith, rules, subst}
use Rattle.std.specs.Prelude.{slice_index_or}
use Rattle.scroll_layouts.specs.Layouts.{fits}
use Rattle.scroll_layouts.specs.lemmas.ArrayLemmas.{each-next}
use Rattle.scroll_layouts.proofs.fixed.arrays.each_fits.Goals as goal

pub loop-i-preserved : goal.loop-i-preserved
loop-i-preserved g c =
    let p = fits g.T.FixedLayout.layout in
    let xs = c.args.values.now in
    let d = c.index-values-i.result in
    let same : d ≡ slice_index_or xs c.loop-i.i d = search rules in (
      each-next p xs c.loop-i.i d (omega arith) c.loop-i.invariant.0 (subst p same c.fit.ensures),
      omega arith,
    )
