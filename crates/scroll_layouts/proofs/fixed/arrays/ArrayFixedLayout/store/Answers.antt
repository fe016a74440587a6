-- The elements have the bytes that their own type says.
use Rattle.std.proofs.Common.{◌*◌, ◌++◌, drop, ap, sym, ◌∙◌}
use Rattle.std.specs.List.{flat_map}
use Rattle.scroll.specs.Fixed.{exactly}
use Rattle.scroll_layouts.specs.Layouts.{width, laid_bytes}
use Rattle.scroll_layouts.specs.lemmas.ArrayLemmas.{array-bytes-same}
use Rattle.scroll_layouts.proofs.fixed.arrays.ArrayFixedLayout.store.Goals as goal

pub returns : goal.returns
returns g c =
    let w = width g.T.FixedLayout.layout in
    let old = c.args.dst.now in
    let all = exactly (w * g.row.N)
    (flat_map (laid_bytes g.T.FixedLayout.layout c.args.order) c.args.self.now) in
    let same =
    array-bytes-same w g.T.Fixed.width g.row.N (laid_bytes g.T.FixedLayout.layout c.args.order)
    (g.T.Fixed.bytes c.args.order) c.same.ensures.width (c.same.ensures.bytes c.args.order)
    c.args.self.now in
    c.write_prefix.ensures ∙ ap (λ l. l ++ drop (g.T.Fixed.width * g.row.N) old) (sym same)
    ∙ ap (λ k. all ++ drop (k * g.row.N) old) (sym c.same.ensures.width)
