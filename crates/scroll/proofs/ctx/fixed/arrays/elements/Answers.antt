use Rattle.std.proofs.Common.{rules, ◌*◌, ℕ, List, drop}
use Rattle.scroll.proofs.lemmas.ArrayLemmas.{each-made}
use Rattle.scroll.specs.declared.endian.Endian.{Endian}
use Rattle.scroll.proofs.ctx.fixed.arrays.elements.Goals as goal

pub returns : goal.returns
returns g c = record {
  len = c.from_fn.ensures.items.long;
  each = each-made {X = List ℕ × Endian} (λ p. (p.0.now, p.1.now)) _ (λ p i y q e. search rules)
      (λ s i y. g.T.Fixed.makes s.1 (drop (g.T.Fixed.width * i) s.0) 0 y)
      (λ p i y q e. search rules) _ _ g.row.N c.from_fn.ensures.items;
}
