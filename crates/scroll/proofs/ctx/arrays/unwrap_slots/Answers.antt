use Rattle.std.proofs.Common.{rules, arith, length, Some, ap}
use Rattle.std.proofs.lemmas.List.{length-map}
use Rattle.scroll.proofs.lemmas.ArrayLemmas.{IsFull-from_map, callable, filled_from}
use Rattle.scroll.proofs.ctx.arrays.unwrap_slots.Goals as goal

pub from_fn-requires : goal.from_fn-requires
from_fn-requires g c = (
  omega arith,
  callable (λ p. p.0.now.items) _ (λ p i y q e. search rules) (λ p i y q e. search rules) g.row.N _
      (λ p i b e. search rules) (IsFull-from_map _ c.requires.0 c.requires.1 g.row.N (omega arith)),
)

pub returns : goal.returns
returns g c =
    let full = IsFull-from_map _ c.requires.0 c.requires.1 g.row.N (omega arith) in
    filled_from (λ p. p.0.now.items) _ (λ p i y q e. search rules) (λ p i y q e. search rules)
    g.row.N _ _
    full (omega (arith, length-map c.requires.0 (λ x. Some x), ap length c.requires.1))
    c.from_fn.ensures.items
