use Rattle.std.proofs.Math.Nat.{le_trans, mul-le-mul_left}
use Rattle.std.proofs.Common.{rules, ◌≡◌, ◌≤◌, ◌+◌, ◌*◌, ℕ, List, length, max, drop, ap, arith}
use Rattle.scroll.proofs.lemmas.ArrayLemmas.{callable-same, each-made}
use Rattle.scroll.proofs.ctx.arrays.ArrayFromCtx.from_ctx.Goals as goal

pub from_fn-requires : goal.from_fn-requires
from_fn-requires g c = (
  omega arith,
  callable-same {X = List ℕ × g.row.Ctx.Denot} (λ p. (p.0.now, p.1)) _ (λ p i y q e. search rules)
      g.row.N _ (λ p i same lt.
      let this : p.0.now ≡ c.args.this.now = ap (λ (v : List ℕ × g.row.Ctx.Denot). v.0) same in
      let ctx : p.1 ≡ c.args.ctx = ap (λ (v : List ℕ × g.row.Ctx.Denot). v.1) same in
      let room : max (g.T.SizeWith.size p.1) (g.T.FromCtx.need p.1) * g.row.N ≤ length p.0.now =
      rw (this, ctx) c.requires in
      let next : i + 1 ≤ g.row.N = omega (arith, lt) in
      le_trans (mul-le-mul_left _ next) room),
)

pub returns : goal.returns
returns g c = record {
  len = c.from_fn.ensures.items.long;
  each =
      each-made {X = List ℕ × g.row.Ctx.Denot} (λ p. (p.0.now, p.1)) _ (λ p i y q e. search rules)
      (λ s i y. g.T.FromCtx.makes s.1 (drop (g.T.SizeWith.size s.1 * i) s.0) y)
      (λ p i y q e. search rules) _ _ g.row.N c.from_fn.ensures.items;
}
