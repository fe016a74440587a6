use Rattle.std.proofs.Common.{◌≡◌, drop, refl, sym, ap, subst, ◌∙◌}
use Rattle.scroll.proofs.ctx.fixed.read_parts.Goals as goal

pub returns : goal.returns
returns g c =
    let parts = c.read_at.result in
    let same : g.R.Record.parts_of c.of_parts.result ≡ parts =
    ap g.R.Record.parts_of c.of_parts.ensures ∙ g.met.R.Record.there parts in
    subst (λ p. g.R.Parts.Fixed.makes c.args.order (drop c.args.offset c.args.from.now) 0 p)
    (sym same)
    (g.met.R.Parts.Fixed.local c.args.order c.args.from.now c.args.offset
    (drop c.args.offset c.args.from.now) 0 parts refl c.read_at.ensures)
