use Rattle.std.proofs.Common.{◌*◌, drop, refl, ap, subst, arith}
use Rattle.std.proofs.lemmas.Grind.{common_steps}
use Rattle.scroll.proofs.ctx.fixed.arrays.element.Goals as goal

pub returns : goal.returns
returns g c =
    let order = c.args.order in
    let from = c.args.from.now in
    let offset = g.T.Fixed.width * c.args.index in
    let read =
    subst (λ o. g.T.Fixed.makes order from o c.read_at.result)
    (ap (λ w. w * c.args.index) c.width.ensures) c.read_at.ensures in
    g.met.T.Fixed.local order from offset (drop offset from) 0 c.read_at.result refl read

pub overflow_mul-width : goal.overflow_mul-width
overflow_mul-width g c = grind (arith, common_steps)

pub read_at-requires : goal.read_at-requires
read_at-requires g c = grind (arith, common_steps)
