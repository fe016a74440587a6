-- What ends in the bytes of a length ends in the source.
use Rattle.std.proofs.Common.{◌≡◌, ◌+◌, ◌-◌, take, drop, subst, arith, rules}
use Rattle.scroll_layouts.specs.Formats.{EndsAt}
use Rattle.scroll_layouts.specs.lemmas.EndLemmas.{within-ends}
use Rattle.scroll_layouts.specs.lemmas.WholeLemmas.{bytes-below}
use Rattle.scroll_layouts.proofs.within.AnyReadPartWithin.end_at.Goals as goal

pub returns-clause-ends : goal.returns-clause-ends
returns-clause-ends g c =
    let f = g.A.ReadPart.format c.args.ctx.now.1 in
    let s = c.args.from.now in
    let n = c.args.ctx.now.0 in
    let width : (c.args.offset + n) - c.args.offset ≡ n = omega arith in
    within-ends g.E.From.from_gives n f c.args.order s c.args.offset (c.args.offset + n)
    c.in_ok-end.end (bytes-below s c.type_inv.from) (search rules) (omega arith)
    (search rules)
    (subst (λ k. EndsAt f c.args.order (take k (drop c.args.offset s)) 0 c.in_ok-end.end)
    width c.in_ok-end.ensures.ends)
