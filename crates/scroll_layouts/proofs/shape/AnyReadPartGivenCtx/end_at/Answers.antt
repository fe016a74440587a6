-- All parts are those of a value.
use Rattle.std.proofs.Common.{subst}
use Rattle.std.specs.Prelude.{IfSome, IfNone}
use Rattle.scroll_layouts.specs.Formats.{EndsAt, RefusedAt}
use Rattle.scroll_layouts.specs.lemmas.EndLemmas.{some-map, none-map, shape-ends}
use Rattle.scroll_layouts.specs.lemmas.EqualLemmas.{parts-unique}
use Rattle.scroll_layouts.proofs.shape.AnyReadPartGivenCtx.end_at.Goals as goal

pub returns-clause-ends : goal.returns-clause-ends
returns-clause-ends g c =
    let s = g.S.Shape in
    let f = g.S.Parts.ReadPart.format (s.inner_of c.args.ctx.now.0) in
    some-map c.end_at.result
    (shape-ends f s.parts_of s.of_parts (parts-unique s.parts_of s.of_parts s.again) s.there
    c.args.order c.args.from.now c.args.offset)
    (subst (λ inner. IfSome c.end_at.result
    (EndsAt (g.S.Parts.ReadPart.format inner) c.args.order c.args.from.now c.args.offset))
    c.inner.ensures c.end_at.ensures.ends)

pub returns-clause-none : goal.returns-clause-none
returns-clause-none g c =
    none-map c.end_at.result (λ h. record { error = h.error; refused = h.refused })
    (subst (λ inner. IfNone c.end_at.result
    (RefusedAt (g.S.Parts.ReadPart.format inner) c.args.order c.args.from.now c.args.offset))
    c.inner.ensures c.end_at.ensures.none)
