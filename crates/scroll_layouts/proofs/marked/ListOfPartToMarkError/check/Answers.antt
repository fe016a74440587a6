-- A list keeps that its values stand before its mark.
use Rattle.std.proofs.Common.{◌≡◌, length, rules, sym, subst, ◌∙◌}
use Rattle.std.proofs.Math.Logic.{∥∥₁_map}
use Rattle.scroll_layouts.specs.Marks.{CountedMarked}
use Rattle.scroll_layouts.specs.lemmas.ListLemmas.{list-has}
use Rattle.scroll_layouts.proofs.marked.ListOfPartToMarkError.check.Goals as goal

pub returns-clause-agrees : goal.returns-clause-agrees
returns-clause-agrees g c =
    let f = g.K.Listed.item in
    let mark = g.K.End.EndMark.mark in
    let list = c.parts-known.result in
    let seen = c.parts-known.ensures in
    let same : list.1 ≡ c.args.order = c.in_ok-check_order.ensures.same in
    let stands : g.K.IsList.is_list list.1 list.0.now list.2
    → CountedMarked mark f list.1 list.0.now (length list.0.now) list.2 = λ h. search rules in (
      sym seen.order ∙ same,
      list-has (λ l n. ∥ CountedMarked mark f c.args.order l (length l) n ∥₁) (sym seen.bytes)
          (sym seen.count)
          (subst (λ o. ∥ CountedMarked mark f o list.0.now (length list.0.now) list.2 ∥₁) same
          (∥∥₁_map seen.list stands)),
    )
