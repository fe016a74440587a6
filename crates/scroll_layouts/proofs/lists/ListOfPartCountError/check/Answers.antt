-- A list keeps that its values stand one after another.
use Rattle.std.proofs.Common.{◌≡◌, length, rules, sym, subst, ◌∙◌}
use Rattle.std.proofs.Math.Logic.{∥∥₁_map}
use Rattle.scroll_layouts.specs.Lists.{CountedItems}
use Rattle.scroll_layouts.specs.lemmas.ListLemmas.{list-has}
use Rattle.scroll_layouts.proofs.lists.ListOfPartCountError.check.Goals as goal

pub returns-clause-agrees : goal.returns-clause-agrees
returns-clause-agrees g c =
    let f = g.K.Listed.item in
    let list = c.parts-known.result in
    let seen = c.parts-known.ensures in
    let same : list.1 ≡ c.args.order = c.in_ok-check_order.ensures.same in
    let counted : list.2 ≡ c.args.ctx.now.0 = search rules in
    let walks : g.K.IsList.is_list list.1 list.0.now list.2
    → CountedItems f list.1 list.0.now 0 (length list.0.now) list.2 = λ h. search rules in (
      sym seen.order ∙ same,
      (
        sym seen.count ∙ counted,
        list-has (λ l n. ∥ CountedItems f c.args.order l 0 (length l) n ∥₁) (sym seen.bytes)
            (sym counted)
            (subst (λ o. ∥ CountedItems f o list.0.now 0 (length list.0.now) list.2 ∥₁) same
            (∥∥₁_map seen.list walks)),
      ),
    )
