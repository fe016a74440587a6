-- A list keeps that its values stand one after another.
use Rattle.std.proofs.Common.{length, rules, subst, sym}
use Rattle.std.proofs.Math.Logic.{∥∥₁_map}
use Rattle.scroll_layouts.specs.Lists.{SomeItems, CountedItems}
use Rattle.scroll_layouts.specs.lemmas.ListLemmas.{counted-some}
use Rattle.scroll_layouts.proofs.items.Items.values.Goals as goal

pub returns-clause-list : goal.returns-clause-list
returns-clause-list g c =
    let list = c.args.self.now in
    let walks : g.K.IsList.is_list list.order list.bytes.now list.count
    → CountedItems g.K.Listed.item list.order list.bytes.now 0
    (length list.bytes.now) list.count = λ h. search rules in
    let f = g.K.Listed.item in
    subst (λ order. ∥ SomeItems f order c.of.result.bytes.now 0 (length c.of.result.bytes.now) ∥₁)
    (sym c.of.ensures.order)
    (subst (λ s. ∥ SomeItems f list.order s 0 (length s) ∥₁) (sym c.of.ensures.bytes)
    (∥∥₁_map list.walked (λ h. counted-some (walks h))))
