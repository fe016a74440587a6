-- A list keeps that its values stand one after another, up to its last one.
use Rattle.std.proofs.Common.{length, rules, subst, sym}
use Rattle.std.proofs.Math.Logic.{∥∥₁_map}
use Rattle.scroll_layouts.specs.Closed.{ClosedItems, CountedClosed}
use Rattle.scroll_layouts.specs.Lists.{SomeItems}
use Rattle.scroll_layouts.specs.lemmas.ClosedLemmas.{closed-some, counted-closed}
use Rattle.scroll_layouts.proofs.items.Items.values_to_last.Goals as goal

pub returns-clause-list : goal.returns-clause-list
returns-clause-list g c =
    let f = g.K.Listed.item in
    let list = c.args.self.now in
    let walks : g.K.IsList.is_list list.order list.bytes.now list.count
    → CountedClosed f g.K.Closed.closes list.order list.bytes.now (length list.bytes.now)
    list.count = λ h. search rules in
    subst (λ order. ∥ SomeItems f order c.of.result.bytes.now 0 (length c.of.result.bytes.now) ∥₁)
    (sym c.of.ensures.order)
    (subst (λ s. ∥ SomeItems f list.order s 0 (length s) ∥₁) (sym c.of.ensures.bytes)
    (∥∥₁_map list.walked (λ h. closed-some (walks h))))

pub returns-clause-closed : goal.returns-clause-closed
returns-clause-closed g c =
    let f = g.K.Listed.item in
    let closes = g.K.Closed.closes in
    let list = c.args.self.now in
    let walks : g.K.IsList.is_list list.order list.bytes.now list.count
    → CountedClosed f closes list.order list.bytes.now (length list.bytes.now) list.count =
    λ h. search rules in
    subst (λ order. ∥ ClosedItems f closes order c.of.result.bytes.now
    (length c.of.result.bytes.now) ∥₁) (sym c.of.ensures.order)
    (subst (λ s. ∥ ClosedItems f closes list.order s (length s) ∥₁) (sym c.of.ensures.bytes)
    (∥∥₁_map list.walked (λ h. counted-closed (walks h))))
