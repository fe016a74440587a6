-- A list keeps that its values stand before its mark.
use Rattle.std.proofs.Common.{length, rules}
use Rattle.std.proofs.Math.Logic.{∥∥₁_map}
use Rattle.scroll_layouts.specs.Marks.{CountedMarked}
use Rattle.scroll_layouts.specs.lemmas.MarkLemmas.{counted-marked}
use Rattle.scroll_layouts.proofs.items.Items.values_to_mark.Goals as goal

pub returns-clause-list : goal.returns-clause-list
returns-clause-list g c =
    let list = c.args.self.now in
    let stands : g.K.IsList.is_list list.order list.bytes.now list.count
    → CountedMarked g.K.End.EndMark.mark g.K.Listed.item list.order list.bytes.now
    (length list.bytes.now) list.count = λ h. search rules in
    ∥∥₁_map list.walked (λ h. counted-marked (stands h))
