-- The labels that were yielded stand in the name, and the mark is left.
use Rattle.std.proofs.Common.{rules}
use Rattle.scroll_layouts.specs.ListEnds.{name_mark}
use Rattle.dns.proofs.lemmas.Walks.{mark-left}
use Rattle.dns.proofs.lemmas.NameEnds.{zero-left, pointer-high, pointer-left}
use Rattle.dns.proofs.pointer.Goals as goal

pub returns-then-labels-lt2-clause-none : goal.returns-then-labels-lt2-clause-none
returns-then-labels-lt2-clause-none c =
    let name = c.args.name.now.labels in
    zero-left _ _ _ _ (mark-left name_mark _ name.order name.bytes.now c.loop-label.yielded
    c.values_to_mark-labels.result c.loop-label.labels c.next.new.self c.below.ensures
    c.values_to_mark-labels.ensures.bytes c.values_to_mark-labels.ensures.order
    c.loop-label.yielded_by c.in_default.ensures.steps (search rules)
    c.values_to_mark-labels.ensures.list) c.if-labels-lt2.true

pub overflow_sub-result : goal.overflow_sub-result
overflow_sub-result c =
    let name = c.args.name.now.labels in
    pointer-high _ _ _ _ _ (mark-left name_mark _ name.order name.bytes.now c.loop-label.yielded
    c.values_to_mark-labels.result c.loop-label.labels c.next.new.self c.below.ensures
    c.values_to_mark-labels.ensures.bytes c.values_to_mark-labels.ensures.order
    c.loop-label.yielded_by c.in_default.ensures.steps (search rules)
    c.values_to_mark-labels.ensures.list) c.if-labels-lt2.false c.cread_with-mark.ensures

pub returns-clause-some : goal.returns-clause-some
returns-clause-some c =
    let name = c.args.name.now.labels in
    pointer-left _ _ _ _ _ (mark-left name_mark _ name.order name.bytes.now c.loop-label.yielded
    c.values_to_mark-labels.result c.loop-label.labels c.next.new.self c.below.ensures
    c.values_to_mark-labels.ensures.bytes c.values_to_mark-labels.ensures.order
    c.loop-label.yielded_by c.in_default.ensures.steps (search rules)
    c.values_to_mark-labels.ensures.list) c.if-labels-lt2.false c.cread_with-mark.ensures
