use Rattle.std.proofs.Common.{rules, tests, ap, ◌==◌, ◌++◌, ◌∙◌, arith}
use Rattle.std.proofs.lemmas.Iterator.Consumers.{YieldsList-end, YieldsList-turn}
use Rattle.std.proofs.lemmas.Iterator.Splits.{YieldsList-from_slice_split}
use Rattle.std.proofs.lemmas.List.{map-append}
use Rattle.std.proofs.lemmas.Result.{err_from_is_err_and}
use Rattle.std.specs.Slice.Iter.{split_rest, split_done, split_callee}
use Rattle.scroll_run.specs.Words.{texts_of}
use Rattle.scroll_run.proofs.words.push_parts.Goals as goal

pub returns-clause-parts : goal.returns-clause-parts
returns-clause-parts c =
    let start = c.into_iter-part-iterator.ensures.into_iter_gives in
    let split = c.split-part-items.ensures in
    let end = YieldsList-end
    (YieldsList-from_slice_split _ (λ b. b == c.args.separator) c.args.text.now
    (ap split_rest start ∙ split.rest) (ap split_done start ∙ split.done)
    (ap split_callee start ∙ split.closure) (λ x r q k. search (rules, tests)))
    c.loop-part.yielded _ c.loop-part.yielded_by _ _ c.in-None.is c.next.ensures.steps in
    ap texts_of c.loop-part.invariant.items
    ∙ map-append (λ part. part.now) c.args.parts.now.items c.loop-part.yielded
    ∙ ap (λ texts. texts_of c.args.parts.now.items ++ texts) end.0

pub returns-in_err-push-clause-full : goal.returns-in_err-push-clause-full
returns-in_err-push-clause-full c =
    let start = c.into_iter-part-iterator.ensures.into_iter_gives in
    let split = c.split-part-items.ensures in
    let turn = YieldsList-turn
    (YieldsList-from_slice_split _ (λ b. b == c.args.separator) c.args.text.now
    (ap split_rest start ∙ split.rest) (ap split_done start ∙ split.done)
    (ap split_callee start ∙ split.closure) (λ x r q k. search (rules, tests)))
    c.loop-part.yielded _ c.loop-part.yielded_by _ _ _ c.in-Some.is c.next.ensures.steps in
    let full = c.in_err-push.ensures.full in
    let len = c.loop-part.invariant.len in
    let capacity = c.loop-part.invariant.capacity in
    let p = err_from_is_err_and c.from_residual.result c.from_residual.ensures.1 in
    rw p.1 (omega (arith, turn.0))
