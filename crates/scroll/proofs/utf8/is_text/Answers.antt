use Rattle.std.proofs.Common.{◌≡◌, ◌+◌, ◌*◌, ◌<◌, ◌/◌, ◌∙◌, length, take, refl, ap, sym, arith}
use Rattle.scroll.specs.TextStates.{last_state}
use Rattle.scroll.proofs.lemmas.TextStateLemmas.{block_more, blocks_end}
use Rattle.scroll.proofs.lemmas.TextLetterLemmas.{wrong_front, judged}
use Rattle.scroll.proofs.utf8.is_text.Goals as goal

pub loop-k-preserved : goal.loop-k-preserved
loop-k-preserved c =
    let s = c.args.bytes.now in
    let inside : c.loop-k.k < length s / 32 =
    omega (arith, c.loop-k-test.true, c.as_chunks.ensures.front_len) in
    let more =
    block_more 32 c.loop-k.k 0 c.loop-k.state s _ _ _ c.as_chunks.ensures.front inside refl
    c.loop-k.invariant.0 in
    (c.state_by_block-state.ensures.state ∙ more, c.state_by_block-state.ensures.small)

pub returns-then-state-eq-WRONG : goal.returns-then-state-eq-WRONG
returns-then-state-eq-WRONG c =
    let s = c.args.bytes.now in
    let inside : c.loop-k.k < length s / 32 =
    omega (arith, c.loop-k-test.true, c.as_chunks.ensures.front_len) in
    let more =
    block_more 32 c.loop-k.k 0 c.loop-k.state s _ _ _ c.as_chunks.ensures.front inside refl
    c.loop-k.invariant.0 in
    wrong_front s ((c.loop-k.k + 1) * 32)
    (sym more ∙ (sym c.state_by_block-state.ensures.state ∙ c.if-state-eq-WRONG.true))

pub returns : goal.returns
returns c =
    let s = c.args.bytes.now in
    let end : c.loop-k.k ≡ length s / 32 =
    omega (arith, c.loop-k-test.false, c.loop-k.auto.k-end, c.as_chunks.ensures.front_len) in
    let state : c.loop-k.state ≡ last_state 0 (take (length s / 32 * 32) s) =
    c.loop-k.invariant.0 ∙ ap (λ k. last_state 0 (take (k * 32) s)) end in
    judged s c.state_by_bytes.result
    (c.state_by_bytes.ensures.state
    ∙ blocks_end (length s / 32 * 32) 0 c.loop-k.state s _ state c.as_chunks.ensures.back)
