use Rattle.std.proofs.Common.{◌≡◌, ℕ, ◌+◌, ◌/◌, ◌%◌, ◌^◌, ◌<◌, List, [], ◌∷◌, get_or, take, length, bit_and, ap, sym, ◌∙◌}
use Rattle.std.proofs.lemmas.List.{take_more}
use Rattle.std.proofs.lemmas.Nat.{and_mask}
use Rattle.scroll.specs.TextStates.{states_after, last_state}
use Rattle.scroll.proofs.lemmas.TextStateLemmas.{last_state-append}
use Rattle.scroll.proofs.utf8.state_by_bytes.Goals as goal

-- a step of the loop
step : (s word i v : ℕ) (bs : List ℕ) → word % 64 ≡ last_state s (take i bs) → i < length bs
    → v ≡ states_after (get_or bs i 0)
    → v / 2 ^ (bit_and word 63) % 64 ≡ last_state s (take (i + 1) bs)
step s word i v bs e h is =
    rw (is, and_mask word 6, e)
    (sym (ap (last_state s) (take_more bs i 0 h)
    ∙ last_state-append s (take i bs) (get_or bs i 0 ∷ [])))

pub loop-i-preserved : goal.loop-i-preserved
loop-i-preserved c =
    step c.args.start c.loop-i.word c.loop-i.i c.states_after.result c.args.bytes.now
    c.loop-i.invariant c.loop-i-test.true c.states_after.ensures
