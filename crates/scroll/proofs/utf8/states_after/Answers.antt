use Rattle.std.proofs.Common.{◌≡◌, ℕ, ◌<◌, get_or, map, refl, ap, ◌∙◌, arith}
use Rattle.std.proofs.lemmas.List.FromFn.{get_or-map-range_with_len}
use Rattle.std.specs.List.{range_with_len}
use Rattle.scroll.specs.TextStates.{states_after}
use Rattle.scroll.specs.declared.utf8.TheConstants.{STATES_AFTER}
use Rattle.scroll.proofs.utf8.states_after.Goals as goal

-- the table has the states after each byte
table_is : STATES_AFTER ≡ map states_after (range_with_len 0 256)
table_is = refl

entry : (b : ℕ) → b < 256 → get_or STATES_AFTER b 0 ≡ states_after b
entry b h = ap (λ t. get_or t b 0) table_is
    ∙ get_or-map-range_with_len states_after 0 256 b b 0 h (omega arith)

pub returns : goal.returns
returns c = rw c.from.ensures (entry c.args.byte (omega arith))
