use Rattle.std.proofs.Common.{◌≡◌, ◌*◌, ◌<◌, take}
use Rattle.scroll.specs.TextStates.{last_state}
use Rattle.scroll.proofs.utf8.is_text.Given as goal

abbrev pub invariant-loop-k : goal.invariant-loop-k
invariant-loop-k l = (l.state ≡ last_state 0 (take (l.k * 32) l.bytes)) × (l.state < 64)
