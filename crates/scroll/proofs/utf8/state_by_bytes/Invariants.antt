use Rattle.std.proofs.Common.{◌≡◌, ◌%◌, take}
use Rattle.scroll.specs.TextStates.{last_state}
use Rattle.scroll.proofs.utf8.state_by_bytes.Given as goal

abbrev pub invariant-loop-i : goal.invariant-loop-i
invariant-loop-i l = l.word % 64 ≡ last_state l.start (take l.i l.bytes)
