-- Of the labels so far nothing is known but that they were yielded.
use Rattle.std.specs.Prelude.{⊤}
use Rattle.dns.proofs.pointer.Given as goal

abbrev pub invariant-loop-label : goal.invariant-loop-label
invariant-loop-label l = ⊤
