use Rattle.std.proofs.Common.{◌≡◌, ℕ, List, ◌++◌}
use Rattle.std.specs.Io.KnownBytes.{Appends}
use Rattle.scroll_run.proofs.output.write_all.Given as goal

abbrev pub invariant-loop : goal.invariant-loop
invariant-loop g l = record {
  done : List ℕ;
  whole : l.bytes ≡ done ++ l.rest;
  appended : Appends (g.W.Write.contents l.initial.output) (g.W.Write.contents l.output) done;
}
