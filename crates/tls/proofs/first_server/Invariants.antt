-- The extensions so far have no name.
use Rattle.std.specs.List.{All}
use Rattle.tls.specs.Hello.{HasNoServer}
use Rattle.tls.proofs.first_server.Given as goal

abbrev pub invariant-loop-extension : goal.invariant-loop-extension
invariant-loop-extension l = All HasNoServer l.yielded
