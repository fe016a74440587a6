use Rattle.std.proofs.Common.{[]}
use Rattle.scroll.proofs.lemmas.HistoryLemmas.{plain-run}
use Rattle.scroll.proofs.laws.histories.run_refuses_plainly.Goals as goal

pub returns : goal.returns
returns c first from to commands answers history run =
    plain-run first [] from commands answers history to run
