use Rattle.scroll.proofs.lemmas.StepLemmas.{read-appends, write-appends}
use Rattle.scroll.proofs.runner.step.Goals as goal

pub returns-in-Read-clause-answered : goal.returns-in-Read-clause-answered
returns-in-Read-clause-answered c =
    rw c.in-Read.is (read-appends _ _ _ _ _ _ _ _ c.read.ensures.answered)

pub returns-in-Write-clause-answered : goal.returns-in-Write-clause-answered
returns-in-Write-clause-answered c =
    rw c.in-Write.is (write-appends _ _ _ _ _ _ _ _ c.write.ensures.wrote)
