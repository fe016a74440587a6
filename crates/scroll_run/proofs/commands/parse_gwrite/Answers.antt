use Rattle.scroll_run.proofs.commands.parse_gwrite.Goals as goal

pub returns-in-None : goal.returns-in-None
returns-in-None g c =
    let none = rw c.in-None.is at c.in_ok-put.ensures in
    λ k s. none s.0 s.1
