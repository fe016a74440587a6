use Rattle.scroll_run.proofs.CommandLemmas.{one_word}
use Rattle.scroll_run.proofs.puts.parse_slice.Goals as goal

pub returns-in-None : goal.returns-in-None
returns-in-None g c =
    let none = rw c.in-None.is at c.in_ok-bytes.ensures in
    λ p s. none s.0.now (one_word s.1)
