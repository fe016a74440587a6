use Rattle.std.proofs.Common.{◌^◌, arith}
use Rattle.scroll_run.proofs.CommandLemmas.{one_word}
use Rattle.scroll_run.proofs.NumberLemmas.{widen}
use Rattle.scroll_run.proofs.puts.parse_sleb.Goals as goal

pub returns-in_err-parse_signed : goal.returns-in_err-parse_signed
returns-in_err-parse_signed c =
    rw c.from_residual.ensures
    (λ p s.
    let x = one_word s.1 in
    c.in_err-parse_signed.ensures s.0.value (widen (2 ^ 63) _ _ _ (omega arith) x.0))
