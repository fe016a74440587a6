use Rattle.scroll_run.proofs.commands.parse_gread.Goals as goal

pub returns-in_err-parse_kind : goal.returns-in_err-parse_kind
returns-in_err-parse_kind c =
    rw c.from_residual.ensures (λ k s. c.in_err-parse_kind.ensures s.0 s.1)
