use Rattle.scroll_run.proofs.kinds.parse_kind_of.Goals as goal

pub returns-in_err-parse_end-in-Str-default : goal.returns-in_err-parse_end-in-Str-default
returns-in_err-parse_end-in-Str-default c =
    rw c.in-Str-default.is-0 (rw c.from_residual-in_err-parse_end-in-Str-default.ensures
    (λ what s. c.in_err-parse_end-in-Str-default.ensures s.0 s.1))

pub returns-in_err-parse_end-in-Strx2-default : goal.returns-in_err-parse_end-in-Strx2-default
returns-in_err-parse_end-in-Strx2-default c =
    rw c.in-Strx2-default.is-0 (rw c.from_residual-in_err-parse_end-in-Strx2-default.ensures
    (λ what s. c.in_err-parse_end-in-Strx2-default.ensures s.0 s.1))
