use Rattle.std.proofs.Common.{◌^◌, arith}
use Rattle.scroll_run.proofs.NumberLemmas.{widen}
use Rattle.scroll_run.proofs.puts.parse_value.Goals as goal

pub returns-in_err-parse_signed-in-I8 : goal.returns-in_err-parse_signed-in-I8
returns-in_err-parse_signed-in-I8 c =
    rw c.in-I8.is (rw c.from_residual-in_err-parse_signed-in-I8.ensures
    (λ y s. c.in_err-parse_signed-in-I8.ensures s.0 (widen (2 ^ 7) _ _ _ (omega arith) s.1)))

pub returns-in_err-parse_signed-in-I16 : goal.returns-in_err-parse_signed-in-I16
returns-in_err-parse_signed-in-I16 c =
    rw c.in-I16.is (rw c.from_residual-in_err-parse_signed-in-I16.ensures
    (λ y s. c.in_err-parse_signed-in-I16.ensures s.0 (widen (2 ^ 15) _ _ _ (omega arith) s.1)))

pub returns-in_err-parse_signed-in-I32 : goal.returns-in_err-parse_signed-in-I32
returns-in_err-parse_signed-in-I32 c =
    rw c.in-I32.is (rw c.from_residual-in_err-parse_signed-in-I32.ensures
    (λ y s. c.in_err-parse_signed-in-I32.ensures s.0 (widen (2 ^ 31) _ _ _ (omega arith) s.1)))

pub returns-in_err-parse_signed-in-I64 : goal.returns-in_err-parse_signed-in-I64
returns-in_err-parse_signed-in-I64 c =
    rw c.in-I64.is (rw c.from_residual-in_err-parse_signed-in-I64.ensures
    (λ y s. c.in_err-parse_signed-in-I64.ensures s.0 (widen (2 ^ 63) _ _ _ (omega arith) s.1)))

pub returns-in_err-parse_signed-in-I128 : goal.returns-in_err-parse_signed-in-I128
returns-in_err-parse_signed-in-I128 c =
    rw c.in-I128.is (rw c.from_residual-in_err-parse_signed-in-I128.ensures
    (λ y s. c.in_err-parse_signed-in-I128.ensures s.0 s.1))
