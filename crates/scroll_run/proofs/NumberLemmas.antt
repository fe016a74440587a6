-- Lemmas on numbers that words spell.
use Rattle.std.proofs.Common.{◌≤◌, ℕ, ℤ, List, arith}
use Rattle.std.proofs.lemmas.Grind.{common_steps}
use Rattle.scroll_run.specs.Words.{SpellsSigned}

-- a number of a range is one of each wider range
pub widen : (half most : ℕ) (word : List ℕ) (x : ℤ) → half ≤ most → SpellsSigned half word x
    → SpellsSigned most word x
widen half most word x le s = grind (arith, common_steps)
