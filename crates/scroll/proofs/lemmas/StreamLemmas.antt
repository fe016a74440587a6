-- What is taken from a stream whose bytes are known is its first bytes.
use Rattle.std.proofs.Common.{◌≡◌, ℕ, List, None, Some, IfSome, length, take, drop, sym, ap, ◌∙◌}
use Rattle.std.proofs.lemmas.List.{take_at, drop_at}
use Rattle.std.specs.Prelude.{Option}
use Rattle.std.specs.Io.KnownBytes.{Consumes}

pub taken-first : (old new : Option (List ℕ)) (bytes : List ℕ) (size : ℕ) → length bytes ≡ size
    → Consumes old new bytes → IfSome old (λ s. bytes ≡ take size s)
taken-first None new bytes size count taken = tt
taken-first (Some s) None bytes size count taken = absurd taken
taken-first (Some s) (Some t) bytes size count taken =
    sym (ap (take size) taken ∙ take_at bytes t size count)

pub taken-rest : (old new : Option (List ℕ)) (bytes : List ℕ) (size : ℕ) → length bytes ≡ size
    → Consumes old new bytes → IfSome old (λ s. IfSome new (λ t. t ≡ drop size s))
taken-rest None new bytes size count taken = tt
taken-rest (Some s) None bytes size count taken = absurd taken
taken-rest (Some s) (Some t) bytes size count taken =
    sym (ap (drop size) taken ∙ drop_at bytes t size count)

pub ruleset taken = (taken-first, taken-rest)
