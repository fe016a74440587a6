-- Lemmas for callers: what is known of each read of a list of reads.
use Rattle.std.proofs.Common.{ℕ, ◌+◌, List, [], ◌∷◌}
use Rattle.scroll.specs.Reads.{ReadsAll}

-- what follows from each read holds of the list
pub ReadsAll-weaker : {V : Type 0} (strong weak : List ℕ → V → ℕ → Type 0) (buffer : List ℕ)
    (from : ℕ) (vs : List V) (to : ℕ) → ((s : List ℕ) (v : V) (n : ℕ) → strong s v n → weak s v n)
    → ReadsAll strong buffer from vs to → ReadsAll weak buffer from vs to
ReadsAll-weaker strong weak buffer from [] to follows h = h
ReadsAll-weaker strong weak buffer from (v ∷ vs) to follows (n, read, later) = (
  n,
  record { inside = read.inside; value = follows _ v n read.value },
  ReadsAll-weaker strong weak buffer (from + n) vs to follows later,
)
