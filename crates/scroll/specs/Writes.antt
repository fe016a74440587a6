-- Writes at an offset. In a context and at a value, a type has two relations: `writes` says which
-- target and size a write may leave, and `refuses` which target and error. Here they speak of the
-- rest of a target at an offset.
use Rattle.std.specs.Prelude.{◌≡◌, ◌≤◌, ◌<◌, ℕ, List, length, take, drop, ◌⊎◌, Result, MatchResult}

-- `offset` is at most the length of `old`, the bytes before it and the length are unchanged, and
-- `writes` holds of the rests of `old` and `new` there and of the size `n`
pub record WritesAt (writes : List ℕ → List ℕ → ℕ → Type 0) (old : List ℕ) (offset : ℕ)
    (new : List ℕ) (n : ℕ) : Type 0 where
  pub inside : offset ≤ length old
  pub before : take offset new ≡ take offset old
  pub after : writes (drop offset old) (drop offset new) n
  pub len : length new ≡ length old

-- the same with `refuses` and the error `e`
pub record FailsAt {E : Type 0} (refuses : List ℕ → List ℕ → E → Type 0) (old : List ℕ) (offset : ℕ)
    (new : List ℕ) (e : E) : Type 0 where
  pub inside : offset ≤ length old
  pub before : take offset new ≡ take offset old
  pub after : refuses (drop offset old) (drop offset new) e
  pub len : length new ≡ length old

-- the offset is past the end, `past_end` holds of it and `e`, and the target is unchanged
pub record FailsPast {E : Type 0} (past_end : ℕ → E → Type 0) (old : List ℕ) (offset : ℕ)
    (new : List ℕ) (e : E) : Type 0 where
  pub past : length old < offset
  pub same : new ≡ old
  pub error : past_end offset e

-- `FailsPast` or `FailsAt`
abbrev pub RefusesWriteAt : {E : Type 0} → (List ℕ → List ℕ → E → Type 0) → (ℕ → E → Type 0)
    → List ℕ → ℕ → List ℕ → E → Type 0
RefusesWriteAt refuses past_end old offset new e =
    FailsPast past_end old offset new e ⊎ FailsAt refuses old offset new e

-- a write returns `r`: `WritesAt` where that is a size, and `RefusesWriteAt` where it is an error
abbrev pub AnswersWrite : {E : Type 0} → (List ℕ → List ℕ → ℕ → Type 0)
    → (List ℕ → List ℕ → E → Type 0) → (ℕ → E → Type 0) → List ℕ → ℕ → List ℕ → Result ℕ E → Type 0
AnswersWrite writes refuses past_end old offset new r =
    MatchResult r (WritesAt writes old offset new) (RefusesWriteAt refuses past_end old offset new)
