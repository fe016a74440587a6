-- Types of a fixed size. A type says its width, its bytes, and which value a source makes at an
-- offset.
use Rattle.std.specs.Prelude.{◌≡◌, ℕ, List, take, drop, slice_index}
use Rattle.scroll.specs.Bytes.{list_below}

-- exactly one value has the property `P`
pub record One {X : Type 0} (P : X → Type 0) : Type 0 where
  pub value : X
  pub is : P value
  pub only : (x : X) → P x → x ≡ value

-- the `w` bytes of `s` at the offset `at` are those of `t` at the offset `to`
abbrev pub SameAt : ℕ → List ℕ → ℕ → List ℕ → ℕ → Type 0
SameAt w s at t to = take w (drop at s) ≡ take w (drop to t)

-- the first `n` of the bytes, with zeros in the place of those that are missing; of the elements of
-- an array it is all
abbrev pub exactly : ℕ → List ℕ → List ℕ
exactly n bytes = list_below (slice_index bytes) n
