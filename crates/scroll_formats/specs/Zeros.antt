-- Zeros.
use Rattle.std.specs.Prelude.{◌≡◌, ◌≢◌, ◌≤◌, ◌<◌, ◌-◌, ◌%◌, ℕ, List, length, replicate, codes, slice_index, ◌⊎◌}
use Rattle.scroll.specs.Bytes.{RefusesShort}
use Rattle.scroll.specs.Errors.{IsBadInput}
use Rattle.scroll.specs.declared.error.Error.{Error}

-- how many bytes there are from an offset to the next multiple; none if `multiple` is 0
abbrev pub padding_len : ℕ → ℕ → ℕ
padding_len offset multiple = (multiple - offset % multiple) % multiple

-- `n` bytes, each of them zero
abbrev pub zeros : ℕ → List ℕ
zeros n = replicate n 0

-- the first `n` bytes of a source are zero, and the size `m` is `n`
pub record ReadsZeros (n : ℕ) (source : List ℕ) (m : ℕ) : Type 0 where
  pub room : n ≤ length source
  pub zero : (i : ℕ) → i < n → slice_index source i ≡ 0
  pub size : m ≡ n

-- the source has `n` bytes or more, one of the first `n` is not zero, and the error is `BadInput`
-- with the index of the first such byte as its size and the message `padding is not zero`
pub record RefusesNonzero (n : ℕ) (source : List ℕ) (e : Error) : Type 0 where
  pub index : ℕ
  pub room : n ≤ length source
  pub inside : index < n
  pub before : (i : ℕ) → i < index → slice_index source i ≡ 0
  pub nonzero : slice_index source index ≢ 0
  pub error : IsBadInput e index (codes "padding is not zero")

-- the source is too short, which is `RefusesShort`; or one of its first `n` bytes is not zero, and
-- the error is `BadInput` with the index of the first of these and the message `padding is not
-- zero`
abbrev pub RefusesZeros : ℕ → List ℕ → Error → Type 0
RefusesZeros n source e = RefusesShort n source e ⊎ RefusesNonzero n source e
