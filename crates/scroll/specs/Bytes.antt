-- Buffers. A byte is a number below 256; a buffer, a source and a target are lists of bytes. A type
-- reads the start of a source, and writes over the start of a target; what is there at an offset is
-- `drop offset buffer`.
use Rattle.std.specs.Prelude.{◌≡◌, ◌≤◌, ◌<◌, ℕ, zero, suc, ◌+◌, ◌++◌, List, length, drop, map}
use Rattle.std.specs.List.{range_with_len}
use Rattle.scroll.specs.declared.error.Error.{Error}
use Rattle.scroll.specs.declared.error.Error.TheVariants.{TooBig}

-- `sum_below f n`: `f 0 + f 1 + .. + f (n - 1)`
abbrev pub sum_below : (ℕ → ℕ) → ℕ → ℕ
sum_below f zero = 0
sum_below f (suc n) = sum_below f n + f n

-- the list `f 0, f 1, .., f (n - 1)`
abbrev pub list_below : (ℕ → ℕ) → ℕ → List ℕ
list_below f n = map f (range_with_len 0 n)

-- a value is read from the first `w` bytes of a source: the source has these and makes `x`, and the
-- size `n` is `w`
pub record ReadsFixed {X : Type 0} (w : ℕ) (makes : List ℕ → X → Type 0) (source : List ℕ) (x : X)
    (n : ℕ) : Type 0 where
  pub room : w ≤ length source
  pub value : makes source x
  pub size : n ≡ w

-- `ReadsFixed` of a value that is a function of the source: `x` is `value_of source`
abbrev pub ReadsPrefix : {X : Type 0} → ℕ → (List ℕ → X) → List ℕ → X → ℕ → Type 0
ReadsPrefix w value_of = ReadsFixed w (λ source x. x ≡ value_of source)

-- the source has fewer than `w` bytes, and the error is `TooBig` with `w` and the length of the
-- source
pub record RefusesShort (w : ℕ) (source : List ℕ) (e : Error) : Type 0 where
  pub short : length source < w
  pub error : e ≡ TooBig w (length source)

-- bytes are written over the first `w` of a target: `old` has as many, `new` is `bytes` and then
-- `drop w old`, and the size `n` is `w`
pub record WritesPrefix (w : ℕ) (bytes old new : List ℕ) (n : ℕ) : Type 0 where
  pub room : w ≤ length old
  pub after : new ≡ bytes ++ drop w old
  pub size : n ≡ w

-- `RefusesShort` of a target, which is unchanged
pub record FailsShort (w : ℕ) (old new : List ℕ) (e : Error) : Type 0 where
  pub short : length old < w
  pub same : new ≡ old
  pub error : e ≡ TooBig w (length old)
