-- A value after a tag. A tag is a number of `w` bytes that says what follows it, such as the number
-- of an enum's variant.
use Rattle.std.specs.Prelude.{◌≡◌, ◌≤◌, ◌<◌, ◌+◌, ℕ, List, length, take, drop, ◌⊎◌}
use Rattle.scroll.specs.Writes.{FailsAt}
use Rattle.scroll.specs.declared.error.Error.{Error}
use Rattle.scroll.specs.declared.error.Error.TheVariants.{TooBig}

-- the bytes `tag` are written over the first `w` of a target, and a value after them by `writes`,
-- in `n` bytes
pub record WritesTagged (w : ℕ) (tag : List ℕ) (writes : List ℕ → List ℕ → ℕ → Type 0)
    (old new : List ℕ) (n : ℕ) : Type 0 where
  pub room : w ≤ length old
  pub is : take w new ≡ tag
  pub size : ℕ
  pub value : writes (drop w old) (drop w new) size
  pub whole : n ≡ w + size

-- the target has fewer than `w` bytes and is unchanged, and the error is what `gives` makes of
-- `TooBig` with `w` and the length of the target
pub record FailsTag {E : Type 0} (w : ℕ) (gives : Error → E → Type 0) (old new : List ℕ)
    (e : E) : Type 0 where
  pub short : length old < w
  pub same : new ≡ old
  pub error : gives (TooBig w (length old)) e

-- such a write fails: the tag has no room, which is `TooBig` in the type's error and leaves the
-- target unchanged; or the write after it fails, and the bytes of the tag are unchanged
abbrev pub FailsTagged : {E : Type 0} → ℕ → (List ℕ → List ℕ → E → Type 0) → (Error → E → Type 0)
    → List ℕ → List ℕ → E → Type 0
FailsTagged w refuses gives old new e = FailsTag w gives old new e ⊎ FailsAt refuses old w new e
