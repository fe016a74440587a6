-- Errors of parts. A part's error `E` is any that an `Error` is converted to; `gives` says which.
use Rattle.std.specs.Prelude.{◌≢◌, ◌<◌, ℕ, List, length}
use Rattle.scroll.specs.Errors.{IsBadInput}
use Rattle.scroll.specs.declared.error.Error.{Error}
use Rattle.scroll.specs.declared.error.Error.TheVariants.{TooBig}

-- the source has fewer than `w` bytes, and `gives` makes the error of `TooBig` with `w` and the
-- length of the source
pub record NoRoom {E : Type 0} (gives : Error → E → Type 0) (w : ℕ) (s : List ℕ)
    (e : E) : Type 0 where
  pub short : length s < w
  pub error : gives (TooBig w (length s)) e

-- `gives` makes the error of a `BadInput` with the size `n` and the message `text`
pub record GivesBadInput {E : Type 0} (gives : Error → E → Type 0) (n : ℕ) (text : List ℕ)
    (e : E) : Type 0 where
  pub inner : Error
  pub is : IsBadInput inner n text
  pub made : gives inner e

-- the number `x` is not the constant, and the error is `BadInput` with the number as its size and
-- the message `text`
pub record IsNot (constant x : ℕ) (text : List ℕ) (e : Error) : Type 0 where
  pub other : x ≢ constant
  pub error : IsBadInput e x text
