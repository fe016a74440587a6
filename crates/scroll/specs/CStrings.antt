-- C strings. A C string is a text of bytes other than zero, followed by a zero byte, as in ISO/IEC
-- 9899, section 7.1.1.
use Rattle.std.specs.Prelude.{◌≡◌, ◌<◌, ◌+◌, ℕ, List, length, take, codes, ◌⊎◌}
use Rattle.scroll.specs.Errors.{IsBadInput}
use Rattle.scroll.specs.Texts.{index_of}
use Rattle.scroll.specs.declared.error.Error.{Error}
use Rattle.scroll.specs.declared.error.Error.TheVariants.{NoMemory}

-- the first zero is the last byte
abbrev pub IsCString : List ℕ → Type 0
IsCString bytes = index_of 0 bytes + 1 ≡ length bytes

-- `text` is the bytes before the first zero, and the size `n` one more than its length
pub record ReadsCString (source text : List ℕ) (n : ℕ) : Type 0 where
  pub found : index_of 0 source < length source
  pub value : text ≡ take (index_of 0 source) source
  pub size : n ≡ index_of 0 source + 1

-- the source has no zero, and the error is `BadInput` with the size 0 and the message `The input
-- doesn't contain a null byte`
pub record RefusesCString (source : List ℕ) (e : Error) : Type 0 where
  pub none : index_of 0 source ≡ length source
  pub error : IsBadInput e 0 (codes "The input doesn't contain a null byte")

-- `RefusesCString`; or the source has a zero, and the error is `NoMemory`
abbrev pub RefusesCopy : List ℕ → Error → Type 0
RefusesCopy source e =
    RefusesCString source e ⊎ ((index_of 0 source < length source) × (e ≡ NoMemory))

-- no C string is made of a text: the error is `BadInput` with the index of its first zero and the
-- message `nul byte in text`; or it has none, and the error is `NoMemory`
abbrev pub RefusesToHold : List ℕ → Error → Type 0
RefusesToHold text e =
    ((index_of 0 text < length text) × IsBadInput e (index_of 0 text) (codes "nul byte in text"))
    ⊎ ((index_of 0 text ≡ length text) × (e ≡ NoMemory))
