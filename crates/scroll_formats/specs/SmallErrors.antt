-- Small errors.
use Rattle.std.specs.Prelude.{◌≡◌, ℕ, List, codes, Option, Some}
use Rattle.std.specs.IoError.{error_kind}
use Rattle.scroll.specs.Errors.{line_of}
use Rattle.scroll.specs.declared.error.Error.{Error}
use Rattle.scroll.specs.declared.error.Error.TheVariants.{TooBig, BadOffset, BadInput, Custom, IO, NoMemory}
use Rattle.scroll_formats.specs.declared.small_error.SmallError.{SmallError}
use Rattle.scroll_formats.specs.declared.small_error.SmallError.TheVariants as small
use Rattle.std.specs.declared.io.ErrorKind.TheVariants as kind

-- `small_error e`: the `SmallError` of the same name with the same fields, and `Other` for
-- `Custom`, `IO` and `NoMemory`
abbrev pub small_error : Error → SmallError
small_error (TooBig size len) = small.TooBig size len
small_error (BadOffset offset) = small.BadOffset offset
small_error (BadInput size msg) = small.BadInput size msg
small_error (Custom text) = small.Other
small_error (IO fault) = small.Other
small_error NoMemory = small.Other

-- `Shrunk refuses s`: `s` is the small error of an error of which `refuses` holds
pub record Shrunk (refuses : Error → Type 0) (s : SmallError) : Type 0 where
  pub error : Error
  pub refused : refuses error
  pub same : s ≡ small_error error

-- `IsErrorOf s e`: `e` is the error of the same name with the same fields, and for `Other` an `IO`
-- of the kind `Other`
abbrev pub IsErrorOf : SmallError → Error → Type 0
IsErrorOf (small.TooBig size len) e = e ≡ TooBig size len
IsErrorOf (small.BadOffset offset) e = e ≡ BadOffset offset
IsErrorOf (small.BadInput size msg) e = e ≡ BadInput size msg
IsErrorOf small.Other (IO fault) = error_kind fault ≡ kind.Other
IsErrorOf small.Other e = ⊥

-- `small_line_of s`: the line that a small error prints: that of the error of the same name, and
-- for `Other` `other error`
abbrev pub small_line_of : SmallError → Option (List ℕ)
small_line_of (small.TooBig size len) = line_of (TooBig size len)
small_line_of (small.BadOffset offset) = line_of (BadOffset offset)
small_line_of (small.BadInput size msg) = line_of (BadInput size msg)
small_line_of small.Other = Some (codes "other error")
