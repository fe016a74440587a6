-- Errors.
use Rattle.std.specs.Prelude.{◌≡◌, ℕ, ◌++◌, List, codes, Option, Some, None, ⊤}
use Rattle.std.specs.Fmt.{decimal}
use Rattle.std.specs.String.{string_bytes}
use Rattle.scroll.specs.declared.error.Error.{Error}
use Rattle.scroll.specs.declared.error.Error.TheVariants.{TooBig, BadOffset, BadInput, Custom, IO, NoMemory}

-- `line_of e`: the line that an error prints; the contracts leave open what a stream's error
-- prints:
abbrev pub line_of : Error → Option (List ℕ)
line_of (TooBig size len) =
    Some (codes "type is too big (" ++ decimal size ++ codes ") for " ++ decimal len)
line_of (BadOffset offset) = Some (codes "bad offset " ++ decimal offset)
line_of (BadInput size msg) =
    Some (codes "bad input " ++ msg.now ++ codes " (" ++ decimal size ++ codes ")")
line_of (Custom text) = Some (string_bytes text)
line_of (IO fault) = None
line_of NoMemory = Some (codes "out of memory")

-- the error is `BadOffset` with that offset
abbrev pub IsBadOffset : ℕ → Error → Type 0
IsBadOffset offset e = e ≡ BadOffset offset

-- the same in another error type, whose `From` converts it: `from_gives` holds of `BadOffset
-- offset` and `e`
abbrev pub PastEnd : {E : Type 0} → (Error → E → Type 0) → ℕ → E → Type 0
PastEnd from_gives offset e = from_gives (BadOffset offset) e

-- `IsPlain e`: the error owns no memory: it is `TooBig`, `BadOffset` or `BadInput`
abbrev pub IsPlain : Error → Type 0
IsPlain (TooBig size len) = ⊤
IsPlain (BadOffset offset) = ⊤
IsPlain (BadInput size msg) = ⊤
IsPlain (Custom text) = ⊥
IsPlain (IO fault) = ⊥
IsPlain NoMemory = ⊥

-- `IsBadInput e n text`: the error is `BadInput` with the size `n` and a message of the bytes
-- `text`; its address is left open
abbrev pub IsBadInput : Error → ℕ → List ℕ → Type 0
IsBadInput (BadInput size msg) n text = (size ≡ n) × (msg.now ≡ text)
IsBadInput e n text = ⊥
