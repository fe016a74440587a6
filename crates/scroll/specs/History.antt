-- Histories. A history is the list of the pieces that were written to a buffer, in order; nothing
-- in it is overwritten. A value that is written is a list of leaves, each a list of bytes that is
-- written whole or not at all: a number is one, its bytes; a number in LEB128 its encoding; and an
-- array has the leaves of its elements.
use Rattle.std.specs.Prelude.{ℕ, ◌-◌, List, [], ◌∷◌, length, nat_le, if◌then◌else◌, Option, None, unwrap_or, slice_get, slice_index, ◌≡◌, ◌+◌, nat_lt, Some, Result, Ok, Err, MatchResult}
use Rattle.std.specs.Option.{option_or}
use Rattle.scroll.specs.Bytes.{list_below}
use Rattle.std.specs.List.{sum_by}
use Rattle.scroll.specs.declared.error.Error.{Error}
use Rattle.scroll.specs.declared.error.Error.TheVariants.{TooBig, BadOffset}

-- an offset, and the bytes that were written there
abbrev pub Piece : Type 0
Piece = ℕ × List ℕ

-- the byte that the piece has for the offset `i`, if it covers that offset
abbrev pub byte_of : Piece → ℕ → Option ℕ
byte_of p i = if nat_le p.0 i then slice_get p.1 (i - p.0) else None

-- `last_byte history i`: the byte of the last piece that covers the offset `i`, if there is one
abbrev pub last_byte : List Piece → ℕ → Option ℕ
last_byte [] i = None
last_byte (p ∷ ps) i = option_or (last_byte ps i) (byte_of p i)

-- the buffer after a history: at each offset the byte of the last piece that covers it, or that of
-- `buffer`
abbrev pub seen : List ℕ → List Piece → List ℕ
seen buffer history =
    list_below (λ i. unwrap_or (last_byte history i) (slice_index buffer i)) (length buffer)

-- `pieces len offset leaves`: the leaves laid one after another from `offset` in a buffer of the
-- length `len`, up to the first that is longer than what is left
abbrev pub pieces : ℕ → ℕ → List (List ℕ) → List Piece
pieces len offset [] = []
pieces len offset (leaf ∷ leaves) =
    if nat_le (offset + length leaf) len
    then (offset, leaf) ∷ pieces len (offset + length leaf) leaves else []

-- `left_over len offset leaves`: the error of that leaf, if there is one: `TooBig` with its length
-- and what is left
abbrev pub left_over : ℕ → ℕ → List (List ℕ) → Option Error
left_over len offset [] = None
left_over len offset (leaf ∷ leaves) =
    if nat_le (offset + length leaf) len then left_over len (offset + length leaf) leaves
    else Some (TooBig (length leaf) (len - offset))

-- the error of a write of leaves, if it fails: `BadOffset` past the end, else `left_over`
abbrev pub refusal : ℕ → ℕ → List (List ℕ) → Option Error
refusal len offset leaves =
    if nat_lt len offset then Some (BadOffset offset) else left_over len offset leaves

-- a write of leaves returns `r`: the `refusal` where there is one, and else the sum of the lengths
-- of the leaves
abbrev pub AnswersLeaves : ℕ → ℕ → List (List ℕ) → Result ℕ Error → Type 0
AnswersLeaves len offset leaves r =
    MatchResult r (λ n. (refusal len offset leaves ≡ None) × (n ≡ sum_by length leaves))
    (λ e. refusal len offset leaves ≡ Some e)

-- `new` is what is seen of `old` after the pieces, and `r` what the write returns: the `refusal`,
-- or the sum of the lengths of the leaves
pub record WritesLeaves (old : List ℕ) (offset : ℕ) (leaves : List (List ℕ)) (new : List ℕ)
    (r : Result ℕ Error) : Type 0 where
  pub after : new ≡ seen old (pieces (length old) offset leaves)
  pub answer : AnswersLeaves (length old) offset leaves r

-- of every value, `writes` and `refuses` imply `WritesLeaves` of its leaves at the start of a
-- target
pub record HasLeaves {V : Type 0} (leaves : V → List (List ℕ))
    (writes : V → List ℕ → List ℕ → ℕ → Type 0)
    (refuses : V → List ℕ → List ℕ → Error → Type 0) : Type 0 where
  pub written : (x : V) (old new : List ℕ) (n : ℕ) → writes x old new n
      → WritesLeaves old 0 (leaves x) new (Ok n)
  pub refused : (x : V) (old new : List ℕ) (e : Error) → refuses x old new e
      → WritesLeaves old 0 (leaves x) new (Err e)
