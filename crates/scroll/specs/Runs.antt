-- Runs of commands. The contract of `runner::run`: what each command returns over one buffer, and
-- what the list leaves.
use Rattle.std.specs.Prelude.{◌≡◌, ◌<◌, ℕ, ◌+◌, ◌++◌, Bool, true, false, List, [], ◌∷◌, length, take, map, Ok, Err, ⊤}
use Rattle.std.specs.String.{string_bytes}
use Rattle.scroll.specs.Arrays.{ReadsArray, RefusesArray}
use Rattle.scroll.specs.Bytes.{RefusesShort}
use Rattle.scroll.specs.CStrings.{ReadsCString, RefusesCString}
use Rattle.scroll.specs.CStringTexts.{c_str_text}
use Rattle.scroll.specs.Errors.{IsBadOffset}
use Rattle.scroll.specs.History.{Piece, seen, pieces, AnswersLeaves}
use Rattle.scroll.specs.Leb128.{ReadsCountedUleb, ReadsCountedSleb, RefusesUleb, RefusesSleb}
use Rattle.scroll.specs.Encoding.{uleb_text, sleb_text}
use Rattle.scroll.specs.Numbers.{ReadsNumber, ReadsSigned, number_bytes, signed_bytes}
use Rattle.scroll.specs.Reads.{ReadsAt, RefusesAt}
use Rattle.scroll.specs.Texts.{ReadsText, RefusesText, ReadsSlice}
use Rattle.scroll.specs.declared.endian.Endian.{Endian}
use Rattle.scroll.specs.declared.error.Error.{Error}
use Rattle.scroll.specs.declared.runner.Answer.{Answer}
use Rattle.scroll.specs.declared.runner.Answer.TheVariants as answer
use Rattle.scroll.specs.declared.runner.Command.{Command}
use Rattle.scroll.specs.declared.runner.Command.TheVariants as command
use Rattle.scroll.specs.declared.runner.Kind.{Kind}
use Rattle.scroll.specs.declared.runner.Kind.TheVariants as kind
use Rattle.scroll.specs.declared.runner.Number.{Number}
use Rattle.scroll.specs.declared.runner.Number.TheVariants as number
use Rattle.scroll.specs.declared.runner.Place.{Place}
use Rattle.scroll.specs.declared.runner.Place.TheVariants as offset
use Rattle.scroll.specs.declared.runner.Put.{Put}
use Rattle.scroll.specs.declared.runner.Put.TheVariants as put
use Rattle.scroll.specs.declared.runner.Value.{Value}
use Rattle.scroll.specs.declared.runner.Value.TheVariants as value
use Rattle.scroll.specs.declared.runner.Width.{Width}
use Rattle.scroll.specs.declared.runner.Width.TheVariants as width

-- `bytes_in w`: how many bytes a number of the width has
abbrev pub bytes_in : Width → ℕ
bytes_in width.U8 = 1
bytes_in width.I8 = 1
bytes_in width.U16 = 2
bytes_in width.I16 = 2
bytes_in width.U32 = 4
bytes_in width.I32 = 4
bytes_in width.U64 = 8
bytes_in width.I64 = 8
bytes_in width.U128 = 16
bytes_in width.I128 = 16

-- `is_signed w`: whether a number of the width is signed
abbrev pub is_signed : Width → Bool
is_signed width.I8 = true
is_signed width.I16 = true
is_signed width.I32 = true
is_signed width.I64 = true
is_signed width.I128 = true
is_signed w = false

-- `ReadsWide sign w order source x n`: a number of `w` bytes is read, signed where `sign` is true
-- and else unsigned
abbrev pub ReadsWide : Bool → ℕ → Endian → List ℕ → Value → ℕ → Type 0
ReadsWide false w order source (value.Unsigned x) n = ReadsNumber w order source x n
ReadsWide true w order source (value.Signed x) n = ReadsSigned w order source x n
ReadsWide sign w order source x n = ⊥

-- `ReadsKind what source x n`: a value is read as the relation of its type says. Texts, slices and
-- C strings are compared by their bytes.
abbrev pub ReadsKind : Kind → List ℕ → Value → ℕ → Type 0
ReadsKind (kind.Number w order) source x n = ReadsWide (is_signed w) (bytes_in w) order source x n
ReadsKind (kind.Text ctx) source (value.Text text) n = ReadsText ctx source (string_bytes text) n
ReadsKind (kind.Bytes len) source (value.Bytes bytes) n = ReadsSlice len source bytes.items n
ReadsKind kind.CStr source (value.CStr text) n = ReadsCString source text.items n
ReadsKind kind.CString source (value.CStr text) n = ReadsCString source text.items n
ReadsKind kind.Uleb source (value.Uleb x) n = ReadsCountedUleb source x n
ReadsKind kind.Sleb source (value.Sleb x) n = ReadsCountedSleb source x n
ReadsKind (kind.U8x0 order) source value.U8x0 n = ReadsArray (ReadsNumber 1 order) 0 source [] n
ReadsKind (kind.U16x3 order) source (value.U16x3 xs) n =
    ReadsArray (ReadsNumber 2 order) 3 source xs n
ReadsKind (kind.Textx2 ctx) source (value.Textx2 a b) n =
    ReadsArray (ReadsText ctx) 2 source (string_bytes a ∷ string_bytes b ∷ []) n
ReadsKind what source x n = ⊥

-- `RefusesKind what source e`: the read of a value fails as the relation of its type says
abbrev pub RefusesKind : Kind → List ℕ → Error → Type 0
RefusesKind (kind.Number w order) source e = RefusesShort (bytes_in w) source e
RefusesKind (kind.Text ctx) source e = RefusesText ctx source e
RefusesKind (kind.Bytes len) source e = RefusesShort len source e
RefusesKind kind.CStr source e = RefusesCString source e
RefusesKind kind.CString source e = RefusesCString source e
RefusesKind kind.Uleb source e = RefusesUleb source e
RefusesKind kind.Sleb source e = RefusesSleb source e
RefusesKind (kind.U8x0 order) source e =
    RefusesArray (ReadsNumber 1 order) (RefusesShort 1) IsBadOffset 0 source e
RefusesKind (kind.U16x3 order) source e =
    RefusesArray (ReadsNumber 2 order) (RefusesShort 2) IsBadOffset 3 source e
RefusesKind (kind.Textx2 ctx) source e =
    RefusesArray (ReadsText ctx) (RefusesText ctx) IsBadOffset 2 source e

-- `Copies what`: the value of the kind is copied into memory of its own
abbrev pub Copies : Kind → Type 0
Copies (kind.Text ctx) = ⊤
Copies (kind.Bytes len) = ⊤
Copies kind.CStr = ⊤
Copies kind.CString = ⊤
Copies (kind.Textx2 ctx) = ⊤
Copies what = ⊥

-- `CopiesNothing c`: the command is a write, or a read of a kind that isn't copied
abbrev pub CopiesNothing : Command → Type 0
CopiesNothing (command.Read at what) = ¬ (Copies what)
CopiesNothing (command.Write at x) = ⊤

-- `leaf_of order x`: the bytes of a number of any type
abbrev pub leaf_of : Endian → Number → List ℕ
leaf_of order (number.U8 x) = number_bytes order 1 x
leaf_of order (number.I8 x) = signed_bytes order 1 x
leaf_of order (number.U16 x) = number_bytes order 2 x
leaf_of order (number.I16 x) = signed_bytes order 2 x
leaf_of order (number.U32 x) = number_bytes order 4 x
leaf_of order (number.I32 x) = signed_bytes order 4 x
leaf_of order (number.U64 x) = number_bytes order 8 x
leaf_of order (number.I64 x) = signed_bytes order 8 x
leaf_of order (number.U128 x) = number_bytes order 16 x
leaf_of order (number.I128 x) = signed_bytes order 16 x

-- `leaves_of x`: the leaves of what is written: the bytes of a number, of a text, of each slice, of
-- a C string with its zero, and the encoding of a number in LEB128, `uleb_text` or `sleb_text`
abbrev pub leaves_of : Put → List (List ℕ)
leaves_of (put.Number x order) = leaf_of order x ∷ []
leaves_of (put.Text text) = text.now ∷ []
leaves_of (put.Bytes bytes) = bytes.now ∷ []
leaves_of (put.CStr text) = (c_str_text text ++ 0 ∷ []) ∷ []
leaves_of (put.Uleb x) = uleb_text x ∷ []
leaves_of (put.Sleb x) = sleb_text x ∷ []
leaves_of (put.U16x3 xs order) = map (number_bytes order 2) xs
leaves_of (put.Bytesx2 first second) = first.now ∷ second.now ∷ []

-- `offset_of at cursor`: the offset at which a command acts: its own, or the cursor
abbrev pub offset_of : Place → ℕ → ℕ
offset_of (offset.At offset) cursor = offset
offset_of offset.Cursor cursor = cursor

-- `moved at cursor size`: the cursor after a command that succeeded: advanced by the size where the
-- command acts at the cursor
abbrev pub moved : Place → ℕ → ℕ → ℕ
moved (offset.At offset) cursor size = cursor
moved offset.Cursor cursor size = cursor + size

-- a value is read at the offset at which a command acts, `ReadsAt`, and `after` is the cursor after
-- it
abbrev pub ReadsHere : {V : Type 0} → (List ℕ → V → ℕ → Type 0) → List ℕ → ℕ → Place → V → ℕ
    → Type 0
ReadsHere reads buffer cursor at x after =
    (n : ℕ) × ReadsAt reads buffer (offset_of at cursor) x n × (after ≡ moved at cursor n)

-- a read fails at the offset at which a command acts, `RefusesAt`, and the cursor is unchanged
abbrev pub RefusesHere : {E : Type 0} → (List ℕ → E → Type 0) → (ℕ → E → Type 0) → List ℕ → ℕ
    → Place → E → ℕ → Type 0
RefusesHere refuses past_end buffer cursor at e after =
    RefusesAt refuses past_end buffer (offset_of at cursor) e × (after ≡ cursor)

-- `ReadStep buffer cursor at what a after`: the result `a` of one read, and the cursor `after` it
abbrev pub ReadStep : List ℕ → ℕ → Place → Kind → Answer → ℕ → Type 0
ReadStep buffer cursor at what (answer.Read x) after =
    ReadsHere (ReadsKind what) buffer cursor at x after
ReadStep buffer cursor at what (answer.Refused e) after =
    RefusesHere (RefusesKind what) IsBadOffset buffer cursor at e after
ReadStep buffer cursor at what (answer.Wrote n) after = ⊥

-- `WriteStep buffer cursor at leaves a after`: the result `a` of one write of these leaves, and the
-- cursor `after` it
abbrev pub WriteStep : List ℕ → ℕ → Place → List (List ℕ) → Answer → ℕ → Type 0
WriteStep buffer cursor at leaves (answer.Wrote n) after =
    AnswersLeaves (length buffer) (offset_of at cursor) leaves (Ok n) × (after ≡ moved at cursor n)
WriteStep buffer cursor at leaves (answer.Refused e) after =
    AnswersLeaves (length buffer) (offset_of at cursor) leaves (Err e) × (after ≡ cursor)
WriteStep buffer cursor at leaves (answer.Read x) after = ⊥

-- `Step buffer cursor c a written after`: one command over the buffer that is seen: its result `a`,
-- as the relations of its type or of its leaves say, the pieces that it writes, and the cursor
-- `after` it, which a failure leaves unchanged
abbrev pub Step : List ℕ → ℕ → Command → Answer → List Piece → ℕ → Type 0
Step buffer cursor (command.Read at what) a written after =
    ReadStep buffer cursor at what a after × (written ≡ [])
Step buffer cursor (command.Write at x) a written after =
    WriteStep buffer cursor at (leaves_of x) a after
    × (written ≡ pieces (length buffer) (offset_of at cursor) (leaves_of x))

-- one command over the buffer `old`, which leaves the buffer `new`
pub record IsStep (old new : List ℕ) (cursor : ℕ) (c : Command) (a : Answer)
    (after : ℕ) : Type 0 where
  pub written : List Piece
  pub step : Step old cursor c a written after
  pub bytes : new ≡ seen old written

-- `Run first history cursor commands answers whole after`: the commands run in turn, each over what
-- is seen of `first` after the history so far; `answers` has their results. The pieces of each
-- write, also of one that fails, are appended to the history; `whole` is the history at the end,
-- and `after` the cursor.
abbrev pub Run : List ℕ → List Piece → ℕ → List Command → List Answer → List Piece → ℕ → Type 0
Run first history cursor [] [] whole after = (whole ≡ history) × (after ≡ cursor)
Run first history cursor (c ∷ cs) (a ∷ rest) whole after =
    (written : List Piece) × (mid : ℕ) × Step (seen first history) cursor c a written mid
    × Run first (history ++ written) mid cs rest whole after
Run first history cursor [] (a ∷ rest) whole after = ⊥
Run first history cursor (c ∷ cs) [] whole after = ⊥

-- a run from the buffer `first` and the cursor `from`: its results are appended to `old`, `buffer`
-- is what is seen after it, and `to` the cursor
pub record IsRun (first buffer : List ℕ) (from to : ℕ) (commands : List Command)
    (old new : List Answer) : Type 0 where
  pub answers : List Answer
  pub history : List Piece
  pub appended : new ≡ old ++ answers
  pub run : Run first [] from commands answers history to
  pub bytes : buffer ≡ seen first history

-- a run of the first commands, fewer than all
pub record IsPrefixRun (first buffer : List ℕ) (from to : ℕ) (commands : List Command)
    (old new : List Answer) : Type 0 where
  pub count : ℕ
  pub fewer : count < length commands
  pub prefix : IsRun first buffer from to (take count commands) old new
