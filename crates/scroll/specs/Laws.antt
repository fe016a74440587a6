-- Words of the laws. The laws themselves are in `src/laws/`.
use Rattle.std.specs.Prelude.{◌≡◌, ◌≤◌, ◌<◌, ◌+◌, ℕ, ◌++◌, List, [], ◌∷◌, length, take, Result, Ok, Err, MatchResult, ⊤}
use Rattle.std.specs.List.{Any, flat_map}
use Rattle.scroll.specs.Arrays.{Nested, WritesArray, FailsArray}
use Rattle.scroll.specs.History.{Piece}
use Rattle.scroll.specs.Reads.{IsBounded, ReadsAt, RefusesAt}
use Rattle.scroll.specs.Errors.{IsBadOffset, IsPlain}
use Rattle.scroll.specs.Runs.{Run}
use Rattle.scroll.specs.declared.error.Error.{Error}
use Rattle.scroll.specs.declared.error.Error.TheVariants.{BadInput}
use Rattle.scroll.specs.declared.runner.Answer.{Answer}
use Rattle.scroll.specs.declared.runner.Answer.TheVariants as answer
use Rattle.scroll.specs.declared.runner.Command.{Command}

-- the offset `i` is that of one of the bytes of the piece `p`
abbrev pub Covers : Piece → ℕ → Type 0
Covers p i = (p.0 ≤ i) × (i < p.0 + length p.1)

-- no offset is covered by a piece of `ps` and by one of `qs`
abbrev pub Apart : List Piece → List Piece → Type 0
Apart ps qs = (i : ℕ) → Any (λ p. Covers p i) ps → Any (λ q. Covers q i) qs → ⊥

-- `history` is that of a run of the commands over the buffer `first`, from some cursor
pub record IsHistory (first : List ℕ) (commands : List Command)
    (history : List Piece) : Type 0 where
  pub from : ℕ
  pub to : ℕ
  pub answers : List Answer
  pub run : Run first [] from commands answers history to

-- the piece `p` is in the history, and no later piece covers an offset of it
pub record WrittenLast (history : List Piece) (p : Piece) : Type 0 where
  pub before : List Piece
  pub after : List Piece
  pub split : history ≡ before ++ p ∷ after
  pub apart : Apart (p ∷ []) after

-- `RefusesPlainly a`: the result of a command is a value, a size or an error that owns no memory,
-- `IsPlain`
abbrev pub RefusesPlainly : Answer → Type 0
RefusesPlainly (answer.Refused e) = IsPlain e
RefusesPlainly a = ⊤

-- `WritesNested writes counts`, `FailsNested writes refuses counts`, `leaves_nested leaves counts`:
-- how an array of arrays is written, what a failed write leaves, and its leaves, those of the
-- innermost elements in order: with no length `writes`, `refuses` and `leaves`, and else
-- `WritesArray`, `FailsArray` and the leaves of each element, over what this gives for the other
-- lengths. The lengths are those of `Nested`.
abbrev pub WritesNested : {V : Type 0} → (V → List ℕ → List ℕ → ℕ → Type 0) → (counts : List ℕ)
    → Nested V counts → List ℕ → List ℕ → ℕ → Type 0
WritesNested writes [] = writes
WritesNested writes (count ∷ counts) = WritesArray (WritesNested writes counts)

abbrev pub FailsNested : {V E : Type 0} → (V → List ℕ → List ℕ → ℕ → Type 0)
    → (V → List ℕ → List ℕ → E → Type 0) → (counts : List ℕ) → Nested V counts → List ℕ → List ℕ → E
    → Type 0
FailsNested writes refuses [] = refuses
FailsNested writes refuses (count ∷ counts) =
    FailsArray (WritesNested writes counts) (FailsNested writes refuses counts)

abbrev pub leaves_nested : {V : Type 0} → (V → List (List ℕ)) → (counts : List ℕ) → Nested V counts
    → List (List ℕ)
leaves_nested leaves [] = leaves
leaves_nested leaves (count ∷ counts) = flat_map (leaves_nested leaves counts)

-- what reads as a value, with a size of at most the length of the source, reads so on every source
-- that is at least as long and begins with as many of the same bytes
abbrev pub IsLocal : {V : Type 0} → (List ℕ → V → ℕ → Type 0) → Type 0
IsLocal {V} reads =
    (s t : List ℕ) (v : V) (n : ℕ) → reads s v n → n ≤ length s → length s ≤ length t
    → take n t ≡ take n s → reads t v n

-- each size is at most the length of the source
abbrev pub IsWithin : {V : Type 0} → (List ℕ → V → ℕ → Type 0) → Type 0
IsWithin {V} reads = (s : List ℕ) (v : V) (n : ℕ) → reads s v n → n ≤ length s

-- `SameError d e`: the errors are equal, or both are `BadInput` with equal sizes and messages of
-- the same bytes, wherever these are in memory
abbrev pub SameError : Error → Error → Type 0
SameError (BadInput size msg) (BadInput size' msg') = (size ≡ size') × (msg.now ≡ msg'.now)
SameError d e = d ≡ e

-- `SameAnswer q r`: both results are the same value with the same size, or both are errors that say
-- the same, by `SameError`
abbrev pub SameAnswer : {V : Type 0} → Result (V × ℕ) Error → Result (V × ℕ) Error → Type 0
SameAnswer (Ok x) (Ok y) = x ≡ y
SameAnswer (Err d) (Err e) = SameError d e
SameAnswer q r = ⊥

-- `r` is a value and a size of which `reads` holds, or an error of which `refuses` holds
abbrev pub Allows : {V : Type 0} → (V → ℕ → Type 0) → (Error → Type 0) → Result (V × ℕ) Error
    → Type 0
Allows reads refuses r = MatchResult r (λ x. reads x.0 x.1) (λ e. refuses e)

-- some result is allowed, and each that is allowed is the same, by `SameAnswer`
pub record AllowsOne {V : Type 0} (reads : V → ℕ → Type 0) (refuses : Error → Type 0) : Type 0 where
  pub answer : Result (V × ℕ) Error
  pub allowed : Allows reads refuses answer
  pub only : (q : Result (V × ℕ) Error) → Allows reads refuses q → SameAnswer q answer

-- a read at each offset of each buffer has exactly one result, `AllowsOne`, which past the end is
-- `BadOffset`
abbrev pub AllowsOneAtEach : {V : Type 0} → (List ℕ → V → ℕ → Type 0) → (List ℕ → Error → Type 0)
    → Type 0
AllowsOneAtEach reads refuses =
    (b : List ℕ) (o : ℕ) → AllowsOne (ReadsAt reads b o) (RefusesAt refuses IsBadOffset b o)

-- the laws of a type that is read: what is read depends on its own bytes alone, its size is at most
-- one more than the length of the source, and at each offset a read has exactly one result
pub record IsReader {V : Type 0} (reads : List ℕ → V → ℕ → Type 0)
    (refuses : List ℕ → Error → Type 0) : Type 0 where
  pub local : IsLocal reads
  pub bounded : IsBounded reads
  pub one : AllowsOneAtEach reads refuses

-- the laws of a type whose size is at most the length of the source
pub record IsReaderWithin {V : Type 0} (reads : List ℕ → V → ℕ → Type 0)
    (refuses : List ℕ → Error → Type 0) : Type 0 where
  pub reader : IsReader reads refuses
  pub within : IsWithin reads
