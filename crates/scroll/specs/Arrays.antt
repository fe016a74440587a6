-- Arrays. The elements are read or written one after another; an array of none has the size 0, and
-- never fails. A value of a type takes fewer than 2^63 bytes wherever there is one. Generic code
-- can't know that, so there a contract states the errors of an array under a condition: what holds
-- the elements meanwhile fits; if it doesn't, the error is `NoMemory`. For a known type that is an
-- inequality between two numbers, which the prover decides.
use Rattle.std.specs.Prelude.{◌≡◌, ◌<◌, ℕ, ◌+◌, ◌*◌, ◌++◌, List, [], ◌∷◌, length, take, drop, slice_index_or}
use Rattle.scroll.specs.Reads.{ReadsAll, RefusesAt}
use Rattle.scroll.specs.Writes.{WritesAt, FailsAt}
use Rattle.std.specs.Borrow.{RattleType, unit}
use Rattle.std.specs.Mem.{FitsInMemory}
use Rattle.std.specs.contracts.array.IntoIter as items
use Rattle.std.specs.contracts.option.Option as option
use Rattle.arrayvec.specs.contracts.array_vec.ArrayVec as vec

-- `vs` are `count` values, read one after another from the start of the source to `n`
pub record ReadsArray {V : Type 0} (reads : List ℕ → V → ℕ → Type 0) (count : ℕ) (source : List ℕ)
    (vs : List V) (n : ℕ) : Type 0 where
  pub len : length vs ≡ count
  pub each : ReadsAll reads source 0 vs n

-- fewer than `count` values are read so, and `e` is the error of the next, at the offset where the
-- last of them ends, from the start of the array
pub record RefusesArray {V E : Type 0} (reads : List ℕ → V → ℕ → Type 0)
    (refuses : List ℕ → E → Type 0) (past_end : ℕ → E → Type 0) (count : ℕ) (source : List ℕ)
    (e : E) : Type 0 where
  pub prefix : List V
  pub stop : ℕ
  pub fewer : length prefix < count
  pub each : ReadsAll reads source 0 prefix stop
  pub error : RefusesAt refuses past_end source stop e

-- `Nested V counts`: the value of an array of arrays whose lengths are `counts`, from the outermost
-- on; with no length it is one element
abbrev pub Nested : Type 0 → List ℕ → Type 0
Nested V [] = V
Nested V (count ∷ counts) = List (Nested V counts)

-- `ReadsNested reads counts`: how arrays of arrays are read, whose lengths are `counts`, from the
-- outermost: with no length by `reads`, and else by `ReadsArray` over `ReadsNested` for the other
-- lengths
abbrev pub ReadsNested : {V : Type 0} → (List ℕ → V → ℕ → Type 0) → (counts : List ℕ) → List ℕ
    → Nested V counts → ℕ → Type 0
ReadsNested reads [] = reads
ReadsNested reads (count ∷ counts) = ReadsArray (ReadsNested reads counts) count

-- `RefusesNested reads refuses past_end counts`: and how their read fails, by `RefusesArray`
abbrev pub RefusesNested : {V E : Type 0} → (List ℕ → V → ℕ → Type 0) → (List ℕ → E → Type 0)
    → (ℕ → E → Type 0) → List ℕ → List ℕ → E → Type 0
RefusesNested reads refuses past_end [] = refuses
RefusesNested reads refuses past_end (count ∷ counts) =
    RefusesArray (ReadsNested reads counts)
    (RefusesNested reads refuses past_end counts) past_end count

-- `WritesAll writes old from vs new to`: the values `vs` are written one after another, from `from`
-- to `to`
abbrev pub WritesAll : {V : Type 0} → (V → List ℕ → List ℕ → ℕ → Type 0) → List ℕ → ℕ → List V
    → List ℕ → ℕ → Type 0
WritesAll writes old from [] new to = (new ≡ old) × (to ≡ from)
WritesAll writes old from (v ∷ vs) new to =
    (mid : List ℕ) × (n : ℕ) × WritesAt (writes v) old from mid n
    × WritesAll writes mid (from + n) vs new to

-- `WritesAll` from the start of the target to `n`
abbrev pub WritesArray : {V : Type 0} → (V → List ℕ → List ℕ → ℕ → Type 0) → List V → List ℕ
    → List ℕ → ℕ → Type 0
WritesArray writes vs old new n = WritesAll writes old 0 vs new n

-- the values before some value of `vs` are written so, and the write of that value fails with `e`
-- and leaves `new`
pub record FailsArray {V E : Type 0} (writes : V → List ℕ → List ℕ → ℕ → Type 0)
    (refuses : V → List ℕ → List ℕ → E → Type 0) (vs : List V) (old new : List ℕ)
    (e : E) : Type 0 where
  pub prefix : List V
  pub value : V
  pub back : List V
  pub mid : List ℕ
  pub stop : ℕ
  pub split : vs ≡ prefix ++ value ∷ back
  pub written : WritesAll writes old 0 prefix mid stop
  pub refused : FailsAt (refuses value) mid stop new e

-- `vs` are `count` values, each made of the bytes from its place on, `width` after the one before
-- it
pub record MakesArray {V : Type 0} (width : ℕ) (makes : List ℕ → V → Type 0) (count : ℕ)
    (source : List ℕ) (vs : List V) : Type 0 where
  pub len : length vs ≡ count
  pub each : (i : ℕ) (d : V) → i < count → makes (drop (width * i) source) (slice_index_or vs i d)

-- a value is put at the offset `offset` of a target, and the bytes before it are unchanged
pub record OverwritesValue (overwrites : List ℕ → List ℕ → Type 0) (old : List ℕ) (offset : ℕ)
    (new : List ℕ) : Type 0 where
  pub before : take offset new ≡ take offset old
  pub after : overwrites (drop offset old) (drop offset new)

-- `OverwritesAll width overwrites old from vs new`: the values are put one after another from the
-- offset `from`, each `width` bytes after the one before it
abbrev pub OverwritesAll : {V : Type 0} → ℕ → (V → List ℕ → List ℕ → Type 0) → List ℕ → ℕ → List V
    → List ℕ → Type 0
OverwritesAll width overwrites old from [] new = new ≡ old
OverwritesAll width overwrites old from (v ∷ vs) new =
    (mid : List ℕ) × OverwritesValue (overwrites v) old from mid
    × OverwritesAll width overwrites mid (from + width) vs new

-- `vs` are `count` values, each put at its place, `width` after the one before it
pub record FillsArray {V : Type 0} (width : ℕ) (overwrites : V → List ℕ → List ℕ → Type 0)
    (count : ℕ) (vs : List V) (old new : List ℕ) : Type 0 where
  pub len : length vs ≡ count
  pub each : OverwritesAll width overwrites old 0 vs new

-- `fails` holds of an error where what holds the elements fits in memory, and `lacks` where it
-- doesn't
abbrev pub FailsIfFits : Type 0 → Type 0 → Type 0 → Type 0
FailsIfFits fit fails lacks = (fit → fails) × ((fit → ⊥) → lacks)

-- an optional value of the type `X` takes fewer than 2^63 bytes
abbrev pub OptionFits : RattleType → Type 0
OptionFits X = FitsInMemory (option.the_row X)

-- an optional vector, which holds the elements of an array that is read, takes fewer than 2^63
-- bytes
abbrev pub SlotsFit : RattleType → RattleType → Type 0
SlotsFit T N = OptionFits (vec.the_row (option.the_row T) N unit)

-- so does an optional iterator, which holds the elements of one that is written
abbrev pub ItemsFit : RattleType → RattleType → Type 0
ItemsFit T N = OptionFits (items.the_row T N)

-- both do in one `Option` more; then `array_fits` returns `true`
abbrev pub HoldersFit : RattleType → RattleType → Type 0
HoldersFit T N = OptionFits (option.the_row (vec.the_row (option.the_row T) N unit))
    × OptionFits (option.the_row (items.the_row T N))
