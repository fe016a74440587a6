-- Many values, and the elements of a table. The relation `gives` converts an `Error` to `e`.
use Rattle.std.specs.Prelude.{◌≡◌, ◌≢◌, ◌<◌, ◌≤◌, ◌+◌, ◌++◌, ◌/◌, [], ◌∷◌, ℕ, List, length, take, drop, ◌⊎◌, Option, MatchOption, codes}
use Rattle.scroll.specs.Arrays.{WritesAll}
use Rattle.scroll.specs.Reads.{ReadsAt, ReadsAll, ReadsBetween, RefusesAt, ReadsSome}
use Rattle.std.specs.List.{AllZip}
use Rattle.scroll.specs.Writes.{WritesAt, RefusesWriteAt}
use Rattle.scroll.specs.Errors.{IsBadInput, PastEnd}
use Rattle.scroll.specs.declared.error.Error.{Error}
use Rattle.scroll.specs.declared.error.Error.TheVariants.{NoMemory}

-- a value is read at the offset `stop`, and `e` says that there is no memory for it
pub record LacksMemory {V E : Type 0} (reads : List ℕ → V → ℕ → Type 0) (gives : Error → E → Type 0)
    (buffer : List ℕ) (stop : ℕ) (e : E) : Type 0 where
  pub value : V
  pub there : ReadsSome reads buffer stop value
  pub error : gives NoMemory e

-- a value that is read has at least one byte
abbrev pub WithBytes : {V : Type 0} → (List ℕ → V → ℕ → Type 0) → List ℕ → V → ℕ → Type 0
WithBytes reads s x n = reads s x n × (1 ≤ n)

-- fewer than `count` values are read one after another from `from`, and the next, at `stop`, fails
-- with `e`, or there is no memory for it
pub record RefusesMany {V E : Type 0} (reads : List ℕ → V → ℕ → Type 0)
    (refuses : List ℕ → E → Type 0) (gives : Error → E → Type 0) (buffer : List ℕ)
    (from count stop : ℕ) (e : E) : Type 0 where
  pub values : List V
  pub fewer : length values < count
  pub each : ReadsAll reads buffer from values stop
  pub error : RefusesAt refuses (PastEnd gives) buffer stop e
      ⊎ LacksMemory reads gives buffer stop e

-- the value at the offset `stop` has no bytes, or its size goes past the end; the error `e` is made
-- of a `BadInput` with that size
pub record RefusesSize {V E : Type 0} (reads : List ℕ → V → ℕ → Type 0)
    (gives : Error → E → Type 0) (buffer : List ℕ) (stop : ℕ) (e : E) : Type 0 where
  pub value : V
  pub size : ℕ
  pub read : ReadsAt reads buffer stop value size
  pub wrong : (size ≡ 0) ⊎ (length buffer < stop + size)
  pub error : Error
  pub is : IsBadInput error size (codes "a value of no bytes, or past the end")
  pub made : gives error e

-- some values are read so, none of them ends at the end, and the next, at `stop`, fails with `e`,
-- has no bytes or goes past the end, or there is no memory for it. Its size is then that of a
-- `BadInput` with the message `a value of no bytes, or past the end`
pub record RefusesToEnd {V E : Type 0} (reads : List ℕ → V → ℕ → Type 0)
    (refuses : List ℕ → E → Type 0) (gives : Error → E → Type 0) (buffer : List ℕ)
    (from stop : ℕ) (e : E) : Type 0 where
  pub values : List V
  pub each : ReadsAll (WithBytes reads) buffer from values stop
  pub more : stop ≢ length buffer
  pub error : RefusesAt refuses (PastEnd gives) buffer stop e
      ⊎ LacksMemory (WithBytes reads) gives buffer stop e ⊎ RefusesSize reads gives buffer stop e

-- the values of `all` before some value are written one after another from `from`, and the write of
-- that one, at `stop`, fails with `e` and leaves `new`
pub record FailsMany {V E : Type 0} (writes : V → List ℕ → List ℕ → ℕ → Type 0)
    (refuses : V → List ℕ → List ℕ → E → Type 0) (gives : Error → E → Type 0) (old : List ℕ)
    (from : ℕ) (all : List V) (new : List ℕ) (stop : ℕ) (e : E) : Type 0 where
  pub values : List V
  pub value : V
  pub others : List V
  pub split : all ≡ values ++ value ∷ others
  pub mid : List ℕ
  pub each : WritesAll writes old from values mid stop
  pub error : RefusesWriteAt (refuses value) (PastEnd gives) mid stop new e

-- those before one of them are written, and `refuses` holds of that one, `stop` and `e`
pub record StopsBefore {V E : Type 0} (writes : V → List ℕ → List ℕ → ℕ → Type 0)
    (refuses : V → ℕ → E → Type 0) (old : List ℕ) (from : ℕ) (all : List V) (new : List ℕ)
    (stop : ℕ) (e : E) : Type 0 where
  pub values : List V
  pub value : V
  pub others : List V
  pub split : all ≡ values ++ value ∷ others
  pub each : WritesAll writes old from values new stop
  pub error : refuses value stop e

-- an entry describes the value and says the offset `stop`, and `e` says that there is no memory for
-- it
pub record LacksEntry {P V E : Type 0} (place : P → ℕ) (describes : P → V → Type 0)
    (gives : Error → E → Type 0) (value : V) (stop : ℕ) (e : E) : Type 0 where
  pub entry : P
  pub there : place entry ≡ stop
  pub is : describes entry value
  pub error : gives NoMemory e

-- `WritesPlaced writes place old from entries vs new to`: the values `vs` are written one after
-- another, from `from` to `to`, each at the offset that its entry says
abbrev pub WritesPlaced : {P V : Type 0} → (V → List ℕ → List ℕ → ℕ → Type 0) → (P → ℕ) → List ℕ
    → ℕ → List P → List V → List ℕ → ℕ → Type 0
WritesPlaced writes place old from [] [] new to = (new ≡ old) × (to ≡ from)
WritesPlaced writes place old from [] (v ∷ vs) new to = ⊥
WritesPlaced writes place old from (p ∷ ps) [] new to = ⊥
WritesPlaced writes place old from (p ∷ ps) (v ∷ vs) new to =
    (place p ≡ from)
    × ((mid : List ℕ) × (n : ℕ) × WritesAt (writes v) old from mid n
    × WritesPlaced writes place mid (from + n) ps vs new to)

-- only bytes between the two offsets may differ
pub record ChangesBetween (from to : ℕ) (old new : List ℕ) : Type 0 where
  pub forward : from ≤ to
  pub before : take from new ≡ take from old
  pub after : drop to new ≡ drop to old
  pub len : length new ≡ length old

-- `v` is read between `from` and `to` of `new`, and of each buffer with the same first `to` bytes:
-- whatever is written after it
abbrev pub KeepsOne : {V : Type 0} → (List ℕ → V → ℕ → Type 0) → List ℕ → ℕ → V → ℕ → Type 0
KeepsOne reads new from v to =
    (later : List ℕ) → take to later ≡ take to new → ReadsBetween reads later from to v

-- and so are the values `vs`, one after another
abbrev pub KeepsAll : {V : Type 0} → (List ℕ → V → ℕ → Type 0) → List ℕ → ℕ → List V → ℕ → Type 0
KeepsAll reads new from vs to =
    (later : List ℕ) → take to later ≡ take to new → ReadsAll reads later from vs to

-- `v` is read at the place that the entry says, and is one that it describes
pub record StandsAs {P V : Type 0} (reads : List ℕ → V → ℕ → Type 0) (place : P → ℕ)
    (describes : P → V → Type 0) (buffer : List ℕ) (entry : P) (v : V) : Type 0 where
  pub there : ReadsSome reads buffer (place entry) v
  pub is : describes entry v

-- so are all of `vs`, whatever is written after them
abbrev pub KeepsPlaced : {P V : Type 0} → (List ℕ → V → ℕ → Type 0) → (P → ℕ) → (P → V → Type 0)
    → List ℕ → List P → List V → ℕ → Type 0
KeepsPlaced reads place describes new entries vs to =
    (later : List ℕ) → take to later ≡ take to new
    → AllZip (StandsAs reads place describes later) entries vs

-- the first element is taken: it is made of the first `w` bytes of `old`, and the bytes after these
-- are left
pub record TakesElement {V : Type 0} (w : ℕ) (makes : List ℕ → V → Type 0) (old new : List ℕ)
    (x : V) : Type 0 where
  pub room : w ≤ length old
  pub value : makes old x
  pub rest : new ≡ drop w old

-- an iterator's `next` takes the first element; or there is no whole one, and the bytes are
-- unchanged
abbrev pub YieldsElement : {V : Type 0} → ℕ → (List ℕ → V → Type 0) → List ℕ → Option V → List ℕ
    → Type 0
YieldsElement w makes old r new =
    MatchOption r ((length old / w ≡ 0) × (new ≡ old)) (TakesElement w makes old new)
