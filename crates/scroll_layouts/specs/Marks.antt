-- Lists that end with a mark, such as a zero byte in the place of a value.
use Rattle.std.specs.Prelude.{◌≡◌, ◌≢◌, ◌+◌, ◌<◌, ◌≤◌, ◌⊎◌, ◌++◌, ℕ, List, [], ◌∷◌, length, take, drop, codes, Option, Some, None}
use Rattle.scroll.specs.declared.endian.Endian.{Endian}
use Rattle.scroll.specs.declared.error.Error.{Error}
use Rattle.scroll.specs.declared.error.Error.TheVariants.{NoMemory, BadOffset}
use Rattle.scroll_layouts.specs.Errors.{GivesBadInput}
use Rattle.scroll_layouts.specs.Formats.{Format, reads, len}
use Rattle.scroll_layouts.specs.Lists.{StopsAtItem, StandsIn}
use Rattle.scroll_layouts.specs.OneWay.{one_way}

-- a kind of mark: the size of the one that some bytes begin with, if they begin with one. It is
-- within them, and depends on its own bytes alone; and where one stands further on, the bytes up to
-- its end say that there is none before
pub record Mark : Type 0 where
  pub size : List ℕ → Option ℕ
  pub inside : (s : List ℕ) (n : ℕ) → size s ≡ Some n → n ≤ length s
  pub found : (s t : List ℕ) (n : ℕ) → size s ≡ Some n → n ≤ length t → take n t ≡ take n s
      → size t ≡ Some n
  pub none : (s t : List ℕ) (k n : ℕ) → size s ≡ None → size (drop k s) ≡ Some n
      → k + n ≤ length s → k + n ≤ length t → take (k + n) t ≡ take (k + n) s → size t ≡ None

-- `ItemsBefore mark f order s at xs to`: the values `xs` stand one after another from the offset
-- `at` to the offset `to`, each has a byte, and no mark stands where one of them begins
abbrev pub ItemsBefore : {E X : Type 0} → Mark → Format E X → Endian → List ℕ → ℕ → List X → ℕ
    → Type 0
ItemsBefore mark f order s at [] to = at ≡ to
ItemsBefore mark f order s at (x ∷ xs) to =
    (mark.size (drop at s) ≡ None) × reads f order s at x × (1 ≤ len f x)
    × ItemsBefore mark f order s (at + len f x) xs to

-- `ItemsBefore` of some values
pub record SomeBefore {E X : Type 0} (mark : Mark) (f : Format E X) (order : Endian) (s : List ℕ)
    (to : ℕ) : Type 0 where
  pub values : List X
  pub each : ItemsBefore mark f order s 0 values to

-- `ItemsBefore` of `n` values
pub record CountedBefore {E X : Type 0} (mark : Mark) (f : Format E X) (order : Endian)
    (s : List ℕ) (to n : ℕ) : Type 0 where
  pub values : List X
  pub each : ItemsBefore mark f order s 0 values to
  pub count : length values ≡ n

-- a mark stands between two offsets
pub record MarkEnds (mark : Mark) (s : List ℕ) (at end : ℕ) : Type 0 where
  pub size : ℕ
  pub there : mark.size (drop at s) ≡ Some size
  pub whole : end ≡ at + size

-- a source begins with these values and a mark, which ends at the offset `end`
pub record MarkedList {E X : Type 0} (mark : Mark) (f : Format E X) (order : Endian)
    (s : List ℕ) (values : List X) (end : ℕ) : Type 0 where
  pub stop : ℕ
  pub each : ItemsBefore mark f order s 0 values stop
  pub ends : MarkEnds mark s stop end

-- with some values and a mark
abbrev pub MarkedItems : {E X : Type 0} → Mark → Format E X → Endian → List ℕ → ℕ → Type 0
MarkedItems {E} {X} mark f order s end = (values : List X) × MarkedList mark f order s values end

-- with `n` values and a mark
abbrev pub CountedMarked : {E X : Type 0} → Mark → Format E X → Endian → List ℕ → ℕ → ℕ → Type 0
CountedMarked {E} {X} mark f order s end n =
    (values : List X) × MarkedList mark f order s values end × (length values ≡ n)

-- after some values, where no mark stands, the next one is refused or has no byte
pub record RefusesMarked {E X : Type 0} (gives : Error → E → Type 0) (mark : Mark)
    (f : Format E X) (order : Endian) (s : List ℕ) (e : E) : Type 0 where
  pub stop : ℕ
  pub before : SomeBefore mark f order s stop
  pub other : mark.size (drop stop s) ≡ None
  pub error : StopsAtItem gives f order s stop e

-- bytes aren't a list up to a mark: a value before it is refused; or they have some after it, which
-- is `BadInput` with the offset where it ends and the message `another length than its values`
abbrev pub RefusesToMark : {E X : Type 0} → (Error → E → Type 0) → Mark → Format E X → Endian
    → List ℕ → E → Type 0
RefusesToMark gives mark f order s e =
    RefusesMarked gives mark f order s e
    ⊎ ((end : ℕ) × MarkedItems mark f order s end × (end ≢ length s)
    × GivesBadInput gives end (codes "another length than its values") e)

-- the values of the list `bytes` are appended to `old`
abbrev pub AppendsList : {E X : Type 0} → Mark → Format E X → Endian → List ℕ → List X → List X
    → Type 0
AppendsList {E} {X} mark f order bytes old new =
    (values : List X) × MarkedList mark f order bytes values (length bytes)
    × (new ≡ old ++ values)

-- after the values `found`, no mark stands, and the next one is refused or has no byte, or there is
-- no memory for it, and the vector had room for `room` values at most
pub record StopsList {E X : Type 0} (gives : Error → E → Type 0) (room : ℕ) (mark : Mark)
    (f : Format E X) (order : Endian) (s : List ℕ) (found : List X) (stop : ℕ) (e : E)
    : Type 0 where
  pub each : ItemsBefore mark f order s 0 found stop
  pub other : mark.size (drop stop s) ≡ None
  pub error : StopsAtItem gives f order s stop e
      ⊎ ((x : X) × reads f order s stop x × (room ≤ length found) × gives NoMemory e)

-- a list from the offset `from` on stops so at the offset `at`; or `from` is past the end
pub record RefusesList {E X : Type 0} (gives : Error → E → Type 0) (room : ℕ) (mark : Mark)
    (f : Format E X) (order : Endian) (s : List ℕ) (from : ℕ) (found : List X) (at : ℕ)
    (e : E) : Type 0 where
  pub why : ((length s < from) × (found ≡ []) × (at ≡ from) × gives (BadOffset from) e)
      ⊎ ((stop : ℕ) × (at ≡ from + stop)
      × StopsList gives room mark f order (drop from s) found stop e)

-- `YieldsMarked mark f order s found rest`: of a list whose bytes `s` are left, the value at their
-- start is found, and `rest` is left; or none is. If `s` is a list up to a mark of values that are
-- read in one way, so is `rest`, and none is found only where `s` is the mark
abbrev pub YieldsMarked : {E X : Type 0} → Mark → Format E X → Endian → List ℕ → Option X → List ℕ
    → Type 0
YieldsMarked mark f order s (Some x) rest =
    (mark.size s ≡ None) × reads f order s 0 x × (1 ≤ len f x) × (len f x ≤ length s)
    × (rest ≡ drop (len f x) s) × StandsIn f order s x
    × (one_way f → ∥ MarkedItems mark f order s (length s) ∥₁
    → ∥ MarkedItems mark f order rest (length rest) ∥₁)
YieldsMarked mark f order s None rest =
    (rest ≡ s)
    × (one_way f → ∥ MarkedItems mark f order s (length s) ∥₁ → mark.size s ≡ Some (length s))
