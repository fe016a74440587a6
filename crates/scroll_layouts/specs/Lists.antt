-- Lists of values of any size, and what is read of them where they lie.
use Rattle.std.specs.Prelude.{◌≡◌, ◌+◌, ◌<◌, ◌≤◌, ◌⊎◌, ℕ, List, [], ◌∷◌, length, take, drop, codes, Option, Some, None}
use Rattle.scroll.specs.declared.endian.Endian.{Endian}
use Rattle.scroll.specs.declared.error.Error.{Error}
use Rattle.scroll_layouts.specs.Errors.{GivesBadInput}
use Rattle.scroll_layouts.specs.Formats.{Format, reads, refuses, len}
use Rattle.scroll_layouts.specs.OneWay.{one_way}

-- `Items f order s at xs to`: the values `xs` stand one after another from the offset `at` to the
-- offset `to`, and each has a byte
abbrev pub Items : {E X : Type 0} → Format E X → Endian → List ℕ → ℕ → List X → ℕ → Type 0
Items f order s at [] to = at ≡ to
Items f order s at (x ∷ xs) to =
    reads f order s at x × (1 ≤ len f x) × Items f order s (at + len f x) xs to

-- `Items` of some values
pub record SomeItems {E X : Type 0} (f : Format E X) (order : Endian) (s : List ℕ)
    (at to : ℕ) : Type 0 where
  pub values : List X
  pub each : Items f order s at values to

-- a list that was read: its bytes, the order in which its values were read, and their number
pub record ListValue : Type 0 where
  pub bytes : List ℕ
  pub order : Endian
  pub count : ℕ

-- a table that was read: its bytes, and the order in which its elements are read
pub record TableValue : Type 0 where
  pub bytes : List ℕ
  pub order : Endian

-- `Items` of `n` values
pub record CountedItems {E X : Type 0} (f : Format E X) (order : Endian) (s : List ℕ)
    (at to n : ℕ) : Type 0 where
  pub values : List X
  pub each : Items f order s at values to
  pub count : length values ≡ n

-- `StandsIn f order s x`: a value that begins the bytes `s` is read, in the same order, at each
-- offset of a source from which on it has these bytes
abbrev pub StandsIn : {E X : Type 0} → Format E X → Endian → List ℕ → X → Type 0
StandsIn f order s x = (same : Endian) (o : ℕ) (t : List ℕ) → order ≡ same
    → s ≡ take (length s) (drop o t) → reads f same t o x

-- `YieldsItem f order s found rest`: of a list whose bytes `s` are left, the value at their start
-- is found, and `rest` is left; or none is. If values that are read in one way use `s` up, others
-- use `rest` up, and none is found only where `s` has no byte
abbrev pub YieldsItem : {E X : Type 0} → Format E X → Endian → List ℕ → Option X → List ℕ
    → Type 0
YieldsItem f order s (Some x) rest =
    reads f order s 0 x × (1 ≤ len f x) × (len f x ≤ length s) × (rest ≡ drop (len f x) s)
    × StandsIn f order s x
    × (one_way f → ∥ SomeItems f order s 0 (length s) ∥₁
    → ∥ SomeItems f order rest 0 (length rest) ∥₁)
YieldsItem f order s None rest =
    (rest ≡ s) × (one_way f → ∥ SomeItems f order s 0 (length s) ∥₁ → length s ≡ 0)

-- the value at the offset `stop` is refused; or it has no byte, which is `BadInput` with the offset
-- and the message `a value has no bytes`
abbrev pub StopsAtItem : {E X : Type 0} → (Error → E → Type 0) → Format E X → Endian → List ℕ → ℕ
    → E → Type 0
StopsAtItem {E} {X} gives f order s stop e =
    refuses f order s stop e
    ⊎ ((x : X) × reads f order s stop x × (len f x ≡ 0)
    × GivesBadInput gives stop (codes "a value has no bytes") e)

-- after some values, and before the end of the bytes, the next one is refused or has no byte
pub record RefusesItems {E X : Type 0} (gives : Error → E → Type 0) (f : Format E X)
    (order : Endian) (s : List ℕ) (e : E) : Type 0 where
  pub stop : ℕ
  pub before : SomeItems f order s 0 stop
  pub more : stop < length s
  pub error : StopsAtItem gives f order s stop e

-- after fewer than `n` values, the next one is refused or has no byte
pub record RefusesCounted {E X : Type 0} (gives : Error → E → Type 0) (f : Format E X)
    (order : Endian) (n : ℕ) (s : List ℕ) (e : E) : Type 0 where
  pub stop : ℕ
  pub done : ℕ
  pub before : CountedItems f order s 0 stop done
  pub fewer : done < n
  pub error : StopsAtItem gives f order s stop e
