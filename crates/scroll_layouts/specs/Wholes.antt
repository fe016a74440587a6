-- Values that are read from the start of a source, written to the start of a target, and appended.
use Rattle.std.specs.Prelude.{◌≡◌, ◌≤◌, ◌<◌, ◌-◌, ◌^◌, ◌+◌, ◌⊎◌, ◌++◌, ℕ, List, [], ◌∷◌, length, take, drop, min}
use Rattle.scroll.specs.Bytes.{WritesPrefix, FailsShort}
use Rattle.scroll.specs.declared.endian.Endian.{Endian}
use Rattle.scroll.specs.declared.error.Error.{Error}
use Rattle.scroll.specs.declared.error.Error.TheVariants.{NoMemory}
use Rattle.scroll_layouts.specs.Formats.{Format, reads, len, bytes, agrees, differs}
use Rattle.scroll_layouts.specs.OneWay.{same}

-- a source has a value at its start. That is `reads` once more, which `search` doesn't take apart
-- so: it finds the parts of large values by this, and other facts by `reads`
pub data AtStart {E X : Type 0} (f : Format E X) (order : Endian) (s : List ℕ) : X → Type 0 where
  at_start : (x : X) → reads f order s 0 x → AtStart f order s x

-- a value is read from the first `n` bytes of a source: it agrees, and has `n` bytes. Each value
-- that the source has there is the same. And where the source is the rest of another one from the
-- offset `o` on, what stands in it at an offset stands `o` bytes further in that
pub record ReadsWhole {E X : Type 0} (f : Format E X) (order : Endian) (s : List ℕ) (x : X)
    (n : ℕ) : Type 0 where
  pub value : reads f order s 0 x
  pub agreed : agrees f order x
  pub size : n ≡ len f x
  pub inside : n ≤ length s
  pub count : length (bytes f order x) ≡ n
  pub only : (y : X) → AtStart f order s y → same f x y
  pub one : (y : X) → reads f order s 0 y → same f x y
  pub places : (o w : ℕ) (t : List ℕ) → s ≡ drop o t → drop (o + w) t ≡ drop w s

-- the same, and the bytes of the value are those that were read
pub record ReadsExact {E X : Type 0} (f : Format E X) (order : Endian) (s : List ℕ) (x : X)
    (n : ℕ) : Type 0 where
  pub value : reads f order s 0 x
  pub agreed : agrees f order x
  pub size : n ≡ len f x
  pub inside : n ≤ length s
  pub count : length (bytes f order x) ≡ n
  pub back : bytes f order x ≡ take n s
  pub only : (y : X) → AtStart f order s y → same f x y
  pub one : (y : X) → reads f order s 0 y → same f x y
  pub places : (o w : ℕ) (t : List ℕ) → s ≡ drop o t → drop (o + w) t ≡ drop w s

-- a value that was written is read from the first `n` bytes of a source that begins with its bytes
pub record ReadsBack {E X : Type 0} (f : Format E X) (order : Endian) (s : List ℕ) (x : X)
    (n : ℕ) : Type 0 where
  pub value : reads f order s 0 x
  pub agreed : agrees f order x
  pub size : n ≡ len f x
  pub inside : n ≤ length s
  pub count : length (bytes f order x) ≡ n
  pub back : bytes f order x ≡ take n s

-- a value that agrees is written over the start of a target, in `n` bytes. It reads back, whatever
-- is written after it
pub record WritesWhole {E X : Type 0} (f : Format E X) (order : Endian) (x : X) (old new : List ℕ)
    (n : ℕ) : Type 0 where
  pub agreed : agrees f order x
  pub wrote : WritesPrefix (length (bytes f order x)) (bytes f order x) old new n
  pub size : n ≡ len f x
  pub written : take n new ≡ bytes f order x
  pub value : reads f order new 0 x
  pub again : AtStart f order new x
  pub kept : (rest : List ℕ) → AtStart f order (take n new ++ rest) x

-- the target is unchanged: the value doesn't agree; or it agrees, and its bytes have no room, which
-- is `TooBig` with their number, at most the greatest `usize`, and the length of the target
abbrev pub KeepsWhole : {E X : Type 0} → (Error → E → Type 0) → Format E X → Endian → X → List ℕ
    → List ℕ → E → Type 0
KeepsWhole gives f order x old new e =
    (differs f order x e × (new ≡ old))
    ⊎ (agrees f order x × (inner : Error)
    × FailsShort (min (length (bytes f order x)) (2 ^ 64 - 1)) old new inner × gives inner e)

-- the bytes of a value that agrees stand behind those that were there, and it is read there,
-- whatever is appended after it
pub record AppendsWhole {E X : Type 0} (f : Format E X) (order : Endian) (x : X)
    (old new : List ℕ) : Type 0 where
  pub agreed : agrees f order x
  pub is : new ≡ old ++ bytes f order x
  pub size : length new ≡ length old + len f x
  pub value : reads f order (drop (length old) new) 0 x
  pub again : AtStart f order (drop (length old) new) x
  pub kept : (later rest : List ℕ) → later ≡ new ++ rest
      → AtStart f order (drop (length old) later) x

-- `AppendsEach f order old xs new`: the values `xs` are appended, one after another, and each is
-- read where it was appended
abbrev pub AppendsEach : {E X : Type 0} → Format E X → Endian → List ℕ → List X → List ℕ → Type 0
AppendsEach f order old [] new = new ≡ old
AppendsEach f order old (x ∷ xs) new =
    reads f order (drop (length old) new) 0 x
    × AtStart f order (drop (length old) new) x
    × ((mid : List ℕ) × AppendsWhole f order x old mid × AppendsEach f order mid xs new)

-- `LacksRoom gives room f order old x e`: a value agrees, and there is no memory for it behind
-- `old`, and no room in a vector of the capacity `room`
abbrev pub LacksRoom : {E X : Type 0} → (Error → E → Type 0) → ℕ → Format E X → Endian → List ℕ
    → X → E → Type 0
LacksRoom gives room f order old x e =
    agrees f order x × (room < length old + len f x) × gives NoMemory e

-- the values of `all` before some value are appended, and that one doesn't agree, or there is no
-- memory for it
pub record FailsEach {E X : Type 0} (gives : Error → E → Type 0) (room : ℕ) (f : Format E X)
    (order : Endian) (old : List ℕ) (all : List X) (new : List ℕ) (e : E) : Type 0 where
  pub values : List X
  pub value : X
  pub others : List X
  pub split : all ≡ values ++ value ∷ others
  pub each : AppendsEach f order old values new
  pub error : differs f order value e ⊎ LacksRoom gives room f order new value e
