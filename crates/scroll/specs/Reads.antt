-- Reads at an offset. In a context, a type has two relations: `reads` says which value and size a
-- source may give, and `refuses` which error. Here they speak of the rest of a buffer at an offset;
-- `past_end` says which error an offset past the end may give. Callers that read or write one value
-- after another speak of the bytes between two offsets.
use Rattle.std.specs.Prelude.{◌≡◌, ◌≤◌, ◌<◌, ◌+◌, ℕ, List, [], ◌∷◌, length, take, drop, ◌⊎◌, nat_lt, if◌then◌else◌}

-- each size is at most one more than the source's length
abbrev pub IsBounded : {V : Type 0} → (List ℕ → V → ℕ → Type 0) → Type 0
IsBounded {V} reads = (s : List ℕ) (v : V) (n : ℕ) → reads s v n → n ≤ length s + 1

-- `offset` is at most the buffer's length, and the rest there reads as `v` with the size `n`
pub record ReadsAt {V : Type 0} (reads : List ℕ → V → ℕ → Type 0) (buffer : List ℕ) (offset : ℕ)
    (v : V) (n : ℕ) : Type 0 where
  pub inside : offset ≤ length buffer
  pub value : reads (drop offset buffer) v n

-- `ReadsAt` with some size
abbrev pub ReadsSome : {V : Type 0} → (List ℕ → V → ℕ → Type 0) → List ℕ → ℕ → V → Type 0
ReadsSome reads buffer offset v = (n : ℕ) × ReadsAt reads buffer offset v n

-- `ReadsAt` at `from`, with a size that leads to `to`
abbrev pub ReadsBetween : {V : Type 0} → (List ℕ → V → ℕ → Type 0) → List ℕ → ℕ → ℕ → V → Type 0
ReadsBetween reads buffer from to v = (n : ℕ) × (to ≡ from + n) × ReadsAt reads buffer from v n

-- the offset is past the end, and `past_end` holds of it and `e`; or the read of the rest there
-- fails with `e`
abbrev pub RefusesAt : {E : Type 0} → (List ℕ → E → Type 0) → (ℕ → E → Type 0) → List ℕ → ℕ → E
    → Type 0
RefusesAt refuses past_end buffer offset e =
    ((length buffer < offset) × past_end offset e)
    ⊎ ((offset ≤ length buffer) × refuses (drop offset buffer) e)

-- `ReadsAll reads buffer from vs to`: the values `vs` are read one after another, from `from` to
-- `to`
abbrev pub ReadsAll : {V : Type 0} → (List ℕ → V → ℕ → Type 0) → List ℕ → ℕ → List V → ℕ → Type 0
ReadsAll reads buffer from [] to = to ≡ from
ReadsAll reads buffer from (v ∷ vs) to =
    (n : ℕ) × ReadsAt reads buffer from v n × ReadsAll reads buffer (from + n) vs to

-- a bulk read stops: for some `count` below their number, the first `count` elements of `new` are
-- read between `from` and `to`, the others are those of `old`, and `e` is the error of the next
-- read, at `to`
pub record StopsAt {V E : Type 0} (reads : List ℕ → V → ℕ → Type 0) (refuses : List ℕ → E → Type 0)
    (past_end : ℕ → E → Type 0) (buffer : List ℕ) (from to : ℕ) (old new : List V)
    (e : E) : Type 0 where
  pub count : ℕ
  pub fewer : count < length old
  pub prefix : ReadsAll reads buffer from (take count new) to
  pub others : drop count new ≡ drop count old
  pub error : RefusesAt refuses past_end buffer to e

-- `fact` holds of some context that may be the default; a number's is `Little` alone
abbrev pub ByDefault : {C : Type 0} → (C → Type 0) → (C → Type 0) → Type 0
ByDefault {C} is_default fact = (ctx : C) × is_default ctx × fact ctx

-- the bytes of a `Loads`, and how many loads were made
pub record Loading : Type 0 where
  pub bytes : List ℕ
  pub made : ℕ

-- the bytes are unchanged, and at most `most` loads were made
pub record Loaded (old new : Loading) (most : ℕ) : Type 0 where
  pub same : new.bytes ≡ old.bytes
  pub few : new.made ≤ old.made + most

-- how many a read of LEB128 makes at most: 3 where `s` has eight bytes or more, else one for each
-- byte
abbrev pub max_loads : List ℕ → ℕ
max_loads s = if nat_lt (length s) 8 then length s else 3
