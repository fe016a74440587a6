-- Values of one type, one after another behind a head, that are written at once.
use Rattle.std.specs.Prelude.{◌≡◌, ◌-◌, ◌^◌, ◌⊎◌, ◌++◌, ℕ, List, ◌∷◌, length, take, min}
use Rattle.std.specs.List.{All, flat_map}
use Rattle.scroll.specs.Bytes.{WritesPrefix, FailsShort}
use Rattle.scroll.specs.Reads.{ReadsAll}
use Rattle.scroll.specs.declared.endian.Endian.{Endian}
use Rattle.scroll.specs.declared.error.Error.{Error}
use Rattle.scroll_layouts.specs.Formats.{Format, reads, len, bytes, agrees, differs}
use Rattle.scroll_layouts.specs.Wholes.{ReadsBack}

-- the bytes of a head and of the values behind it
abbrev pub list_bytes : {E A X : Type 0} → Format E A → Format E X → Endian → A → List X → List ℕ
list_bytes h f order head xs = bytes h order head ++ flat_map (bytes f order) xs

-- a head is read at the start of a source, and the values behind it, one after another, up to the
-- offset `n`
pub record ReadsList {E A X : Type 0} (h : Format E A) (f : Format E X) (order : Endian)
    (s : List ℕ) (head : A) (xs : List X) (n : ℕ) : Type 0 where
  pub first : reads h order s 0 head
  pub each : ReadsAll (ReadsBack f order) s (len h head) xs n

-- a head and values that agree are written over the start of a target, in `n` bytes. They read
-- back, whatever is written after them
pub record WritesList {E A X : Type 0} (h : Format E A) (f : Format E X) (order : Endian) (head : A)
    (xs : List X) (old new : List ℕ) (n : ℕ) : Type 0 where
  pub agreed : agrees h order head
  pub all : All (agrees f order) xs
  pub wrote : WritesPrefix (length (list_bytes h f order head xs)) (list_bytes h f order head xs)
      old new n
  pub again : ReadsList h f order new head xs n
  pub kept : (rest : List ℕ) → ReadsList h f order (take n new ++ rest) head xs n

-- the values before one of them agree, and that one doesn't
pub record DiffersOne {E X : Type 0} (f : Format E X) (order : Endian) (all : List X)
    (e : E) : Type 0 where
  pub values : List X
  pub value : X
  pub others : List X
  pub split : all ≡ values ++ value ∷ others
  pub before : All (agrees f order) values
  pub error : differs f order value e

-- the target is unchanged: the head doesn't agree, or one of the values; or all agree, and their
-- bytes have no room, which is `TooBig` with their number, at most the greatest `usize`, and the
-- length of the target
abbrev pub KeepsList : {E A X : Type 0} → (Error → E → Type 0) → Format E A → Format E X → Endian
    → A → List X → List ℕ → List ℕ → E → Type 0
KeepsList gives h f order head xs old new e =
    (differs h order head e × (new ≡ old))
    ⊎ (agrees h order head × DiffersOne f order xs e × (new ≡ old))
    ⊎ (agrees h order head × All (agrees f order) xs × (inner : Error)
    × FailsShort (min (length (list_bytes h f order head xs)) (2 ^ 64 - 1)) old new inner
    × gives inner e)
