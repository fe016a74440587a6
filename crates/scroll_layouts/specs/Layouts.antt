-- Values of a fixed size. A layout says what stands in their bytes: a number, an array, or fields,
-- one after another.
use Rattle.std.specs.Prelude.{◌≡◌, ◌<◌, ◌+◌, ◌*◌, ◌^◌, ◌++◌, ⊤, T, ℕ, List, length, drop, ℤ, pos, neg_ℤ, ◌*ℤ◌, ◌≤ℤ◌, ◌<ℤ◌}
use Rattle.std.specs.Float.{Float, Format}
use Rattle.std.specs.Float.Ieee as ieee
use Rattle.std.specs.List.{All, flat_map}
use Rattle.scroll.specs.Arrays.{MakesArray}
use Rattle.scroll.specs.Fixed.{exactly}
use Rattle.scroll.specs.Numbers.{number, number_bytes, signed_number, signed_bytes, float, float_bytes, float_width}
use Rattle.scroll.specs.declared.endian.Endian.{Endian}

-- what stands in the bytes of a value: an unsigned or a signed number of `w` bytes, a float, `n`
-- values one after another, a value and the one after it, or a value that is its parts: `get` takes
-- these out of it, and `unique` says that no other value has them
pub data Layout : Type 0 → Type 1 where
  unsigned : ℕ → Layout ℕ
  signed : ℕ → Layout ℤ
  floating : Format → Layout Float
  array : {P : Type 0} → ℕ → Layout P → Layout (List P)
  both : {A B : Type 0} → Layout A → Layout B → Layout (A × B)
  shaped : {X P : Type 0} → Layout P → (get : X → P) → ((x y : X) → get x ≡ get y → x ≡ y)
      → Layout X

-- `width p`: how many bytes a value has
abbrev pub width : {X : Type 0} → Layout X → ℕ
width (unsigned w) = w
width (signed w) = w
width (floating form) = float_width form
width (array n p) = width p * n
width (both p q) = width p + width q
width (shaped p get unique) = width p

-- `laid_bytes p order x`: the bytes of a value: those of its fields, one after another
abbrev pub laid_bytes : {X : Type 0} → Layout X → Endian → X → List ℕ
laid_bytes (unsigned w) order x = number_bytes order w x
laid_bytes (signed w) order x = signed_bytes order w x
laid_bytes (floating form) order x = float_bytes form order x
laid_bytes (array n p) order xs = exactly (width p * n) (flat_map (laid_bytes p order) xs)
laid_bytes (both p q) order x = laid_bytes p order x.0 ++ laid_bytes q order x.1
laid_bytes (shaped p get unique) order x = laid_bytes p order (get x)

-- `makes p order s at x`: the bytes of `s` from the offset `at` on make the value `x`, each field
-- those behind the fields before it
abbrev pub makes : {X : Type 0} → Layout X → Endian → List ℕ → ℕ → X → Type 0
makes (unsigned w) order s at x = x ≡ number order w (drop at s)
makes (signed w) order s at x = x ≡ signed_number order w (drop at s)
makes (floating form) order s at x = x ≡ float form order (drop at s)
makes (array n p) order s at xs =
    MakesArray (width p) (λ t x. makes p order t 0 x) n (drop at s) xs
makes (both p q) order s at x = makes p order s at x.0 × makes q order s (at + width p) x.1
makes (shaped p get unique) order s at x = makes p order s at (get x)

-- `fits p x`: each field has the range of its type, which a law can't know of any number
abbrev pub fits : {X : Type 0} → Layout X → X → Type 0
fits (unsigned w) x = x < 256 ^ w
fits (signed w) x =
    (neg_ℤ (pos (256 ^ w)) ≤ℤ (pos 2 *ℤ x)) × ((pos 2 *ℤ x) <ℤ pos (256 ^ w))
fits (floating form) x = T (ieee.fits form x)
fits (array n p) xs = (length xs ≡ n) × All (fits p) xs
fits (both p q) x = fits p x.0 × fits q x.1
fits (shaped p get unique) x = fits p (get x)

-- `exact_layout p`: a value is written back byte for byte as it was read: it has no float, since
-- every NaN is read as the one NaN
abbrev pub exact_layout : {X : Type 0} → Layout X → Type 0
exact_layout (unsigned w) = ⊤
exact_layout (signed w) = ⊤
exact_layout (floating form) = ⊥
exact_layout (array n p) = exact_layout p
exact_layout (both p q) = exact_layout p × exact_layout q
exact_layout (shaped p get unique) = exact_layout p

-- `same_fields p x y`: each field of the one value is that of the other
abbrev pub same_fields : {X : Type 0} → Layout X → X → X → Type 0
same_fields (unsigned w) x y = x ≡ y
same_fields (signed w) x y = x ≡ y
same_fields (floating form) x y = x ≡ y
same_fields (array n p) xs ys = xs ≡ ys
same_fields (both p q) x y = same_fields p x.0 y.0 × same_fields q x.1 y.1
same_fields (shaped p get unique) x y = same_fields p (get x) (get y)
