-- How a number is fields of some bits.
use Rattle.std.specs.Prelude.{◌≡◌, ◌+◌, ◌*◌, ◌/◌, ◌%◌, ◌<◌, ◌≤◌, ◌⊎◌, ⊤, ℕ, suc, codes}
use Rattle.scroll.specs.declared.error.Error.{Error}
use Rattle.scroll_layouts.specs.Errors.{GivesBadInput}

-- the fields of a number from its highest bits on: the highest field; or others, and below them one
-- that is at most `mask`
pub data Fields : Type 0 → Type 1 where
  top : Fields ℕ
  below : {A : Type 0} → Fields A → ℕ → Fields (A × ℕ)

-- `packed f x`: the number that has these fields
abbrev pub packed : {X : Type 0} → Fields X → X → ℕ
packed top x = x
packed (below f mask) x = packed f x.0 * suc mask + x.1

-- `splits f n x`: the number `n` has these fields
abbrev pub splits : {X : Type 0} → Fields X → ℕ → X → Type 0
splits top n x = x ≡ n
splits (below f mask) n x = splits f (n / suc mask) x.0 × (x.1 ≡ n % suc mask)

-- `small f x`: each field but the highest is at most its mask
abbrev pub small : {X : Type 0} → Fields X → X → Type 0
small top x = ⊤
small (below f mask) x = small f x.0 × (x.1 ≤ mask)

-- `highest f x`: the highest field
abbrev pub highest : {X : Type 0} → Fields X → X → ℕ
highest top x = x
highest (below f mask) x = highest f x.0

-- `same_bits f x y`: each field of the one is that of the other
abbrev pub same_bits : {X : Type 0} → Fields X → X → X → Type 0
same_bits top x y = x ≡ y
same_bits (below f mask) x y = same_bits f x.0 y.0 × (x.1 ≡ y.1)

-- `TooLarge gives f x e`: the first field, from the highest on, that is above its mask is
-- `BadInput` with the field and the message `a field has more bits`
abbrev pub TooLarge : {E X : Type 0} → (Error → E → Type 0) → Fields X → X → E → Type 0
TooLarge gives top x e = ⊥
TooLarge gives (below f mask) x e =
    TooLarge gives f x.0 e
    ⊎ (small f x.0 × (mask < x.1) × GivesBadInput gives x.1 (codes "a field has more bits") e)
