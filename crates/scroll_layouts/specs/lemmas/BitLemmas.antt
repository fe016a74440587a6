-- What fields of bits cite for their laws. The lemmas are proved, and promise nothing.
use Rattle.std.proofs.Common.{◌≡◌, ℕ, suc, ◌+◌, ◌*◌, ◌/◌, ◌%◌, ◌<◌, sym, ap, subst, ◌∙◌, arith}
use Rattle.std.proofs.lemmas.Nat.{div-mul-add, div-add-mod'}
use Rattle.std.proofs.Math.Nat.{mod-lt}
use Rattle.scroll.specs.lemmas.Frames.{length-number_bytes}
use Rattle.scroll_layouts.specs.lemmas.EqualLemmas.{pair-is}
use Rattle.scroll_layouts.specs.Fields.{Fields, top, below, packed, splits, small, same_bits}

-- the low field of a number
low-field : (x y m : ℕ) → y < m → (x * m + y) % m ≡ y
low-field x y m l =
    let whole : (x * m + y) / m * m + (x * m + y) % m ≡ x * m + y = div-add-mod' (x * m + y) m in
    let high : (x * m + y) / m * m ≡ x * m = ap (λ k. k * m) (div-mul-add x m y l) in
    omega (arith, whole, high)

-- the number that has small fields splits into them
pub splits-packed : {X : Type 0} (f : Fields X) (x : X) (n : ℕ) → small f x → packed f x ≡ n
    → splits f n x
splits-packed top x n h is = is
splits-packed (below f mask) x n h is =
    let l : x.1 < suc mask = omega (arith, h.1) in (
      splits-packed f x.0 (n / suc mask) h.0
          (sym (div-mul-add (packed f x.0) (suc mask) x.1 l) ∙ ap (λ k. k / suc mask) is),
      sym (low-field (packed f x.0) x.1 (suc mask) l) ∙ ap (λ k. k % suc mask) is,
    )

-- a number is the one that has its fields
pub packed-splits : {X : Type 0} (f : Fields X) (n : ℕ) (x : X) → splits f n x → packed f x ≡ n
packed-splits top n x h = h
packed-splits (below f mask) n x h =
    ap (λ k. k * suc mask + x.1) (packed-splits f (n / suc mask) x.0 h.0)
    ∙ ap (λ k. n / suc mask * suc mask + k) h.1 ∙ div-add-mod' n (suc mask)

-- its fields are small
pub splits-small : {X : Type 0} (f : Fields X) (n : ℕ) (x : X) → splits f n x → small f x
splits-small top n x h = tt
splits-small (below f mask) n x h = (
  splits-small f (n / suc mask) x.0 h.0,
  let low : n % suc mask < suc mask = mod-lt n (omega arith) in omega (arith, low, h.1),
)

pub splits-bound : {X : Type 0} (f : Fields X) (n most : ℕ) (x : X) → splits f n x → n < most
    → packed f x < most
splits-bound f n most x h l = subst (λ k. k < most) (sym (packed-splits f n x h)) l

-- a number has one value of each field
pub splits-one : {X : Type 0} (f : Fields X) (n : ℕ) (x y : X) → splits f n x → splits f n y
    → same_bits f x y
splits-one top n x y h k = h ∙ sym k
splits-one (below f mask) n x y h k =
    (splits-one f (n / suc mask) x.0 y.0 h.0 k.0, h.1 ∙ sym k.1)

-- values whose fields are the same are equal
pub bits-is : {X : Type 0} (f : Fields X) (x y : X) → same_bits f x y → x ≡ y
bits-is top x y h = h
bits-is (below f mask) x y h = pair-is x y (bits-is f x.0 y.0 h.0) h.1

pub ruleset word_sizes = (length-number_bytes)
