-- Arrays of values whose layout says what `Fixed` says of them. The lemmas are proved, and promise
-- nothing.
use Rattle.std.proofs.Common.{◌≡◌, ℕ, ◌+◌, ◌*◌, ◌<◌, ◌⊎◌, ◌++◌, List, [], ◌∷◌, length, drop, refl, sym, ap, subst, ◌∙◌, arith, inl, inr}
use Rattle.std.proofs.Math.Nat.{eq-or-lt_of_le}
use Rattle.std.proofs.lemmas.List.{get_or_default}
use Rattle.std.specs.List.{flat_map}
use Rattle.std.specs.Prelude.{slice_index_or}
use Rattle.scroll.specs.Arrays.{MakesArray}
use Rattle.scroll.specs.Fixed.{exactly}

-- equal bytes of each element are equal bytes of all
pub elements-same : {V : Type 0} (f g : V → List ℕ) → ((x : V) → f x ≡ g x) → (xs : List V)
    → flat_map f xs ≡ flat_map g xs
elements-same f g same [] = refl
elements-same f g same (x ∷ xs) =
    ap (λ l. l ++ flat_map f xs) (same x) ∙ ap (λ l. g x ++ l) (elements-same f g same xs)

pub array-bytes-same : {V : Type 0} (w v n : ℕ) (f g : V → List ℕ) → w ≡ v
    → ((x : V) → f x ≡ g x) → (xs : List V)
    → exactly (w * n) (flat_map f xs) ≡ exactly (v * n) (flat_map g xs)
array-bytes-same w v n f g is same xs =
    ap (λ k. exactly (k * n) (flat_map f xs)) is
    ∙ ap (λ l. exactly (v * n) l) (elements-same f g same xs)

-- what makes each element makes the array
pub array-makes-same : {V : Type 0} (w v n : ℕ) (makes others : List ℕ → V → Type 0) → w ≡ v
    → ((s : List ℕ) (x : V) → others s x → makes s x) → (s : List ℕ) (xs : List V)
    → MakesArray v others n s xs → MakesArray w makes n s xs
array-makes-same w v n makes others is same s xs h = record {
  len = h.len;
  each = λ i d l. same (drop (w * i) s) (slice_index_or xs i d)
      (subst (λ k. others (drop (k * i) s) (slice_index_or xs i d)) (sym is) (h.each i d l));
}

-- one more element has a property
pub each-next : {X : Type 0} (P : X → Type 0) (xs : List X) (i : ℕ) (e : X) → i < length xs
    → ((k : ℕ) (d : X) → k < i → P (slice_index_or xs k d)) → P (slice_index_or xs i e) → (k : ℕ)
    (d : X) → k < i + 1 → P (slice_index_or xs k d)
each-next P xs i e inside before here k d l = next (eq-or-lt_of_le (omega (arith, l))) where
  next : (k ≡ i) ⊎ (k < i) → P (slice_index_or xs k d)
  next (inl is) = subst (λ j. P (slice_index_or xs j d)) (sym is)
      (subst P (get_or_default xs i e d inside) here)
  next (inr less) = before k d less
