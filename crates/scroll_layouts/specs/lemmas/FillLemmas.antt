-- What texts that are filled up cite for their laws. The lemmas are proved, and promise nothing.
use Rattle.std.proofs.Common.{◌≡◌, ℕ, suc, ◌+◌, ◌-◌, ◌<◌, ◌≤◌, List, ◌∷◌, length, take, drop, get_or, refl, sym, ap, ◌∙◌, arith, length-append, inl, inr, ◌⊎◌}
use Rattle.std.proofs.Math.ListN.{get_or-append}
use Rattle.std.proofs.Math.Seq.{drop-cons, get_or-append_right}
use Rattle.std.proofs.lemmas.Bool.{cases_order}
use Rattle.std.proofs.lemmas.List.{length-replicate, take_at, get_or-replicate}
use Rattle.std.specs.Prelude.{replicate}
use Rattle.scroll_layouts.specs.Fills.{filled, IsText}

pub filled-len : (n d : ℕ) (text : List ℕ) → length text ≤ n → length (filled n d text) ≡ n
filled-len n d text room =
    omega (
      arith,
      length-append text (replicate (n - length text) d),
      length-replicate (n - length text) d,
      room,
    )

-- a byte behind a text fills
behind : (n d : ℕ) (text : List ℕ) (i : ℕ) → length text ≤ i → i < n
    → get_or (filled n d text) i 0 ≡ d
behind n d text i le l =
    get_or-append_right text (replicate (n - length text) d) i 0 le
    ∙ get_or-replicate (n - length text) (i - length text) d 0 (omega (arith, le, l))

-- so the longer of two texts ends with one
longer : (n d : ℕ) (x y : List ℕ) → IsText n d y → filled n d x ≡ filled n d y
    → length x < length y → ⊥
longer n d x y h is l =
    let i : ℕ = length y - 1 in
    let last : i + 1 ≡ length y = omega (arith, l) in
    let inside : i < length y = omega (arith, l) in
    h.ends i last (sym (get_or-append y (replicate (n - length y) d) 0 i inside)
    ∙ ap (λ t. get_or t i 0) (sym is)
    ∙ behind n d x i (omega (arith, l)) (omega (arith, inside, h.room)))

same-len : (n d : ℕ) (x y : List ℕ) → IsText n d x → IsText n d y → filled n d x ≡ filled n d y
    → length x ≡ length y
same-len n d x y h k is = at (cases_order (length x) (length y)) where
  at : (length x ≡ length y) ⊎ ((length x < length y) ⊎ (length y < length x))
      → length x ≡ length y
  at (inl same) = same
  at (inr (inl less)) = absurd (longer n d x y k is less)
  at (inr (inr more)) = absurd (longer n d y x h (sym is) more)

-- bytes are one text, filled up
pub filled-one : (n d : ℕ) (x y : List ℕ) → IsText n d x → IsText n d y
    → filled n d x ≡ filled n d y → x ≡ y
filled-one n d x y h k is =
    let len : length x ≡ length y = same-len n d x y h k is in
    sym (take_at x (replicate (n - length x) d) (length x) refl)
    ∙ ap (take (length x)) is
    ∙ take_at y (replicate (n - length y) d) (length x) (sym len)

-- one more byte that fills
pub fills-more : (d : ℕ) (s : List ℕ) (n m : ℕ) → 0 < n → n ≤ length s → m ≡ n - 1
    → get_or s m 0 ≡ d → drop n s ≡ replicate (length s - n) d
    → drop m s ≡ replicate (length s - m) d
fills-more d s n m some le before is h =
    let next : suc m ≡ n = omega (arith, before, some) in
    let size : length s - m ≡ suc (length s - n) = omega (arith, before, some, le) in
    drop-cons s m 0 (omega (arith, before, some, le))
    ∙ ap (λ b. b ∷ drop (suc m) s) is
    ∙ ap (λ k. d ∷ drop k s) next
    ∙ ap (λ t. d ∷ t) h
    ∙ ap (λ k. replicate k d) (sym size)

pub ruleset filled_sizes = (filled-len)
