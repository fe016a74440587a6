-- Fixed bytes as a mark. The lemmas are proved, and promise nothing.
use Rattle.std.proofs.Common.{◌≡◌, ℕ, ◌+◌, ◌≤◌, ◌++◌, List, length, take, drop, refl, sym, ap, subst, ◌∙◌, arith, inl, inr, length-append}
use Rattle.std.proofs.lemmas.Bool.{cases_Bool}
use Rattle.std.proofs.lemmas.Bool.Decides.{Decides-eqb}
use Rattle.std.proofs.lemmas.List.{take-append-drop, take-take, take_at}
use Rattle.std.proofs.lemmas.Slice.Eq.{starts_is}
use Rattle.std.specs.List.{starts_with}
use Rattle.std.specs.Prelude.{Bool, true, false, Some, None, nat_eq, if◌then◌else◌}
use Rattle.scroll_layouts.specs.MarkSizes.{bytes_size}

sized : (r : Bool) (m n : ℕ) → (if r then Some m else None) ≡ Some n → (m ≡ n) × (r ≡ true)
sized true m n h = (cc, refl)
sized false m n h = absurd (cc)

unsized : (r : Bool) (m : ℕ) → (if r then Some m else None) ≡ None → r ≡ true → ⊥
unsized true m h is = cc
unsized false m h is = cc

-- where a source begins with bytes, they are its first ones
begun : (b s : List ℕ) → starts_with nat_eq s b ≡ true
    → (take (length b) s ≡ b) × (length b ≤ length s)
begun b s h =
    let is : s ≡ b ++ drop (length b) s =
    (starts_is Decides-eqb s b (starts_with nat_eq s b) refl).0 h in (
      ap (take (length b)) is ∙ take_at b (drop (length b) s) (length b) refl,
      omega (arith, ap length is, length-append b (drop (length b) s)),
    )

begins : (b s : List ℕ) → take (length b) s ≡ b → starts_with nat_eq s b ≡ true
begins b s h =
    (starts_is Decides-eqb s b (starts_with nat_eq s b) refl).1 (drop (length b) s)
    (sym (take-append-drop (length b) s) ∙ ap (λ l. l ++ drop (length b) s) h)

pub begun-inside : (b s : List ℕ) (n : ℕ) → bytes_size b s ≡ Some n → n ≤ length s
begun-inside b s n h =
    let is : (length b ≡ n) × (starts_with nat_eq s b ≡ true) =
    sized (starts_with nat_eq s b) (length b) n h in
    omega (arith, is.0, (begun b s is.1).1)

pub begun-found : (b s t : List ℕ) (n : ℕ) → bytes_size b s ≡ Some n → n ≤ length t
    → take n t ≡ take n s → bytes_size b t ≡ Some n
begun-found b s t n h room same =
    let is : (length b ≡ n) × (starts_with nat_eq s b ≡ true) =
    sized (starts_with nat_eq s b) (length b) n h in
    let there : take (length b) t ≡ b =
    subst (λ k. take k t ≡ take k s) (sym is.0) same ∙ (begun b s is.1).0 in
    ap (λ r. if r then Some (length b) else None) (begins b t there) ∙ ap Some is.0

pub begun-none : (b s t : List ℕ) (k n : ℕ) → bytes_size b s ≡ None
    → bytes_size b (drop k s) ≡ Some n → k + n ≤ length s → k + n ≤ length t
    → take (k + n) t ≡ take (k + n) s → bytes_size b t ≡ None
begun-none b s t k n none is here room same =
    let size : length b ≡ n = (sized (starts_with nat_eq (drop k s) b) (length b) n is).0 in
    let less : length b ≤ k + n = omega (arith, size) in
    let first : take (length b) s ≡ take (length b) t =
    sym (take-take (length b) (k + n) s less) ∙ ap (take (length b)) (sym same)
    ∙ take-take (length b) (k + n) t less in
    elim (cases_Bool (starts_with nat_eq t b)) as (λ _. bytes_size b t ≡ None) [
      | inl there ↦ absurd (unsized (starts_with nat_eq s b) (length b) none
          (begins b s (first ∙ (begun b t there).0)))
      | inr other ↦ ap (λ r. if r then Some (length b) else None) other
    ]
