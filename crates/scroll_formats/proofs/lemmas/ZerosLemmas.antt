-- Zeros depend only on the bytes that they take, and a read of them has exactly one result.
use Rattle.std.proofs.Common.{◌≡◌, ℕ, List, length, ap, ◌∙◌, arith, ◌<◌, refl, sym, subst, inl, inr, ◌⊎◌, codes, ◌≢◌, zero, suc, slice_index, get_or}
use Rattle.std.proofs.lemmas.Bool.{cases_lt}
use Rattle.std.proofs.lemmas.List.{get_or-take}
use Rattle.scroll.proofs.lemmas.callers.OwnTypes.{one-Ok, one-Err, same-bad_input, same-too_big}
use Rattle.scroll.specs.Errors.{IsBadInput}
use Rattle.scroll.specs.Laws.{AllowsOne, IsLocal, IsWithin, SameError}
use Rattle.scroll_formats.specs.Zeros.{ReadsZeros, RefusesZeros}
use Rattle.scroll_formats.specs.declared.zeros.Zeros.{Zeros}
use Rattle.scroll.specs.declared.error.Error.TheVariants.{BadInput, TooBig}

pub local-zeros : (n : ℕ) → IsLocal (λ s (_ : Zeros) m. ReadsZeros n s m)
local-zeros n s t v m r h long e = record {
  room = omega (arith, r.room, long);
  zero = λ i l.
      let inside : i < m = omega (arith, l, r.size) in
      sym (get_or-take m t i 0 inside) ∙ ap (λ x. get_or x i 0) e ∙ get_or-take m s i 0 inside
      ∙ r.zero i l;
  size = r.size;
}

pub within-zeros : (n : ℕ) → IsWithin (λ s (_ : Zeros) m. ReadsZeros n s m)
within-zeros n s v m r = omega (arith, r.room, r.size)

-- the first n bytes are zero, or one of them is the first that is not
abbrev FirstNonzero : ℕ → List ℕ → Type 0
FirstNonzero n s =
    (index : ℕ) × (index < n) × ((i : ℕ) → i < index → slice_index s i ≡ 0)
    × (slice_index s index ≢ 0)

first_nonzero : (n : ℕ) (s : List ℕ) → ((i : ℕ) → i < n → slice_index s i ≡ 0) ⊎ FirstNonzero n s
first_nonzero zero s = inl (λ i l. absurd (omega (arith, l)))
first_nonzero (suc n) s =
    elim (first_nonzero n s)
    as (λ _. ((i : ℕ) → i < suc n → slice_index s i ≡ 0) ⊎ FirstNonzero (suc n) s) [
      | inl all ↦
          elim (cases_lt 0 (slice_index s n))
          as (λ _. ((i : ℕ) → i < suc n → slice_index s i ≡ 0) ⊎ FirstNonzero (suc n) s) [
            | inl more ↦ inr (n, omega arith, all, λ e. absurd (omega (arith, more, e)))
            | inr none ↦ inl (λ i l. elim (cases_lt i n) as (λ _. slice_index s i ≡ 0) [
              | inl before ↦ all i before
              | inr there ↦ let same : i ≡ n = omega (arith, l, there) in
                  let last : slice_index s n ≡ 0 = omega (arith, none) in
                  ap (slice_index s) same ∙ last
            ])
          ]
      | inr first ↦ inr (first.0, omega (arith, first.1), first.2, first.3)
    ]

first-same : (s : List ℕ) (a b : ℕ) → ((i : ℕ) → i < a → slice_index s i ≡ 0) → slice_index s a ≢ 0
    → ((i : ℕ) → i < b → slice_index s i ≡ 0) → slice_index s b ≢ 0 → a ≡ b
first-same s a b before one before' one' = elim (cases_lt a b) as (λ _. a ≡ b) [
  | inl l ↦ absurd (one (before' a l))
  | inr h ↦
      elim (cases_lt b a) as (λ _. a ≡ b) [
        | inl l ↦ absurd (one' (before b l))
        | inr h' ↦ omega (arith, h, h')
      ]
]

module _ (n : ℕ) (s : List ℕ) where
  abbrev Taken : Zeros → ℕ → Type 0
  Taken v m = ReadsZeros n s m

  pub one-zeros : AllowsOne Taken (RefusesZeros n s)
  one-zeros = elim (cases_lt (length s) n) as (λ _. AllowsOne Taken (RefusesZeros n s)) [
    | inl short ↦
        one-Err Taken (RefusesZeros n s) (TooBig n (length s))
        (inl (record { short = short; error = refl }))
        (λ v m r. absurd (omega (arith, short, r.room)))
        (λ d r. elim r as (λ _. SameError d (TooBig n (length s))) [
          | inl r ↦ same-too_big d n (length s) r.error
          | inr r ↦ absurd (omega (arith, short, r.room))
        ])
    | inr long ↦ elim (first_nonzero n s) as (λ _. AllowsOne Taken (RefusesZeros n s)) [
      | inl all ↦
          one-Ok Taken (RefusesZeros n s) (record {}) n
          (record { room = long; zero = all; size = refl })
          (λ v m r. (refl, r.size))
          (λ e r. elim r as (λ _. ⊥) [
            | inl r ↦ absurd (omega (arith, long, r.short))
            | inr r ↦ r.nonzero (all r.index r.inside)
          ])
      | inr first ↦
          one-Err Taken (RefusesZeros n s)
          (BadInput first.0 (record { ref_ptr = (0, 0); now = codes "padding is not zero" }))
          (inr (record {
            index = first.0;
            room = long;
            inside = first.1;
            before = first.2;
            nonzero = first.3;
            error = (refl, refl);
          }))
          (λ v m r. absurd (first.3 (r.zero first.0 first.1)))
          (λ d r. elim r as (λ _. SameError d
          (BadInput first.0 (record { ref_ptr = (0, 0); now = codes "padding is not zero" }))) [
            | inl r ↦ absurd (omega (arith, long, r.short))
            | inr r ↦
                let same = first-same s r.index first.0 r.before r.nonzero first.2 first.3 in
                same-bad_input d first.0 (codes "padding is not zero")
                (subst (λ p. IsBadInput d p (codes "padding is not zero")) same r.error)
          ])
    ]
  ]
