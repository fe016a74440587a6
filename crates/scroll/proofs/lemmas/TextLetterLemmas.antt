-- A text is UTF-8 just where its states end at 0; ASCII in front of it changes nothing.
use Rattle.std.proofs.Common.{◌≡◌, ℕ, zero, suc, ◌+◌, ◌-◌, ◌*◌, ◌/◌, ◌<◌, ◌≤◌, true, nat_eq, eq-eqb, ne_eqb, List, [], ◌∷◌, ◌++◌, length, take, drop, refl, sym, ap, subst, ◌∙◌, inl, inr, arith, le-ltb, le-leb, lt-ltb}
use Rattle.std.proofs.lemmas.Bool.{cases_lt, cases_eq}
use Rattle.std.proofs.lemmas.Str.{encode_ascii, IsUtf8-nil, IsUtf8-append, IsUtf8-encode}
use Rattle.std.specs.Bool.{MatchBool}
use Rattle.std.specs.Str.{IsUtf8, IsAscii}
use lib.Utf8.{scalar, encode, next, low_scalar}
use Rattle.scroll.specs.TextStates.{last_state}
use Rattle.scroll.proofs.lemmas.TextStateLemmas.{Takes, takes_6, takes_12, takes_18, takes_24, takes_30, takes_36, takes_42, after_byte, ascii, two, three, four, of_two, not_first, of_three_low, of_three_high, of_four, past_f4, wrong, ends_at_0, ascii_at_0, blocks_end}

-- ---- from states to letters

one_more : (s lo hi t b : ℕ) (bs : List ℕ) → Takes s lo hi t → last_state s (b ∷ bs) ≡ 0
    → (lo ≤ b) × (b < hi) × (last_state t bs ≡ 0)
one_more s lo hi t b bs f h = elim (f b) [
  | inl k ↦ (k.0, k.1, sym (ap (λ q. last_state q bs) k.2) ∙ h)
  | inr k ↦ let e : 48 ≡ 0 = sym (wrong bs) ∙ (sym (ap (λ q. last_state q bs) k.1) ∙ h) in
      absurd (omega (arith, e))
]

not_wrong : (bs : List ℕ) → last_state 48 bs ≡ 0 → ⊥
not_wrong bs h = let e : 48 ≡ 0 = sym (wrong bs) ∙ h in omega (arith, e)

high_scalar : (c : ℕ) → 57344 ≤ c → c < 1114112 → scalar c ≡ true
high_scalar c l h = rw (le-ltb c 55296 (omega arith), le-leb 57344 c l, lt-ltb c 1114112 h)

letter : (c : ℕ) (front bs : List ℕ) → scalar c ≡ true → encode c ≡ front → IsUtf8 bs
    → IsUtf8 (front ++ bs)
letter c front bs ok e u =
    subst (λ f. IsUtf8 (f ++ bs)) e (IsUtf8-append (encode c) bs (IsUtf8-encode c ok) u)

letter_of_two : (x y : ℕ) (bs : List ℕ) → 194 ≤ x → x < 224 → 128 ≤ y → y < 192 → IsUtf8 bs
    → IsUtf8 (x ∷ y ∷ bs)
letter_of_two x y bs l h m n u =
    let c = (x - 192) * 64 + (y - 128) in
    let p : 192 + c / 64 ≡ x = omega arith in
    let q : next c ≡ y = omega arith in
    letter c (x ∷ y ∷ []) bs (low_scalar c (omega arith))
    (two c (omega arith) (omega arith) ∙ (λ i. p i ∷ q i ∷ [])) u

letter_of_three : (x y z : ℕ) (bs : List ℕ) → 224 ≤ x → x < 240 → 128 ≤ y → y < 192 → 128 ≤ z
    → z < 192 → (x ≡ 224 → 160 ≤ y) → (x ≡ 237 → y < 160) → IsUtf8 bs → IsUtf8 (x ∷ y ∷ z ∷ bs)
letter_of_three x y z bs l h m n v w e0 ed u =
    let c = (x - 224) * 4096 + (y - 128) * 64 + (z - 128) in
    let p : 224 + c / 4096 ≡ x = omega arith in
    let q : next (c / 64) ≡ y = omega arith in
    let r : next c ≡ z = omega arith in
    let long : 2048 ≤ c =
    elim (cases_eq x 224) [ inl e ↦ let k = e0 e in omega arith | inr e ↦ omega arith ] in
    let ok : scalar c ≡ true = elim (cases_lt x 237) [
      | inl e ↦ low_scalar c (omega arith)
      | inr e ↦
          elim (cases_eq x 237) [
            | inl f ↦ let k = ed f in low_scalar c (omega arith)
            | inr f ↦ high_scalar c (omega arith) (omega arith)
          ]
    ] in
    letter c (x ∷ y ∷ z ∷ []) bs ok (three c long (omega arith) ∙ (λ i. p i ∷ q i ∷ r i ∷ [])) u

letter_of_four : (x y z t : ℕ) (bs : List ℕ) → 240 ≤ x → x < 245 → 128 ≤ y → y < 192 → 128 ≤ z
    → z < 192 → 128 ≤ t → t < 192 → (x ≡ 240 → 144 ≤ y) → (x ≡ 244 → y < 144) → IsUtf8 bs
    → IsUtf8 (x ∷ y ∷ z ∷ t ∷ bs)
letter_of_four x y z t bs l h m n v w a b f0 f4 u =
    let c = (x - 240) * 262144 + (y - 128) * 4096 + (z - 128) * 64 + (t - 128) in
    let low : c / 64 ≡ (x - 240) * 4096 + (y - 128) * 64 + (z - 128) = omega arith in
    let p : 240 + c / 262144 ≡ x = omega arith in
    let q : next (c / 4096) ≡ y = omega arith in
    let r : next (c / 64) ≡ z = rw low (omega arith) in
    let s : next c ≡ t = omega arith in
    let long : 65536 ≤ c =
    elim (cases_eq x 240) [ inl e ↦ let k = f0 e in omega arith | inr e ↦ omega arith ] in
    let short : c < 1114112 =
    elim (cases_eq x 244) [ inl e ↦ let k = f4 e in omega arith | inr e ↦ omega arith ] in
    letter c (x ∷ y ∷ z ∷ t ∷ []) bs (high_scalar c (omega arith) short)
    (four c long ∙ (λ i. p i ∷ q i ∷ r i ∷ s i ∷ [])) u

-- the rest of a letter, where the texts of up to `n` bytes are known
module _ (n : ℕ) (texts : (bs : List ℕ) → length bs ≤ n → last_state 0 bs ≡ 0 → IsUtf8 bs) where
  rest_of_two : (x : ℕ) (bs : List ℕ) → length bs ≤ n → 194 ≤ x → x < 224 → last_state 6 bs ≡ 0
      → IsUtf8 (x ∷ bs)
  rest_of_two x [] l a b h = absurd (omega (arith, h))
  rest_of_two x (y ∷ bs) l a b h =
      let k = one_more 6 128 192 0 y bs takes_6 h in
      letter_of_two x y bs a b k.0 k.1 (texts bs (omega arith) k.2)

  rest_of_three : (x y : ℕ) (bs : List ℕ) → length bs ≤ n → 224 ≤ x → x < 240 → 128 ≤ y → y < 192
      → (x ≡ 224 → 160 ≤ y) → (x ≡ 237 → y < 160) → last_state 6 bs ≡ 0 → IsUtf8 (x ∷ y ∷ bs)
  rest_of_three x y [] l a b c d e0 ed h = absurd (omega (arith, h))
  rest_of_three x y (z ∷ bs) l a b c d e0 ed h =
      let k = one_more 6 128 192 0 z bs takes_6 h in
      letter_of_three x y z bs a b c d k.0 k.1 e0 ed (texts bs (omega arith) k.2)

  last_of_four : (x y z : ℕ) (bs : List ℕ) → length bs ≤ n → 240 ≤ x → x < 245 → 128 ≤ y → y < 192
      → 128 ≤ z → z < 192 → (x ≡ 240 → 144 ≤ y) → (x ≡ 244 → y < 144) → last_state 6 bs ≡ 0
      → IsUtf8 (x ∷ y ∷ z ∷ bs)
  last_of_four x y z [] l a b c d v w f0 f4 h = absurd (omega (arith, h))
  last_of_four x y z (t ∷ bs) l a b c d v w f0 f4 h =
      let k = one_more 6 128 192 0 t bs takes_6 h in
      letter_of_four x y z t bs a b c d v w k.0 k.1 f0 f4 (texts bs (omega arith) k.2)

  rest_of_four : (x y : ℕ) (bs : List ℕ) → length bs ≤ n → 240 ≤ x → x < 245 → 128 ≤ y → y < 192
      → (x ≡ 240 → 144 ≤ y) → (x ≡ 244 → y < 144) → last_state 12 bs ≡ 0 → IsUtf8 (x ∷ y ∷ bs)
  rest_of_four x y [] l a b c d f0 f4 h = absurd (omega (arith, h))
  rest_of_four x y (z ∷ bs) l a b c d f0 f4 h =
      let k = one_more 12 128 192 6 z bs takes_12 h in
      last_of_four x y z bs (omega arith) a b c d k.0 k.1 f0 f4 k.2

  second_of_three : (s lo hi x : ℕ) (bs : List ℕ) → Takes s lo hi 6 → 0 < s → length bs ≤ n
      → 224 ≤ x → x < 240 → 128 ≤ lo → hi ≤ 192 → (x ≡ 224 → 160 ≤ lo) → (x ≡ 237 → hi ≤ 160)
      → last_state s bs ≡ 0 → IsUtf8 (x ∷ bs)
  second_of_three s lo hi x [] f p l a b c d e0 ed h = absurd (omega (arith, h, p))
  second_of_three s lo hi x (y ∷ bs) f p l a b c d e0 ed h =
      let k = one_more s lo hi 6 y bs f h in
      let least : x ≡ 224 → 160 ≤ y = λ (e : x ≡ 224). let g = e0 e in omega (arith, g, k.0) in
      let most : x ≡ 237 → y < 160 = λ (e : x ≡ 237). let g = ed e in omega (arith, g, k.1) in
      rest_of_three x y bs (omega arith) a b (omega (arith, k.0)) (omega (arith, k.1)) least most
      k.2

  second_of_four : (s lo hi x : ℕ) (bs : List ℕ) → Takes s lo hi 12 → 0 < s → length bs ≤ n
      → 240 ≤ x → x < 245 → 128 ≤ lo → hi ≤ 192 → (x ≡ 240 → 144 ≤ lo) → (x ≡ 244 → hi ≤ 144)
      → last_state s bs ≡ 0 → IsUtf8 (x ∷ bs)
  second_of_four s lo hi x [] f p l a b c d f0 f4 h = absurd (omega (arith, h, p))
  second_of_four s lo hi x (y ∷ bs) f p l a b c d f0 f4 h =
      let k = one_more s lo hi 12 y bs f h in
      let least : x ≡ 240 → 144 ≤ y = λ (e : x ≡ 240). let g = f0 e in omega (arith, g, k.0) in
      let most : x ≡ 244 → y < 144 = λ (e : x ≡ 244). let g = f4 e in omega (arith, g, k.1) in
      rest_of_four x y bs (omega arith) a b (omega (arith, k.0)) (omega (arith, k.1)) least most k.2

  after_three : (x : ℕ) (bs : List ℕ) → length bs ≤ n → 224 ≤ x → x < 240
      → last_state 0 (x ∷ bs) ≡ 0 → IsUtf8 (x ∷ bs)
  after_three x bs l a b h = elim (cases_eq x 224) [
    | inl e ↦
        second_of_three 24 160 192 x bs takes_24 (omega arith) l a b (omega arith) (omega arith)
        (λ f. omega arith) (λ (f : x ≡ 237). absurd (omega arith))
        (sym (ap (λ x. last_state 0 (x ∷ bs)) e) ∙ h)
    | inr c ↦ elim (cases_eq x 237) [
      | inl e ↦
          second_of_three 30 128 160 x bs takes_30 (omega arith) l a b (omega arith) (omega arith)
          (λ f. absurd (c f)) (λ f. omega arith) (sym (ap (λ x. last_state 0 (x ∷ bs)) e) ∙ h)
      | inr d ↦
          let g : last_state 12 bs ≡ 0 = elim (cases_lt x 237) [
            | inl e ↦ sym (of_three_low x bs (omega arith) e) ∙ h
            | inr e ↦ sym (of_three_high x bs (omega arith) b) ∙ h
          ] in
          second_of_three 12 128 192 x bs takes_12 (omega arith) l a b (omega arith) (omega arith)
          (λ f. absurd (c f)) (λ f. absurd (d f)) g
    ]
  ]

  after_four : (x : ℕ) (bs : List ℕ) → length bs ≤ n → 240 ≤ x → last_state 0 (x ∷ bs) ≡ 0
      → IsUtf8 (x ∷ bs)
  after_four x bs l a h = elim (cases_eq x 240) [
    | inl e ↦
        second_of_four 36 144 192 x bs takes_36 (omega arith) l a (omega arith) (omega arith)
        (omega arith) (λ f. omega arith) (λ (f : x ≡ 244). absurd (omega arith))
        (sym (ap (λ x. last_state 0 (x ∷ bs)) e) ∙ h)
    | inr c ↦ elim (cases_eq x 244) [
      | inl e ↦
          second_of_four 42 128 144 x bs takes_42 (omega arith) l a (omega arith) (omega arith)
          (omega arith) (λ f. absurd (c f)) (λ f. omega arith)
          (sym (ap (λ x. last_state 0 (x ∷ bs)) e) ∙ h)
      | inr d ↦ elim (cases_lt x 244) [
        | inl e ↦
            second_of_four 18 128 192 x bs takes_18 (omega arith) l a (omega arith) (omega arith)
            (omega arith) (λ f. absurd (c f)) (λ f. absurd (d f))
            (sym (of_four x bs (omega arith) e) ∙ h)
        | inr e ↦ absurd (not_wrong bs (sym (past_f4 x bs (omega arith)) ∙ h))
      ]
    ]
  ]

  -- a text of one byte more
  longer : (x : ℕ) (bs : List ℕ) → length bs ≤ n → last_state 0 (x ∷ bs) ≡ 0 → IsUtf8 (x ∷ bs)
  longer x bs l h = elim (cases_lt x 128) [
    | inl a ↦
        letter x (x ∷ []) bs (low_scalar x (omega arith)) (encode_ascii x a)
        (texts bs l (sym (after_byte 0 x 0x30c30c30c30c00 bs (ascii x a)) ∙ h))
    | inr a ↦ elim (cases_lt x 194) [
      | inl b ↦ absurd (not_wrong bs (sym (not_first x bs a b) ∙ h))
      | inr b ↦ elim (cases_lt x 224) [
        | inl c ↦ rest_of_two x bs l b c (sym (of_two x bs b c) ∙ h)
        | inr c ↦
            elim (cases_lt x 240) [
              | inl d ↦ after_three x bs l c d h
              | inr d ↦ after_four x bs l d h
            ]
      ]
    ]
  ]

texts_of : (n : ℕ) (bs : List ℕ) → length bs ≤ n → last_state 0 bs ≡ 0 → IsUtf8 bs
texts_of n [] l h = IsUtf8-nil
texts_of zero (x ∷ bs) l h = absurd (omega arith)
texts_of (suc n) (x ∷ bs) l h = longer n (texts_of n) x bs (omega arith) h

-- what ends at 0 is UTF-8
pub from_0 : (bs : List ℕ) → last_state 0 bs ≡ 0 → IsUtf8 bs
from_0 bs h = texts_of (length bs) bs (omega arith) h

-- ---- the answer

-- bytes whose front is an error are not UTF-8
pub wrong_front : (bs : List ℕ) (n : ℕ) → last_state 0 (take n bs) ≡ 48 → IsUtf8 bs → ⊥
wrong_front bs n e u =
    let at : last_state 0 bs ≡ 48 =
    sym (blocks_end n 0 (last_state 0 (take n bs)) bs (drop n bs) refl refl)
    ∙ (ap (λ q. last_state q (drop n bs)) e ∙ wrong (drop n bs)) in
    let f : 48 ≡ 0 = sym at ∙ ends_at_0 bs u in
    omega (arith, f)

pub judged : (bs : List ℕ) (s : ℕ) → s ≡ last_state 0 bs
    → MatchBool (nat_eq s 0) (IsUtf8 bs) (¬ (IsUtf8 bs))
judged bs s e = elim (cases_eq s 0) as (λ _. MatchBool (nat_eq s 0) (IsUtf8 bs) (¬ (IsUtf8 bs))) [
  | inl h ↦ rw (eq-eqb s 0 h) (from_0 bs (sym e ∙ h))
  | inr h ↦ rw (ne_eqb s 0 h) (λ u. h (e ∙ ends_at_0 bs u))
]

-- bytes behind ASCII are UTF-8 just where all of it is
pub behind_ascii : (bs rest : List ℕ) (n : ℕ) → IsAscii (take n bs) → rest ≡ drop n bs → IsUtf8 bs
    → IsUtf8 rest
behind_ascii bs rest n h e u =
    from_0 rest (blocks_end n 0 0 bs rest (sym (ascii_at_0 (take n bs) h)) e ∙ ends_at_0 bs u)

pub with_ascii : (bs rest : List ℕ) (n : ℕ) → IsAscii (take n bs) → rest ≡ drop n bs → IsUtf8 rest
    → IsUtf8 bs
with_ascii bs rest n h e u =
    from_0 bs (sym (blocks_end n 0 0 bs rest (sym (ascii_at_0 (take n bs) h)) e) ∙ ends_at_0 rest u)
