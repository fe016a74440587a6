-- A text is UTF-8 just where the states of its bytes end at 0.
use Rattle.std.proofs.Common.{◌≡◌, ℕ, suc, take-add, ◌+◌, ◌*◌, ◌/◌, ◌%◌, ◌^◌, ◌<◌, ◌≤◌, ◌⊎◌, true, false, Bool, cond, nat_lt, List, [], ◌∷◌, ◌++◌, length, take, drop, get_or, refl, sym, ap, ◌∙◌, inl, inr, arith, lt-ltb, le-ltb}
use Rattle.std.proofs.Math.Nat.{add-mul}
use Rattle.std.proofs.lemmas.List.{take-append-drop}
use Rattle.std.specs.Simd.{first_chunks}
use Rattle.scroll.proofs.lemmas.SearchLemmas.{block_at}
use Rattle.std.proofs.lemmas.Bool.{cases_lt, cases_eq, and_parts}
use Rattle.std.proofs.lemmas.Str.{encode_ascii}
use Rattle.std.specs.Str.{IsUtf8, IsAscii}
use lib.Utf8.{scalar, scalars, encode, encodes, next, scalar_cases}
use Rattle.scroll.specs.TextStates.{states_after, next_state, last_state}

pub last_state-append : (s : ℕ) (xs ys : List ℕ)
    → last_state s (xs ++ ys) ≡ last_state (last_state s xs) ys
last_state-append s [] ys = refl
last_state-append s (x ∷ xs) ys = last_state-append (next_state s x) xs ys

-- the state after a byte, where the states after it are known
pub after_byte : (s b w : ℕ) (bs : List ℕ) → states_after b ≡ w
    → last_state s (b ∷ bs) ≡ last_state (w / 2 ^ s % 64) bs
after_byte s b w bs e = ap (λ v. last_state (v / 2 ^ s % 64) bs) e

either : (P : ℕ → Type 0) (t : Bool) (x y : ℕ) → P x → P y → P (cond t x y)
either P true x y p q = p
either P false x y p q = q

-- what holds of the states after each byte from C0 on holds of those after all of these bytes
from_c0 : (P : ℕ → Type 0) (b : ℕ) → 192 ≤ b → P 0x30c30c30c30c30 → P 0x30c30c30c30c06
    → P 0x30c30c30c30c18 → P 0x30c30c30c30c0c → P 0x30c30c30c30c1e
    → P 0x30c30c30c30c24 → P 0x30c30c30c30c12 → P 0x30c30c30c30c2a → P (states_after b)
from_c0 P b l never two e0 three ed f0 four f4 =
    rw (
      le-ltb b 128 (omega arith),
      le-ltb b 144 (omega arith),
      le-ltb b 160 (omega arith),
      le-ltb b 192 l,
    )
    (either P (nat_lt b 0xc2) _ _ never
    (either P (nat_lt b 0xe0) _ _ two
    (either P (nat_lt b 0xe1) _ _ e0 (either P (nat_lt b 0xed) _ _ three
    (either P (nat_lt b 0xee) _ _ ed
    (either P (nat_lt b 0xf0) _ _ three
    (either P (nat_lt b 0xf1) _ _ f0 (either P (nat_lt b 0xf4) _ _ four
    (either P (nat_lt b 0xf5) _ _ f4 never)))))))))

pub ascii : (b : ℕ) → b < 128 → states_after b ≡ 0x30c30c30c30c00
ascii b h = rw (lt-ltb b 128 h) refl

next_80 : (b : ℕ) → 128 ≤ b → b < 144 → states_after b ≡ 0x303301b0306030
next_80 b l h = rw (le-ltb b 128 l, lt-ltb b 144 h) refl

next_90 : (b : ℕ) → 144 ≤ b → b < 160 → states_after b ≡ 0x30c0c1b0306030
next_90 b l h = rw (le-ltb b 128 (omega arith), le-ltb b 144 l, lt-ltb b 160 h) refl

next_a0 : (b : ℕ) → 160 ≤ b → b < 192 → states_after b ≡ 0x30c0cc06306030
next_a0 b l h =
    rw (le-ltb b 128 (omega arith), le-ltb b 144 (omega arith), le-ltb b 160 l, lt-ltb b 192 h) refl

-- an error stays
pub wrong : (bs : List ℕ) → last_state 48 bs ≡ 48
wrong [] = refl
wrong (b ∷ bs) = elim (cases_lt b 128) [
  | inl a ↦ after_byte 48 b 0x30c30c30c30c00 bs (ascii b a) ∙ wrong bs
  | inr a ↦ elim (cases_lt b 144) [
    | inl c ↦ after_byte 48 b 0x303301b0306030 bs (next_80 b a c) ∙ wrong bs
    | inr c ↦ elim (cases_lt b 160) [
      | inl d ↦ after_byte 48 b 0x30c0c1b0306030 bs (next_90 b c d) ∙ wrong bs
      | inr d ↦ elim (cases_lt b 192) [
        | inl e ↦ after_byte 48 b 0x30c0cc06306030 bs (next_a0 b d e) ∙ wrong bs
        | inr e ↦
            ap (λ s. last_state s bs)
            (from_c0 (λ w. w / 2 ^ 48 % 64 ≡ 48) b e refl refl refl refl refl refl refl refl)
            ∙ wrong bs
      ]
    ]
  ]
]

-- ---- one byte

-- after the state `s`, of a byte from `lo` on and below `hi` the state is `t`, and of any other an
-- error
abbrev pub Takes : ℕ → ℕ → ℕ → ℕ → Type 0
Takes s lo hi t =
    (b : ℕ) → ((lo ≤ b) × (b < hi) × (next_state s b ≡ t))
    ⊎ (((b < lo) ⊎ (hi ≤ b)) × (next_state s b ≡ 48))

abbrev NotLater : ℕ → Type 0
NotLater w =
    (w / 2 ^ 6 % 64 ≡ 48) × (w / 2 ^ 12 % 64 ≡ 48) × (w / 2 ^ 18 % 64 ≡ 48) × (w / 2 ^ 24 % 64 ≡ 48)
    × (w / 2 ^ 30 % 64 ≡ 48) × (w / 2 ^ 36 % 64 ≡ 48) × (w / 2 ^ 42 % 64 ≡ 48)

not_later : (b : ℕ) → 192 ≤ b → NotLater (states_after b)
not_later b l =
    from_c0 NotLater b l (refl, refl, refl, refl, refl, refl, refl)
    (refl, refl, refl, refl, refl, refl, refl) (refl, refl, refl, refl, refl, refl, refl)
    (refl, refl, refl, refl, refl, refl, refl) (refl, refl, refl, refl, refl, refl, refl)
    (refl, refl, refl, refl, refl, refl, refl)
    (refl, refl, refl, refl, refl, refl, refl) (refl, refl, refl, refl, refl, refl, refl)

-- the states after a byte of a later place, or that it is none
abbrev Kinds : ℕ → Type 0
Kinds b =
    ((b < 128) × (states_after b ≡ 0x30c30c30c30c00))
    ⊎ (((128 ≤ b) × (b < 144) × (states_after b ≡ 0x303301b0306030))
    ⊎ (((144 ≤ b) × (b < 160) × (states_after b ≡ 0x30c0c1b0306030))
    ⊎ (((160 ≤ b) × (b < 192) × (states_after b ≡ 0x30c0cc06306030))
    ⊎ ((192 ≤ b) × NotLater (states_after b)))))

kinds : (b : ℕ) → Kinds b
kinds b = elim (cases_lt b 128) [
  | inl a ↦ inl (a, ascii b a)
  | inr a ↦ elim (cases_lt b 144) [
    | inl c ↦ inr (inl (a, c, next_80 b a c))
    | inr c ↦ elim (cases_lt b 160) [
      | inl d ↦ inr (inr (inl (c, d, next_90 b c d)))
      | inr d ↦ elim (cases_lt b 192) [
        | inl e ↦ inr (inr (inr (inl (d, e, next_a0 b d e))))
        | inr e ↦ inr (inr (inr (inr (e, not_later b e))))
      ]
    ]
  ]
]

-- the state after the state `s`, where the states after the byte are `w`
state_is : (s b w : ℕ) → states_after b ≡ w → next_state s b ≡ w / 2 ^ s % 64
state_is s b w e = ap (λ v. v / 2 ^ s % 64) e

pub takes_6 : Takes 6 128 192 0
takes_6 b = elim (kinds b) [
  | inl k ↦ inr (inl (omega arith), state_is 6 b 0x30c30c30c30c00 k.1)
  | inr (inl k) ↦ inl (k.0, omega arith, state_is 6 b 0x303301b0306030 k.2)
  | inr (inr (inl k)) ↦ inl (omega arith, omega arith, state_is 6 b 0x30c0c1b0306030 k.2)
  | inr (inr (inr (inl k))) ↦ inl (omega arith, k.1, state_is 6 b 0x30c0cc06306030 k.2)
  | inr (inr (inr (inr k))) ↦ inr (inr (omega arith), k.1.0)
]

pub takes_12 : Takes 12 128 192 6
takes_12 b = elim (kinds b) [
  | inl k ↦ inr (inl (omega arith), state_is 12 b 0x30c30c30c30c00 k.1)
  | inr (inl k) ↦ inl (k.0, omega arith, state_is 12 b 0x303301b0306030 k.2)
  | inr (inr (inl k)) ↦ inl (omega arith, omega arith, state_is 12 b 0x30c0c1b0306030 k.2)
  | inr (inr (inr (inl k))) ↦ inl (omega arith, k.1, state_is 12 b 0x30c0cc06306030 k.2)
  | inr (inr (inr (inr k))) ↦ inr (inr (omega arith), k.1.1)
]

pub takes_18 : Takes 18 128 192 12
takes_18 b = elim (kinds b) [
  | inl k ↦ inr (inl (omega arith), state_is 18 b 0x30c30c30c30c00 k.1)
  | inr (inl k) ↦ inl (k.0, omega arith, state_is 18 b 0x303301b0306030 k.2)
  | inr (inr (inl k)) ↦ inl (omega arith, omega arith, state_is 18 b 0x30c0c1b0306030 k.2)
  | inr (inr (inr (inl k))) ↦ inl (omega arith, k.1, state_is 18 b 0x30c0cc06306030 k.2)
  | inr (inr (inr (inr k))) ↦ inr (inr (omega arith), k.1.2)
]

pub takes_24 : Takes 24 160 192 6
takes_24 b = elim (kinds b) [
  | inl k ↦ inr (inl (omega arith), state_is 24 b 0x30c30c30c30c00 k.1)
  | inr (inl k) ↦ inr (inl (omega arith), state_is 24 b 0x303301b0306030 k.2)
  | inr (inr (inl k)) ↦ inr (inl (omega arith), state_is 24 b 0x30c0c1b0306030 k.2)
  | inr (inr (inr (inl k))) ↦ inl (k.0, k.1, state_is 24 b 0x30c0cc06306030 k.2)
  | inr (inr (inr (inr k))) ↦ inr (inr (omega arith), k.1.3)
]

pub takes_30 : Takes 30 128 160 6
takes_30 b = elim (kinds b) [
  | inl k ↦ inr (inl (omega arith), state_is 30 b 0x30c30c30c30c00 k.1)
  | inr (inl k) ↦ inl (k.0, omega arith, state_is 30 b 0x303301b0306030 k.2)
  | inr (inr (inl k)) ↦ inl (omega arith, k.1, state_is 30 b 0x30c0c1b0306030 k.2)
  | inr (inr (inr (inl k))) ↦ inr (inr (omega arith), state_is 30 b 0x30c0cc06306030 k.2)
  | inr (inr (inr (inr k))) ↦ inr (inr (omega arith), k.1.4)
]

pub takes_36 : Takes 36 144 192 12
takes_36 b = elim (kinds b) [
  | inl k ↦ inr (inl (omega arith), state_is 36 b 0x30c30c30c30c00 k.1)
  | inr (inl k) ↦ inr (inl (omega arith), state_is 36 b 0x303301b0306030 k.2)
  | inr (inr (inl k)) ↦ inl (k.0, omega arith, state_is 36 b 0x30c0c1b0306030 k.2)
  | inr (inr (inr (inl k))) ↦ inl (omega arith, k.1, state_is 36 b 0x30c0cc06306030 k.2)
  | inr (inr (inr (inr k))) ↦ inr (inr (omega arith), k.1.5)
]

pub takes_42 : Takes 42 128 144 12
takes_42 b = elim (kinds b) [
  | inl k ↦ inr (inl (omega arith), state_is 42 b 0x30c30c30c30c00 k.1)
  | inr (inl k) ↦ inl (k.0, k.1, state_is 42 b 0x303301b0306030 k.2)
  | inr (inr (inl k)) ↦ inr (inr (omega arith), state_is 42 b 0x30c0c1b0306030 k.2)
  | inr (inr (inr (inl k))) ↦ inr (inr (omega arith), state_is 42 b 0x30c0cc06306030 k.2)
  | inr (inr (inr (inr k))) ↦ inr (inr (omega arith), k.1.6)
]

-- ---- from letters to states

pub two : (c : ℕ) → 128 ≤ c → c < 2048 → encode c ≡ (192 + c / 64) ∷ next c ∷ []
unfolding encode
two c l h = rw (le-ltb c 128 l, lt-ltb c 2048 h)

pub three : (c : ℕ) → 2048 ≤ c → c < 65536
    → encode c ≡ (224 + c / 4096) ∷ next (c / 64) ∷ next c ∷ []
unfolding encode
three c l h = rw (le-ltb c 128 (omega arith), le-ltb c 2048 l, lt-ltb c 65536 h)

pub four : (c : ℕ) → 65536 ≤ c
    → encode c ≡ (240 + c / 262144) ∷ next (c / 4096) ∷ next (c / 64) ∷ next c ∷ []
unfolding encode
four c l = rw (le-ltb c 128 (omega arith), le-ltb c 2048 (omega arith), le-ltb c 65536 l)

-- a byte that the state takes, and one in its range
pass : (s lo hi t b : ℕ) (bs : List ℕ) → Takes s lo hi t → lo ≤ b → b < hi
    → last_state s (b ∷ bs) ≡ last_state t bs
pass s lo hi t b bs f l h = elim (f b) [
  | inl k ↦ ap (λ q. last_state q bs) k.2
  | inr k ↦ elim k.0 [ inl low ↦ absurd (omega arith) | inr high ↦ absurd (omega arith) ]
]

pub of_two : (b : ℕ) (bs : List ℕ) → 194 ≤ b → b < 224 → last_state 0 (b ∷ bs) ≡ last_state 6 bs
of_two b bs l h =
    after_byte 0 b 0x30c30c30c30c06 bs
    (rw (
      le-ltb b 128 (omega arith),
      le-ltb b 144 (omega arith),
      le-ltb b 160 (omega arith),
      le-ltb b 192 (omega arith),
      le-ltb b 194 l,
      lt-ltb b 224 h,
    ) refl)

-- a later byte, and what is no byte of UTF-8, is no first one
pub not_first : (b : ℕ) (bs : List ℕ) → 128 ≤ b → b < 194 → last_state 0 (b ∷ bs) ≡ last_state 48 bs
not_first b bs l h = elim (cases_lt b 144) [
  | inl a ↦ after_byte 0 b 0x303301b0306030 bs (next_80 b l a)
  | inr a ↦ elim (cases_lt b 160) [
    | inl c ↦ after_byte 0 b 0x30c0c1b0306030 bs (next_90 b a c)
    | inr c ↦ elim (cases_lt b 192) [
      | inl d ↦ after_byte 0 b 0x30c0cc06306030 bs (next_a0 b c d)
      | inr d ↦
          after_byte 0 b 0x30c30c30c30c30 bs
          (rw (le-ltb b 128 l, le-ltb b 144 a, le-ltb b 160 c, le-ltb b 192 d, lt-ltb b 194 h)
          refl)
    ]
  ]
]

three_or_more : (b : ℕ) → 224 ≤ b
    → states_after b ≡ cond (nat_lt b 0xe1) 0x30c30c30c30c18
    (cond (nat_lt b 0xed) 0x30c30c30c30c0c (cond (nat_lt b 0xee) 0x30c30c30c30c1e
    (cond (nat_lt b 0xf0) 0x30c30c30c30c0c
    (cond (nat_lt b 0xf1) 0x30c30c30c30c24 (cond (nat_lt b 0xf4) 0x30c30c30c30c12
    (cond (nat_lt b 0xf5) 0x30c30c30c30c2a 0x30c30c30c30c30))))))
three_or_more b l =
    rw (
      le-ltb b 128 (omega arith),
      le-ltb b 144 (omega arith),
      le-ltb b 160 (omega arith),
      le-ltb b 192 (omega arith),
      le-ltb b 194 (omega arith),
      le-ltb b 224 l,
    ) refl

pub of_three_low : (b : ℕ) (bs : List ℕ) → 225 ≤ b → b < 237
    → last_state 0 (b ∷ bs) ≡ last_state 12 bs
of_three_low b bs l h =
    after_byte 0 b 0x30c30c30c30c0c bs
    (three_or_more b (omega arith) ∙ rw (le-ltb b 225 l, lt-ltb b 237 h) refl)

pub of_three_high : (b : ℕ) (bs : List ℕ) → 238 ≤ b → b < 240
    → last_state 0 (b ∷ bs) ≡ last_state 12 bs
of_three_high b bs l h =
    after_byte 0 b 0x30c30c30c30c0c bs
    (three_or_more b (omega arith)
    ∙ rw (
      le-ltb b 225 (omega arith),
      le-ltb b 237 (omega arith),
      le-ltb b 238 l,
      lt-ltb b 240 h,
    ) refl)

pub of_four : (b : ℕ) (bs : List ℕ) → 241 ≤ b → b < 244 → last_state 0 (b ∷ bs) ≡ last_state 18 bs
of_four b bs l h =
    after_byte 0 b 0x30c30c30c30c12 bs
    (three_or_more b (omega arith)
    ∙ rw (
      le-ltb b 225 (omega arith),
      le-ltb b 237 (omega arith),
      le-ltb b 238 (omega arith),
      le-ltb b 240 (omega arith),
      le-ltb b 241 l,
      lt-ltb b 244 h,
    ) refl)

pub past_f4 : (b : ℕ) (bs : List ℕ) → 245 ≤ b → last_state 0 (b ∷ bs) ≡ last_state 48 bs
past_f4 b bs l =
    after_byte 0 b 0x30c30c30c30c30 bs
    (three_or_more b (omega arith)
    ∙ rw (
      le-ltb b 225 (omega arith),
      le-ltb b 237 (omega arith),
      le-ltb b 238 (omega arith),
      le-ltb b 240 (omega arith),
      le-ltb b 241 (omega arith),
      le-ltb b 244 (omega arith),
      le-ltb b 245 l,
    ) refl)

-- a first byte of three bytes, and a second that its letters have
three_first : (x y : ℕ) (bs : List ℕ) → 224 ≤ x → x < 240 → 128 ≤ y → y < 192 → (x ≡ 224 → 160 ≤ y)
    → (x ≡ 237 → y < 160) → last_state 0 (x ∷ y ∷ bs) ≡ last_state 6 bs
three_first x y bs l h m n e0 ed = elim (cases_eq x 224) [
  | inl e ↦ ap (λ x. last_state 0 (x ∷ y ∷ bs)) e ∙ pass 24 160 192 6 y bs takes_24 (e0 e) n
  | inr a ↦ elim (cases_eq x 237) [
    | inl e ↦ ap (λ x. last_state 0 (x ∷ y ∷ bs)) e ∙ pass 30 128 160 6 y bs takes_30 m (ed e)
    | inr c ↦ elim (cases_lt x 237) [
      | inl d ↦ of_three_low x (y ∷ bs) (omega arith) d ∙ pass 12 128 192 6 y bs takes_12 m n
      | inr d ↦ of_three_high x (y ∷ bs) (omega arith) h ∙ pass 12 128 192 6 y bs takes_12 m n
    ]
  ]
]

four_first : (x y : ℕ) (bs : List ℕ) → 240 ≤ x → x < 245 → 128 ≤ y → y < 192 → (x ≡ 240 → 144 ≤ y)
    → (x ≡ 244 → y < 144) → last_state 0 (x ∷ y ∷ bs) ≡ last_state 12 bs
four_first x y bs l h m n f0 f4 = elim (cases_eq x 240) [
  | inl e ↦ ap (λ x. last_state 0 (x ∷ y ∷ bs)) e ∙ pass 36 144 192 12 y bs takes_36 (f0 e) n
  | inr a ↦ elim (cases_eq x 244) [
    | inl e ↦ ap (λ x. last_state 0 (x ∷ y ∷ bs)) e ∙ pass 42 128 144 12 y bs takes_42 m (f4 e)
    | inr c ↦ of_four x (y ∷ bs) (omega arith) (omega arith) ∙ pass 18 128 192 12 y bs takes_18 m n
  ]
]

past_letter : (c : ℕ) (bs : List ℕ) → scalar c ≡ true
    → last_state 0 (encode c ++ bs) ≡ last_state 0 bs
past_letter c bs ok =
    let range = scalar_cases c ok in
    elim (cases_lt c 128) [
      | inl a ↦ rw (encode_ascii c a) (after_byte 0 c 0x30c30c30c30c00 bs (ascii c a))
      | inr a ↦ elim (cases_lt c 2048) [
        | inl b ↦
            rw (two c a b) (of_two (192 + c / 64) (next c ∷ bs) (omega arith) (omega arith)
            ∙ pass 6 128 192 0 (next c) bs takes_6 (omega arith) (omega arith))
        | inr b ↦ elim (cases_lt c 65536) [
          | inl d ↦
              let e0 : 224 + c / 4096 ≡ 224 → 160 ≤ next (c / 64) =
              λ (e : 224 + c / 4096 ≡ 224). omega arith in
              let ed : 224 + c / 4096 ≡ 237 → next (c / 64) < 160 =
              λ (e : 224 + c / 4096 ≡ 237). omega arith in
              rw (three c b d)
              (three_first (224 + c / 4096) (next (c / 64)) (next c ∷ bs) (omega arith)
              (omega arith) (omega arith) (omega arith) e0 ed
              ∙ pass 6 128 192 0 (next c) bs takes_6 (omega arith) (omega arith))
          | inr d ↦
              let f0 : 240 + c / 262144 ≡ 240 → 144 ≤ next (c / 4096) =
              λ (e : 240 + c / 262144 ≡ 240). omega arith in
              let f4 : 240 + c / 262144 ≡ 244 → next (c / 4096) < 144 =
              λ (e : 240 + c / 262144 ≡ 244). omega arith in
              rw (four c d)
              (four_first (240 + c / 262144) (next (c / 4096)) (next (c / 64) ∷ next c ∷ bs)
              (omega arith) (omega arith) (omega arith) (omega arith) f0 f4
              ∙ pass 12 128 192 6 (next (c / 64)) (next c ∷ bs) takes_12 (omega arith) (omega arith)
              ∙ pass 6 128 192 0 (next c) bs takes_6 (omega arith) (omega arith))
        ]
      ]
    ]

past_letters : (cs : List ℕ) → scalars cs ≡ true → last_state 0 (encodes cs) ≡ 0
past_letters [] ok = refl
past_letters (c ∷ cs) ok = let p = and_parts (scalar c) (scalars cs) ok in
    past_letter c (encodes cs) p.0 ∙ past_letters cs p.1

-- UTF-8 ends at 0
pub ends_at_0 : (bs : List ℕ) → IsUtf8 bs → last_state 0 bs ≡ 0
ends_at_0 bs u = ap (last_state 0) (sym u.1.1) ∙ past_letters u.0 u.1.0

-- ---- blocks

-- ASCII that begins no letter leaves the state
pub ascii_at_0 : (bs : List ℕ) → IsAscii bs → last_state 0 bs ≡ 0
ascii_at_0 [] h = refl
ascii_at_0 (b ∷ bs) h =
    after_byte 0 b 0x30c30c30c30c00 bs (ascii b (h 0)) ∙ ascii_at_0 bs (λ i. h (suc i))

-- the state after one block more
pub block_more : (n k s t : ℕ) (bs d : List ℕ) (blocks : List (List ℕ)) (block : List ℕ)
    → blocks ≡ first_chunks n (length bs / n) bs → k < length bs / n → block ≡ get_or blocks k d
    → t ≡ last_state s (take (k * n) bs) → last_state t block ≡ last_state s (take ((k + 1) * n) bs)
block_more n k s t bs d blocks block all inside is e =
    let at : block ≡ take n (drop (k * n) bs) =
    is ∙ (rw all (block_at n (length bs / n) bs d k inside)) in
    let more : take ((k + 1) * n) bs ≡ take (k * n) bs ++ take n (drop (k * n) bs) =
    ap (λ m. take m bs) (add-mul k 1 n ∙ (let o : k * n + 1 * n ≡ k * n + n = omega arith in o))
    ∙ take-add (k * n) n bs in
    rw (at, e) (sym (ap (last_state s) more
    ∙ last_state-append s (take (k * n) bs) (take n (drop (k * n) bs))))

-- the state after what follows the blocks
pub blocks_end : (n s t : ℕ) (bs rest : List ℕ) → t ≡ last_state s (take n bs) → rest ≡ drop n bs
    → last_state t rest ≡ last_state s bs
blocks_end n s t bs rest e is =
    rw (e, is) (sym (last_state-append s (take n bs) (drop n bs))
    ∙ ap (last_state s) (take-append-drop n bs))
