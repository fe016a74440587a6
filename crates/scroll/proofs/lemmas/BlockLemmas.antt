-- One word of eight bytes: the carry through filled bytes, and the groups that it keeps.
use Rattle.std.proofs.Common.{◌≡◌, ℕ, zero, suc, ◌+◌, ◌-◌, ◌*◌, ◌/◌, ◌%◌, ◌^◌, ◌<◌, ◌≤◌, inl, inr, true, false, cond, nat_lt, if◌then◌else◌, List, [], ◌∷◌, map, length, bit_and, bit_or, get_or, refl, sym, ap, ◌∙◌, arith, pow-suc, Option, Some, None, MatchOption, IfSome, IfNone}
use Rattle.std.proofs.Math.Nat.{mod-eq_of_lt, mul_assoc, one-le-pow}
use Rattle.std.proofs.Math.Arith.{mod-mul}
use Rattle.std.proofs.Math.ListN.{get_or-map}
use Rattle.std.proofs.lemmas.Nat.{and_mask, or_block, or_lt, le_or_r, le_bytes_8, pow-add, mod-mul-add, div-mul-add}
use Rattle.std.proofs.lemmas.Nat.Bits.{and_pow}
use Rattle.std.proofs.lemmas.Bool.{cases_lt}
use Rattle.std.proofs.lemmas.Bool.Decides.{nat_tests}
use Rattle.std.proofs.lemmas.List.{length-map}
use Rattle.std.specs.Int.{w64, to_le_bytes}
use Rattle.std.specs.Int.Count.{count_trailing_zeros}
use Rattle.std.specs.Int.Bits.{and_zero_r}
use Rattle.std.specs.List.{AllByRecursion}
use Rattle.scroll.specs.Leb128.{end_of, count_of, group, groups_value, unsigned_of}
use Rattle.scroll.proofs.lemmas.WordLemmas.{lanes_word, flipped, each_itself, lanes, Lanewise, done, lane, and_lanes, or_lanes, keep, word_lanes, bytes_small, zeros_odd, zeros_shifted}
use Rattle.scroll.proofs.lemmas.LebLemmas.{groups_same, groups_more}

-- a result by cases, as two facts, of which the second may say more
pub by_clauses : {X : Type 0} (none : Type 0) (some more : X → Type 0) (o : Option X)
    → ((x : X) → some x → more x) → MatchOption o none some → IfSome o more × IfNone o none
by_clauses none some more None f h = (tt, h)
by_clauses none some more (Some x) f h = (f x h, tt)

-- a byte whose low seven bits are filled
pub full : ℕ → ℕ
full b = cond (nat_lt b 128) 127 255

or_low : (x : ℕ) → x < 128 → bit_or x 127 ≡ 127
or_low x h =
    let top : bit_or x 127 < 2 ^ 7 = or_lt 7 x 127 h (omega arith) in
    let bottom = le_or_r x 127 in
    omega arith

full_is : (b : ℕ) → b < 256 → bit_or b 127 ≡ full b
unfolding full
full_is b h = elim (cases_lt b 128) [
  | inl low ↦
      let t : nat_lt b 128 ≡ true = grind (arith, nat_tests) in
      rw t (or_low b low)
  | inr high ↦
      let t : nat_lt b 128 ≡ false = grind (arith, nat_tests) in
      let split : b ≡ 1 * 2 ^ 7 + (b - 128) = omega arith in
      let e : bit_or (1 * 2 ^ 7 + (b - 128)) (0 * 2 ^ 7 + 127)
      ≡ bit_or 1 0 * 2 ^ 7 + bit_or (b - 128) 127 =
      or_block 7 1 0 (b - 128) 127 (omega arith) (omega arith) in
      let low = or_low (b - 128) (omega arith) in
      rw t (ap (λ x. bit_or x 127) split ∙ e ∙ omega (arith, low))
]

fills : (bs : List ℕ) → AllByRecursion (λ b. b < 256) bs
    → Lanewise bit_or 8 bs (map (λ b. 127) bs) (map full bs)
fills [] h = done
fills (b ∷ bs) h = lane h.0 (omega arith) (full_is b h.0) (fills bs h.1)

-- what one more than the filled bytes is: 0 below the end, 128 at it, the filled bytes above it
pub carry : List ℕ → List ℕ
carry [] = []
carry (b ∷ bs) = if nat_lt b 128 then 128 ∷ map full bs else 0 ∷ carry bs

carry_is : (bs : List ℕ) → end_of bs < length bs → lanes 8 (map full bs) + 1 ≡ lanes 8 (carry bs)
unfolding full carry
carry_is [] h = absurd (omega arith)
carry_is (b ∷ bs) h = elim (cases_lt b 128) [
  | inl low ↦
      let t : nat_lt b 128 ≡ true = grind (arith, nat_tests) in
      rw t (omega arith)
  | inr high ↦
      let t : nat_lt b 128 ≡ false = grind (arith, nat_tests) in
      let within : end_of bs < length bs = let g = rw t at h in omega arith in
      rw t (omega (arith, carry_is bs within))
]

-- no byte ends the encoding exactly where all bits are filled
filled_none : (bs : List ℕ) → lanes 8 (map full bs) + 1 ≡ 256 ^ length bs → length bs ≤ end_of bs
unfolding full
filled_none [] h = omega arith
filled_none (b ∷ bs) h = elim (cases_lt b 128) [
  | inl low ↦
      let t : nat_lt b 128 ≡ true = grind (arith, nat_tests) in
      let g = rw t at h in
      absurd (omega (arith, g, pow-suc 256 (length bs)))
  | inr high ↦
      let t : nat_lt b 128 ≡ false = grind (arith, nat_tests) in
      let g = rw t at h in
      let rest = filled_none bs (omega (arith, g, pow-suc 256 (length bs))) in
      rw t (omega (arith, rest))
]

none_filled : (bs : List ℕ) → length bs ≤ end_of bs → lanes 8 (map full bs) + 1 ≡ 256 ^ length bs
unfolding full
none_filled [] h = refl
none_filled (b ∷ bs) h = elim (cases_lt b 128) [
  | inl low ↦
      let t : nat_lt b 128 ≡ true = grind (arith, nat_tests) in
      let g = rw t at h in
      absurd (omega arith)
  | inr high ↦
      let t : nat_lt b 128 ≡ false = grind (arith, nat_tests) in
      let within : length bs ≤ end_of bs = let g = rw t at h in omega arith in
      rw t (omega (arith, none_filled bs within, pow-suc 256 (length bs)))
]

-- the carry is an odd multiple of the power of the end's high bit
carried_form : (bs : List ℕ) → end_of bs < length bs
    → (q : ℕ) × (lanes 8 (map full bs) + 1 ≡ (q * 2 + 1) * 2 ^ (8 * end_of bs + 7))
unfolding full
carried_form [] h = absurd (omega arith)
carried_form (b ∷ bs) h = elim (cases_lt b 128) [
  | inl low ↦
      let t : nat_lt b 128 ≡ true = grind (arith, nat_tests) in
      rw t (lanes 8 (map full bs), omega arith)
  | inr high ↦
      let t : nat_lt b 128 ≡ false = grind (arith, nat_tests) in
      let within : end_of bs < length bs = let g = rw t at h in omega arith in
      let rest = carried_form bs within in
      let index : 8 * (1 + end_of bs) + 7 ≡ 8 * end_of bs + 7 + 8 = omega arith in
      rw t (
        rest.0,
        rw (index, pow-add 2 (8 * end_of bs + 7) 8)
            (omega (arith, rest.1, mul_assoc (rest.0 * 2 + 1) (2 ^ (8 * end_of bs + 7)) 256)),
      )
]

-- the trailing zeros of the doubled carry: eight for each byte up to the end
shifted_mod : (x j k : ℕ) → x * 2 ^ j % 2 ^ (k + j) ≡ x % 2 ^ k * 2 ^ j
shifted_mod x j k =
    let c = one-le-pow j 2 (omega arith) in
    let m = one-le-pow k 2 (omega arith) in
    let whole : x * 2 ^ j + 0 ≡ x * 2 ^ j = omega arith in
    let quotient : x * 2 ^ j / 2 ^ j ≡ x = rw whole at (div-mul-add x (2 ^ j) 0 c) in
    let rest : x * 2 ^ j % 2 ^ j ≡ 0 = rw whole at (mod-mul-add x (2 ^ j) 0 c) in
    rw (pow-add 2 k j, mod-mul (x * 2 ^ j) {m = 2 ^ k} {c = 2 ^ j} m c, quotient, rest)
    (omega arith)

odd_mod : (q k : ℕ) → (q * 2 + 1) % 2 ^ (k + 1) % 2 ≡ 1
odd_mod q k =
    let c = one-le-pow k 2 (omega arith) in
    let power : 2 ^ (k + 1) ≡ 2 ^ k * 2 = pow-add 2 k 1 in
    let form : (q * 2 + 1) % (2 ^ k * 2) ≡ (q * 2 + 1) / 2 % 2 ^ k * 2 + (q * 2 + 1) % 2 =
    mod-mul (q * 2 + 1) {m = 2 ^ k} {c = 2} c (omega arith) in
    rw (power, form) (omega arith)

no_digits : (n : ℕ) → count_trailing_zeros 0 n ≡ 0
unfolding count_trailing_zeros
no_digits n = refl

zeros_of_odd : (q k : ℕ) → count_trailing_zeros k ((q * 2 + 1) % 2 ^ k) ≡ 0
zeros_of_odd q zero = no_digits _
zeros_of_odd q (suc k) =
    let next : suc k ≡ k + 1 = omega arith in
    rw next (zeros_odd (k + 1) k ((q * 2 + 1) % 2 ^ (k + 1)) refl (odd_mod q k))

zeros_doubled : (q e : ℕ) → e < 8
    → count_trailing_zeros 64 ((q * 2 + 1) * 2 ^ (8 * e + 7) * 2 % 2 ^ 64) ≡ 8 * e + 8
zeros_doubled q e h =
    let width : 64 ≡ 56 - 8 * e + (8 * e + 8) = omega arith in
    let index : 8 * e + 8 ≡ 8 * e + 7 + 1 = omega arith in
    let double : (q * 2 + 1) * 2 ^ (8 * e + 7) * 2 ≡ (q * 2 + 1) * 2 ^ (8 * e + 8) =
    rw (index, pow-add 2 (8 * e + 7) 1) (mul_assoc (q * 2 + 1) (2 ^ (8 * e + 7)) 2) in
    let k = 56 - 8 * e in
    let cut : (q * 2 + 1) * 2 ^ (8 * e + 8) % 2 ^ 64 ≡ (q * 2 + 1) % 2 ^ k * 2 ^ (8 * e + 8) =
    ap (λ w. (q * 2 + 1) * 2 ^ (8 * e + 8) % 2 ^ w) width ∙ shifted_mod (q * 2 + 1) (8 * e + 8) k in
    ap (count_trailing_zeros 64) (ap (λ x. x % 2 ^ 64) double ∙ cut)
    ∙ ap (λ w. count_trailing_zeros w ((q * 2 + 1) % 2 ^ k * 2 ^ (8 * e + 8))) width
    ∙ zeros_shifted (8 * e + 8) k ((q * 2 + 1) % 2 ^ k)
    ∙ rw (zeros_of_odd q k) (omega arith)

-- ---- the groups that are kept

-- the bytes up to the end, and zeros above it
pub kept : List ℕ → List ℕ
kept [] = []
kept (b ∷ bs) = b ∷ (if nat_lt b 128 then map (λ b. 0) bs else kept bs)

above : (b : ℕ) → b < 256 → bit_and b (255 - full b) ≡ 0
unfolding full
above b h = elim (cases_lt b 128) [
  | inl low ↦
      let t : nat_lt b 128 ≡ true = grind (arith, nat_tests) in
      rw t (and_pow b 7 ∙ omega arith)
  | inr high ↦
      let t : nat_lt b 128 ≡ false = grind (arith, nat_tests) in
      rw t (and_zero_r b)
]

full_small : (b : ℕ) → full b < 256
unfolding full
full_small b =
    elim (nat_lt b 128) as (λ x. cond x 127 255 < 256) [ true ↦ omega arith | false ↦ omega arith ]

fulls_small : (bs : List ℕ) → AllByRecursion (λ b. b < 256) (map full bs)
fulls_small [] = tt
fulls_small (b ∷ bs) = (full_small b, fulls_small bs)

aboves : (bs : List ℕ) → AllByRecursion (λ b. b < 256) bs
    → Lanewise bit_and 8 bs (map (λ b. 255 - b) (map full bs)) (map (λ b. 0) bs)
aboves [] h = done
aboves (b ∷ bs) h = lane h.0 (omega arith) (above b h.0) (aboves bs h.1)

keeps : (bs : List ℕ) → AllByRecursion (λ b. b < 256) bs
    → Lanewise bit_and 8 bs (map (λ b. 255 - b) (carry bs)) (kept bs)
unfolding carry kept
keeps [] h = done
keeps (b ∷ bs) h = elim (cases_lt b 128) [
  | inl low ↦
      let t : nat_lt b 128 ≡ true = grind (arith, nat_tests) in
      rw t (lane {m = 255 - 128} h.0 (omega arith) (and_mask b 7 ∙ mod-eq_of_lt low)
      (aboves bs h.1))
  | inr high ↦
      let t : nat_lt b 128 ≡ false = grind (arith, nat_tests) in
      rw t (lane {m = 255 - 0} h.0 (omega arith) (keep 8 b h.0) (keeps bs h.1))
]

carry_small : (bs : List ℕ) → AllByRecursion (λ b. b < 256) (carry bs)
unfolding carry
carry_small [] = tt
carry_small (b ∷ bs) = elim (cases_lt b 128) [
  | inl low ↦ let t : nat_lt b 128 ≡ true = grind (arith, nat_tests) in
      rw t (omega arith, fulls_small bs)
  | inr high ↦ let t : nat_lt b 128 ≡ false = grind (arith, nat_tests) in
      rw t (omega arith, carry_small bs)
]

carry_length : (bs : List ℕ) → length (carry bs) ≡ length bs
unfolding carry
carry_length [] = refl
carry_length (b ∷ bs) = elim (cases_lt b 128) [
  | inl low ↦ let t : nat_lt b 128 ≡ true = grind (arith, nat_tests) in
      rw t (omega (arith, length-map bs full))
  | inr high ↦ let t : nat_lt b 128 ≡ false = grind (arith, nat_tests) in
      rw t (omega (arith, carry_length bs))
]

kept_length : (bs : List ℕ) → length (kept bs) ≡ length bs
unfolding kept
kept_length [] = refl
kept_length (b ∷ bs) = elim (cases_lt b 128) [
  | inl low ↦ let t : nat_lt b 128 ≡ true = grind (arith, nat_tests) in
      rw t (omega (arith, length-map {B = ℕ} bs (λ (b : ℕ). 0)))
  | inr high ↦ let t : nat_lt b 128 ≡ false = grind (arith, nat_tests) in
      rw t (omega (arith, kept_length bs))
]

kept_prefix : (bs : List ℕ) (k : ℕ) → k ≤ end_of bs → get_or (kept bs) k 0 ≡ get_or bs k 0
unfolding kept
kept_prefix [] k h = refl
kept_prefix (b ∷ bs) zero h = refl
kept_prefix (b ∷ bs) (suc k) h = elim (cases_lt b 128) [
  | inl low ↦
      let t : nat_lt b 128 ≡ true = grind (arith, nat_tests) in
      let g = rw t at h in
      absurd (omega arith)
  | inr high ↦
      let t : nat_lt b 128 ≡ false = grind (arith, nat_tests) in
      let within : k ≤ end_of bs = let g = rw t at h in omega arith in
      rw t (kept_prefix bs k within)
]

kept_back : (bs : List ℕ) (k : ℕ) → end_of bs < k → get_or (kept bs) k 0 ≡ 0
unfolding kept
kept_back [] k h = refl
kept_back (b ∷ bs) zero h = absurd (omega arith)
kept_back (b ∷ bs) (suc k) h = elim (cases_lt b 128) [
  | inl low ↦
      let t : nat_lt b 128 ≡ true = grind (arith, nat_tests) in
      rw t (get_or-map (λ (b : ℕ). 0) bs k 0)
  | inr high ↦
      let t : nat_lt b 128 ≡ false = grind (arith, nat_tests) in
      let past : end_of bs < k = let g = rw t at h in omega arith in
      rw t (kept_back bs k past)
]

kept_small : (bs : List ℕ) → ((i : ℕ) → get_or bs i 0 < 256) → (i : ℕ) → get_or (kept bs) i 0 < 256
kept_small bs small i = elim (cases_lt (end_of bs) i) [
  | inl past ↦ rw (kept_back bs i past) (omega arith)
  | inr prefix ↦ rw (kept_prefix bs i prefix) (small i)
]

-- groups of zeros add nothing
groups_zero : (s : List ℕ) (n m : ℕ) → ((k : ℕ) → n ≤ k → get_or s k 0 ≡ 0)
    → groups_value s (n + m) ≡ groups_value s n
groups_zero s n zero h = let e : n + 0 ≡ n = omega arith in rw e refl
groups_zero s n (suc m) h =
    let e : n + suc m ≡ n + m + 1 = omega arith in
    let z : group s (n + m) ≡ 0 = rw (h (n + m) (omega arith)) refl in
    rw e (groups_more s (n + m) ∙ rw z (omega (arith, groups_zero s n m h)))

kept_groups : (bs : List ℕ) → length bs ≡ 8 → end_of bs < 8
    → groups_value (kept bs) 8 ≡ unsigned_of bs
kept_groups bs eight within =
    let whole : count_of bs + (8 - count_of bs) ≡ 8 = omega arith in
    let zeros =
    groups_zero (kept bs) (count_of bs) (8 - count_of bs)
    (λ k h. kept_back bs k (omega arith)) in
    rw whole at zeros ∙ groups_same (kept bs) bs (count_of bs)
    (λ k h. kept_prefix bs k (omega arith))

-- ---- what the code makes of a word

filled_word : (n : ℕ) → n < 2 ^ 64
    → bit_or n 0x7f7f_7f7f_7f7f_7f7f ≡ lanes 8 (map full (to_le_bytes w64 n))
filled_word n fits = ap (λ m. bit_or m 0x7f7f_7f7f_7f7f_7f7f) (word_lanes n fits)
    ∙ or_lanes (fills (to_le_bytes w64 n) (bytes_small n))

-- no byte ends the encoding
pub word_none : (n : ℕ) → n < 2 ^ 64 → bit_or n 0x7f7f_7f7f_7f7f_7f7f ≡ 18446744073709551615
    → 8 ≤ end_of (to_le_bytes w64 n)
word_none n fits h = filled_none (to_le_bytes w64 n) (omega (arith, filled_word n fits))

pub word_some : (n : ℕ) → n < 2 ^ 64 → (bit_or n 0x7f7f_7f7f_7f7f_7f7f ≡ 18446744073709551615 → ⊥)
    → end_of (to_le_bytes w64 n) < 8
word_some n fits h = elim (cases_lt (end_of (to_le_bytes w64 n)) 8) [
  | inl within ↦ within
  | inr none ↦
      absurd (h (let f = none_filled (to_le_bytes w64 n) none in omega
      (arith, filled_word n fits, f)))
]

pub word_carries : (n : ℕ) → n < 2 ^ 64
    → (bit_or n 0x7f7f_7f7f_7f7f_7f7f ≡ 18446744073709551615 → ⊥)
    → bit_or n 0x7f7f_7f7f_7f7f_7f7f + 1 < 2 ^ 64
word_carries n fits h = elim (cases_lt (bit_or n 0x7f7f_7f7f_7f7f_7f7f + 1) (2 ^ 64)) [
  | inl small ↦ small
  | inr large ↦
      let bound : bit_or n 0x7f7f_7f7f_7f7f_7f7f < 2 ^ 64 =
      or_lt 64 n 0x7f7f_7f7f_7f7f_7f7f fits (omega arith) in absurd (h (omega arith))
]

pub word_count : (n : ℕ) → n < 2 ^ 64 → end_of (to_le_bytes w64 n) < 8
    → count_trailing_zeros 64 ((bit_or n 0x7f7f_7f7f_7f7f_7f7f + 1) * 2 % 2 ^ 64) / 8
    ≡ count_of (to_le_bytes w64 n)
word_count n fits within =
    let form = carried_form (to_le_bytes w64 n) within in
    let e : bit_or n 0x7f7f_7f7f_7f7f_7f7f + 1
    ≡ (form.0 * 2 + 1) * 2 ^ (8 * end_of (to_le_bytes w64 n) + 7) =
    ap (λ m. m + 1) (filled_word n fits) ∙ form.1 in
    ap (λ m. count_trailing_zeros 64 (m * 2 % 2 ^ 64) / 8) e
    ∙ ap (λ z. z / 8) (zeros_doubled form.0 (end_of (to_le_bytes w64 n)) within)
    ∙ omega arith

kept_word : (n : ℕ) → n < 2 ^ 64 → end_of (to_le_bytes w64 n) < 8
    → bit_and n (18446744073709551615 - (bit_or n 0x7f7f_7f7f_7f7f_7f7f + 1))
    ≡ lanes 8 (kept (to_le_bytes w64 n))
kept_word n fits within =
    let bs = to_le_bytes w64 n in
    let carried : bit_or n 0x7f7f_7f7f_7f7f_7f7f + 1 ≡ lanes 8 (carry bs) =
    ap (λ m. m + 1) (filled_word n fits) ∙ carry_is bs within in
    let flip = flipped (λ b. b) (λ b h. h) (carry bs) (carry_small bs) in
    let power : 256 ^ length (carry bs) ≡ 2 ^ 64 = rw (carry_length bs) refl in
    let complement : 18446744073709551615 - (bit_or n 0x7f7f_7f7f_7f7f_7f7f + 1)
    ≡ lanes 8 (map (λ b. 255 - b) (carry bs)) =
    omega (arith, carried, flip, power, each_itself (carry bs)) in
    ap (bit_and n) complement
    ∙ ap (λ m. bit_and m (lanes 8 (map (λ b. 255 - b) (carry bs)))) (word_lanes n fits)
    ∙ and_lanes (keeps bs (bytes_small n))

byte_small : (bs : List ℕ) → AllByRecursion (λ b. b < 256) bs → (i : ℕ) → get_or bs i 0 < 256
byte_small [] h i = omega arith
byte_small (b ∷ bs) h zero = h.0
byte_small (b ∷ bs) h (suc i) = byte_small bs h.1 i

pub word_groups : (n g : ℕ) → n < 2 ^ 64 → end_of (to_le_bytes w64 n) < 8
    → g ≡ groups_value (to_le_bytes w64
    (bit_and n (18446744073709551615 - (bit_or n 0x7f7f_7f7f_7f7f_7f7f + 1)))) 8
    → g ≡ unsigned_of (to_le_bytes w64 n)
word_groups n g fits within e =
    let bs = to_le_bytes w64 n in
    let eight : length (kept bs) ≡ 8 = kept_length bs in
    let bytes =
    le_bytes_8 (kept bs) (bit_and n
    (18446744073709551615 - (bit_or n 0x7f7f_7f7f_7f7f_7f7f + 1))) eight
    (kept_small bs (byte_small bs (bytes_small n)))
    (kept_word n fits within ∙ sym (lanes_word (kept bs) eight)) in
    e ∙ ap (λ s. groups_value s 8) bytes ∙ kept_groups bs refl within
