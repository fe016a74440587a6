-- The groups of an encoding: their sums, where they end, and their sign.
use Rattle.std.proofs.Common.{◌≡◌, ℕ, zero, suc, ◌+◌, ◌-◌, ◌*◌, ◌/◌, ◌%◌, ◌^◌, ◌<◌, ◌≤◌, inl, inr, true, false, nat_lt, if◌then◌else◌, List, length, get_or, bit_and, bit_or, bit_xor, pos, negsuc, ◌-ℤ◌, to_z, refl, sym, ap, ◌∙◌, arith, add-one, pow-suc, Some, None}
use Rattle.std.proofs.Math.Nat.{mod-eq_of_lt, mul_comm, one-le-pow, pow-le-pow_right, mul-le-mul, mul-le-mul_right}
use Rattle.std.proofs.Math.Facts.{to_z-neg}
use Rattle.std.proofs.lemmas.Nat.{pow-add, mul-add-lt, div-mul-add, mod-mul-add, and_mask}
use Rattle.std.proofs.lemmas.Nat.Bits.{and_pow}
use Rattle.std.proofs.lemmas.Int.{ints, to_z_pos}
use Rattle.std.proofs.lemmas.Bool.{cases_lt}
use Rattle.std.proofs.lemmas.Bool.Decides.{nat_tests}
use Rattle.std.proofs.lemmas.List.Sums.{position_or_len_is, passes_at_first, fails_before_first}
use Rattle.std.specs.Int.{w64}
use Rattle.std.specs.Int.Bits.{or_shifted_r, xor_add_and}
use Rattle.std.proofs.lemmas.Option.{slice_get-get_or, get_or_from_slice_get}
use Rattle.std.specs.List.{slice_get}
use Rattle.scroll.specs.lemmas.NumberLemmas.{digits-bound}
use Rattle.scroll.specs.Leb128.{group, groups_value, end_of, unsigned_of, count_of, ReadsGroups}

-- ---- powers and sums
pub pow_128 : (i : ℕ) → 2 ^ (7 * i) ≡ 128 ^ i
pow_128 zero = refl
pow_128 (suc i) =
    let e : 7 * suc i ≡ 7 * i + 7 = omega arith in
    ap (λ k. 2 ^ k) e ∙ pow-add 2 (7 * i) 7 ∙ ap (λ x. x * 128) (pow_128 i) ∙ sym (pow-suc 128 i)

pub power_more : (i : ℕ) → 128 ^ (i + 1) ≡ 128 * 128 ^ i
power_more i = rw add-one (pow-suc 128 i ∙ mul_comm (128 ^ i) 128)

pub groups_more : (s : List ℕ) (n : ℕ)
    → groups_value s (n + 1) ≡ groups_value s n + group s n * 128 ^ n
groups_more s n = rw add-one refl

pub groups_lt : (s : List ℕ) (n : ℕ) → groups_value s n < 128 ^ n
groups_lt s n = digits-bound 128 (λ i. group s i) (λ i. omega arith) n

-- ---- the end
pub end_at : (s : List ℕ) (i : ℕ) → i < length s → ((k : ℕ) → k < i → 128 ≤ get_or s k 0)
    → get_or s i 0 < 128 → end_of s ≡ i
end_at s i within more last =
    position_or_len_is (λ b. nat_lt b 128) s i 0 (omega arith)
    (λ k h. let f = more k h in grind (arith, nat_tests)) (λ h. grind (arith, nat_tests))

pub no_end : (s : List ℕ) → ((k : ℕ) → k < length s → 128 ≤ get_or s k 0) → end_of s ≡ length s
no_end s more =
    position_or_len_is (λ b. nat_lt b 128) s (length s) 0 (omega arith)
    (λ k h. let f = more k h in grind (arith, nat_tests)) (λ h. absurd (omega arith))

-- a complete encoding ends at a byte below 128
pub end_below : (s : List ℕ) → end_of s < length s → get_or s (end_of s) 0 < 128
end_below s h = let t = passes_at_first (λ b. nat_lt b 128) s 0 h in grind (arith, nat_tests)

-- the bytes of an encoding before its end are at least 128
pub open_before : (s : List ℕ) (k : ℕ) → k < end_of s → 128 ≤ get_or s k 0
open_before s k h = let f = fails_before_first (λ b. nat_lt b 128) s k 0 h in
    grind (arith, nat_tests)

-- ---- one more group
group_fits : (s : List ℕ) (i : ℕ) → i < 9 → group s i * 128 ^ i < 2 ^ 64
group_fits s i early =
    let low : group s i ≤ 127 = omega arith in
    let eight : i ≤ 8 = omega arith in
    let power : 128 ^ i ≤ 128 ^ 8 = pow-le-pow_right {n = 128} (omega arith) eight in
    omega (arith, mul-le-mul low power)

pub or_group : (s : List ℕ) (i v r : ℕ) → i < 9 → v ≡ groups_value s i
    → r ≡ bit_and (get_or s i 0) 127
    → bit_or v (r * 2 ^ (7 * i) % 2 ^ 64) ≡ groups_value s (i + 1)
or_group s i v r early value_is r_is =
    let e : r ≡ group s i = r_is ∙ and_mask (get_or s i 0) 7 in
    let small : v < 2 ^ (7 * i) = rw (pow_128 i, value_is) (groups_lt s i) in
    let whole : r * 2 ^ (7 * i) < 2 ^ 64 = rw (pow_128 i, e) (group_fits s i early) in
    ap (bit_or v) (mod-eq_of_lt whole) ∙ or_shifted_r r (7 * i) v small
    ∙ rw (pow_128 i, e, value_is, groups_more s i) (omega arith)

-- where the first i bytes don't end the encoding, it ends at i or later
pub late_end : (s : List ℕ) (i : ℕ) → i ≤ length s → ((k : ℕ) → k < i → 128 ≤ get_or s k 0)
    → i ≤ end_of s
late_end s i within more = elim (cases_lt (end_of s) i) [
  | inl early ↦
      let within_s : end_of s < length s = omega arith in
      let last = end_below s within_s in
      let no = more (end_of s) early in
      absurd (omega arith)
  | inr late ↦ late
]

-- ---- the sign
-- the sign is the top bit of the groups
pub sign_is_top : (s : List ℕ) (g n : ℕ) → end_of s < length s → g ≡ unsigned_of s → n ≡ count_of s
    → nat_lt g (64 * 128 ^ (n - 1)) ≡ nat_lt (group s (end_of s)) 64
sign_is_top s g n within g_is n_is =
    let top = group s (end_of s) in
    let low = groups_lt s (end_of s) in
    let back : n - 1 ≡ end_of s = omega arith in
    let sum : g ≡ top * 128 ^ end_of s + groups_value s (end_of s) =
    omega (arith, g_is, groups_more s (end_of s)) in
    rw (back, sum) (elim (cases_lt top 64) [
      | inl below ↦
          let fits = mul-add-lt top (128 ^ end_of s) (groups_value s (end_of s)) 64 below low in
          let fits_turned : top * 128 ^ end_of s + groups_value s (end_of s) < 64 * 128 ^ end_of s =
          omega (arith, fits) in
          let left : nat_lt (top * 128 ^ end_of s + groups_value s (end_of s)) (64 * 128 ^ end_of s)
          ≡ true =
          grind (arith, nat_tests) in
          let right : nat_lt top 64 ≡ true = grind (arith, nat_tests) in
          left ∙ sym right
      | inr above ↦
          let more : 64 * 128 ^ end_of s ≤ top * 128 ^ end_of s =
          mul-le-mul_right (128 ^ end_of s) above in
          let left : nat_lt (top * 128 ^ end_of s + groups_value s (end_of s)) (64 * 128 ^ end_of s)
          ≡ false =
          grind (arith, nat_tests) in
          let right : nat_lt top 64 ≡ false = grind (arith, nat_tests) in
          left ∙ sym right
    ])

-- the byte that ends the encoding, in the words of the code
pub gives_at : (s : List ℕ) (i v r b : ℕ) → i < length s → i < 9
    → ((k : ℕ) → k < i → 128 ≤ get_or s k 0) → get_or s i 0 ≡ b → b < 128
    → v ≡ groups_value s i → r ≡ bit_and b 127
    → ReadsGroups s (bit_or v (r * 2 ^ (7 * i) % 2 ^ 64)) (i + 1)
gives_at s i v r b within early more byte last value_is r_is =
    let e = end_at s i within more (omega arith) in
    let value = or_group s i v r early value_is (rw byte r_is) in
    record {
      complete = (omega arith, omega arith);
      fits = tt;
      value = value
          ∙ ap (λ j. groups_value s (j + 1)) (sym e);
      size = ap (λ j. j + 1) (sym e);
    }

pub groups_same : (a b : List ℕ) (n : ℕ) → ((k : ℕ) → k < n → get_or a k 0 ≡ get_or b k 0)
    → groups_value a n ≡ groups_value b n
groups_same a b zero h = refl
groups_same a b (suc n) h =
    rw (groups_same a b n (λ k l. h k (omega arith)), h n (omega arith)) refl

-- past the end there is no byte
pub none_past : (s : List ℕ) (i : ℕ) → None ≡ slice_get s i → length s ≤ i
none_past s i e =
    elim (cases_lt i (length s)) [
      | inl h ↦ let f = e ∙ slice_get-get_or s i 0 h in absurd (cc)
      | inr h ↦ h
    ]

-- what a look-up by `get` says of a byte in bounds, and of an offset past the end
pub byte_there : (s : List ℕ) (i b : ℕ) → true ≡ nat_lt i (length s) → b ≡ get_or s i b
    → (i < length s) × (slice_get s i ≡ Some b) × (get_or s i 0 ≡ b)
byte_there s i b t e =
    let inside : i < length s = grind (arith, nat_tests) in
    let at = slice_get-get_or s i b inside ∙ ap Some (sym e) in
    (inside, at, get_or_from_slice_get s i b 0 at)

-- what is known at the tenth byte, as a look-up gives it, where none of the nine before it ends the
-- encoding
pub tenth_there : (s : List ℕ) (i g b : ℕ) → true ≡ nat_lt 9 (length s) → b ≡ get_or s 9 b → i ≡ 9
    → ((k : ℕ) → k < i → 128 ≤ get_or s k 0) → g ≡ groups_value s i
    → (9 ≤ end_of s) × (slice_get s 9 ≡ Some b) × (g ≡ groups_value s 9)
tenth_there s i g b t e nine more value =
    let there = byte_there s 9 b t e in
    (late_end s 9 (omega (arith, there.0)) (rw nine at more), there.1, rw nine at value)

pub not_there : (s : List ℕ) (i : ℕ) → false ≡ nat_lt i (length s) → length s ≤ i
not_there s i t = grind (arith, nat_tests)

-- ---- two's complement, by a sign bit that is flipped and then subtracted
-- a number minus a larger one
pub less_whole : (u p k : ℕ) → u + suc k ≡ p → negsuc k ≡ pos u -ℤ pos p
less_whole u p k h = omega (arith, ints)

-- the highest bit h of a number, flipped and then subtracted
flipped_sign : (g k h : ℕ) → h ≡ 2 ^ k → h ≤ 2 ^ 62 → g < 2 * h
    → to_z w64 ((bit_xor g h + (2 ^ 64 - h)) % 2 ^ 64)
    ≡ (if nat_lt g h then pos g else pos g -ℤ pos (2 * h))
flipped_sign g k h is small room =
    let total : bit_xor g h + bit_and g h * 2 ≡ g + h = xor_add_and g h in
    let form : bit_and g h ≡ g / h % 2 * h = rw (← is) at (and_pow g k) in
    let some : 0 < h = omega (arith, is, one-le-pow k 2 (omega arith)) in
    elim (cases_lt g h) [
      | inl low ↦
          let t : nat_lt g h ≡ true = grind (arith, nat_tests) in
          let value : 0 * h + g ≡ g = omega arith in
          let none : g / h ≡ 0 = rw value at (div-mul-add 0 h g low) in
          let nothing : 0 % 2 * h ≡ 0 = omega arith in
          let clear : bit_and g h ≡ 0 = form ∙ ap (λ q. q % 2 * h) none ∙ nothing in
          let sum : bit_xor g h + (2 ^ 64 - h) ≡ 1 * 2 ^ 64 + g = omega (arith, total, clear) in
          let word : (bit_xor g h + (2 ^ 64 - h)) % 2 ^ 64 ≡ g =
          ap (λ x. x % 2 ^ 64) sum ∙ mod-mul-add 1 (2 ^ 64) g (omega arith) in
          rw (t, word) (to_z_pos w64 g (omega arith))
      | inr high ↦
          let t : nat_lt g h ≡ false = grind (arith, nat_tests) in
          let rest = 2 * h - g - 1 in
          let value : 1 * h + (g - h) ≡ g = omega arith in
          let one : g / h ≡ 1 = rw value at (div-mul-add 1 h (g - h) (omega arith)) in
          let once : 1 % 2 * h ≡ h = omega arith in
          let set : bit_and g h ≡ h = form ∙ ap (λ q. q % 2 * h) one ∙ once in
          let sum : bit_xor g h + (2 ^ 64 - h) ≡ 2 ^ 64 - suc rest = omega (arith, total, set) in
          let word : (bit_xor g h + (2 ^ 64 - h)) % 2 ^ 64 ≡ 2 ^ 64 - suc rest =
          ap (λ x. x % 2 ^ 64) sum ∙ mod-eq_of_lt (omega arith) in
          rw (t, word) (to_z-neg w64 rest (omega arith) ∙ less_whole g (2 * h) rest (omega arith))
    ]

-- up to nine groups in two's complement
pub signed_groups : (g n : ℕ) → 1 ≤ n → n ≤ 9 → g < 128 ^ n
    → to_z w64 ((bit_xor g (64 * 2 ^ (7 * (n - 1)) % 2 ^ 64)
    + (2 ^ 64 - 64 * 2 ^ (7 * (n - 1)) % 2 ^ 64)) % 2 ^ 64)
    ≡ (if nat_lt g (64 * 128 ^ (n - 1)) then pos g else pos g -ℤ pos (128 ^ n))
signed_groups g n some few room =
    let h = 64 * 128 ^ (n - 1) in
    let back : n - 1 + 1 ≡ n = omega arith in
    let power = rw back at (power_more (n - 1)) in
    let whole : 2 * h ≡ 128 ^ n = omega (arith, power) in
    let eight : n - 1 ≤ 8 = omega arith in
    let most : 128 ^ (n - 1) ≤ 128 ^ 8 = pow-le-pow_right {n = 128} (omega arith) eight in
    let places : 64 * 2 ^ (7 * (n - 1)) ≡ h = ap (λ x. 64 * x) (pow_128 (n - 1)) in
    let bit : h ≡ 2 ^ (6 + 7 * (n - 1)) = sym places ∙ sym (pow-add 2 6 (7 * (n - 1))) in
    let sign : 64 * 2 ^ (7 * (n - 1)) % 2 ^ 64 ≡ h =
    ap (λ x. x % 2 ^ 64) places ∙ mod-eq_of_lt (omega (arith, most)) in
    rw (sign, ← whole) (flipped_sign g (6 + 7 * (n - 1)) h bit (omega (arith, most))
    (rw (← whole) at room))
