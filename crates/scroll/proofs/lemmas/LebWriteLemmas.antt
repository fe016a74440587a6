-- Encodings as a writer makes them: digits of the groups, the shortest count, and signed numbers.
use Rattle.std.proofs.Common.{◌≡◌, ℕ, suc, ◌+◌, ◌-◌, ◌*◌, ◌/◌, ◌%◌, ◌^◌, ◌<◌, ◌≤◌, inl, inr, true, false, nat_lt, List, ◌++◌, length, take, drop, get_or, bit_and, bit_or, refl, sym, ap, ◌∙◌, arith, ℤ, pos, negsuc, of_z, FitsSigned}
use Rattle.std.proofs.Math.ListN.{set}
use Rattle.std.proofs.Math.Nat.{mod-eq_of_lt, mul_assoc, one-le-pow}
use Rattle.std.proofs.Math.Pow.{pow_mono}
use Rattle.std.proofs.lemmas.Nat.{pow-add, mod-mul-add, div-mul-add, div_below, and_mask, leading_top, le_or_l, le_or_r, or_lt}
use Rattle.std.proofs.lemmas.Int.{ints}
use Rattle.std.proofs.lemmas.Bool.{cases_lt}
use Rattle.std.proofs.lemmas.Bool.Decides.{nat_tests}
use Rattle.std.proofs.lemmas.Grind.{get_or-set_at}
use Rattle.std.proofs.lemmas.List.{length-take-le, get_or-take, take-append-drop, drop-set-lt, length-set, get_or-set_other}
use Rattle.std.proofs.lemmas.List.FromFn.{fill_by_all}
use Rattle.std.specs.Int.{w64}
use Rattle.std.specs.Int.Bits.{or_shifted_r}
use Rattle.std.specs.Int.Count.{count_leading_zeros}
use Rattle.std.specs.Int.Signed.{lt_z}
use Rattle.scroll.specs.Encoding.{encoded_byte, encoding, unsigned_form, HoldsGroups, HasSignedEncoding, ten_groups, magnitude_bits, IsLeast}
use Rattle.scroll.proofs.lemmas.LebLemmas.{pow_128, power_more}
use Rattle.scroll.proofs.lemmas.EncodingLemmas.{power_last}

-- ---- digits
-- r = y * p + z, and a multiple of 128 * p
split_at : (q k p y z : ℕ) → q * (k * (128 * p)) + (y * p + z) ≡ (q * k * 128 + y) * p + z
split_at q k p y z = omega (arith, mul_assoc q k (128 * p), mul_assoc (q * k) 128 p)

-- multiples of 128 ^ m don't change the digits below m
pub digit_low : (q r m i : ℕ) → i < m → (q * 128 ^ m + r) / 128 ^ i % 128 ≡ r / 128 ^ i % 128
digit_low q r m i h =
    let k = m - (i + 1) in
    let whole : k + (i + 1) ≡ m = omega arith in
    let power : 128 ^ m ≡ 128 ^ k * (128 * 128 ^ i) = ap (λ j. 128 ^ j) (sym whole)
    ∙ pow-add 128 k (i + 1) ∙ ap (λ x. 128 ^ k * x) (power_more i) in
    let positive : 0 < 128 ^ i = one-le-pow i 128 (omega arith) in
    let parts : r ≡ r / 128 ^ i * 128 ^ i + r % 128 ^ i = omega arith in
    let form : q * 128 ^ m + r ≡ (q * 128 ^ k * 128 + r / 128 ^ i) * 128 ^ i + r % 128 ^ i =
    ap (λ x. q * x + r) power ∙ ap (λ x. q * (128 ^ k * (128 * 128 ^ i)) + x) parts
    ∙ split_at q (128 ^ k) (128 ^ i) (r / 128 ^ i) (r % 128 ^ i) in
    ap (λ x. x / 128 ^ i % 128) form
    ∙ ap (λ x. x % 128) (div-mul-add (q * 128 ^ k * 128 + r / 128 ^ i) (128 ^ i) (r % 128 ^ i)
    (omega arith))
    ∙ omega arith

pub digit_mod : (x m i : ℕ) → i < m → x % 128 ^ m / 128 ^ i % 128 ≡ x / 128 ^ i % 128
digit_mod x m i h =
    let positive : 0 < 128 ^ m = one-le-pow m 128 (omega arith) in
    let parts : x ≡ x / 128 ^ m * 128 ^ m + x % 128 ^ m = omega arith in
    sym (ap (λ y. y / 128 ^ i % 128) parts ∙ digit_low (x / 128 ^ m) (x % 128 ^ m) m i h)

-- the first nine of ten groups are those of the word
pub word_digit : (low tenth n i : ℕ) → i < n → i < 9
    → ten_groups low tenth % 128 ^ n / 128 ^ i % 128 ≡ low / 128 ^ i % 128
word_digit low tenth n i within nine =
    digit_mod (ten_groups low tenth) n i within ∙ digit_low tenth (low % 2 ^ 63) 9 i nine
    ∙ digit_mod low 9 i nine

-- and the tenth is given
pub tenth_digit : (low tenth n i : ℕ) → tenth < 128 → i < n → 9 ≤ i → n ≤ 10
    → ten_groups low tenth % 128 ^ n / 128 ^ i % 128 ≡ tenth
tenth_digit low tenth n i small within nine few =
    let i_is : i ≡ 9 = omega arith in
    digit_mod (ten_groups low tenth) n i within ∙ rw i_is (omega arith)

pub group_digit : (low tenth n i g : ℕ) → i < n → i < 9 → g ≡ bit_and (low / 2 ^ (7 * i)) 127
    → g ≡ ten_groups low tenth % 128 ^ n / 128 ^ i % 128
group_digit low tenth n i g within nine e =
    e ∙ and_mask (low / 2 ^ (7 * i)) 7 ∙ ap (λ x. low / x % 128) (pow_128 i)
    ∙ sym (word_digit low tenth n i within nine)

-- ---- the bytes of an encoding
pub marked_byte : (u n i g : ℕ) → i + 1 < n → g ≡ u / 128 ^ i % 128
    → bit_or g 128 ≡ encoded_byte u n i
marked_byte u n i g more e =
    let t : nat_lt (i + 1) n ≡ true = grind (arith, nat_tests) in
    let low : g < 128 = omega arith in
    rw t (or_shifted_r 1 7 g low ∙ ap (λ x. 128 + x) e)

pub last_byte : (u n i g : ℕ) → u < 128 ^ n → i < n → n ≤ i + 1 → g ≡ u / 128 ^ i % 128
    → g ≡ encoded_byte u n i
last_byte u n i g room before last e =
    let t : nat_lt (i + 1) n ≡ false = grind (arith, nat_tests) in
    let n_is : n ≡ i + 1 = omega arith in
    let positive : 0 < 128 ^ i = one-le-pow i 128 (omega arith) in
    let below : u / 128 ^ i < 128 =
    div_below u (128 ^ i) 128 positive (rw (n_is, power_more i) at room) in
    rw t (e ∙ mod-eq_of_lt below)

pub mod_room : (x n : ℕ) → x % 128 ^ n < 128 ^ n
mod_room x n = let positive : 0 < 128 ^ n = one-le-pow n 128 (omega arith) in omega arith

-- a target whose first bytes are those of an encoding
pub encoding_written : (u n : ℕ) (old new : List ℕ) → n ≤ length new
    → ((k : ℕ) → k < n → get_or new k 0 ≡ encoded_byte u n k) → drop n new ≡ drop n old
    → new ≡ encoding u n ++ drop n old
encoding_written u n old new room bytes rest =
    let prefix : take n new ≡ encoding u n =
    fill_by_all (encoded_byte u n) (take n new) n 0 (length-take-le n new room)
    (λ k h. get_or-take n new k 0 h ∙ bytes k h) in
    sym (take-append-drop n new) ∙ rw (prefix, rest) refl

-- the byte before the last is the same whatever the length
pub open_same : (x m n i : ℕ) → i + 1 < m → i + 1 < n
    → encoded_byte (x % 128 ^ m) m i ≡ encoded_byte (x % 128 ^ n) n i
open_same x m n i p q =
    let s : nat_lt (i + 1) m ≡ true = grind (arith, nat_tests) in
    let t : nat_lt (i + 1) n ≡ true = grind (arith, nat_tests) in
    rw (s, t) (ap (λ d. 128 + d)
    (digit_mod x m i (omega arith) ∙ sym (digit_mod x n i (omega arith))))

-- a target of an encoding of two or three bytes, whose second byte may be written twice
pub short_written : (u n a b l : ℕ) (old : List ℕ) → 2 ≤ n → n ≤ 3 → n ≤ length old
    → a ≡ encoded_byte u n 0 → (n ≡ 3 → b ≡ encoded_byte u n 1)
    → l ≡ encoded_byte u n (n - 1) → set (set (set old 0 a) 1 b) (n - 1) l
    ≡ encoding u n ++ drop n old
short_written u n a b l old some few room first second last =
    let one = set old 0 a in
    let two = set one 1 b in
    let new = set two (n - 1) l in
    let size_one : length one ≡ length old = length-set old 0 a in
    let size_two : length two ≡ length old = length-set one 1 b ∙ size_one in
    let size : length new ≡ length old = length-set two (n - 1) l ∙ size_two in
    let byte =
    λ (k : ℕ) (h : k < n). elim (cases_lt k (n - 1))
    as (λ _. get_or new k 0 ≡ encoded_byte u n k) [
      | inl early ↦ get_or-set_other two (n - 1) k l 0 (λ (e : k ≡ n - 1). omega (arith, e, early))
          ∙ elim (cases_lt k 1) as (λ _. get_or two k 0 ≡ encoded_byte u n k) [
            | inl prefix ↦
                let here : k ≡ 0 = omega arith in
                get_or-set_other one 1 k b 0 (λ (e : k ≡ 1). omega (arith, e, here))
                ∙ get_or-set_at old 0 k a 0 here (omega (arith, room, some)) ∙ first
                ∙ ap (encoded_byte u n) (sym here)
            | inr middle ↦
                let here : k ≡ 1 = omega (arith, middle, early, few) in
                get_or-set_at one 1 k b 0 here (omega (arith, size_one, room, some))
                ∙ second (omega (arith, middle, early, few)) ∙ ap (encoded_byte u n) (sym here)
          ]
      | inr late ↦
          let here : k ≡ n - 1 = omega (arith, late, h) in
          get_or-set_at two (n - 1) k l 0 here (omega (arith, size_two, room, some)) ∙ last
          ∙ ap (encoded_byte u n) (sym here)
    ] in
    let rest : drop n new ≡ drop n old =
    drop-set-lt n two (n - 1) l (omega arith) ∙ drop-set-lt n one 1 b (omega arith)
    ∙ drop-set-lt n old 0 a (omega arith) in
    encoding_written u n old new (omega (arith, size, room)) byte rest

-- ---- the shortest count
pub place_found : (v l : ℕ) → v < 2 ^ 64 → l ≡ count_leading_zeros 64 (bit_or v 1)
    → (l ≤ 63) × (2 ^ (63 - l) ≤ bit_or v 1) × (bit_or v 1 < 2 ^ (63 - l + 1))
place_found v l fits e =
    let some : 0 < bit_or v 1 = omega (arith, le_or_r v 1) in
    let top = leading_top 64 (bit_or v 1) some (or_lt 64 v 1 fits (omega arith)) in
    let index : 63 - l ≡ top.0 = omega (arith, top.1) in
    let next : 63 - l + 1 ≡ suc top.0 = omega (arith, index) in
    (omega (arith, top.1), rw index top.2, rw next top.3)

pub shortest_found : (v p n : ℕ) → p ≤ 63 → 2 ^ p ≤ bit_or v 1 → bit_or v 1 < 2 ^ (p + 1)
    → n ≡ (p * 9 + 73) / 64 → IsLeast (HoldsGroups v) n
shortest_found v p n few above below e =
    let n_is : n ≡ p / 7 + 1 = omega arith in
    let wide : 2 ^ (p + 1) ≤ 2 ^ (7 * n) = pow_mono {i = p + 1} {j = 7 * n} (omega arith) in
    record {
      has = record {
        some = omega arith;
        few = omega arith;
        room = omega (arith, wide, pow_128 n, le_or_l v 1);
        fits = tt;
      };
      least = λ (m : ℕ) (has : HoldsGroups v m). elim (cases_lt m n) [
        | inl short ↦
            let some : 1 ≤ m = has.some in
            let room : v < 2 ^ (7 * m) = omega (arith, pow_128 m, has.room) in
            let one : 2 ^ 1 ≤ 2 ^ (7 * m) = pow_mono {i = 1} {j = 7 * m} (omega arith) in
            let both : bit_or v 1 < 2 ^ (7 * m) = or_lt (7 * m) v 1 room (omega arith) in
            let narrow : 2 ^ (7 * m) ≤ 2 ^ p = pow_mono {i = 7 * m} {j = p} (omega arith) in
            absurd (omega arith)
        | inr h ↦ h
      ];
    }

-- ---- signed numbers
to_turned : (v : ℤ) (n : ℕ) → HasSignedEncoding v n → HoldsGroups (2 * magnitude_bits v) n
to_turned (pos a) n h =
    record {
      some = h.some;
      few = h.few;
      room = omega (arith, ints, power_last n h.some, h.room);
      fits = tt;
    }
to_turned (negsuc k) n h =
    record {
      some = h.some;
      few = h.few;
      room = omega (arith, ints, power_last n h.some, h.room);
      fits = tt;
    }

from_turned : (v : ℤ) (n : ℕ) → FitsSigned w64 v → HoldsGroups (2 * magnitude_bits v) n
    → HasSignedEncoding v n
from_turned (pos a) n fits h = let power = power_last n h.some in
    let room : 2 * a < 128 ^ n = h.room in
    record {
      some = h.some;
      few = h.few;
      room = (omega (arith, ints), omega (arith, ints));
      fits = fits;
    }
from_turned (negsuc k) n fits h = let power = power_last n h.some in
    let room : 2 * k < 128 ^ n = h.room in
    record {
      some = h.some;
      few = h.few;
      room = (omega (arith, ints), omega (arith, ints));
      fits = fits;
    }

-- a signed number takes as many groups as twice `magnitude_bits` of it
pub signed_least : (v : ℤ) (n : ℕ) → FitsSigned w64 v
    → IsLeast (HoldsGroups (2 * magnitude_bits v)) n → IsLeast (HasSignedEncoding v) n
signed_least v n fits h =
    record { has = from_turned v n fits h.has; least = λ m s. h.least m (to_turned v m s) }

pub magnitude_below : (v : ℤ) (r : ℕ) → FitsSigned w64 v → lt_z v (pos 0) ≡ true
    → r ≡ 18446744073709551615 - of_z w64 v → r ≡ magnitude_bits v
magnitude_below (pos a) r fits h e = absurd (omega (arith, ints))
magnitude_below (negsuc k) r fits h e = omega (arith, ints)

pub magnitude_above : (v : ℤ) (r : ℕ) → lt_z v (pos 0) ≡ false → r ≡ of_z w64 v
    → r ≡ magnitude_bits v
magnitude_above (pos a) r h e = e
magnitude_above (negsuc k) r h e = absurd (omega (arith, ints))

pub twice_magnitude : (v : ℤ) → FitsSigned w64 v
    → magnitude_bits v * 2 % 2 ^ 64 ≡ 2 * magnitude_bits v
twice_magnitude (pos a) fits = let small : a < 2 ^ 63 = omega (arith, ints) in omega arith
twice_magnitude (negsuc k) fits = let small : k < 2 ^ 63 = omega (arith, ints) in omega arith

-- the tenth group of a signed number
abbrev pub tenth_of : ℤ → ℕ
tenth_of (pos a) = 0
tenth_of (negsuc k) = 127

pub tenth_below : (v : ℤ) (t : ℕ) → lt_z v (pos 0) ≡ true → t ≡ 127 → t ≡ tenth_of v
tenth_below (pos a) t h e = absurd (omega (arith, ints))
tenth_below (negsuc k) t h e = e

pub tenth_above : (v : ℤ) (t : ℕ) → lt_z v (pos 0) ≡ false → t ≡ 0 → t ≡ tenth_of v
tenth_above (pos a) t h e = e
tenth_above (negsuc k) t h e = absurd (omega (arith, ints))

below_zero : (k n : ℕ) → n ≤ 10 → suc k ≤ 128 ^ n → suc k ≤ 2 ^ 63
    → ten_groups (2 ^ 64 - suc k) 127 % 128 ^ n ≡ 128 ^ n - suc k
below_zero k n few room fits =
    let whole : 10 - n + n ≡ 10 = omega arith in
    let q = 128 ^ (10 - n) in
    let power : q * 128 ^ n ≡ 2 ^ 70 = sym (pow-add 128 (10 - n) n) ∙ ap (λ j. 128 ^ j) whole in
    let positive : 0 < q = one-le-pow (10 - n) 128 (omega arith) in
    let before : q ≡ q - 1 + 1 = omega arith in
    let split : (q - 1) * 128 ^ n + 128 ^ n ≡ 2 ^ 70 = omega (arith, rw before at power) in
    let low : (2 ^ 64 - suc k) % 2 ^ 63 ≡ 2 ^ 63 - suc k = omega arith in
    let form : ten_groups (2 ^ 64 - suc k) 127 ≡ (q - 1) * 128 ^ n + (128 ^ n - suc k) =
    omega (arith, low, split) in
    ap (λ x. x % 128 ^ n) form ∙ mod-mul-add (q - 1) (128 ^ n) (128 ^ n - suc k) (omega arith)

pub signed_groups_form : (v : ℤ) (n : ℕ) → HasSignedEncoding v n
    → ten_groups (of_z w64 v) (tenth_of v) % 128 ^ n ≡ unsigned_form v n
signed_groups_form (pos a) n h =
    let fits : FitsSigned w64 (pos a) = h.fits in
    let small : a < 128 ^ n = omega (arith, ints, power_last n h.some, h.room) in
    let half : a < 2 ^ 63 = omega (arith, ints) in
    let low : ten_groups a 0 ≡ a = omega arith in
    ap (λ x. x % 128 ^ n) low ∙ mod-eq_of_lt small
signed_groups_form (negsuc k) n h =
    let fits : FitsSigned w64 (negsuc k) = h.fits in
    below_zero k n h.few (omega (arith, ints, power_last n h.some, h.room)) (omega (arith, ints))

-- and those of an unsigned one, the tenth by its top bit
pub unsigned_groups_form : (v n : ℕ) → v < 128 ^ n → ten_groups v (v / 2 ^ 63) % 128 ^ n ≡ v
unsigned_groups_form v n room =
    let whole : ten_groups v (v / 2 ^ 63) ≡ v = omega arith in
    ap (λ x. x % 128 ^ n) whole ∙ mod-eq_of_lt room
