-- Words of eight bytes: what masks, shifts and counts of zeros do lane by lane, the complement of a
-- word byte by byte, and the number of trailing zeros of a number in base 2.
use Rattle.std.proofs.Common.{◌≡◌, ℕ, ◌+◌, ◌-◌, ◌*◌, ◌/◌, ◌%◌, ◌^◌, ◌<◌, List, [], ◌∷◌, map, bit_and, bit_or, refl, ap, ◌∙◌, arith, length, pow-suc, zero, suc, sym}
use Rattle.std.proofs.Math.Nat.{mod-eq_of_lt, mul_assoc}
use Rattle.std.proofs.lemmas.Nat.{and_mask, and_block, or_block, from_le_bytes-to_le_bytes_8}
use Rattle.std.specs.Int.{w64, to_le_bytes, from_le_bytes}
use Rattle.std.specs.Int.Bits.{or_shifted_r, and_zero_r, and_zero_l, or_zero_l}
use Rattle.std.specs.List.{AllByRecursion}
use Rattle.scroll.specs.Leb128.{group, groups_value}
use Rattle.std.specs.Int.Count.{count_trailing_zeros}

-- the number with these digits in base 2 ^ k, the lowest first
abbrev pub lanes : ℕ → List ℕ → ℕ
lanes k [] = 0
lanes k (x ∷ xs) = lanes k xs * 2 ^ k + x

-- f, lane by lane
pub data Lanewise (f : ℕ → ℕ → ℕ) (k : ℕ) : List ℕ → List ℕ → List ℕ → Type 0 where
  done : Lanewise f k [] [] []
  lane : {x m r : ℕ} {xs ms rs : List ℕ} → x < 2 ^ k → m < 2 ^ k → f x m ≡ r → Lanewise f k xs ms rs
      → Lanewise f k (x ∷ xs) (m ∷ ms) (r ∷ rs)

pub and_lanes : {k : ℕ} {xs ms rs : List ℕ} → Lanewise bit_and k xs ms rs
    → bit_and (lanes k xs) (lanes k ms) ≡ lanes k rs
and_lanes done = and_zero_l 0
and_lanes {k} (lane {x} {m} {r} {xs} {ms} {rs} p q e rest) =
    and_block k (lanes k xs) (lanes k ms) x m p q ∙ rw (e, and_lanes rest) refl

pub or_lanes : {k : ℕ} {xs ms rs : List ℕ} → Lanewise bit_or k xs ms rs
    → bit_or (lanes k xs) (lanes k ms) ≡ lanes k rs
or_lanes done = or_zero_l 0
or_lanes {k} (lane {x} {m} {r} {xs} {ms} {rs} p q e rest) =
    or_block k (lanes k xs) (lanes k ms) x m p q ∙ rw (e, or_lanes rest) refl

-- a word is its bytes
pub word_lanes : (n : ℕ) → n < 2 ^ 64 → n ≡ lanes 8 (to_le_bytes w64 n)
word_lanes n fits = omega (arith, from_le_bytes-to_le_bytes_8 n fits)

pub bytes_small : (n : ℕ) → AllByRecursion (λ b. b < 256) (to_le_bytes w64 n)
bytes_small n = (
  omega arith,
  (
    omega arith,
    (
      omega arith,
      (
        omega arith,
        (omega arith, (omega arith, (omega arith, (omega arith, tt)))),
      ),
    ),
  ),
)

-- ---- the groups
low_bits : (bs : List ℕ) → AllByRecursion (λ b. b < 256) bs
    → Lanewise bit_and 8 bs (map (λ b. 127) bs) (map (λ b. b % 128) bs)
low_bits [] h = done
low_bits (b ∷ bs) h = lane h.0 (omega arith) (and_mask b 7) (low_bits bs h.1)

-- a lane under a mask of its own width, and under none
pub keep : (k x : ℕ) → x < 2 ^ k → bit_and x (2 ^ k - 1) ≡ x
keep k x h = and_mask x k ∙ mod-eq_of_lt h

-- eight groups of 7 bits in lanes of 8, four of 14 in lanes of 16, two of 28 in lanes of 32
eights : (a b c d e f g h : ℕ) → ℕ
eights a b c d e f g h = lanes 8 (a ∷ b ∷ c ∷ d ∷ e ∷ f ∷ g ∷ h ∷ [])

fours : (a b c d : ℕ) → ℕ
fours a b c d = lanes 16 (a ∷ b ∷ c ∷ d ∷ [])

twos : (a b : ℕ) → ℕ
twos a b = lanes 32 (a ∷ b ∷ [])

first_round : (a b c d e f g h : ℕ) → a < 128 → b < 128 → c < 128 → d < 128 → e < 128 → f < 128
    → g < 128 → h < 128
    → (eights a b c d e f g h + bit_and (eights a b c d e f g h) 0x007f_007f_007f_007f) %
    18446744073709551616 / 2
    ≡ fours (b * 2 ^ 7 + a) (d * 2 ^ 7 + c) (f * 2 ^ 7 + e) (h * 2 ^ 7 + g)
unfolding eights fours
first_round a b c d e f g h p q r s t u v w =
    let even : Lanewise bit_and 8 (a ∷ b ∷ c ∷ d ∷ e ∷ f ∷ g ∷ h ∷ [])
    (127 ∷ 0 ∷ 127 ∷ 0 ∷ 127 ∷ 0 ∷ 127 ∷ 0 ∷ []) (a ∷ 0 ∷ c ∷ 0 ∷ e ∷ 0 ∷ g ∷ 0 ∷ []) =
    lane (omega arith) (omega arith) (keep 7 a p) (lane (omega arith) (omega arith) (and_zero_r b)
    (lane (omega arith) (omega arith) (keep 7 c r) (lane (omega arith) (omega arith) (and_zero_r d)
    (lane (omega arith) (omega arith) (keep 7 e t) (lane (omega arith) (omega arith) (and_zero_r f)
    (lane (omega arith) (omega arith) (keep 7 g v)
    (lane (omega arith) (omega arith) (and_zero_r h) done))))))) in
    let low : bit_and (lanes 8 (a ∷ b ∷ c ∷ d ∷ e ∷ f ∷ g ∷ h ∷ [])) 0x007f_007f_007f_007f
    ≡ lanes 16 (a ∷ c ∷ e ∷ g ∷ []) =
    and_lanes even ∙ omega arith in
    rw low (omega arith)

second_round : (a b c d : ℕ) → a < 2 ^ 14 → b < 2 ^ 14 → c < 2 ^ 14 → d < 2 ^ 14
    → (fours a b c d + bit_and (fours a b c d) 0x0000_3fff_0000_3fff * 3 % 18446744073709551616) %
    18446744073709551616 / 4
    ≡ twos (b * 2 ^ 14 + a) (d * 2 ^ 14 + c)
unfolding fours twos
second_round a b c d p q r s =
    let even : Lanewise bit_and 16 (a ∷ b ∷ c ∷ d ∷ []) (0x3fff ∷ 0 ∷ 0x3fff ∷ 0 ∷ [])
    (a ∷ 0 ∷ c ∷ 0 ∷ []) =
    lane (omega arith) (omega arith) (keep 14 a p) (lane (omega arith) (omega arith) (and_zero_r b)
    (lane (omega arith) (omega arith) (keep 14 c r)
    (lane (omega arith) (omega arith) (and_zero_r d) done))) in
    let low : bit_and (lanes 16 (a ∷ b ∷ c ∷ d ∷ [])) 0x0000_3fff_0000_3fff
    ≡ lanes 32 (a ∷ c ∷ []) =
    and_lanes even ∙ omega arith in
    rw low (omega arith)

third_round : (a b : ℕ) → a < 2 ^ 28 → b < 2 ^ 28
    → bit_or (bit_and (twos a b) 0x0000_0000_0fff_ffff)
    (bit_and (twos a b) 0x0fff_ffff_0000_0000 / 16) ≡ b * 2 ^ 28 + a
unfolding twos
third_round a b p q =
    let even : Lanewise bit_and 32 (a ∷ b ∷ []) (0xfff_ffff ∷ 0 ∷ []) (a ∷ 0 ∷ []) =
    lane (omega arith) (omega arith) (keep 28 a p)
    (lane (omega arith) (omega arith) (and_zero_r b) done) in
    let odd : Lanewise bit_and 32 (a ∷ b ∷ []) (0 ∷ 0xfff_ffff ∷ []) (0 ∷ b ∷ []) =
    lane (omega arith) (omega arith) (and_zero_r a)
    (lane (omega arith) (omega arith) (keep 28 b q) done) in
    let low : bit_and (lanes 32 (a ∷ b ∷ [])) 0x0fff_ffff ≡ a = and_lanes even ∙ omega arith in
    let high : bit_and (lanes 32 (a ∷ b ∷ [])) 0x0fff_ffff_0000_0000 / 16 ≡ b * 2 ^ 28 =
    ap (λ n. n / 16) (and_lanes odd) ∙ omega arith in
    rw (low, high) (or_shifted_r b 28 a p)

groups_of_word : (n : ℕ) → n < 2 ^ 64
    → bit_and n 0x7f7f_7f7f_7f7f_7f7f ≡ lanes 8 (map (λ b. b % 128) (to_le_bytes w64 n))
groups_of_word n fits = ap (λ m. bit_and m 0x7f7f_7f7f_7f7f_7f7f) (word_lanes n fits)
    ∙ and_lanes (low_bits (to_le_bytes w64 n) (bytes_small n))

-- the words after each round, as the code makes them
abbrev pub paired : ℕ → ℕ
paired n = (n + bit_and n 0x007f_007f_007f_007f) % 18446744073709551616 / 2

abbrev pub quartered : ℕ → ℕ
quartered n =
    (n + bit_and n 0x0000_3fff_0000_3fff * 3 % 18446744073709551616) % 18446744073709551616 / 4

abbrev pub joined : ℕ → ℕ
joined n = bit_or (bit_and n 0x0000_0000_0fff_ffff) (bit_and n 0x0fff_ffff_0000_0000 / 16)

gathered_of : (a b c d e f g h : ℕ) → a < 128 → b < 128 → c < 128 → d < 128 → e < 128 → f < 128
    → g < 128 → h < 128
    → joined (quartered (paired (eights a b c d e f g h)))
    ≡ ((h * 2 ^ 7 + g) * 2 ^ 14 + (f * 2 ^ 7 + e)) * 2 ^ 28
    + ((d * 2 ^ 7 + c) * 2 ^ 14 + (b * 2 ^ 7 + a))
gathered_of a b c d e f g h p q r s t u v w =
    ap (λ n. joined (quartered n)) (first_round a b c d e f g h p q r s t u v w)
    ∙ ap joined (second_round (b * 2 ^ 7 + a) (d * 2 ^ 7 + c) (f * 2 ^ 7 + e) (h * 2 ^ 7 + g)
    (omega arith) (omega arith) (omega arith) (omega arith))
    ∙ third_round ((d * 2 ^ 7 + c) * 2 ^ 14 + (b * 2 ^ 7 + a))
    ((h * 2 ^ 7 + g) * 2 ^ 14 + (f * 2 ^ 7 + e)) (omega arith) (omega arith)

sum_of_eight : (a b c d e f g h : ℕ)
    → ((h * 2 ^ 7 + g) * 2 ^ 14 + (f * 2 ^ 7 + e)) * 2 ^ 28
    + ((d * 2 ^ 7 + c) * 2 ^ 14 + (b * 2 ^ 7 + a))
    ≡ 0 + a * 1 + b * 128 + c * 16384 + d * 2097152 + e * 268435456 + f * 34359738368
    + g * 4398046511104 + h * 562949953421312
sum_of_eight a b c d e f g h = omega arith

pub gathered_word : (n : ℕ) → n < 2 ^ 64
    → joined (quartered (paired (bit_and n 0x7f7f_7f7f_7f7f_7f7f)))
    ≡ groups_value (to_le_bytes w64 n) 8
unfolding eights
gathered_word n fits =
    let b : ℕ → ℕ = λ i. group (to_le_bytes w64 n) i in
    ap (λ m. joined (quartered (paired m))) (groups_of_word n fits)
    ∙ gathered_of (b 0) (b 1) (b 2) (b 3) (b 4) (b 5) (b 6) (b 7) (omega arith) (omega arith)
    (omega arith) (omega arith) (omega arith) (omega arith) (omega arith) (omega arith)
    ∙ sum_of_eight (b 0) (b 1) (b 2) (b 3) (b 4) (b 5) (b 6) (b 7)

-- what a function makes of each byte
abbrev pub each : (ℕ → ℕ) → List ℕ → ℕ
each f bs = lanes 8 (map f bs)

abbrev pub IsBytes : List ℕ → Type 0
IsBytes bs = AllByRecursion (λ b. b < 256) bs

abbrev pub KeepsBytes : (ℕ → ℕ) → Type 0
KeepsBytes f = (b : ℕ) → b < 256 → f b < 256

pub flipped : (f : ℕ → ℕ) → KeepsBytes f → (bs : List ℕ) → IsBytes bs
    → each (λ b. 255 - f b) bs + each f bs + 1 ≡ 256 ^ length bs
flipped f p [] h = refl
flipped f p (b ∷ bs) h = let small = p b h.0 in
    omega (arith, flipped f p bs h.1, small, pow-suc 256 (length bs))

pub each_itself : (bs : List ℕ) → lanes 8 bs ≡ each (λ b. b) bs
each_itself [] = refl
each_itself (b ∷ bs) = omega (arith, each_itself bs)

-- what holds for any eight bytes
eight : (P : List ℕ → Type 0) → ((a b c d e f g h : ℕ) → P (a ∷ b ∷ c ∷ d ∷ e ∷ f ∷ g ∷ h ∷ []))
    → (bs : List ℕ) → length bs ≡ 8 → P bs
eight P p [] l = absurd (omega arith)
eight P p (a ∷ []) l = absurd (omega arith)
eight P p (a ∷ b ∷ []) l = absurd (omega arith)
eight P p (a ∷ b ∷ c ∷ []) l = absurd (omega arith)
eight P p (a ∷ b ∷ c ∷ d ∷ []) l = absurd (omega arith)
eight P p (a ∷ b ∷ c ∷ d ∷ e ∷ []) l = absurd (omega arith)
eight P p (a ∷ b ∷ c ∷ d ∷ e ∷ f ∷ []) l = absurd (omega arith)
eight P p (a ∷ b ∷ c ∷ d ∷ e ∷ f ∷ g ∷ []) l = absurd (omega arith)
eight P p (a ∷ b ∷ c ∷ d ∷ e ∷ f ∷ g ∷ h ∷ []) l = p a b c d e f g h
eight P p (a ∷ b ∷ c ∷ d ∷ e ∷ f ∷ g ∷ h ∷ x ∷ xs) l = absurd (omega arith)

-- eight bytes as a number
pub lanes_word : (bs : List ℕ) → length bs ≡ 8 → from_le_bytes w64 bs ≡ lanes 8 bs
lanes_word = eight (λ bs. from_le_bytes w64 bs ≡ lanes 8 bs) (λ a b c d e f g h. omega arith)

zeros_even : (w k n m : ℕ) → w ≡ k + 1 → n ≡ m * 2
    → count_trailing_zeros w n ≡ 1 + count_trailing_zeros k m
unfolding count_trailing_zeros
zeros_even w k n m p q =
    let e : w ≡ suc k = omega arith in
    let even : n % 2 ≡ 0 = omega arith in
    let half : n / 2 ≡ m = omega arith in
    rw (e, even, half) (omega arith)

pub zeros_odd : (w k n : ℕ) → w ≡ k + 1 → n % 2 ≡ 1 → count_trailing_zeros w n ≡ 0
unfolding count_trailing_zeros
zeros_odd w k n p h =
    let e : w ≡ suc k = omega arith in
    rw (e, h) refl

pub zeros_shifted : (j k m : ℕ)
    → count_trailing_zeros (k + j) (m * 2 ^ j) ≡ j + count_trailing_zeros k m
zeros_shifted zero k m = let a : k + 0 ≡ k = omega arith in let b : m * 1 ≡ m = omega arith in
    rw (a, b) (omega arith)
zeros_shifted (suc j) k m =
    let double : m * 2 ^ suc j ≡ m * 2 ^ j * 2 =
    ap (λ x. m * x) (pow-suc 2 j) ∙ sym (mul_assoc m (2 ^ j) 2) in
    omega (
      arith,
      zeros_even (k + suc j) (k + j) (m * 2 ^ suc j) (m * 2 ^ j) (omega arith) double,
      zeros_shifted j k m,
    )
