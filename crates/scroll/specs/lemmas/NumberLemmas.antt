-- Numbers, floats and their bytes: what begins with the bytes of a number begins with the number,
-- and a number depends on its bytes alone; sums over the numbers below a bound, digits to a base,
-- and two's complement. The implementations of `Fixed` cite these lemmas. They are proved, and
-- promise nothing.
use Rattle.std.proofs.Common.{◌≡◌, ℕ, zero, suc, ◌+◌, ◌-◌, ◌*◌, ◌/◌, ◌%◌, ◌^◌, ◌<◌, refl, sym, ap, ◌∙◌, inl, inr, arith, ℤ, pos, neg_ℤ, nat_abs, ◌+ℤ◌, ◌-ℤ◌, ◌*ℤ◌, ◌≤ℤ◌, ◌<ℤ◌, List, length, slice_index, Fits, w8, All, ◌++◌, take, get_or, T, to_bits, from_bits}
use Rattle.std.proofs.Math.Arith.{mod-mul}
use Rattle.std.proofs.Math.Nat.{add_comm, add-mul-div_right, add-mul-mod_self_right, mod-eq_of_lt, mul_comm, one-le-pow, pow-suc, pow-zero}
use Rattle.std.proofs.lemmas.Bool.{cases_lt}
use Rattle.std.proofs.lemmas.Nat.{div-mul-add, mul-add-lt, pow-add}
use Rattle.scroll.specs.Bytes.{sum_below}
use Rattle.std.proofs.Math.ListN.{get_or-eq_default}
use Rattle.std.proofs.lemmas.List.Elements.{All-get_or}
use Rattle.std.proofs.lemmas.Int.{ints}
use Rattle.std.specs.Prelude.{int_lt, nat_lt, if◌then◌else◌}
use Rattle.std.proofs.lemmas.List.{get_or-take, get_or_append_left}
use Rattle.std.proofs.lemmas.List.FromFn.{get_or-map-range_with_len}
use Rattle.std.specs.Float.{Float, Format, binary32, binary64}
use Rattle.std.specs.Float.Ieee.{fits, top}
use lib.Ieee.Bits.{of_bits-to_bits, to_bits-lt}
use Rattle.scroll.specs.Numbers.{float_width, float, float_bytes, number, number_bytes, signed_number, signed_bytes}
use Rattle.scroll.specs.declared.endian.Endian.{Endian}
use Rattle.scroll.specs.declared.endian.Endian.TheVariants.{Little, Big}
use Rattle.scroll.specs.lemmas.Frames.{length-number_bytes}

-- sums of the same numbers
pub sum_below-same : (f g : ℕ → ℕ) (n : ℕ) → ((i : ℕ) → i < n → f i ≡ g i)
    → sum_below f n ≡ sum_below g n
sum_below-same f g zero h = refl
sum_below-same f g (suc n) h =
    let rest = sum_below-same f g n (λ i l. h i (omega (arith, l))) in
    let last = h n (omega arith) in
    omega (arith, rest, last)

-- the first number apart from the others
sum_below-first : (f : ℕ → ℕ) (n : ℕ) → sum_below f (suc n) ≡ f 0 + sum_below (λ i. f (suc i)) n
sum_below-first f zero = omega arith
sum_below-first f (suc n) = let before = sum_below-first f n in omega (arith, before)

-- the sum from the other end
pub sum_below-backwards : (f : ℕ → ℕ) (n : ℕ) → sum_below f n ≡ sum_below (λ i. f (n - 1 - i)) n
sum_below-backwards f zero = refl
sum_below-backwards f (suc n) =
    let before = sum_below-backwards f n in
    let first = sum_below-first (λ i. f (suc n - 1 - i)) n in
    let top : f (suc n - 1 - 0) ≡ f n = ap f (omega arith) in
    let rest : sum_below (λ i. f (suc n - 1 - suc i)) n ≡ sum_below (λ i. f (n - 1 - i)) n =
    sum_below-same (λ i. f (suc n - 1 - suc i)) (λ i. f (n - 1 - i)) n
    (λ i l. ap f (omega (arith, l))) in
    omega (arith, before, first, top, rest)

-- ---- digits to the base b, each times its power
-- w digits make a number below b ^ w
pub digits-bound : (b : ℕ) (d : ℕ → ℕ) → ((i : ℕ) → d i < b) → (w : ℕ)
    → sum_below (λ i. d i * b ^ i) w < b ^ w
digits-bound b d h zero = one-le-pow 0 b (omega (arith, h 0))
digits-bound b d h (suc w) = omega (
  arith,
  mul-add-lt (d w) (b ^ w) (sum_below (λ i. d i * b ^ i) w) b (h w)
      (digits-bound b d h w),
  pow-suc b w,
)

-- the digits of x make x again
pub digits-sum : (b : ℕ) → 0 < b → (w x : ℕ) → sum_below (λ i. x / b ^ i % b * b ^ i) w ≡ x % b ^ w
digits-sum b positive zero x = let one : b ^ 0 ≡ 1 = pow-zero b in rw one (omega arith)
digits-sum b positive (suc w) x =
    let before = digits-sum b positive w x in
    let split = mod-mul x {m = b} {c = b ^ w} positive (one-le-pow w b positive) in
    let power : b ^ suc w ≡ b * b ^ w = pow-suc b w ∙ mul_comm (b ^ w) b in
    rw (power, split, before) (omega arith)

shuffle : (a p b q : ℕ) → a * (p * b * q) ≡ a * p * b * q
shuffle a p b q = omega arith

-- and the number that digits make has these digits
pub digit-at : (b : ℕ) (d : ℕ → ℕ) → ((i : ℕ) → d i < b) → (w i : ℕ) → i < w
    → sum_below (λ j. d j * b ^ j) w / b ^ i % b ≡ d i
digit-at b d h zero i l = absurd (omega (arith, l))
digit-at b d h (suc w) i l =
    let below : ℕ = sum_below (λ j. d j * b ^ j) w in
    let positive : 0 < b = omega (arith, h 0) in
    elim (cases_lt i w) as (λ _. (sum_below (λ j. d j * b ^ j) w + d w * b ^ w) / b ^ i % b ≡ d i) [
      | inl inside ↦
          let k : ℕ = w - 1 - i in
          let split : b ^ w ≡ b ^ k * b * b ^ i =
          ap (λ n. b ^ n) (omega (arith, inside)) ∙ pow-add b (suc k) i
          ∙ ap (λ p. p * b ^ i) (pow-suc b k) in
          let whole : d w * b ^ w ≡ d w * b ^ k * b * b ^ i =
          ap (λ p. d w * p) split ∙ shuffle (d w) (b ^ k) b (b ^ i) in
          ap (λ n. (below + n) / b ^ i % b) whole
          ∙ ap (λ n. n % b) (add-mul-div_right below (d w * b ^ k * b) (one-le-pow i b positive))
          ∙ add-mul-mod_self_right (below / b ^ i) (d w * b ^ k) b
          ∙ digit-at b d h w i inside
      | inr top ↦
          let same : i ≡ w = omega (arith, l, top) in
          ap (λ j. (below + d w * b ^ w) / b ^ j % b) same
          ∙ ap (λ n. n / b ^ w % b) (add_comm below (d w * b ^ w))
          ∙ ap (λ n. n % b) (div-mul-add (d w) (b ^ w) below (digits-bound b d h w))
          ∙ mod-eq_of_lt (h w) ∙ ap d (sym same)
    ]

-- a signed number in two's complement of m values, and back
pub complement-back : (m : ℕ) (x : ℤ) → neg_ℤ (pos m) ≤ℤ (pos 2 *ℤ x) → (pos 2 *ℤ x) <ℤ pos m
    → (u : ℕ) → u ≡ (if int_lt x (pos 0) then nat_abs (pos m +ℤ x) else nat_abs x)
    → (u < m) × ((if nat_lt (2 * u) m then pos u else pos u -ℤ pos m) ≡ x)
complement-back m x low high u is = (grind (arith, ints), grind (arith, ints))

-- each element of a list of bytes fits a byte, and so does the default that is read past its end
pub bytes-fit : (s : List ℕ) → All (λ b. b < 256) s → (i : ℕ) → Fits w8 (slice_index s i)
bytes-fit s h i = elim (cases_lt i (length s)) as (λ _. Fits w8 (slice_index s i)) [
  | inl l ↦ record { fits = All-get_or (λ b. b < 256) s i 0 l h }
  | inr l ↦ record { fits = rw (get_or-eq_default s 0 l) (omega arith) }
]

-- the number in the first w bytes of a list depends only on these
pub number-prefix : (order : Endian) (w : ℕ) (s t : List ℕ)
    → ((i : ℕ) → i < w → slice_index s i ≡ slice_index t i) → number order w s ≡ number order w t
unfolding number
number-prefix Little w s t h = sum_below-same _ _ w (λ i l. ap (λ b. b * 256 ^ i) (h i l))
number-prefix Big w s t h = sum_below-same _ _ w (λ i l. ap (λ b. b * 256 ^ (w - 1 - i)) (h i l))

-- a big-endian number by its digits, the lowest first
pub number-backwards : (w : ℕ) (s : List ℕ)
    → number Big w s ≡ sum_below (λ i. slice_index s (w - 1 - i) * 256 ^ i) w
unfolding number
number-backwards w s =
    sum_below-backwards (λ i. slice_index s i * 256 ^ (w - 1 - i)) w
    ∙ sum_below-same _ _ w
    (λ i l. ap (λ k. slice_index s (w - 1 - i) * 256 ^ k) (omega (arith, l)))

-- the number in the bytes of x
number-number_bytes : (order : Endian) (w x : ℕ) → x < 256 ^ w
    → number order w (number_bytes order w x) ≡ x
unfolding number
number-number_bytes Little w x h =
    sum_below-same _ _ w (λ i l. ap (λ b. b * 256 ^ i)
    (get_or-map-range_with_len (λ j. x / 256 ^ j % 256) 0 w i i 0 l (omega arith)))
    ∙ digits-sum 256 (omega arith) w x ∙ mod-eq_of_lt h
number-number_bytes Big w x h =
    sum_below-same _ _ w
    (λ i l. ap (λ b. b * 256 ^ (w - 1 - i))
    (get_or-map-range_with_len (λ j. x / 256 ^ (w - 1 - j) % 256) 0 w i i 0 l (omega arith)))
    ∙ sym (sum_below-backwards (λ i. x / 256 ^ i % 256 * 256 ^ i) w)
    ∙ digits-sum 256 (omega arith) w x ∙ mod-eq_of_lt h

-- a list that begins with the bytes of x begins with that number
pub number-begins : (order : Endian) (w x : ℕ) (rest : List ℕ) → x < 256 ^ w
    → number order w (number_bytes order w x ++ rest) ≡ x
number-begins order w x rest h =
    let len = length-number_bytes order w x in
    number-prefix order w (number_bytes order w x ++ rest) (number_bytes order w x)
    (λ i l. get_or_append_left (number_bytes order w x) rest 0 i (omega (arith, l, len)))
    ∙ number-number_bytes order w x h

-- a list that begins with the bytes of a signed number begins with that number
pub signed-begins : (order : Endian) (w : ℕ) (x : ℤ) (rest : List ℕ)
    → neg_ℤ (pos (256 ^ w)) ≤ℤ (pos 2 *ℤ x) → (pos 2 *ℤ x) <ℤ pos (256 ^ w)
    → signed_number order w (signed_bytes order w x ++ rest) ≡ x
unfolding signed_number
signed-begins order w x rest low high =
    let back = complement-back (256 ^ w) x low high
    (if int_lt x (pos 0) then nat_abs (pos (256 ^ w) +ℤ x) else nat_abs x) refl in
    ap (λ (n : ℕ). if nat_lt (2 * n) (256 ^ w) then pos n else pos n -ℤ pos (256 ^ w))
    (number-begins order w (if int_lt x (pos 0) then nat_abs (pos (256 ^ w) +ℤ x)
    else nat_abs x) rest back.0)
    ∙ back.1

-- lists with the same first w bytes have the same number there
pub number-same : (w : ℕ) (order : Endian) (s t : List ℕ) → take w t ≡ take w s
    → number order w t ≡ number order w s
number-same w order s t prefix =
    number-prefix order w t s (λ i l. sym (get_or-take w t i 0 l) ∙ ap (λ x. get_or x i 0) prefix
    ∙ get_or-take w s i 0 l)

pub signed-same : (w : ℕ) (order : Endian) (s t : List ℕ) → take w t ≡ take w s
    → signed_number order w t ≡ signed_number order w s
unfolding signed_number
signed-same w order s t prefix =
    ap (λ (n : ℕ). if nat_lt (2 * n) (256 ^ w) then pos n else pos n -ℤ pos (256 ^ w))
    (number-same w order s t prefix)

-- the bits of a format are those of its bytes
pub all-bits : (f : Format) → 2 * top f ≡ 256 ^ float_width f
all-bits binary32 = refl
all-bits binary64 = refl

-- a list that begins with the bytes of a float begins with that float
pub float-begins : (f : Format) (order : Endian) (x : Float) (rest : List ℕ) → T (fits f x)
    → float f order (float_bytes f order x ++ rest) ≡ x
float-begins f order x rest h =
    let bound : to_bits f x < 256 ^ float_width f = omega (arith, to_bits-lt f x h, all-bits f) in
    ap (from_bits f) (number-begins order (float_width f) (to_bits f x) rest bound)
    ∙ of_bits-to_bits f x h
