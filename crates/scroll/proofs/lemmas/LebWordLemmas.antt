-- Words of four groups, and targets of an encoding that were written by them.
use Rattle.std.proofs.Common.{◌≡◌, ℕ, ◌+◌, ◌-◌, ◌*◌, ◌/◌, ◌%◌, ◌^◌, ◌<◌, ◌≤◌, inl, inr, true, nat_lt, List, [], ◌∷◌, ◌++◌, length, drop, get_or, bit_and, bit_or, refl, sym, ap, ◌∙◌, arith, below_none, below_more}
use Rattle.std.proofs.Math.Nat.{div-div-eq-div-mul}
use Rattle.std.proofs.lemmas.Nat.{pow-add, and_mask, and_block}
use Rattle.std.proofs.lemmas.Bool.{cases_lt}
use Rattle.std.proofs.lemmas.Bool.Decides.{nat_tests}
use Rattle.std.proofs.lemmas.List.{drop-drop}
use Rattle.std.specs.Int.{w32, to_le_bytes}
use Rattle.std.specs.Int.Bits.{or_shifted_r, and_zero_r, or_zero_r}
use Rattle.scroll.specs.Encoding.{encoded_byte, encoding, ten_groups}
use Rattle.scroll.proofs.lemmas.WordLemmas.{lanes, Lanewise, done, lane, and_lanes, or_lanes, keep}
use Rattle.scroll.proofs.lemmas.LebLemmas.{pow_128}
use Rattle.scroll.proofs.lemmas.LebWriteLemmas.{word_digit, last_byte, mod_room, encoding_written}

-- ---- four groups in a word of four bytes
-- the words after each round, as the code makes them
abbrev pub parted : ℕ → ℕ
parted n = (n + bit_and n 268419072 * 3 % 4294967296) % 4294967296

abbrev pub spaced : ℕ → ℕ
spaced n = (n + bit_and n 1065369472) % 4294967296

first_part : (a b : ℕ) → a < 2 ^ 14 → b < 2 ^ 14 → parted (b * 2 ^ 14 + a) ≡ lanes 16 (a ∷ b ∷ [])
first_part a b p q =
    let high : bit_and (b * 2 ^ 14 + a) 268419072 ≡ b * 2 ^ 14 =
    and_block 14 b 16383 a 0 p (omega arith) ∙ rw (keep 14 b q, and_zero_r a) (omega arith) in
    rw high (omega arith)

top_group : (a b : ℕ) → a < 128 → b < 128 → bit_and (b * 2 ^ 7 + a) 16256 ≡ b * 2 ^ 7
top_group a b p q =
    and_block 7 b 127 a 0 p (omega arith) ∙ rw (keep 7 b q, and_zero_r a) (omega arith)

second_part : (a b c d : ℕ) → a < 128 → b < 128 → c < 128 → d < 128
    → spaced (lanes 16 ((b * 2 ^ 7 + a) ∷ (d * 2 ^ 7 + c) ∷ [])) ≡ lanes 8 (a ∷ b ∷ c ∷ d ∷ [])
second_part a b c d p q r s =
    let tops : Lanewise bit_and 16 ((b * 2 ^ 7 + a) ∷ (d * 2 ^ 7 + c) ∷ []) (16256 ∷ 16256 ∷ [])
    ((b * 2 ^ 7) ∷ (d * 2 ^ 7) ∷ []) =
    lane (omega arith) (omega arith) (top_group a b p q)
    (lane (omega arith) (omega arith) (top_group c d r s) done) in
    let high : bit_and (lanes 16 ((b * 2 ^ 7 + a) ∷ (d * 2 ^ 7 + c) ∷ [])) 1065369472
    ≡ lanes 16 ((b * 2 ^ 7) ∷ (d * 2 ^ 7) ∷ []) =
    and_lanes tops in
    rw high (omega arith)

pub spread_word : (low : ℕ)
    → spaced (parted (bit_and low 268435455))
    ≡ lanes 8 ((low / 1 % 128) ∷ (low / 128 % 128) ∷ (low / 16384 % 128) ∷ (low / 2097152 % 128)
    ∷ [])
spread_word low =
    let a = low / 1 % 128 in
    let b = low / 128 % 128 in
    let c = low / 16384 % 128 in
    let d = low / 2097152 % 128 in
    let e : bit_and low 268435455 ≡ (d * 2 ^ 7 + c) * 2 ^ 14 + (b * 2 ^ 7 + a) =
    and_mask low 28 ∙ omega arith in
    ap (λ n. spaced (parted n)) e
    ∙ ap spaced (first_part (b * 2 ^ 7 + a) (d * 2 ^ 7 + c) (omega arith) (omega arith))
    ∙ second_part a b c d (omega arith) (omega arith) (omega arith) (omega arith)

mark : (d : ℕ) → d < 128 → bit_or d 128 ≡ 128 + d
mark d h = or_shifted_r 1 7 d h

open_word : (a b c d : ℕ) → a < 128 → b < 128 → c < 128 → d < 128
    → bit_or (lanes 8 (a ∷ b ∷ c ∷ d ∷ [])) 2155905152
    ≡ lanes 8 ((128 + a) ∷ (128 + b) ∷ (128 + c) ∷ (128 + d) ∷ [])
open_word a b c d p q r s =
    let marks : Lanewise bit_or 8 (a ∷ b ∷ c ∷ d ∷ []) (128 ∷ 128 ∷ 128 ∷ 128 ∷ [])
    ((128 + a) ∷ (128 + b) ∷ (128 + c) ∷ (128 + d) ∷ []) =
    lane (omega arith) (omega arith) (mark a p)
    (lane (omega arith) (omega arith) (mark b q)
    (lane (omega arith) (omega arith) (mark c r)
    (lane (omega arith) (omega arith) (mark d s) done))) in
    or_lanes marks

last_word : (a b c d : ℕ) → a < 128 → b < 128 → c < 128 → d < 128
    → bit_or (lanes 8 (a ∷ b ∷ c ∷ d ∷ [])) 8421504
    ≡ lanes 8 ((128 + a) ∷ (128 + b) ∷ (128 + c) ∷ d ∷ [])
last_word a b c d p q r s =
    let marks : Lanewise bit_or 8 (a ∷ b ∷ c ∷ d ∷ []) (128 ∷ 128 ∷ 128 ∷ 0 ∷ [])
    ((128 + a) ∷ (128 + b) ∷ (128 + c) ∷ d ∷ []) =
    lane (omega arith) (omega arith) (mark a p)
    (lane (omega arith) (omega arith) (mark b q)
    (lane (omega arith) (omega arith) (mark c r)
    (lane (omega arith) (omega arith) (or_zero_r d) done))) in
    or_lanes marks

four_bytes : (n a b c d : ℕ) → n ≡ lanes 8 (a ∷ b ∷ c ∷ d ∷ []) → a < 256 → b < 256 → c < 256
    → d < 256 → to_le_bytes w32 n ≡ (a ∷ b ∷ c ∷ d ∷ [])
four_bytes n a b c d e p q r s =
    let x : n % 256 ≡ a = omega arith in
    let y : n / 256 % 256 ≡ b = omega arith in
    let z : n / 65536 % 256 ≡ c = omega arith in
    let w : n / 16777216 % 256 ≡ d = omega arith in
    cc

pub open_bytes : (low g : ℕ) (bytes : List ℕ)
    → g ≡ 0 + low / 1 % 128 * 1 + low / 128 % 128 * 256 + low / 16384 % 128 * 65536
    + low / 2097152 % 128 * 16777216
    → bytes ≡ to_le_bytes w32 (bit_or g 2155905152) → (k : ℕ) → k < 4 → get_or bytes k 0
    ≡ 128 + low / 128 ^ k % 128
open_bytes low g bytes e is =
    let a = low / 1 % 128 in
    let b = low / 128 % 128 in
    let c = low / 16384 % 128 in
    let d = low / 2097152 % 128 in
    let word : g ≡ lanes 8 (a ∷ b ∷ c ∷ d ∷ []) = e ∙ omega arith in
    let marked = ap (λ n. bit_or n 2155905152) word
    ∙ open_word a b c d (omega arith) (omega arith) (omega arith) (omega arith) in
    let list =
    is ∙ four_bytes (bit_or g 2155905152) (128 + a) (128 + b) (128 + c) (128 + d) marked
    (omega arith) (omega arith) (omega arith) (omega arith) in
    let P = λ (k : ℕ). get_or bytes k 0 ≡ 128 + low / 128 ^ k % 128 in
    below_more P 3 (below_more P 2
    (below_more P 1 (below_more P 0 (below_none P) (rw list refl)) (rw list refl))
    (rw list refl)) (rw list refl)

pub last_bytes : (low g : ℕ) (bytes : List ℕ)
    → g ≡ 0 + low / 1 % 128 * 1 + low / 128 % 128 * 256 + low / 16384 % 128 * 65536
    + low / 2097152 % 128 * 16777216
    → bytes ≡ to_le_bytes w32 (bit_or g 8421504)
    → ((k : ℕ) → k < 3 → get_or bytes k 0 ≡ 128 + low / 128 ^ k % 128)
    × (get_or bytes 3 0 ≡ low / 2097152 % 128)
last_bytes low g bytes e is =
    let a = low / 1 % 128 in
    let b = low / 128 % 128 in
    let c = low / 16384 % 128 in
    let d = low / 2097152 % 128 in
    let word : g ≡ lanes 8 (a ∷ b ∷ c ∷ d ∷ []) = e ∙ omega arith in
    let marked = ap (λ n. bit_or n 8421504) word
    ∙ last_word a b c d (omega arith) (omega arith) (omega arith) (omega arith) in
    let list =
    is ∙ four_bytes (bit_or g 8421504) (128 + a) (128 + b) (128 + c) d marked (omega arith)
    (omega arith) (omega arith) (omega arith) in
    let P = λ (k : ℕ). get_or bytes k 0 ≡ 128 + low / 128 ^ k % 128 in (
      below_more P 2 (below_more P 1 (below_more P 0 (below_none P) (rw list refl)) (rw list refl))
          (rw list refl),
      rw list refl,
    )

-- ---- bytes of an encoding from the digits of its word
pub open_byte : (low tenth n k b : ℕ) → k + 1 < n → k < 9 → b ≡ 128 + low / 128 ^ k % 128
    → b ≡ encoded_byte (ten_groups low tenth % 128 ^ n) n k
open_byte low tenth n k b more nine e =
    let t : nat_lt (k + 1) n ≡ true = grind (arith, nat_tests) in
    rw t (e ∙ ap (λ x. 128 + x) (sym (word_digit low tenth n k (omega arith) nine)))

pub close_byte : (low tenth n k b : ℕ) → n ≡ k + 1 → k < 9 → b ≡ low / 128 ^ k % 128
    → b ≡ encoded_byte (ten_groups low tenth % 128 ^ n) n k
close_byte low tenth n k b last nine e =
    last_byte (ten_groups low tenth % 128 ^ n) n k b (mod_room (ten_groups low tenth) n)
    (omega arith) (omega arith) (e ∙ sym (word_digit low tenth n k (omega arith) nine))

-- digit j of the word without its first m groups
pub later_digit : (low m j : ℕ) → low / 2 ^ (7 * m) / 128 ^ j % 128 ≡ low / 128 ^ (m + j) % 128
later_digit low m j = ap (λ p. low / p / 128 ^ j % 128) (pow_128 m)
    ∙ ap (λ q. q % 128) (div-div-eq-div-mul low (128 ^ m) (128 ^ j)
    ∙ ap (λ p. low / p) (sym (pow-add 128 m j)))

-- ---- targets that were written by words of four bytes: `at` says which bytes of a list are in a
-- target from an offset on
pub record FourAt (index : ℕ) (bytes old new : List ℕ) : Type 0 where
  pub put : (k : ℕ) → k < 4 → get_or new (index + k) 0 ≡ get_or bytes k 0
  pub before : (k : ℕ) → k < index → get_or new k 0 ≡ get_or old k 0
  pub after : drop (index + 4) new ≡ drop (index + 4) old

drop_more : (i n : ℕ) (x y : List ℕ) → i ≤ n → drop i x ≡ drop i y → drop n x ≡ drop n y
drop_more i n x y h e =
    let whole : i + (n - i) ≡ n = omega arith in
    ap (λ j. drop j x) (sym whole) ∙ sym (drop-drop (n - i) i x) ∙ ap (drop (n - i)) e
    ∙ drop-drop (n - i) i y ∙ ap (λ j. drop j y) whole

open_from : (low tenth n m j b : ℕ) → m + j + 1 < n → m + j < 9
    → b ≡ 128 + low / 2 ^ (7 * m) / 128 ^ j % 128
    → b ≡ encoded_byte (ten_groups low tenth % 128 ^ n) n (m + j)
open_from low tenth n m j b more nine e =
    open_byte low tenth n (m + j) b more nine (e ∙ ap (λ x. 128 + x) (later_digit low m j))

pub words_written : (low tenth n : ℕ) (old mid new a z : List ℕ) → 4 ≤ n → n ≤ 8 → n ≤ length new
    → ((k : ℕ) → k < 4 → get_or a k 0 ≡ 128 + low / 128 ^ k % 128)
    → ((k : ℕ) → k < 3 → get_or z k 0 ≡ 128 + low / 2 ^ (7 * (n - 4)) / 128 ^ k % 128)
    → get_or z 3 0 ≡ low / 2 ^ (7 * (n - 4)) / 2097152 % 128
    → FourAt 0 a old mid → FourAt (n - 4) z mid new → new
    ≡ encoding (ten_groups low tenth % 128 ^ n) n ++ drop n old
words_written low tenth n old mid new a z some few room opens lasts end first second =
    let back : n - 4 + 4 ≡ n = omega arith in
    let rest : drop n new ≡ drop n old =
    rw back at second.after ∙ drop_more (0 + 4) n mid old (omega arith) first.after in
    let byte =
    λ (k : ℕ) (h : k < n). let P : Type 0 =
    get_or new k 0 ≡ encoded_byte (ten_groups low tenth % 128 ^ n) n k in
    elim (cases_lt k (n - 4)) as (λ _. P) [
      | inl early ↦
          let index : 0 + k ≡ k = omega arith in
          let four : k < 4 = omega arith in
          open_byte low tenth n k _ (omega arith) (omega arith)
          (second.before k early ∙ rw index at (first.put k four) ∙ opens k four)
      | inr late ↦
          let j = k - (n - 4) in
          let index : n - 4 + j ≡ k = omega arith in
          let four : j < 4 = omega arith in
          let here : get_or new k 0 ≡ get_or z j 0 = rw index at (second.put j four) in
          elim (cases_lt j 3) as (λ _. P) [
            | inl more ↦
                rw index at (open_from low tenth n (n - 4) j _ (omega arith) (omega arith)
                (here ∙ lasts j more))
            | inr last ↦
                let three : j ≡ 3 = omega arith in
                let digit : get_or z j 0 ≡ low / 2 ^ (7 * (n - 4)) / 128 ^ j % 128 = rw three end in
                close_byte low tenth n k _ (omega arith) (omega arith)
                (here ∙ digit ∙ later_digit low (n - 4) j ∙ rw index refl)
          ]
    ] in
    encoding_written (ten_groups low tenth % 128 ^ n) n old new room byte rest

pub eight_written : (low tenth n : ℕ) (old mid new a z : List ℕ) → 9 ≤ n
    → ((k : ℕ) → k < 4 → get_or a k 0 ≡ 128 + low / 128 ^ k % 128)
    → ((k : ℕ) → k < 4 → get_or z k 0 ≡ 128 + low / 268435456 / 128 ^ k % 128)
    → FourAt 0 a old mid → FourAt 4 z mid new
    → ((k : ℕ) → k < 8 → get_or new k 0 ≡ encoded_byte (ten_groups low tenth % 128 ^ n) n k)
    × (drop n new ≡ drop n old)
eight_written low tenth n old mid new a z some opens mores first second = (
  λ (k : ℕ) (h : k < 8). let P : Type 0 =
      get_or new k 0 ≡ encoded_byte (ten_groups low tenth % 128 ^ n) n k in
      elim (cases_lt k 4) as (λ _. P) [
        | inl early ↦
            let index : 0 + k ≡ k = omega arith in
            open_byte low tenth n k _ (omega arith) (omega arith)
            (second.before k early ∙ rw index at (first.put k early) ∙ opens k early)
        | inr late ↦
            let j = k - 4 in
            let index : 4 + j ≡ k = omega arith in
            let four : j < 4 = omega arith in
            rw index at (open_from low tenth n 4 j _ (omega arith) (omega arith)
            (rw index at (second.put j four) ∙ mores j four))
      ],
  drop_more (4 + 4) n new mid (omega arith) second.after
      ∙ drop_more (0 + 4) n mid old (omega arith) first.after,
)
