-- Encodings of one byte and of two in a word of eight bytes.
use Rattle.std.proofs.Common.{◌≡◌, ℕ, ◌+◌, ◌*◌, ◌/◌, ◌%◌, ◌^◌, ◌<◌, ◌≤◌, inl, inr, bit_and, bit_or, get_or, sym, ap, ◌∙◌, arith}
use Rattle.std.proofs.Math.Nat.{one-le-pow}
use Rattle.std.proofs.lemmas.Nat.{and_mask, and_block}
use Rattle.std.proofs.lemmas.Nat.Bits.{and_pow}
use Rattle.std.proofs.lemmas.Bool.{cases_lt}
use Rattle.std.specs.Int.{w64, to_le_bytes}
use Rattle.std.specs.Int.Bits.{and_zero_r, or_shifted_r}
use Rattle.scroll.specs.Leb128.{end_of, groups_value, ReadsGroups}
use Rattle.scroll.proofs.lemmas.LebLemmas.{end_at}

bit_clear : (n k : ℕ) → bit_and n (2 ^ k) ≡ 0 → n / 2 ^ k % 2 ≡ 0
bit_clear n k h =
    let positive = one-le-pow k 2 (omega arith) in
    let e = sym (and_pow n k) ∙ h in
    elim (cases_lt (n / 2 ^ k % 2) 1) [
      | inl z ↦ omega arith
      | inr o ↦ let one : n / 2 ^ k % 2 ≡ 1 = omega arith in let f = rw one at e in
          absurd (omega arith)
    ]

pub one_byte : (n : ℕ) → n < 2 ^ 64 → bit_and n 128 ≡ 0
    → ReadsGroups (to_le_bytes w64 n) (bit_and n 127) 1
one_byte n fits h =
    let clear = bit_clear n 7 h in
    let e : end_of (to_le_bytes w64 n) ≡ 0 =
    end_at (to_le_bytes w64 n) 0 (omega arith) (λ k l. absurd (omega arith)) (omega arith) in
    let value : n % 128 ≡ groups_value (to_le_bytes w64 n) (0 + 1) = omega arith in
    record {
      complete = (rw e (omega arith), rw e (omega arith));
      fits = tt;
      value = and_mask n 7 ∙ value ∙ ap (λ i. groups_value (to_le_bytes w64 n) (i + 1)) (sym e);
      size = ap (λ i. i + 1) (sym e);
    }

bit_set : (n k : ℕ) → (bit_and n (2 ^ k) ≡ 0 → ⊥) → n / 2 ^ k % 2 ≡ 1
bit_set n k h = elim (cases_lt (n / 2 ^ k % 2) 1) [
  | inl z ↦ let zero_bit : n / 2 ^ k % 2 ≡ 0 = omega arith in
      absurd (h (and_pow n k ∙ rw zero_bit (omega arith)))
  | inr o ↦ omega arith
]

second_group : (n : ℕ) → bit_and n 32512 ≡ n / 256 % 128 * 256
second_group n =
    let split : n ≡ n / 256 * 2 ^ 8 + n % 256 = omega arith in
    let e : bit_and (n / 256 * 2 ^ 8 + n % 256) (127 * 2 ^ 8 + 0)
    ≡ bit_and (n / 256) 127 * 2 ^ 8 + bit_and (n % 256) 0 =
    and_block 8 (n / 256) 127 (n % 256) 0 (omega arith) (omega arith) in
    ap (λ m. bit_and m 32512) split ∙ e
    ∙ rw (and_mask (n / 256) 7, and_zero_r (n % 256)) (omega arith)

pub two_bytes : (n : ℕ) → n < 2 ^ 64 → (bit_and n 128 ≡ 0 → ⊥) → bit_and n 32768 ≡ 0
    → ReadsGroups (to_le_bytes w64 n) (bit_or (bit_and n 127) (bit_and n 32512 / 2)) 2
two_bytes n fits h g =
    let more = bit_set n 7 h in
    let clear = bit_clear n 15 g in
    let first : 128 ≤ get_or (to_le_bytes w64 n) 0 0 = omega arith in
    let e : end_of (to_le_bytes w64 n) ≡ 1 =
    end_at (to_le_bytes w64 n) 1 (omega arith)
    (λ k l. let z : k ≡ 0 = omega arith in rw z first) (omega arith) in
    let high : bit_and n 32512 / 2 ≡ n / 256 % 128 * 2 ^ 7 =
    ap (λ m. m / 2) (second_group n) ∙ omega arith in
    let joined_is : bit_or (n % 128) (n / 256 % 128 * 2 ^ 7) ≡ n / 256 % 128 * 2 ^ 7 + n % 128 =
    or_shifted_r (n / 256 % 128) 7 (n % 128) (omega arith) in
    let value : n / 256 % 128 * 2 ^ 7 + n % 128 ≡ groups_value (to_le_bytes w64 n) (1 + 1) =
    omega arith in
    record {
      complete = (rw e (omega arith), rw e (omega arith));
      fits = tt;
      value = rw (and_mask n 7, high) joined_is ∙ value
          ∙ ap (λ i. groups_value (to_le_bytes w64 n) (i + 1)) (sym e);
      size = ap (λ i. i + 1) (sym e);
    }
