-- Numbers in LEB128 that are zero, as marks. The lemmas are proved, and promise nothing.
use Rattle.std.proofs.Common.{◌≡◌, ◌≢◌, ℕ, zero, suc, ◌+◌, ◌*◌, ◌^◌, ◌%◌, ◌-◌, ◌<◌, ◌≤◌, ◌&&◌, ◌==◌, inl, inr, true, nat_lt, Bool, None, Some, Option, List, length, take, drop, get_or, bit_and, refl, sym, ap, subst, ◌∙◌, arith, rules, length-drop, if◌then◌else◌}
use Rattle.std.proofs.Math.Nat.{one-le-pow, mul-le-mul}
use Rattle.std.proofs.lemmas.Bool.{cases_lt}
use Rattle.std.proofs.lemmas.Bool.Decides.{nat_tests}
use Rattle.std.proofs.lemmas.List.{drop-drop, drop-take, take-take, get_or-drop}
use Rattle.std.proofs.lemmas.Nat.{and_mask}
use Rattle.std.specs.Prelude.{option_map, option_and_then}
use Rattle.scroll.specs.Leb128.{end_of, group, groups_value, unsigned_of, count_of}
use Rattle.scroll.proofs.lemmas.callers.Cursors.{late_end, groups_more, byte_there, end_below, open_before, end-same, unsigned-same}
use Rattle.scroll_layouts.specs.MarkSizes.{zero_size, two_zeros_size}

-- the same bytes have the same parts
take-less : (s t : List ℕ) {m : ℕ} (n : ℕ) → n ≤ m → take m t ≡ take m s → take n t ≡ take n s
take-less s t {m} n le same =
    sym (take-take n m t le) ∙ ap (take n) same ∙ take-take n m s le

part : (s t : List ℕ) {m : ℕ} (at n : ℕ) → at + n ≤ m → take m t ≡ take m s
    → take n (drop at t) ≡ take n (drop at s)
part s t {m} at n le same =
    sym (drop-take at n t) ∙ ap (drop at) (take-less s t (at + n) le same) ∙ drop-take at n s

-- ---- a zero, and two of them, are within their source
pub zero-inside : (s : List ℕ) (n : ℕ) → zero_size s ≡ Some n → n ≤ length s
zero-inside s n h = Prim.search rules

-- two zeros, one after the other
record TwoZeros (s : List ℕ) (n : ℕ) : Type 0 where
  first : ℕ
  second : ℕ
  is : zero_size s ≡ Some first
  next : zero_size (drop first s) ≡ Some second
  whole : first + second ≡ n

second-there : (s : List ℕ) (a : ℕ) → zero_size s ≡ Some a → (r : Option ℕ)
    → zero_size (drop a s) ≡ r → (n : ℕ) → option_map (λ m. a + m) r ≡ Some n → TwoZeros s n
second-there s a is None next n h = absurd (cc)
second-there s a is (Some b) next n h =
    record { first = a; second = b; is = is; next = next; whole = cc }

both-there : (s : List ℕ) (r : Option ℕ) → zero_size s ≡ r → (n : ℕ)
    → option_and_then (λ k. option_map (λ m. k + m) (zero_size (drop k s))) r ≡ Some n
    → TwoZeros s n
both-there s None is n h = absurd (cc)
both-there s (Some a) is n h = second-there s a is (zero_size (drop a s)) refl n h

pub two_zeros-inside : (s : List ℕ) (n : ℕ) → two_zeros_size s ≡ Some n → n ≤ length s
two_zeros-inside s n h =
    let both = both-there s (zero_size s) refl n h in
    omega (
      arith,
      both.whole,
      zero-inside s both.first both.is,
      zero-inside (drop both.first s) both.second both.next,
      length-drop both.first s,
    )

-- ---- they depend on their own bytes alone
-- a zero by whether its encoding ends, where, and its number
abbrev sized : Bool → ℕ → ℕ → Option ℕ
sized ends end value = if ends && nat_lt end 10 && value == 0 then Some (end + 1) else None

ends-there : (s : List ℕ) (n : ℕ) → zero_size s ≡ Some n
    → (end_of s < length s) × (count_of s ≡ n)
ends-there s n h = grind (arith, nat_tests, h)

is-before : (n m : ℕ) → n < m → nat_lt n m ≡ true
is-before n m l = grind (arith, nat_tests)

zero-same : (s t : List ℕ) → end_of s < length s → count_of s ≤ length t
    → take (count_of s) t ≡ take (count_of s) s → zero_size t ≡ zero_size s
zero-same s t inside room same =
    let end = end-same s t inside room same in
    let ends = is-before (end_of t) (length t) (omega (arith, end, room))
    ∙ sym (is-before (end_of s) (length s) inside) in
    ap (λ b. sized b (end_of t) (unsigned_of t)) ends
    ∙ ap (λ e. sized (nat_lt (end_of s) (length s)) e (unsigned_of t)) end
    ∙ ap (sized (nat_lt (end_of s) (length s)) (end_of s)) (unsigned-same s t inside room same)

pub zero-found : (s t : List ℕ) (n : ℕ) → zero_size s ≡ Some n → n ≤ length t
    → take n t ≡ take n s → zero_size t ≡ Some n
zero-found s t n is room same =
    let there = ends-there s n is in
    zero-same s t there.0 (omega (arith, there.1, room))
    (subst (λ k. take k t ≡ take k s) (sym there.1) same) ∙ is

two-zeros : (s : List ℕ) (n : ℕ) → TwoZeros s n → two_zeros_size s ≡ Some n
two-zeros s n h =
    ap (option_and_then (λ k. option_map (λ m. k + m) (zero_size (drop k s)))) h.is
    ∙ ap (option_map (λ m. h.first + m)) h.next ∙ ap Some h.whole

pub two_zeros-found : (s t : List ℕ) (n : ℕ) → two_zeros_size s ≡ Some n → n ≤ length t
    → take n t ≡ take n s → two_zeros_size t ≡ Some n
two_zeros-found s t n is room same =
    let h = both-there s (zero_size s) refl n is in
    let first : zero_size t ≡ Some h.first =
    zero-found s t h.first h.is (omega (arith, h.whole, room))
    (take-less s t h.first (omega (arith, h.whole)) same) in
    let second : zero_size (drop h.first t) ≡ Some h.second =
    zero-found (drop h.first s) (drop h.first t) h.second h.next
    (omega (arith, h.whole, room, length-drop h.first t))
    (part s t h.first h.second (omega (arith, h.whole)) same) in
    two-zeros t n
    record { first = h.first; second = h.second; is = first; next = second; whole = h.whole }

-- ---- where one ends later, that there is none yet depends on the bytes up to that end
-- an encoding ends no later than a zero behind its start
first-end : (s : List ℕ) (k m : ℕ) → zero_size (drop k s) ≡ Some m → count_of s ≤ k + m
first-end s k m is =
    let there = ends-there (drop k s) m is in
    let last = end_of (drop k s) in
    let below = end_below (drop k s) there.0 in
    let same = get_or-drop k s last 0 in
    elim (cases_lt (k + last) (end_of s)) as (λ _. count_of s ≤ k + m) [
      | inl later ↦
          let more = open_before s (k + last) later in absurd (omega (arith, more, below, same))
      | inr early ↦ omega (arith, early, there.1)
    ]

pub zero-none : (s t : List ℕ) (k n : ℕ) → zero_size s ≡ None → zero_size (drop k s) ≡ Some n
    → k + n ≤ length s → k + n ≤ length t → take (k + n) t ≡ take (k + n) s → zero_size t ≡ None
zero-none s t k n none is inside room same =
    let end = first-end s k n is in
    zero-same s t (omega (arith, end, inside)) (omega (arith, end, room))
    (take-less s t (count_of s) end same) ∙ none

no-second : (a : ℕ) (r : Option ℕ) → option_map (λ m. a + m) r ≡ None → r ≡ None
no-second a None h = refl
no-second a (Some b) h = absurd (cc)

no-both : (s t : List ℕ) (k a b : ℕ) → zero_size (drop k s) ≡ Some a
    → zero_size (drop a (drop k s)) ≡ Some b → k + (a + b) ≤ length s → k + (a + b) ≤ length t
    → take (k + (a + b)) t ≡ take (k + (a + b)) s → (r : Option ℕ) → zero_size s ≡ r
    → zero_size t ≡ r
    → option_and_then (λ k. option_map (λ m. k + m) (zero_size (drop k s))) r ≡ None
    → two_zeros_size t ≡ None
no-both s t k a b is next inside room same None here there none =
    ap (option_and_then (λ k. option_map (λ m. k + m) (zero_size (drop k t)))) there
no-both s t k a b is next inside room same (Some c) here there none =
    let end = first-end s k a is in
    let size : count_of s ≡ c = (ends-there s c here).1 in
    let gap = k + a - c in
    let reached : c + gap ≡ k + a = omega (arith, end, size) in
    let later : drop gap (drop c s) ≡ drop a (drop k s) =
    drop-drop gap c s ∙ ap (λ j. drop j s) reached ∙ sym (drop-drop a k s) in
    let behind = first-end (drop c s) gap b (ap zero_size later ∙ next) in
    let left = length-drop c s in
    let other = length-drop c t in
    let second = zero-same (drop c s) (drop c t) (omega (arith, behind, reached, inside, left))
    (omega (arith, behind, reached, room, other))
    (part s t c (count_of (drop c s)) (omega (arith, behind, reached)) same) in
    ap (option_and_then (λ k. option_map (λ m. k + m) (zero_size (drop k t)))) there
    ∙ ap (option_map (λ m. c + m)) (second ∙ no-second c (zero_size (drop c s)) none)

pub two_zeros-none : (s t : List ℕ) (k n : ℕ) → two_zeros_size s ≡ None
    → two_zeros_size (drop k s) ≡ Some n → k + n ≤ length s → k + n ≤ length t
    → take (k + n) t ≡ take (k + n) s → two_zeros_size t ≡ None
two_zeros-none s t k n none is inside room same =
    let h = both-there (drop k s) (zero_size (drop k s)) refl n is in
    let end = first-end s k h.first h.is in
    let all : k + (h.first + h.second) ≡ k + n = omega (arith, h.whole) in
    let here : zero_size t ≡ zero_size s =
    zero-same s t (omega (arith, end, h.whole, inside)) (omega (arith, end, h.whole, room))
    (take-less s t (count_of s) (omega (arith, end, h.whole)) same) in
    no-both s t k h.first h.second h.is h.next (omega (arith, all, inside))
    (omega (arith, all, room)) (subst (λ j. take j t ≡ take j s) (sym all) same) (zero_size s) refl
    here none

-- ---- numbers that aren't zero, since one of their groups isn't
-- the first n bytes are those of padding
abbrev pub Padded : List ℕ → ℕ → Type 0
Padded s n = (k : ℕ) → k < n → get_or s k 0 ≡ 128

open_so_far : (s : List ℕ) (n : ℕ) → Padded s n → (k : ℕ) → k < n → 128 ≤ get_or s k 0
open_so_far s n padding k l = omega (arith, padding k l)

-- more groups make no less
groups_grow : (s : List ℕ) (n m : ℕ) → groups_value s n ≤ groups_value s (m + n)
groups_grow s n zero =
    let same : 0 + n ≡ n = omega arith in
    omega (arith, ap (groups_value s) same)
groups_grow s n (suc m) =
    let next : suc m + n ≡ m + n + 1 = omega arith in
    omega (arith, groups_grow s n m, groups_more s (m + n), ap (groups_value s) next)

-- a group that isn't zero, where the encoding goes on that far
some_bits : (s : List ℕ) (i : ℕ) → i < length s → Padded s i → group s i ≢ 0
    → zero_size s ≡ None
some_bits s i inside padding some =
    let late = late_end s i (omega (arith, inside)) (open_so_far s i padding) in
    let power : 1 ≤ 128 ^ i = one-le-pow i 128 (omega arith) in
    let one : 1 ≤ group s i = elim (cases_lt 0 (group s i)) [
      | inl more ↦ more
      | inr none ↦ absurd (some (omega (arith, none)))
    ] in
    let product : 1 * 1 ≤ group s i * 128 ^ i = mul-le-mul one power in
    let more = groups_grow s (i + 1) (end_of s - i) in
    let same : end_of s - i + (i + 1) ≡ count_of s = omega (arith, late) in
    let sum : 1 ≤ groups_value s (end_of s - i + (i + 1)) =
    omega (arith, more, groups_more s i, product) in
    let large : 1 ≤ unsigned_of s = rw same at sum in
    grind (arith, nat_tests, large)

-- the same in the words of the code
pub bits-there : (s : List ℕ) (i b : ℕ) → true ≡ nat_lt i (length s) → b ≡ get_or s i b
    → Padded s i → (bit_and b 127 ≡ 0 → ⊥) → None ≡ zero_size s
bits-there s i b inside is padding some =
    let there = byte_there s i b inside is in
    sym (some_bits s i there.0 padding
    (λ none. some (and_mask b 7 ∙ ap (λ x. x % 128) (sym there.2) ∙ none)))

-- a first byte that isn't zero, and has none of its lower bits, is padding
pub padding-there : (s : List ℕ) (b : ℕ) → true ≡ nat_lt 0 (length s) → b ≡ get_or s 0 b
    → get_or s 0 0 < 256 → bit_and b 127 ≡ 0 → (b ≡ 0 → ⊥) → Padded s 1
padding-there s b inside is small none some k l =
    let there = byte_there s 0 b inside is in
    let low : b % 128 ≡ 0 = sym (and_mask b 7) ∙ none in
    let more : 0 < b = elim (cases_lt 0 b) [
      | inl more ↦ more
      | inr zero_is ↦ absurd (some (omega (arith, zero_is)))
    ] in
    let first : get_or s 0 0 ≡ 128 = omega (arith, there.2, small, low, more) in
    let zero_is : k ≡ 0 = omega (arith, l) in
    rw zero_is first
