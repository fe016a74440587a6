-- Reads in LEB128. A number depends only on the bytes of its encoding, a read has exactly one
-- result, and what the first bytes of a source say of its encoding.
use Rattle.std.proofs.Common.{◌≡◌, ℕ, ℤ, pos, negsuc, ◌-ℤ◌, suc, ◌+◌, ◌-◌, ◌*◌, ◌%◌, ◌^◌, ◌<◌, ◌≤◌, ◌⊎◌, inl, inr, true, false, nat_lt, if◌then◌else◌, Some, List, length, take, get_or, bit_and, bit_or, refl, sym, ap, ◌∙◌, arith, subst, codes, FitsSigned, to_z, of_z}
use Rattle.std.proofs.Math.Nat.{mod-eq_of_lt, pow-le-pow_right}
use Rattle.std.proofs.Math.Facts.{to_z-neg}
use Rattle.std.proofs.lemmas.Nat.{and_mask}
use Rattle.std.proofs.lemmas.Int.{ints, to_z_pos, to_z-of_z, fits_signed_from_abs}
use Rattle.std.proofs.lemmas.Bool.{cases_lt}
use Rattle.std.proofs.lemmas.Bool.Decides.{nat_tests}
use Rattle.std.proofs.lemmas.List.{get_or-take, length-take-le, take-take}
use Rattle.std.proofs.lemmas.Option.{get_or_from_slice_get, slice_get_within}
use Rattle.std.specs.Int.{w64}
use Rattle.std.specs.Int.Bits.{or_shifted_r, or_zero_r}
use Rattle.std.specs.List.{slice_get}
use Rattle.scroll.specs.Laws.{IsLocal, SameError, AllowsOne}
use Rattle.scroll.specs.Leb128.{end_of, count_of, group, groups_value, unsigned_of, signed_of, IsComplete, IsTruncated, ReadsLeb, ReadsUleb, ReadsSleb, ReadsGroups, RefusesLeb, RefusesUleb, RefusesSleb}
use Rattle.scroll.specs.declared.error.Error.{Error}
use Rattle.scroll.specs.declared.error.Error.TheVariants.{TooBig, BadInput}
use Rattle.scroll.proofs.lemmas.OneAnswer.{one-Ok, one-Err, same-too_big}
use Rattle.scroll.proofs.lemmas.TextLemmas.{same-bad_input}
use Rattle.scroll.proofs.lemmas.LebLemmas.{groups_lt, groups_more, groups_same, end_at, end_below, late_end, open_before, sign_is_top, less_whole}

-- ---- the bytes of an encoding
module _ (s t : List ℕ) (inside : end_of s < length s) (room : count_of s ≤ length t)
    (prefix : take (count_of s) t ≡ take (count_of s) s) where
  byte-same : (k : ℕ) → k < count_of s → get_or t k 0 ≡ get_or s k 0
  byte-same k l = sym (get_or-take (count_of s) t k 0 l) ∙ ap (λ x. get_or x k 0) prefix
      ∙ get_or-take (count_of s) s k 0 l

  pub end-same : end_of t ≡ end_of s
  end-same = end_at t (end_of s) (omega (arith, room))
      (λ k l. rw (byte-same k (omega (arith, l))) (open_before s k l))
      (rw (byte-same (end_of s) (omega arith)) (end_below s inside))

  pub unsigned-same : unsigned_of t ≡ unsigned_of s
  unsigned-same = ap (λ e. groups_value t (e + 1)) end-same ∙ groups_same t s (count_of s) byte-same

  group-same : group t (end_of t) ≡ group s (end_of s)
  group-same = ap (group t) end-same ∙ ap (λ b. b % 128) (byte-same (end_of s) (omega arith))

  signed-same : signed_of t ≡ signed_of s
  signed-same =
      ap (λ (g : ℕ). if nat_lt g 64 then pos (unsigned_of t) else pos (unsigned_of t) -ℤ pos
      (128 ^ count_of t)) group-same
      ∙ ap (λ (u : ℕ). if nat_lt (group s (end_of s)) 64 then pos u else pos u -ℤ pos
      (128 ^ count_of t)) unsigned-same
      ∙ ap (λ (e : ℕ). if nat_lt (group s (end_of s)) 64 then pos (unsigned_of s) else pos
      (unsigned_of s) -ℤ pos (128 ^ (e + 1))) end-same

-- the bytes that a read takes are read likewise, whether others follow them or none do
exact-leb : {V : Type 0} (value_of : List ℕ → V) (Fits : V → Type 0)
    → ((s t : List ℕ) → end_of s < length s → count_of s ≤ length t → take (count_of s) t
    ≡ take (count_of s) s → value_of t ≡ value_of s)
    → (s t : List ℕ) (x : V) (n : ℕ) → ReadsLeb value_of Fits s x n → n ≤ length t → take n t
    ≡ take n s → ReadsLeb value_of Fits t x n
exact-leb value_of Fits same s t x n r room e =
    let inside = r.complete.0 in
    let there : count_of s ≤ length t = omega (arith, r.size, room) in
    let prefix : take (count_of s) t ≡ take (count_of s) s =
    ap (λ m. take m t) (sym r.size) ∙ e ∙ ap (λ m. take m s) r.size in
    let end = end-same s t inside there prefix in
    let value = same s t inside there prefix in
    record {
      complete = (omega (arith, there, end), omega (arith, r.complete.1, end));
      fits = subst Fits (sym value) r.fits;
      value = r.value ∙ sym value;
      size = r.size ∙ ap (λ m. m + 1) (sym end);
    }

pub exact-unsigned : (s t : List ℕ) (x n : ℕ) → ReadsUleb s x n → n ≤ length t → take n t ≡ take n s
    → ReadsUleb t x n
exact-unsigned = exact-leb unsigned_of (λ v. v < 2 ^ 64) unsigned-same

pub exact-signed : (s t : List ℕ) (x : ℤ) (n : ℕ) → ReadsSleb s x n → n ≤ length t
    → take n t ≡ take n s → ReadsSleb t x n
exact-signed = exact-leb signed_of (FitsSigned w64) signed-same

pub local-uleb : IsLocal ReadsUleb
local-uleb s t x n r h long e = exact-unsigned s t x n r (omega (arith, h, long)) e

pub local-sleb : IsLocal ReadsSleb
local-sleb s t x n r h long e = exact-signed s t x n r (omega (arith, h, long)) e

-- ---- exactly one result
-- the error of an encoding that is whole
abbrev failed : List ℕ → Error
failed s = BadInput (length s) (record { ref_ptr = (0, 0); now = codes "failed to parse" })

complete-whole : (s : List ℕ) → IsComplete s → IsTruncated s → ⊥
complete-whole s complete cut = omega (arith, complete.0, cut.0)

pos-unfit : (n : ℕ) → 2 ^ 63 ≤ n → FitsSigned w64 (pos n) → ⊥
pos-unfit n large fits = omega (arith, ints, fits, large)

neg-unfit : (n : ℕ) → 2 ^ 63 ≤ n → FitsSigned w64 (negsuc n) → ⊥
neg-unfit n large fits = omega (arith, ints, fits, large)

neg-fit : (n : ℕ) → n < 2 ^ 63 → FitsSigned w64 (negsuc n)
neg-fit n small = search (arith, ints)

fits-cases : (z : ℤ) → FitsSigned w64 z ⊎ ¬ (FitsSigned w64 z)
fits-cases (pos n) =
    elim (cases_lt n (2 ^ 63)) as (λ _. FitsSigned w64 (pos n) ⊎ ¬ (FitsSigned w64 (pos n))) [
      | inl small ↦ inl (fits_signed_from_abs w64 (pos n) (omega (arith, small)))
      | inr large ↦ inr (pos-unfit n large)
    ]
fits-cases (negsuc n) =
    elim (cases_lt n (2 ^ 63)) as (λ _. FitsSigned w64 (negsuc n) ⊎ ¬ (FitsSigned w64 (negsuc n))) [
      | inl small ↦ inl (neg-fit n small)
      | inr large ↦ inr (neg-unfit n large)
    ]

word-cases : (n : ℕ) → (n < 2 ^ 64) ⊎ ¬ (n < 2 ^ 64)
word-cases n =
    elim (cases_lt n (2 ^ 64))
    as (λ _. (n < 2 ^ 64) ⊎ ¬ (n < 2 ^ 64)) [
      | inl small ↦ inl small
      | inr large ↦ inr (λ small. absurd (omega (arith, small, large)))
    ]

-- a read returns a value where the encoding is complete and its number fits, and otherwise an error
module _ {V : Type 0} (value_of : List ℕ → V) (Fits : V → Type 0) (s : List ℕ) where
  refused-cut : (d : Error) → IsTruncated s → RefusesLeb value_of Fits s d
      → SameError d (TooBig 1 0)
  refused-cut d cut (inl q) = same-too_big d 1 0 q.error
  refused-cut d cut (inr q) = absurd (q.whole cut)

  refused-whole : (d : Error) → ¬ (IsTruncated s) → RefusesLeb value_of Fits s d
      → SameError d (failed s)
  refused-whole d whole (inl q) = absurd (whole q.cut)
  refused-whole d whole (inr q) = same-bad_input d (length s) (codes "failed to parse") q.error

  not-refused : (d : Error) → IsComplete s → Fits (value_of s) → RefusesLeb value_of Fits s d → ⊥
  not-refused d complete fits (inl q) = complete-whole s complete q.cut
  not-refused d complete fits (inr q) = q.unfit complete fits

  one-unfit : ¬ (IsTruncated s) → (IsComplete s → ¬ (Fits (value_of s)))
      → AllowsOne (ReadsLeb value_of Fits s) (RefusesLeb value_of Fits s)
  one-unfit whole unfit = one-Err (ReadsLeb value_of Fits s) (RefusesLeb value_of Fits s) (failed s)
      (inr (record { whole = whole; unfit = unfit; error = (refl, refl) }))
      (λ v m r. unfit r.complete r.fits) (λ d r. refused-whole d whole r)

  one-leb : Fits (value_of s) ⊎ ¬ (Fits (value_of s))
      → AllowsOne (ReadsLeb value_of Fits s) (RefusesLeb value_of Fits s)
  one-leb fit =
      elim (cases_lt (end_of s) (length s))
      as (λ _. AllowsOne (ReadsLeb value_of Fits s) (RefusesLeb value_of Fits s)) [
        | inr none ↦
            elim (cases_lt (length s) 10)
            as (λ _. AllowsOne (ReadsLeb value_of Fits s) (RefusesLeb value_of Fits s)) [
              | inl short ↦
                  one-Err (ReadsLeb value_of Fits s) (RefusesLeb value_of Fits s) (TooBig 1 0)
                  (inl (record { cut = (none, short); error = refl }))
                  (λ v m r. complete-whole s r.complete (none, short))
                  (λ d r. refused-cut d (none, short) r)
              | inr long ↦
                  one-unfit (λ cut. absurd (omega (arith, long, cut.1)))
                  (λ complete. absurd (omega (arith, none, complete.0)))
            ]
        | inl found ↦
            elim (cases_lt (end_of s) 10)
            as (λ _. AllowsOne (ReadsLeb value_of Fits s) (RefusesLeb value_of Fits s)) [
              | inr late ↦
                  one-unfit (λ cut. absurd (omega (arith, found, cut.0)))
                  (λ complete. absurd (omega (arith, late, complete.1)))
              | inl near ↦
                  elim fit as (λ _. AllowsOne (ReadsLeb value_of Fits s)
                  (RefusesLeb value_of Fits s)) [
                    | inl fits ↦
                        one-Ok (ReadsLeb value_of Fits s) (RefusesLeb value_of Fits s) (value_of s)
                        (count_of s)
                        (record {
                          complete = (found, near);
                          fits = fits;
                          value = refl;
                          size = refl;
                        })
                        (λ v m r. (r.value, r.size)) (λ d r. not-refused d (found, near) fits r)
                    | inr unfit ↦
                        one-unfit (λ cut. absurd (omega (arith, found, cut.0))) (λ _. unfit)
                  ]
            ]
      ]

pub one-uleb : (s : List ℕ) → AllowsOne (ReadsUleb s) (RefusesUleb s)
one-uleb s = one-leb unsigned_of (λ v. v < 2 ^ 64) s (word-cases (unsigned_of s))

pub one-sleb : (s : List ℕ) → AllowsOne (ReadsSleb s) (RefusesSleb s)
one-sleb s = one-leb signed_of (FitsSigned w64) s (fits-cases (signed_of s))

-- ---- the first bytes of a source, however they were loaded
-- an encoding that ends in the first eight bytes
pub block_reads : {V : Type 0} {value_of : List ℕ → V} {Fits : V → Type 0}
    → IsLocal (ReadsLeb value_of Fits) → (s b : List ℕ) (x : V) (n : ℕ)
    → 8 ≤ length s → b ≡ take 8 s → ReadsLeb value_of Fits b x n → ReadsLeb value_of Fits s x n
block_reads local s b x n eight prefix r =
    let b_length : length b ≡ 8 = ap length prefix ∙ length-take-le 8 s eight in
    let few : n ≤ 8 = omega (arith, r.size, r.complete.0) in
    local b s x n r (omega (arith, few)) (omega (arith, eight))
    (sym (take-take n 8 s few) ∙ ap (take n) (sym prefix))

-- a block that ends no encoding
pub block_open : (s b : List ℕ) → (8 ≤ length s) × (b ≡ take 8 s) → 8 ≤ end_of b
    → (8 ≤ end_of s) × (groups_value b 8 ≡ groups_value s 8)
block_open s b first open_to =
    let same : (k : ℕ) → k < 8 → get_or b k 0 ≡ get_or s k 0 =
    λ k h. ap (λ l. get_or l k 0) first.1 ∙ get_or-take 8 s k 0 h in (
      late_end s 8 first.0 (λ k h. rw (← same k h) (open_before b k (omega (arith, h, open_to)))),
      groups_same b s 8 same,
    )

-- the groups, with the value that their top bit determines
sign_of_groups : (s : List ℕ) (g n : ℕ) (z : ℤ) → end_of s < length s → g ≡ unsigned_of s
    → n ≡ count_of s
    → z ≡ (if nat_lt g (64 * 128 ^ (n - 1)) then pos g else pos g -ℤ pos (128 ^ n)) → z
    ≡ signed_of s
sign_of_groups s g n z within g_is n_is e =
    e ∙ rw (sign_is_top s g n within g_is n_is, g_is, n_is) refl

-- groups and their sign
pub groups_read_signed : (s : List ℕ) (g n : ℕ) (z : ℤ) → ReadsGroups s g n → FitsSigned w64 z
    → z ≡ (if nat_lt g (64 * 128 ^ (n - 1)) then pos g else pos g -ℤ pos (128 ^ n))
    → ReadsSleb s z n
groups_read_signed s g n z r fits form =
    let value = sign_of_groups s g n z r.complete.0 r.value r.size form in
    record { complete = r.complete; fits = rw value at fits; value = value; size = r.size }

-- the same with the result that the code returns
pub word_read_signed : (s : List ℕ) (g n : ℕ) (z : ℤ) → ReadsGroups s g n → FitsSigned w64 z
    → z ≡ (if nat_lt g (64 * 128 ^ (n - 1)) then pos g else pos g -ℤ pos (128 ^ n))
    → ReadsSleb s (to_z w64 (of_z w64 z)) n
word_read_signed s g n z r fits form =
    rw (to_z-of_z w64 z fits) (groups_read_signed s g n z r fits form)

pub groups_below : (s : List ℕ) (g n : ℕ) → ReadsGroups s g n → g < 128 ^ n
groups_below s g n r = rw (r.value, r.size) (groups_lt s (count_of s))

-- at most nine groups are an unsigned number
pub groups_read : (s : List ℕ) (g n : ℕ) → n ≤ 9 → ReadsGroups s g n → ReadsUleb s g n
groups_read s g n few r =
    let low = groups_lt s (count_of s) in
    let nine : count_of s ≤ 9 = omega (arith, r.size) in
    let power : 128 ^ count_of s ≤ 128 ^ 9 = pow-le-pow_right {n = 128} (omega arith) nine in
    record {
      complete = r.complete;
      fits = omega (arith, low, power, r.value);
      value = r.value;
      size = r.size;
    }

-- ---- the tenth byte
tenth_end : (s : List ℕ) (t : ℕ) → 9 ≤ end_of s → slice_get s 9 ≡ Some t → t < 128 → end_of s ≡ 9
tenth_end s t late at low =
    let byte = get_or_from_slice_get s 9 t 0 at in
    end_at s 9 (slice_get_within s 9 t at) (λ k h. open_before s k (omega arith)) (omega arith)

tenth_sum : (s : List ℕ) (g t : ℕ) → g ≡ groups_value s 9 → slice_get s 9 ≡ Some t → t < 128
    → groups_value s (9 + 1) ≡ g + t * 2 ^ 63
tenth_sum s g t g_is at low =
    let byte = get_or_from_slice_get s 9 t 0 at in
    let top : group s 9 ≡ t = omega arith in
    groups_more s 9 ∙ rw (top, g_is) refl

pub tenth_reads : (s : List ℕ) (g t : ℕ) → 9 ≤ end_of s → slice_get s 9 ≡ Some t
    → g ≡ groups_value s 9 → t ≤ 1 → ReadsUleb s (bit_or g (t * 2 ^ 63 % 2 ^ 64)) 10
tenth_reads s g t late at g_is small =
    let e = tenth_end s t late at (omega arith) in
    let inside = slice_get_within s 9 t at in
    let low : g < 2 ^ 63 = rw g_is (groups_lt s 9) in
    let sum = tenth_sum s g t g_is at (omega arith) in
    let whole : t * 2 ^ 63 % 2 ^ 64 ≡ t * 2 ^ 63 = mod-eq_of_lt (omega arith) in
    let joined : bit_or g (t * 2 ^ 63) ≡ t * 2 ^ 63 + g = or_shifted_r t 63 g low in
    let value : bit_or g (t * 2 ^ 63 % 2 ^ 64) ≡ groups_value s (9 + 1) =
    ap (bit_or g) whole ∙ joined ∙ omega (arith, sum) in
    let total = ap (λ i. groups_value s (i + 1)) e in
    record {
      complete = (omega arith, omega arith);
      fits = omega (arith, total, sum, low);
      value = value ∙ sym total;
      size = ap (λ i. i + 1) (sym e);
    }

pub tenth_is_truncated : (s : List ℕ) (t : ℕ) → slice_get s 9 ≡ Some t → ¬ IsTruncated s
tenth_is_truncated s t at cut = let inside = slice_get_within s 9 t at in
    omega (arith, cut.1, inside)

-- a complete encoding of more than nine bytes ends at the tenth
complete_tenth : (s : List ℕ) (t : ℕ) → 9 ≤ end_of s → slice_get s 9 ≡ Some t → IsComplete s
    → (end_of s ≡ 9) × (t < 128)
complete_tenth s t late at whole =
    let e : end_of s ≡ 9 = omega (arith, whole.1) in
    let last = rw e at (end_below s whole.0) in
    let byte = get_or_from_slice_get s 9 t 0 at in
    (e, omega arith)

pub tenth_refused : (s : List ℕ) (g t : ℕ) → 9 ≤ end_of s → slice_get s 9 ≡ Some t
    → g ≡ groups_value s 9 → 1 < t → IsComplete s → ¬ (unsigned_of s < 2 ^ 64)
tenth_refused s g t late at g_is large whole small =
    let e = complete_tenth s t late at whole in
    let sum = tenth_sum s g t g_is at e.1 in
    let total = ap (λ i. groups_value s (i + 1)) e.0 in
    omega (arith, total, sum, small)

-- its lowest bit in all seven positions
sign_or_none : (t : ℕ) → t < 256 → t ≡ bit_and t 1 * 127 → (t ≡ 0) ⊎ (t ≡ 127)
sign_or_none t small h =
    let low : bit_and t 1 ≡ t % 2 = and_mask t 1 in
    let form : t ≡ t % 2 * 127 = h ∙ ap (λ b. b * 127) low in
    elim (cases_lt (t % 2) 1) [ inl z ↦ inl (omega arith) | inr o ↦ inr (omega arith) ]

not_sign : (t : ℕ) → (t ≡ bit_and t 1 * 127 → ⊥) → (0 < t) × (t ≡ 127 → ⊥)
not_sign t h = (
  elim (cases_lt 0 t) [
    | inl some ↦ some
    | inr none ↦ absurd (h (let z : t ≡ 0 = omega arith in rw z refl))
  ],
  λ e. h (rw e refl),
)

pub tenth_reads_signed : (s : List ℕ) (g t : ℕ) → 9 ≤ end_of s → slice_get s 9 ≡ Some t
    → g ≡ groups_value s 9 → t < 256 → t ≡ bit_and t 1 * 127
    → FitsSigned w64 (to_z w64 (bit_or g (t * 2 ^ 63 % 2 ^ 64)))
    → ReadsSleb s (to_z w64 (bit_or g (t * 2 ^ 63 % 2 ^ 64))) 10
tenth_reads_signed s g t late at g_is small h fits =
    let inside = slice_get_within s 9 t at in
    let byte = get_or_from_slice_get s 9 t 0 at in
    let low : g < 2 ^ 63 = rw g_is (groups_lt s 9) in
    let value : (end_of s ≡ 9) × (to_z w64 (bit_or g (t * 2 ^ 63 % 2 ^ 64)) ≡ signed_of s) =
    elim (sign_or_none t small h) [
      | inl none ↦
          let e = tenth_end s t late at (omega arith) in
          let sum = tenth_sum s g t g_is at (omega arith) in
          let top : group s 9 ≡ 0 = omega arith in
          let sign : nat_lt (group s 9) 64 ≡ true = grind (arith, nat_tests) in
          let total : groups_value s (9 + 1) ≡ g = omega (arith, sum) in
          (e, rw (none, or_zero_r g, to_z_pos w64 g low, e, sign, total) refl)
      | inr all ↦
          let e = tenth_end s t late at (omega arith) in
          let sum = tenth_sum s g t g_is at (omega arith) in
          let top : group s 9 ≡ 127 = omega arith in
          let sign : nat_lt (group s 9) 64 ≡ false = grind (arith, nat_tests) in
          let total : groups_value s (9 + 1) ≡ g + 127 * 2 ^ 63 = omega (arith, sum) in
          let joined : bit_or g (1 * 2 ^ 63) ≡ 1 * 2 ^ 63 + g = or_shifted_r 1 63 g low in
          let complement : 1 * 2 ^ 63 + g ≡ 2 ^ 64 - suc (2 ^ 63 - g - 1) = omega arith in
          let word : to_z w64 (1 * 2 ^ 63 + g) ≡ negsuc (2 ^ 63 - g - 1) =
          ap (to_z w64) complement ∙ to_z-neg w64 (2 ^ 63 - g - 1) (omega arith) in
          let signed_is : signed_of s ≡ pos (g + 127 * 2 ^ 63) -ℤ pos (128 ^ 10) =
          rw (e, sign, total) refl in
          let less = less_whole (g + 127 * 2 ^ 63) (128 ^ 10) (2 ^ 63 - g - 1) (omega arith) in (
            e,
            ap (λ x. to_z w64 (bit_or g (x * 2 ^ 63 % 2 ^ 64))) all ∙ ap (to_z w64) joined ∙ word
                ∙ less ∙ sym signed_is,
          )
    ] in
    record {
      complete = (omega (arith, value.0), omega (arith, value.0));
      fits = rw value.1 at fits;
      value = value.1;
      size = ap (λ i. i + 1) (sym value.0);
    }

pub tenth_refused_signed : (s : List ℕ) (g t : ℕ) → 9 ≤ end_of s → slice_get s 9 ≡ Some t
    → g ≡ groups_value s 9 → (t ≡ bit_and t 1 * 127 → ⊥) → IsComplete s
    → ¬ FitsSigned w64 (signed_of s)
tenth_refused_signed s g t late at g_is h whole fits =
    let e = complete_tenth s t late at whole in
    let sum = tenth_sum s g t g_is at e.1 in
    let byte = get_or_from_slice_get s 9 t 0 at in
    let low : g < 2 ^ 63 = rw g_is (groups_lt s 9) in
    let other = not_sign t h in
    let top : group s 9 ≡ t = let small = e.1 in omega arith in
    elim (cases_lt t 64) [
      | inl clear ↦
          let sign : nat_lt (group s 9) 64 ≡ true = grind (arith, nat_tests) in
          let signed_is : signed_of s ≡ pos (g + t * 2 ^ 63) = rw (e.0, sign, sum) refl in
          let f = rw signed_is at fits in
          omega (arith, ints, f, other.0)
      | inr set ↦
          let sign : nat_lt (group s 9) 64 ≡ false = grind (arith, nat_tests) in
          let signed_is : signed_of s ≡ pos (g + t * 2 ^ 63) -ℤ pos (128 ^ 10) =
          rw (e.0, sign, sum) refl in
          let below : t < 127 =
          elim (cases_lt t 127) [
            | inl b ↦ b
            | inr a ↦ absurd (other.1 (let small = e.1 in omega arith))
          ] in
          let k = 128 ^ 10 - (g + t * 2 ^ 63) - 1 in
          let less = less_whole (g + t * 2 ^ 63) (128 ^ 10) k (omega arith) in
          let f = rw (signed_is ∙ sym less) at fits in
          omega (arith, ints, f, below, low)
    ]
