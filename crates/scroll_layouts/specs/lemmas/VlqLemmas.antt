-- What numbers with their high groups first cite for their laws. The lemmas are proved, and promise
-- nothing.
use Rattle.std.proofs.Common.{◌≡◌, ℕ, zero, suc, ◌+◌, ◌-◌, ◌*◌, ◌/◌, ◌%◌, ◌^◌, ◌<◌, ◌≤◌, ◌++◌, List, [], ◌∷◌, length, take, drop, get_or, true, false, refl, sym, ap, subst, ◌∙◌, arith, length-append, append_assoc, map, inl, inr, ◌⊎◌}
use Rattle.std.proofs.Math.ListN.{get_or-append}
use Rattle.std.proofs.Math.Nat.{mod-lt, pow-le-pow_right}
use Rattle.std.proofs.Math.Seq.{take-suc, get_or-append_seam}
use Rattle.std.proofs.lemmas.Int.Digits.{number_after_append, number_lt}
use Rattle.std.proofs.lemmas.List.{map-append, length-map, length-take-le, length-set, drop-set, drop-set-lt, take_at}
use Rattle.std.proofs.lemmas.List.Elements.{All-get_or, All-nil, All-push}
use Rattle.std.proofs.lemmas.List.Sums.{fails_before_first, passes_at_first, position_or_len_is}
use Rattle.std.proofs.lemmas.Bool.{cases_lt}
use Rattle.std.proofs.lemmas.Nat.{div-mul-add, div-add-mod'}
use Rattle.std.specs.Int.Digits.{number_from_digits, AllBelowBase}
use Rattle.std.specs.List.{All}
use Rattle.std.specs.Prelude.{nat_lt, Bool, slice_set}
use Rattle.scroll.specs.Encoding.{HasEncoding}
use Rattle.scroll.specs.Leb128.{Counted, end_of, count_of}
use Rattle.scroll_layouts.specs.Varints.{ReadsVlq, groups_number, vlq_of, high_groups, vlq_bytes}

-- the low field of a number
low-field : (x y m : ℕ) → y < m → (x * m + y) % m ≡ y
low-field x y m l =
    let whole : (x * m + y) / m * m + (x * m + y) % m ≡ x * m + y = div-add-mod' (x * m + y) m in
    let high : (x * m + y) / m * m ≡ x * m = ap (λ k. k * m) (div-mul-add x m y l) in
    omega (arith, whole, high)

-- one more group
number-push : (s : List ℕ) (b : ℕ)
    → groups_number (s ++ b ∷ []) ≡ groups_number s * 128 + b % 128
number-push s b =
    ap (number_from_digits 128) (map-append (λ c. c % 128) s (b ∷ []))
    ∙ number_after_append 128 0 (map (λ c. c % 128) s) (b % 128 ∷ [])

-- the groups of a number that has room in them are its digits
high-number : (v n : ℕ) → v < 128 ^ n → groups_number (high_groups v n) ≡ v
high-number v zero h = omega (arith, h)
high-number v (suc n) h =
    let less : v / 128 < 128 ^ n = omega (arith, h) in
    let digit : (128 + v % 128) % 128 ≡ v % 128 = omega arith in
    number-push (high_groups (v / 128) n) (128 + v % 128)
    ∙ ap (λ k. k * 128 + (128 + v % 128) % 128) (high-number (v / 128) n less)
    ∙ ap (λ k. v / 128 * 128 + k) digit ∙ div-add-mod' v 128

pub vlq-number : (v n : ℕ) → 1 ≤ n → v < 128 ^ n → groups_number (vlq_bytes v n) ≡ v
vlq-number v zero some h = absurd (omega (arith, some))
vlq-number v (suc n) some h =
    let less : v / 128 < 128 ^ n = omega (arith, h) in
    let digit : v % 128 % 128 ≡ v % 128 = omega arith in
    number-push (high_groups (v / 128) n) (v % 128)
    ∙ ap (λ k. k * 128 + v % 128 % 128) (high-number (v / 128) n less)
    ∙ ap (λ k. v / 128 * 128 + k) digit ∙ div-add-mod' v 128

high-len : (v n : ℕ) → length (high_groups v n) ≡ n
high-len v zero = refl
high-len v (suc n) =
    omega (
      arith,
      length-append (high_groups (v / 128) n) ((128 + v % 128) ∷ []),
      high-len (v / 128) n,
    )

pub vlq-len : (v n : ℕ) → length (vlq_bytes v n) ≡ n
vlq-len v zero = refl
vlq-len v (suc n) =
    omega (
      arith,
      length-append (high_groups (v / 128) n) (v % 128 ∷ []),
      high-len (v / 128) n,
    )

-- none of them is below 128
goes-on : (k : ℕ) → nat_lt (128 + k) 128 ≡ false
goes-on k = grind arith

high-all : (v n : ℕ) → All (λ b. nat_lt b 128 ≡ false) (high_groups v n)
high-all v zero = All-nil (λ b. nat_lt b 128 ≡ false)
high-all v (suc n) =
    All-push (λ b. nat_lt b 128 ≡ false) (high_groups (v / 128) n) (128 + v % 128)
    (high-all (v / 128) n) (goes-on (v % 128))

-- so the last one ends it
is-last : (b : ℕ) → b < 128 → nat_lt b 128 ≡ true
is-last b h = grind (arith, h)

vlq-end : (v n b : ℕ) (rest : List ℕ) → b < 128 → end_of (high_groups v n ++ b ∷ rest) ≡ n
vlq-end v n b rest h =
    let s : List ℕ = high_groups v n ++ b ∷ rest in
    let long : length (high_groups v n) ≡ n = high-len v n in
    let size : length s ≡ n + length (b ∷ rest) =
    omega (arith, length-append (high_groups v n) (b ∷ rest), long) in
    position_or_len_is (λ c. nat_lt c 128) s n 0 (omega (arith, size)) (λ k l.
    let before : k < length (high_groups v n) = omega (arith, l, long) in
    ap (λ c. nat_lt c 128) (get_or-append (high_groups v n) (b ∷ rest) 0 k before)
    ∙ All-get_or (λ c. nat_lt c 128 ≡ false) (high_groups v n) k 0 before (high-all v n)) (λ l.
    ap (λ c. nat_lt c 128) (subst (λ m. get_or s m 0 ≡ b) long
    (get_or-append_seam (high_groups v n) b rest 0)) ∙ is-last b h)

pub vlq-ends : (v n : ℕ) (rest : List ℕ) → 1 ≤ n → end_of (vlq_bytes v n ++ rest) + 1 ≡ n
vlq-ends v zero rest some = absurd (omega (arith, some))
vlq-ends v (suc n) rest some =
    let low : v % 128 < 128 = mod-lt v (omega arith) in
    let there : end_of (vlq_bytes v (suc n) ++ rest) ≡ n =
    ap end_of (append_assoc (high_groups (v / 128) n) (v % 128 ∷ []) rest)
    ∙ vlq-end (v / 128) n (v % 128) rest low in omega (arith, there)

-- groups that were read are those of their number
high-kept : (s : List ℕ) (n : ℕ) → n ≤ length s → All (λ b. b < 256) s
    → ((k : ℕ) → k < n → nat_lt (get_or s k 0) 128 ≡ false)
    → high_groups (groups_number (take n s)) n ≡ take n s
high-kept s zero le all on = refl
high-kept s (suc n) le all on =
    let b : ℕ = get_or s n 0 in
    let v : ℕ = groups_number (take n s) in
    let next : take (suc n) s ≡ take n s ++ b ∷ [] = take-suc s n 0 (omega (arith, le)) in
    let less : b % 128 < 128 = mod-lt b (omega arith) in
    let byte : b < 256 = All-get_or (λ c. c < 256) s n 0 (omega (arith, le)) all in
    let high : nat_lt b 128 ≡ false = on n (omega arith) in
    let more : 128 ≤ b = grind (arith, high) in
    let number : groups_number (take (suc n) s) ≡ v * 128 + b % 128 =
    ap groups_number next ∙ number-push (take n s) b in
    let digit : 128 + (v * 128 + b % 128) % 128 ≡ b =
    omega (arith, low-field v (b % 128) 128 less, byte, more) in
    ap (λ k. high_groups k (suc n)) number
    ∙ ap (λ k. high_groups k n ++ (128 + (v * 128 + b % 128) % 128) ∷ [])
    (div-mul-add v 128 (b % 128) less)
    ∙ ap (λ t. t ++ (128 + (v * 128 + b % 128) % 128) ∷ [])
    (high-kept s n (omega (arith, le)) all (λ k l. on k (omega (arith, l))))
    ∙ ap (λ c. take n s ++ c ∷ []) digit ∙ sym next

kept-at : (s : List ℕ) (n : ℕ) → n < length s → All (λ b. b < 256) s
    → ((k : ℕ) → k < n → nat_lt (get_or s k 0) 128 ≡ false) → get_or s n 0 < 128
    → vlq_bytes (groups_number (take (suc n) s)) (suc n) ≡ take (suc n) s
kept-at s n le all on last =
    let b : ℕ = get_or s n 0 in
    let v : ℕ = groups_number (take n s) in
    let next : take (suc n) s ≡ take n s ++ b ∷ [] = take-suc s n 0 le in
    let less : b % 128 < 128 = mod-lt b (omega arith) in
    let number : groups_number (take (suc n) s) ≡ v * 128 + b % 128 =
    ap groups_number next ∙ number-push (take n s) b in
    let digit : (v * 128 + b % 128) % 128 ≡ b =
    omega (arith, low-field v (b % 128) 128 less, last) in
    ap (λ k. vlq_bytes k (suc n)) number
    ∙ ap (λ k. high_groups k n ++ (v * 128 + b % 128) % 128 ∷ [])
    (div-mul-add v 128 (b % 128) less)
    ∙ ap (λ t. t ++ (v * 128 + b % 128) % 128 ∷ []) (high-kept s n (omega (arith, le)) all on)
    ∙ ap (λ c. take n s ++ c ∷ []) digit ∙ sym next

pub vlq-kept : (s : List ℕ) → All (λ b. b < 256) s → end_of s < length s
    → vlq_bytes (vlq_of s) (count_of s) ≡ take (count_of s) s
vlq-kept s all there =
    let n : ℕ = end_of s in
    let last : nat_lt (get_or s n 0) 128 ≡ true =
    passes_at_first (λ b. nat_lt b 128) s 0 there in
    let low : get_or s n 0 < 128 = grind (arith, last) in
    let more : suc n ≡ count_of s = omega arith in
    subst (λ m. vlq_bytes (groups_number (take m s)) m ≡ take m s) more
    (kept-at s n there all (λ k l. fails_before_first (λ b. nat_lt b 128) s k 0 l) low)

-- a number that was read has room in its groups
below-base : (s : List ℕ) → AllBelowBase 128 (map (λ b. b % 128) s)
below-base [] = tt
below-base (b ∷ s) = (mod-lt b (omega arith), below-base s)

pub vlq-room : (s : List ℕ) (n : ℕ) → n ≤ length s → groups_number (take n s) < 128 ^ n
vlq-room s n le =
    subst (λ m. groups_number (take n s) < 128 ^ m)
    (length-map (take n s) (λ b. b % 128) ∙ length-take-le n s le)
    (number_lt 128 (map (λ b. b % 128) (take n s)) (below-base (take n s)))

-- where an encoding ends, whose first `n` bytes go on
pub ends-at : (s : List ℕ) (n : ℕ) → n < length s
    → ((k : ℕ) → k < n → nat_lt (get_or s k 0) 128 ≡ false) → get_or s n 0 < 128 → end_of s ≡ n
ends-at s n l on last =
    position_or_len_is (λ b. nat_lt b 128) s n 0 (omega (arith, l)) on
    (λ m. is-last (get_or s n 0) last)

pub ends-cut : (s : List ℕ) (n : ℕ) → length s ≤ n → n ≤ length s
    → ((k : ℕ) → k < n → nat_lt (get_or s k 0) 128 ≡ false) → length s ≤ end_of s
ends-cut s n short le on =
    let there : end_of s ≡ n =
    position_or_len_is (λ b. nat_lt b 128) s n 0 le on (λ l. absurd (omega (arith, l, short))) in
    omega (arith, there, short)

pub ends-past : (s : List ℕ) (n : ℕ) → ((k : ℕ) → k < n → nat_lt (get_or s k 0) 128 ≡ false)
    → end_of s < length s → n ≤ end_of s
ends-past s n on there = elim (cases_lt (end_of s) n) [
  | inl before ↦
      absurd (differs (on (end_of s) before) (passes_at_first (λ b. nat_lt b 128) s 0 there))
  | inr after ↦ after
] where
  differs : {b : Bool} → b ≡ false → b ≡ true → ⊥
  differs f t = grind (arith, f, t)

nine-groups : {v : ℕ} (n : ℕ) → n < 10 → v < 128 ^ n → 2 ^ 57 ≤ v → (n < 9) ⊎ (9 ≤ n) → n ≡ 9
nine-groups n few room great (inl small) =
    let few : n ≤ 8 = omega (arith, small) in
    let most : 128 ^ n ≤ 128 ^ 8 = pow-le-pow_right {n = 128} (omega arith) few in
    absurd (omega (arith, most, room, great))
nine-groups n few room great (inr large) = omega (arith, large, few)

-- a number above seven bytes of groups has nine of them, and with one more it doesn't fit
pub too-great : (s : List ℕ) (n : ℕ) → n < 10 → n < length s
    → ((k : ℕ) → k < n → nat_lt (get_or s k 0) 128 ≡ false) → 2 ^ 57 ≤ groups_number (take n s)
    → end_of s < length s → end_of s < 10 → vlq_of s < 2 ^ 64 → ⊥
too-great s n few le on great there ten fits =
    let room : groups_number (take n s) < 128 ^ n = vlq-room s n (omega (arith, le)) in
    let nine : n ≡ 9 = nine-groups n few room great (cases_lt n 9) in
    let past : n ≤ end_of s = ends-past s n on there in
    let at : end_of s ≡ n = omega (arith, past, ten, nine) in
    let size : count_of s ≡ suc n = omega (arith, at) in
    let is : vlq_of s ≡ groups_number (take (suc n) s) =
    ap (λ m. groups_number (take m s)) size in
    let more : groups_number (take (suc n) s)
    ≡ groups_number (take n s) * 128 + get_or s n 0 % 128 =
    ap groups_number (take-suc s n 0 le) ∙ number-push (take n s) (get_or s n 0) in
    omega (arith, is, more, great, fits)

-- one more byte
pub next-number : (s : List ℕ) (n : ℕ) → n < length s
    → groups_number (take (n + 1) s) ≡ groups_number (take n s) * 128 + get_or s n 0 % 128
next-number s n l =
    let more : n + 1 ≡ suc n = omega arith in
    ap (λ m. groups_number (take m s)) more ∙ ap groups_number (take-suc s n 0 l)
    ∙ number-push (take n s) (get_or s n 0)

pub next-on : (s : List ℕ) (n : ℕ) → ((k : ℕ) → k < n → nat_lt (get_or s k 0) 128 ≡ false)
    → 128 ≤ get_or s n 0 → (k : ℕ) → k < n + 1 → nat_lt (get_or s k 0) 128 ≡ false
next-on s n on high k l = at (cases_lt k n) where
  above : (b : ℕ) → 128 ≤ b → nat_lt b 128 ≡ false
  above b h = grind (arith, h)

  at : (k < n) ⊎ (n ≤ k) → nat_lt (get_or s k 0) 128 ≡ false
  at (inl m) = on k m
  at (inr m) =
      let same : k ≡ n = omega (arith, l, m) in
      ap (λ i. nat_lt (get_or s i 0) 128) same ∙ above (get_or s n 0) high

-- a number above seven bytes isn't cut
pub nine-below : (s : List ℕ) (n : ℕ) → n < length s
    → ((k : ℕ) → k < n → nat_lt (get_or s k 0) 128 ≡ false)
    → (length s ≤ end_of s) × (length s < 10) → 2 ^ 57 ≤ groups_number (take n s) → ⊥
nine-below s n le on cut great =
    let room : groups_number (take n s) < 128 ^ n = vlq-room s n (omega (arith, le)) in
    let nine : n ≡ 9 = nine-groups n (omega (arith, le, cut.1)) room great (cases_lt n 9) in
    omega (arith, nine, le, cut.1)

-- the last byte is written
pub last-put : (old : List ℕ) (v n : ℕ) → 1 ≤ n → n ≤ length old
    → (tail : List ℕ)
    × (vlq_bytes v n ≡ high_groups (v / 128) (n - 1) ++ tail)
    × (drop (n - 1) (slice_set old (n - 1) (v % 128))
    ≡ tail ++ drop n (slice_set old (n - 1) (v % 128)))
    × (n - 1 < length (slice_set old (n - 1) (v % 128)))
last-put old v zero some le = absurd (omega (arith, some))
last-put old v (suc n) some le =
    let here : n < length old = omega (arith, le) in
    let at : suc n - 1 ≡ n = omega arith in
    let more : n + 1 ≡ suc n = omega arith in
    subst (λ m. (tail : List ℕ)
    × (vlq_bytes v (suc n) ≡ high_groups (v / 128) m ++ tail)
    × (drop m (slice_set old m (v % 128)) ≡ tail ++ drop (suc n) (slice_set old m (v % 128)))
    × (m < length (slice_set old m (v % 128)))) (sym at) (
      v % 128 ∷ [],
      refl,
      drop-set old n (v % 128) here ∙ ap (λ m. v % 128 ∷ drop m old) more
          ∙ ap (λ t. v % 128 ∷ t) (sym (drop-set-lt (suc n) old n (v % 128) (omega arith))),
      subst (λ k. n < k) (sym (length-set old n (v % 128))) here,
    )

-- one more byte is written before those behind it
pub group-put : (bytes rest dst : List ℕ) (v n : ℕ) (tail : List ℕ) → 0 < n
    → bytes ≡ high_groups v n ++ tail → drop n dst ≡ tail ++ rest → n < length dst
    → (tail : List ℕ)
    × (bytes ≡ high_groups (v / 128) (n - 1) ++ tail)
    × (drop (n - 1) (slice_set dst (n - 1) (128 + v % 128)) ≡ tail ++ rest)
    × (n - 1 < length (slice_set dst (n - 1) (128 + v % 128)))
group-put bytes rest dst v zero tail some is there le = absurd (omega (arith, some))
group-put bytes rest dst v (suc n) tail some is there le =
    let here : n < length dst = omega (arith, le) in
    let at : suc n - 1 ≡ n = omega arith in
    let more : n + 1 ≡ suc n = omega arith in
    let b : ℕ = 128 + v % 128 in
    subst (λ m. (tail : List ℕ)
    × (bytes ≡ high_groups (v / 128) m ++ tail)
    × (drop m (slice_set dst m b) ≡ tail ++ rest)
    × (m < length (slice_set dst m b))) (sym at) (
      b ∷ tail,
      is ∙ append_assoc (high_groups (v / 128) n) (b ∷ []) tail,
      drop-set dst n b here ∙ ap (λ m. b ∷ drop m dst) more ∙ ap (λ t. b ∷ t) there,
      subst (λ k. n < k) (sym (length-set dst n b)) here,
    )

-- all bytes are written
pub all-put : (bytes old dst : List ℕ) (b v n at : ℕ) (tail : List ℕ) → at ≡ 0 → 1 ≤ n
    → bytes ≡ high_groups v at ++ tail → drop at dst ≡ tail ++ drop n (slice_set old (n - 1) b)
    → dst ≡ bytes ++ drop n old
all-put bytes old dst b v n at tail end some is there =
    let behind : drop n (slice_set old (n - 1) b) ≡ drop n old =
    drop-set-lt n old (n - 1) b (omega (arith, some)) in
    let whole : drop at dst ≡ dst = ap (λ m. drop m dst) end in
    let all : bytes ≡ tail = is ∙ ap (λ m. high_groups v m ++ tail) end in
    sym whole ∙ there ∙ ap (λ t. tail ++ t) behind ∙ ap (λ t. t ++ drop n old) (sym all)

-- a number that was read has an encoding of its length
pub vlq-has : (s : List ℕ) (x : Counted ℕ) (n : ℕ) → ReadsVlq s x n → HasEncoding x.value x.count
vlq-has s x n h =
    let count : x.count ≡ count_of s = h.1 ∙ h.0.size in record {
      some = omega (arith, count);
      few = omega (arith, count, h.0.complete.1);
      room = subst (λ v. v < 128 ^ x.count) (sym h.0.value)
          (subst (λ m. vlq_of s < 128 ^ m) (sym count)
          (vlq-room s (count_of s) (omega (arith, h.0.complete.0))));
      fits = subst (λ v. v < 2 ^ 64) (sym h.0.value) h.0.fits;
    }

-- a number that is written reads back
pub vlq-back : (v n : ℕ) (rest : List ℕ) → HasEncoding v n
    → ReadsVlq (vlq_bytes v n ++ rest) (record { value = v; count = n }) n
vlq-back v n rest h =
    let s : List ℕ = vlq_bytes v n ++ rest in
    let ends : count_of s ≡ n = vlq-ends v n rest h.some in
    let size : length s ≡ n + length rest =
    omega (arith, length-append (vlq_bytes v n) rest, vlq-len v n) in
    let is : vlq_of s ≡ v =
    ap (λ m. groups_number (take m s)) ends
    ∙ ap groups_number (take_at (vlq_bytes v n) rest n (vlq-len v n))
    ∙ vlq-number v n h.some h.room in (
      record {
        complete = (omega (arith, ends, size), omega (arith, ends, h.few));
        fits = subst (λ k. k < 2 ^ 64) (sym is) h.fits;
        value = sym is;
        size = sym ends;
      },
      refl,
    )

pub ruleset vlq_sizes = (vlq-len)
