-- A search block by block: how many bytes come before the first that passes a test; a stop, which
-- is the delimiter or a byte that isn't ASCII: what comes before it, and where the string ends; and
-- masks of a vector's lanes.
use Rattle.std.proofs.Math.Facts.{eqb_yes}
use Rattle.std.proofs.Math.Dec.{T}
use Rattle.std.proofs.Common.{◌≡◌, ℕ, zero, suc, ◌+◌, ◌-◌, ◌*◌, ◌/◌, ◌<◌, ◌≤◌, inl, inr, Bool, not, subst, List, [], ◌∷◌, length, take, drop, min, get_or, refl, sym, ap, ◌∙◌, arith, length-drop, length-take, ◌⊎◌, nat_le, ◌==◌, get_or-take, ◌%◌, ◌^◌, true, false, cond, eqb, leb, ◌||◌, map, replicate, bit_or, w8}
use Rattle.std.proofs.Math.Nat.{add-mul, div-mul-le_self}
use Rattle.std.proofs.lemmas.Nat.{row_fits, or_block}
use Rattle.std.proofs.lemmas.Bool.{cases_Bool, cases_lt, or_parts, eq-eqb, leb-false}
use Rattle.std.proofs.lemmas.List.{drop-drop, take_rest, get_or_past, length-map}
use Rattle.std.proofs.lemmas.List.Sums.{prefix_len-le-length, fails_before_first, passes_at_first}
use Rattle.std.specs.List.{position_or_len}
use Rattle.std.specs.Simd.{first_chunks}
use Rattle.std.specs.Str.{IsAscii}
use Rattle.scroll.specs.Texts.{index_of, is_stop}
use Rattle.scroll.specs.lemmas.Frames.{index_of-le}
use Rattle.std.proofs.lemmas.Simd.{bitmask_splat, leading_from_mask_l, trailing_mask_l, tops_compared, mask_l-mod, zip2_splat_left}
use Rattle.std.specs.Int.Count.{count_trailing_zeros}
use Rattle.std.specs.Int.Bits.{or_zero_l}
use Rattle.std.specs.Simd.Lanes.{zip2, mask_l, top}

pub position_or_len-le : (p : ℕ → Bool) (s : List ℕ) → position_or_len p s ≤ length s
position_or_len-le p s = prefix_len-le-length (λ b. not (p b)) s

-- of the first k bytes
pub position_or_len-take : (p : ℕ → Bool) (k : ℕ) (s : List ℕ)
    → position_or_len p (take k s) ≡ min k (position_or_len p s)
position_or_len-take p zero s = omega arith
position_or_len-take p (suc k) [] = omega arith
position_or_len-take p (suc k) (b ∷ s) = elim (cases_Bool (p b)) [
  | inl t ↦ rw t (omega arith)
  | inr t ↦ let rest = position_or_len-take p k s in rw t (omega arith)
]

-- of the bytes after k, none of which passes
position_or_len-drop : (p : ℕ → Bool) (k : ℕ) (s : List ℕ) → k ≤ position_or_len p s
    → k + position_or_len p (drop k s) ≡ position_or_len p s
position_or_len-drop p zero s h = omega arith
position_or_len-drop p (suc k) [] h = absurd (omega arith)
position_or_len-drop p (suc k) (b ∷ s) h = elim (cases_Bool (p b)) [
  | inl t ↦ let g = rw t at h in absurd (omega arith)
  | inr t ↦
      let g : k ≤ position_or_len p s = let f = rw t at h in omega arith in
      rw t (omega (arith, position_or_len-drop p k s g))
]

-- of what is left of a slice after k bytes, none of which passes
pub position_or_len-rest : (p : ℕ → Bool) (k : ℕ) (s : List ℕ) → k ≤ position_or_len p s
    → k + position_or_len p (take (length s - k) (drop k s)) ≡ position_or_len p s
position_or_len-rest p k s h = rw (take_rest s k) (position_or_len-drop p k s h)

pub block_at : (n m : ℕ) (s d : List ℕ) (k : ℕ) → k < m
    → get_or (first_chunks n m s) k d ≡ take n (drop (k * n) s)
block_at n zero s d k h = absurd (omega arith)
block_at n (suc m) s d zero h = let e : 0 * n ≡ 0 = omega arith in rw e refl
block_at n (suc m) s d (suc k) h =
    let e : suc k * n ≡ n + k * n = ap (λ j. j * n) (let o : suc k ≡ 1 + k = omega arith in o)
    ∙ add-mul 1 k n ∙ (let o : 1 * n + k * n ≡ n + k * n = omega arith in o) in
    block_at n m (drop n s) d k (omega arith) ∙ ap (take n) (drop-drop (k * n) n s)
    ∙ ap (λ j. take n (drop j s)) (sym e)

-- of a block of n bytes, where no byte before it passes
pub position_or_len-block : (p : ℕ → Bool) (n k : ℕ) (s t d : List ℕ) (blocks : List (List ℕ))
    → blocks ≡ first_chunks n (length s / n) s → k < length s / n → t ≡ get_or blocks k d
    → k * n ≤ position_or_len p s
    → (length t ≡ n) × (k * n + position_or_len p t ≡ min (k * n + n) (position_or_len p s))
position_or_len-block p n k s t d blocks all inside e seen =
    let is : t ≡ take n (drop (k * n) s) = e ∙ (rw all (block_at n (length s / n) s d k inside)) in
    let fits : k * n + n ≤ length s =
    omega (
      arith,
      row_fits k n (length s / n) n inside (omega arith),
      div-mul-le_self (length s) n,
    ) in
    let block = position_or_len-take p n (drop (k * n) s) in
    let rest = position_or_len-drop p (k * n) s seen in
    rw is (
      omega (arith, length-take n (drop (k * n) s), length-drop (k * n) s, fits),
      omega (arith, block, rest),
    )

pub ruleset searches = (position_or_len-le, position_or_len-rest)

-- what comes before a stop is ASCII
pub prefix_is_ascii : (d : ℕ) (s : List ℕ) (n : ℕ) → n ≡ position_or_len (is_stop d) s
    → IsAscii (take n s)
prefix_is_ascii d s n e i = elim (cases_lt i n) [
  | inl inside ↦
      let fails = fails_before_first (is_stop d) s i 0 (omega (arith, e)) in
      let small =
      leb-false 128 (get_or s i 0)
      (or_parts (get_or s i 0 == d) (nat_le 128 (get_or s i 0)) fails).1 in
      rw (get_or-take n s i 0 inside) small
  | inr past ↦ rw (get_or_past (take n s) i 0 (omega (arith, length-take n s))) (omega arith)
]

-- no delimiter comes before a stop
stop_is_first : (d : ℕ) (s : List ℕ) (n : ℕ) → n ≡ position_or_len (is_stop d) s → n ≤ length s
    → n ≤ index_of d s
stop_is_first d s n e l = elim (cases_lt (index_of d s) n) [
  | inl before ↦
      let index = index_of d s in
      let passes = passes_at_first (λ b. b == d) s 0 (omega arith) in
      let fails =
      (or_parts (get_or s index 0 == d) (nat_le 128 (get_or s index 0))
      (fails_before_first (is_stop d) s index 0 (omega (arith, e)))).0 in
      absurd (grind (arith, passes, fails))
  | inr past ↦ past
]

-- a stop at the end or at a delimiter is the first delimiter
pub ends_there : (d : ℕ) (s : List ℕ) (n : ℕ) → n ≡ position_or_len (is_stop d) s → n ≤ length s
    → (n ≡ length s) ⊎ (get_or s n 0 ≡ d) → n ≡ index_of d s
ends_there d s n e l h =
    let least = stop_is_first d s n e l in
    let most = index_of-le d s in
    elim h [
      | inl end ↦ omega arith
      | inr byte ↦ elim (cases_lt n (index_of d s)) [
        | inl before ↦
            let fails = fails_before_first (λ b. b == d) s n 0 before in
            let passes = eq-eqb (get_or s n 0) d byte in
            absurd (grind (arith, passes, fails))
        | inr past ↦ omega arith
      ]
    ]

-- the search continues from a stop: the first delimiter is as far after it as in the rest
pub ends_further : (d : ℕ) (s : List ℕ) (n m : ℕ) → n ≡ position_or_len (is_stop d) s → n ≤ length s
    → m ≡ index_of d (take (length s - n) (drop n s)) → n + m ≡ index_of d s
ends_further d s n m e l f =
    ap (λ k. n + k) f ∙ position_or_len-rest (λ b. b == d) n s (stop_is_first d s n e l)

bit_small : (t : Bool) → cond {A = ℕ} t 1 0 < 2
bit_small true = omega arith
bit_small false = omega arith

bit_either : (t u : Bool) → bit_or (cond t 1 0) (cond u 1 0) ≡ cond (t || u) 1 0
bit_either true true = refl
bit_either true false = refl
bit_either false true = refl
bit_either false false = refl

mask_or : (p q : ℕ → Bool) (bs : List ℕ)
    → bit_or (mask_l (map p bs)) (mask_l (map q bs)) ≡ mask_l (map (λ b. p b || q b) bs)
mask_or p q [] = or_zero_l 0
mask_or p q (b ∷ bs) =
    let left : cond {A = ℕ} (p b) 1 0 < 2 = bit_small (p b) in
    let right : cond {A = ℕ} (q b) 1 0 < 2 = bit_small (q b) in
    let a : cond {A = ℕ} (p b) 1 0 + 2 * mask_l (map p bs)
    ≡ mask_l (map p bs) * 2 ^ 1 + cond (p b) 1 0 =
    omega arith in
    let c : cond {A = ℕ} (q b) 1 0 + 2 * mask_l (map q bs)
    ≡ mask_l (map q bs) * 2 ^ 1 + cond (q b) 1 0 =
    omega arith in
    rw (a, c) (or_block 1 (mask_l (map p bs)) (mask_l (map q bs)) (cond (p b) 1 0) (cond (q b) 1 0)
    left right
    ∙ rw (mask_or p q bs, bit_either (p b) (q b)) (omega arith))

empty_mask : (p : ℕ → Bool) (bs : List ℕ) → length bs ≤ position_or_len p bs → mask_l (map p bs) ≡ 0
empty_mask p [] h = refl
empty_mask p (b ∷ bs) h = elim (cases_Bool (p b)) [
  | inl t ↦ let g = rw t at h in absurd (omega arith)
  | inr t ↦
      let g : length bs ≤ position_or_len p bs = let f = rw t at h in omega arith in
      rw t (omega (arith, empty_mask p bs g))
]

-- no bit is set where no byte passes
pub none_marked : (p : ℕ → Bool) (bs : List ℕ) (marks : ℕ) → marks ≡ mask_l (map p bs) → marks ≡ 0
    → position_or_len p bs ≡ length bs
none_marked p bs marks e h = leading_from_mask_l p bs (sym e ∙ h)

-- the lowest bit that is set is that of the first byte that passes
pub first_marked : (p : ℕ → Bool) (bs : List ℕ) (marks : ℕ) → length bs ≤ 64
    → marks ≡ mask_l (map p bs) → (marks ≡ 0 → ⊥)
    → (count_trailing_zeros 64 marks ≡ position_or_len p bs) × (position_or_len p bs < length bs)
first_marked p bs marks l e h =
    let index : count_trailing_zeros 64 marks ≡ position_or_len p bs =
    ap (count_trailing_zeros 64) e ∙ trailing_mask_l p 64 bs l (omega (arith, h, e)) in (
      index,
      elim (cases_lt (position_or_len p bs) (length bs))
          [ inl inside ↦ inside | inr past ↦ absurd (h (e ∙ empty_mask p bs past)) ],
    )

-- the first stop among the first 64 bytes is the first of all
pub stop_in_front : (p : ℕ → Bool) (s block : List ℕ) (marks : ℕ) → block ≡ take 64 s
    → marks ≡ mask_l (map p block) → (marks ≡ 0 → ⊥)
    → count_trailing_zeros 64 marks ≡ position_or_len p s
stop_in_front p s block marks is e h =
    let len : length block ≤ 64 = rw is (omega (arith, length-take 64 s)) in
    let found = first_marked p block marks len e h in
    let all : position_or_len p block ≡ min 64 (position_or_len p s) =
    rw is (position_or_len-take p 64 s) in
    omega (arith, found.0, found.1, len, all)

-- where none of the first 64 bytes is a stop, the first is behind them
pub none_in_front : (p : ℕ → Bool) (s block : List ℕ) (marks : ℕ) → 64 ≤ length s
    → block ≡ take 64 s → marks ≡ mask_l (map p block) → marks ≡ 0 → 64 ≤ position_or_len p s
none_in_front p s block marks fits is e h =
    let len : length block ≡ 64 = rw is (omega (arith, length-take 64 s, fits)) in
    let all : position_or_len p block ≡ min 64 (position_or_len p s) =
    rw is (position_or_len-take p 64 s) in
    omega (arith, none_marked p block marks e h, len, all)

pub equal_marks : (n d : ℕ) (bs : List ℕ) → length bs ≡ n → n ≤ 64
    → mask_l (map (top 7) (zip2 (λ a b. cond (eqb a b) 255 0) bs (replicate n d))) % 2 ^ 64
    ≡ mask_l (map (λ b. b == d) bs)
equal_marks n d bs l h = bitmask_splat w8 eqb bs n d l h

wide_marks : (n : ℕ) (bs : List ℕ) → length bs ≡ n → n ≤ 64
    → mask_l (map (top 7) (zip2 (λ a b. cond (leb a b) 255 0) (replicate n 128) bs)) % 2 ^ 64
    ≡ mask_l (map (nat_le 128) bs)
wide_marks n bs l h =
    ap (λ ms. mask_l ms % 2 ^ 64)
    (tops_compared w8 leb (replicate n 128) bs ∙ zip2_splat_left leb 128 n bs l)
    ∙ mask_l-mod (map (nat_le 128) bs) 64 (omega (arith, length-map bs (nat_le 128)))

pub stop_marks : (n d : ℕ) (bs : List ℕ) → length bs ≡ n → n ≤ 64
    → bit_or (mask_l (map (top 7) (zip2 (λ a b. cond (eqb a b) 255 0) bs (replicate n d))) % 2 ^ 64)
    (mask_l (map (top 7) (zip2 (λ a b. cond (leb a b) 255 0) (replicate n 128) bs)) % 2 ^ 64)
    ≡ mask_l (map (is_stop d) bs)
stop_marks n d bs l h =
    rw (equal_marks n d bs l h, wide_marks n bs l h) (mask_or (λ b. b == d) (nat_le 128) bs)

-- a block of which no byte is marked is ASCII
pub none_wide : (n : ℕ) (bs : List ℕ) → length bs ≡ n → n ≤ 64
    → (mask_l (map (top 7) (zip2 (λ a b. cond (leb a b) 255 0) (replicate n 128) bs)) % 2 ^ 64 == 0)
    ≡ true → IsAscii bs
none_wide n bs l h e i =
    let none : mask_l (map (nat_le 128) bs) ≡ 0 =
    sym (wide_marks n bs l h) ∙ eqb_yes (subst T (sym e) tt) in
    let far = leading_from_mask_l (nat_le 128) bs none in
    elim (cases_lt i (length bs)) [
      | inl inside ↦
          leb-false 128 (get_or bs i 0)
          (fails_before_first (nat_le 128) bs i 0 (omega (arith, far)))
      | inr past ↦ rw (get_or_past bs i 0 past) (omega arith)
    ]
