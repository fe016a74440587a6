-- Numbers, floats and their bytes: reads that depend only on the bytes that they take, and that
-- take no more than there are; the sixteen bytes of a number as two halves of eight; numbers of
-- reversed bytes; and reads of what begins with a number's bytes.
use Rattle.std.proofs.Common.{◌≡◌, ℕ, suc, ◌+◌, ◌≤◌, List, [], ◌∷◌, length, take, drop, arith, sym, ◌∙◌, ap, length-drop, ◌/◌, ◌%◌, ◌<◌, ◌++◌, get_or, reverse, refl, inl, inr, append_assoc, subst, below_none, below_more, ◌-◌, ◌*◌, ◌^◌, ℤ, pos, neg_ℤ, nat_abs, ◌+ℤ◌, ◌-ℤ◌, ◌*ℤ◌, ◌≤ℤ◌, ◌<ℤ◌, length-take, slice_index, Fits, w8}
use Rattle.std.proofs.lemmas.List.{take-take, drop-take, drop-drop, append-nil, get_or_past, get_or-reverse, take-append-drop}
use Rattle.scroll.specs.Arrays.{ReadsArray}
use Rattle.scroll.specs.Bytes.{ReadsFixed}
use Rattle.scroll.specs.Laws.{IsLocal, IsWithin}
use Rattle.scroll.specs.Reads.{ReadsAll}
use Rattle.std.proofs.lemmas.Bool.{cases_lt}
use Rattle.std.proofs.lemmas.Nat.{be_bytes_8}
use Rattle.std.specs.Int.{w64, to_le_bytes, to_be_bytes, swap_bytes}
use Rattle.std.specs.List.{flat_map}
use Rattle.scroll.specs.Numbers.{number_bytes, number, signed_number, signed_bytes, ReadsNumber, ReadsSigned, float_width, float, float_bytes}
use Rattle.scroll.specs.declared.endian.Endian.TheVariants.{Little, Big}
use Rattle.scroll.specs.lemmas.NumberLemmas.{sum_below-same, sum_below-backwards, complement-back}
use Rattle.std.specs.Prelude.{int_lt, nat_lt, if◌then◌else◌}
use Rattle.scroll.specs.lemmas.NumberLemmas.{number-begins}
use Rattle.scroll.specs.lemmas.FixedLemmas.{number-back}
use Rattle.scroll.specs.lemmas.Frames.{length-number_bytes, length-signed_bytes}
use Rattle.scroll.specs.declared.endian.Endian.{Endian}
use Rattle.std.specs.Float.{Format, NotNan}
use Rattle.std.specs.Float.Ieee.{top}
use lib.Ieee.Bits.{to_bits-of_bits}
use Rattle.scroll.specs.lemmas.FixedLemmas.{number-bound}
-- lists with the same first w bytes have the same number there
pub use Rattle.scroll.specs.lemmas.NumberLemmas.{number-same, signed-same}
-- a list that begins with the bytes of a float begins with that float
pub use Rattle.scroll.specs.lemmas.NumberLemmas.{all-bits, float-begins}

-- equal prefixes have equal shorter prefixes
pub take-same : (m n : ℕ) (s t : List ℕ) → m ≤ n → take n t ≡ take n s → take m t ≡ take m s
take-same m n s t h e = sym (take-take m n t h) ∙ ap (take m) e ∙ take-take m n s h

-- a value that is made of the first w bytes, and depends on these alone
pub local-made : {X : Type 0} (w : ℕ) (makes : List ℕ → X → Type 0)
    → ((s t : List ℕ) (x : X) → take w s ≡ take w t → makes s x → makes t x)
    → IsLocal (ReadsFixed w makes)
local-made w makes same s t v n r h long e =
    let prefix : take w t ≡ take w s =
    ap (λ m. take m t) (sym r.size) ∙ e ∙ ap (λ m. take m s) r.size in
    record {
      room = omega (arith, r.room, long);
      value = same s t v (sym prefix) r.value;
      size = r.size;
    }

-- the end is not before the start
after-start : {V : Type 0} (reads : List ℕ → V → ℕ → Type 0) (s : List ℕ) (o : ℕ) (vs : List V)
    (end : ℕ) → ReadsAll reads s o vs end → o ≤ end
after-start reads s o [] end r = omega (arith, r)
after-start reads s o (v ∷ vs) end r = let rest = after-start reads s (o + r.0) vs end r.2 in
    omega (arith, rest)

local-all : {V : Type 0} (reads : List ℕ → V → ℕ → Type 0) → IsLocal reads
    → (s t : List ℕ) (o : ℕ) (vs : List V) (end : ℕ) → ReadsAll reads s o vs end → end ≤ length s
    → length s ≤ length t → take end t ≡ take end s → ReadsAll reads t o vs end
local-all reads local s t o [] end r h long e = r
local-all reads local s t o (v ∷ vs) end r h long e =
    let later = after-start reads s (o + r.0) vs end r.2 in
    let left = length-drop o s in
    let left' = length-drop o t in
    let part : take r.0 (drop o t) ≡ take r.0 (drop o s) =
    sym (drop-take o r.0 t) ∙ ap (drop o) (take-same (o + r.0) end s t later e)
    ∙ drop-take o r.0 s in (
      r.0,
      record {
        inside = omega (arith, later, h, long);
        value =
            local (drop o s) (drop o t) v r.0 r.1.value (omega (arith, left, later, h))
            (omega (arith, left, left', long)) part;
      },
      local-all reads local s t (o + r.0) vs end r.2 h long e,
    )

pub local-array : {V : Type 0} (reads : List ℕ → V → ℕ → Type 0) (count : ℕ) → IsLocal reads
    → IsLocal (ReadsArray reads count)
local-array reads count local s t v n r h long e = record {
  len = r.len;
  each = local-all reads local s t 0 v n r.each h long e;
}

within-all : {V : Type 0} (reads : List ℕ → V → ℕ → Type 0) → IsWithin reads
    → (s : List ℕ) (o : ℕ) (vs : List V) (end : ℕ) → o ≤ length s → ReadsAll reads s o vs end
    → end ≤ length s
within-all reads within s o [] end h r = omega (arith, r, h)
within-all reads within s o (v ∷ vs) end h r =
    let left = length-drop o s in
    let size = within (drop o s) v r.0 r.1.value in
    within-all reads within s (o + r.0) vs end (omega (arith, left, size, h)) r.2

pub within-array : {V : Type 0} (reads : List ℕ → V → ℕ → Type 0) (count : ℕ) → IsWithin reads
    → IsWithin (ReadsArray reads count)
within-array reads count within s v n r = within-all reads within s 0 v n (omega arith) r.each

-- bytes that are written to the start of both parts of a target
pub parts_written : (d xs ys x y a b prefix rest : List ℕ) → xs ≡ x → ys ≡ y → prefix ≡ take 8 d
    → rest ≡ drop 8 d
    → a ≡ xs ++ drop 8 prefix → b ≡ ys ++ drop 8 rest → a ++ b ≡ (x ++ y) ++ drop 16 d
parts_written d xs ys x y a b prefix rest ex ey ef er first second =
    let none : drop 8 prefix ≡ [] = ap (λ l. drop 8 l) ef ∙ drop-take 8 0 d in
    let left : drop 8 rest ≡ drop 16 d = ap (λ l. drop 8 l) er ∙ drop-drop 8 8 d in
    ap (λ l. l ++ b) (first ∙ ap (λ l. l ++ drop 8 prefix) ex ∙ ap (λ l. x ++ l) none
    ∙ append-nil x)
    ∙ ap (λ l. x ++ l) (second ∙ ap (λ l. l ++ drop 8 rest) ey ∙ ap (λ l. y ++ l) left)
    ∙ sym (append_assoc x y (drop 16 d))

both : {a b : ℕ} {xs ys : List ℕ} → a ≡ b → xs ≡ ys → a ∷ xs ≡ b ∷ ys
both {a} {b} {xs} {ys} e r = ap (λ n. n ∷ xs) e ∙ ap (λ l. b ∷ l) r

little_halves : (x : ℕ) → to_le_bytes w64 (x % 18446744073709551616)
    ++ to_le_bytes w64 (x / 18446744073709551616) ≡ number_bytes Little 16 x
little_halves x =
    let low0 : x % 18446744073709551616 % 256 ≡ x / 1 % 256 = omega arith in
    let low1 : (x % 18446744073709551616) / 256 % 256 ≡ x / 256 % 256 = omega arith in
    let low2 : (x % 18446744073709551616) / 65536 % 256 ≡ x / 65536 % 256 = omega arith in
    let low3 : (x % 18446744073709551616) / 16777216 % 256 ≡ x / 16777216 % 256 = omega arith in
    let low4 : (x % 18446744073709551616) / 4294967296 % 256 ≡ x / 4294967296 % 256 = omega arith in
    let low5 : (x % 18446744073709551616) / 1099511627776 % 256 ≡ x / 1099511627776 % 256 =
    omega arith in
    let low6 : (x % 18446744073709551616) / 281474976710656 % 256 ≡ x / 281474976710656 % 256 =
    omega arith in
    let low7 : (x % 18446744073709551616) / 72057594037927936 % 256 ≡ x / 72057594037927936 % 256 =
    omega arith in
    let high1 : x / 18446744073709551616 / 256 % 256 ≡ x / 4722366482869645213696 % 256 =
    omega arith in
    let high2 : x / 18446744073709551616 / 65536 % 256 ≡ x / 1208925819614629174706176 % 256 =
    omega arith in
    let high3 : x / 18446744073709551616 / 16777216 % 256 ≡ x / 309485009821345068724781056 % 256 =
    omega arith in
    let high4 : x / 18446744073709551616 / 4294967296 % 256
    ≡ x / 79228162514264337593543950336 % 256 =
    omega arith in
    let high5 : x / 18446744073709551616 / 1099511627776 % 256
    ≡ x / 20282409603651670423947251286016 % 256 =
    omega arith in
    let high6 : x / 18446744073709551616 / 281474976710656 % 256
    ≡ x / 5192296858534827628530496329220096 % 256 =
    omega arith in
    let high7 : x / 18446744073709551616 / 72057594037927936 % 256
    ≡ x / 1329227995784915872903807060280344576 % 256 =
    omega arith in
    both low0 (both low1 (both low2
    (both low3 (both low4 (both low5
    (both low6 (both low7 (both refl
    (both high1 (both high2 (both high3
    (both high4 (both high5 (both high6 (both high7 refl)))))))))))))))

abbrev IsSmall : ℕ → ℕ → Type 0
IsSmall n i = get_or (to_le_bytes w64 n) i 0 < 256

byte_small : (n i : ℕ) → IsSmall n i
byte_small n i = elim (cases_lt i 8) as (λ _. IsSmall n i) [
  | inl inside ↦
      below_more (IsSmall n) 7
      (below_more (IsSmall n) 6
      (below_more (IsSmall n) 5
      (below_more (IsSmall n) 4
      (below_more (IsSmall n) 3
      (below_more (IsSmall n) 2
      (below_more (IsSmall n) 1
      (below_more (IsSmall n) 0 (below_none (IsSmall n)) (omega arith)) (omega arith))
      (omega arith)) (omega arith)) (omega arith)) (omega arith)) (omega arith)) (omega arith) i
      inside
  | inr past ↦
      subst (λ b. b < 256) (sym (get_or_past (to_le_bytes w64 n) i 0 (omega (arith, past))))
      (omega arith)
]

swapped : (n : ℕ) → to_le_bytes w64 (swap_bytes w64 n) ≡ to_be_bytes w64 n
swapped n = ap reverse (be_bytes_8 (to_le_bytes w64 n) (swap_bytes w64 n) refl (byte_small n) refl)

pub big_halves : (x a b : ℕ) → a ≡ swap_bytes w64 (x / 18446744073709551616)
    → b ≡ swap_bytes w64 (x % 18446744073709551616)
    → to_le_bytes w64 a ++ to_le_bytes w64 b ≡ number_bytes Big 16 x
big_halves x a b first second =
    let high : to_le_bytes w64 a ≡ to_be_bytes w64 (x / 18446744073709551616) =
    ap (to_le_bytes w64) first ∙ swapped (x / 18446744073709551616) in
    let low : to_le_bytes w64 b ≡ to_be_bytes w64 (x % 18446744073709551616) =
    ap (to_le_bytes w64) second ∙ swapped (x % 18446744073709551616) in
    ap (λ l. l ++ to_le_bytes w64 b) high
    ∙ ap (λ l. to_be_bytes w64 (x / 18446744073709551616) ++ l) low ∙ ap reverse (little_halves x)

pub number-reverse : (s : List ℕ) → number Big (length s) s ≡ number Little (length s) (reverse s)
unfolding number
number-reverse s =
    sum_below-backwards (λ i. get_or s i 0 * 256 ^ (length s - 1 - i)) (length s)
    ∙ sum_below-same _ _ (length s) (λ i l.
    let byte = get_or-reverse s i 0 l in
    let index : length s - 1 - (length s - 1 - i) ≡ i = omega (arith, l) in
    rw (byte, index) refl)

-- a list that begins with some bytes has them
pub begins-length : (s t : List ℕ) → take (length t) s ≡ t → length t ≤ length s
begins-length s t e = let l = length-take (length t) s in let m = ap length e in omega (arith, l, m)

pub begins-split : (s t : List ℕ) → take (length t) s ≡ t → s ≡ t ++ drop (length t) s
begins-split s t e =
    sym (take-append-drop (length t) s) ∙ ap (λ (x : List ℕ). x ++ drop (length t) s) e

pub begins-number : (order : Endian) (w x : ℕ) (s : List ℕ) → x < 256 ^ w
    → take (length (number_bytes order w x)) s ≡ number_bytes order w x → ReadsNumber w order s x w
begins-number order w x s fits e =
    let long = begins-length s (number_bytes order w x) e in
    record {
      room = omega (arith, long, length-number_bytes order w x);
      value =
          sym (ap (number order w) (begins-split s (number_bytes order w x) e)
          ∙ number-begins order w x (drop (length (number_bytes order w x)) s) fits);
      size = refl;
    }

pub begins-signed : (order : Endian) (w : ℕ) (x : ℤ) (s : List ℕ)
    → neg_ℤ (pos (256 ^ w)) ≤ℤ (pos 2 *ℤ x) → (pos 2 *ℤ x) <ℤ pos (256 ^ w)
    → take (length (signed_bytes order w x)) s ≡ signed_bytes order w x → ReadsSigned w order s x w
unfolding signed_number
begins-signed order w x s low high e =
    let back =
    complement-back (256 ^ w) x low high
    (if int_lt x (pos 0) then nat_abs (pos (256 ^ w) +ℤ x) else nat_abs x) refl in
    let long = begins-length s (signed_bytes order w x) e in
    record {
      room = omega (arith, long, length-signed_bytes order w x);
      value = sym (ap (signed_number order w) (begins-split s (signed_bytes order w x) e)
          ∙ ap (λ (n : ℕ). if nat_lt (2 * n) (256 ^ w) then pos n else pos n -ℤ pos (256 ^ w))
          (number-begins order w (if int_lt x (pos 0) then nat_abs (pos (256 ^ w) +ℤ x) else nat_abs
          x) (drop (length (signed_bytes order w x)) s) back.0)
          ∙ back.1);
      size = refl;
    }

-- the bytes of the float at an offset are the bytes there, if it isn't a NaN
pub float-back : (f : Format) (order : Endian) (index : ℕ) (s : List ℕ)
    → ((i : ℕ) → Fits w8 (slice_index s i)) → index + float_width f ≤ length s
    → NotNan (float f order (drop index s))
    → float_bytes f order (float f order (drop index s)) ≡ take (float_width f) (drop index s)
float-back f order index s h room real =
    let bits = number order (float_width f) (drop index s) in
    let bound : number order (float_width f) (drop index s) < 2 * top f =
    omega (arith, number-bound order (float_width f) index s h, all-bits f) in
    ap (number_bytes order (float_width f))
    (to_bits-of_bits f (number order (float_width f) (drop index s)) bound real)
    ∙ number-back order (float_width f) index s h room

-- a byte is the one byte of its number
byte-same : (order : Endian) (x : ℕ) → x < 256 → number_bytes order 1 x ≡ x ∷ []
byte-same Little x h = let same : x / 256 ^ 0 % 256 ≡ x = omega (arith, h) in ap (λ b. b ∷ []) same
byte-same Big x h = let same : x / 256 ^ (1 - 1 - 0) % 256 ≡ x = omega (arith, h) in
    ap (λ b. b ∷ []) same

-- so are bytes
pub bytes-same : (order : Endian) (xs : List ℕ) → ((i : ℕ) → Fits w8 (slice_index xs i))
    → flat_map (number_bytes order 1) xs ≡ xs
bytes-same order [] fit = refl
bytes-same order (x ∷ xs) fit =
    ap (λ l. l ++ flat_map (number_bytes order 1) xs) (byte-same order x (fit 0).fits)
    ∙ ap (λ l. x ∷ l) (bytes-same order xs (λ i. fit (suc i)))
