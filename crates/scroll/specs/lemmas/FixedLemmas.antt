-- Types of a fixed size and arrays of them, and numbers that were read, which have the bytes that
-- were read: the lemmas that the implementations of `Fixed` and of `RoundTrip` cite for their laws.
-- They are proved, and promise nothing.
use Rattle.std.proofs.Common.{◌≡◌, ℕ, zero, suc, ◌+◌, ◌*◌, ◌<◌, ◌≤◌, ◌++◌, List, [], ◌∷◌, length, take, drop, map, sym, ap, subst, ◌∙◌, arith, append_assoc, length-append, ℤ, pos, neg_ℤ, ◌*ℤ◌, ◌≤ℤ◌, ◌<ℤ◌, ◌^◌, T, refl, nat_abs, ◌+ℤ◌, ◌-ℤ◌, ◌-◌, ◌/◌, ◌%◌, Fits, w8, get_or-take}
use Rattle.std.proofs.Math.Nat.{mul-suc, mul-le-mul_left}
use Rattle.std.proofs.Math.Seq.{drop-append_seam, drop-append-add, take-add}
use Rattle.std.proofs.lemmas.Grind.{same_number_lists}
use Rattle.std.proofs.lemmas.List.{same_lists, drop-take, drop-drop, take-take, length-drop, get_or-drop, length-take-le}
use Rattle.std.proofs.lemmas.List.Elements.{All-drop, All-head, All-tail}
use Rattle.std.proofs.lemmas.List.FromFn.{get_or-map-range_with_len, length-map-range_with_len}
use Rattle.std.specs.List.{All, flat_map, range_with_len, slice_index_or}
use Rattle.std.specs.Prelude.{slice_index, from_bits, int_lt, nat_lt, if◌then◌else◌}
use Rattle.scroll.specs.Arrays.{MakesArray}
use Rattle.scroll.specs.Fixed.{One, SameAt, exactly}
use Rattle.std.specs.Float.{Float, Format}
use Rattle.std.specs.Float.Ieee.{fits}
use lib.Ieee.Bits.{of_bits-fits}
use Rattle.scroll.specs.Numbers.{float_width, float, float_bytes, number, number_bytes, signed_number, signed_bytes}
use Rattle.scroll.specs.declared.endian.Endian.{Endian}
use Rattle.scroll.specs.lemmas.NumberLemmas.{number-begins, signed-begins, float-begins, number-same, signed-same, bytes-fit, number-backwards, digit-at, digits-bound}
use Rattle.std.proofs.lemmas.Int.{ints}
use Rattle.scroll.specs.declared.endian.Endian.TheVariants.{Little, Big}
use Rattle.scroll.specs.lemmas.Frames.{length-number_bytes}

pub length-exactly : (n : ℕ) (bytes : List ℕ) → length (exactly n bytes) ≡ n
length-exactly n bytes = length-map-range_with_len (slice_index bytes) 0 n

-- the elements have as many bytes as one has, times their number
length-elements : {V : Type 0} (w : ℕ) (bytes : V → List ℕ) → ((x : V) → length (bytes x) ≡ w)
    → (xs : List V) → length (flat_map bytes xs) ≡ w * length xs
length-elements w bytes len [] = omega arith
length-elements w bytes len (x ∷ xs) =
    let rest = length-elements w bytes len xs in
    omega (arith, length-append (bytes x) (flat_map bytes xs), len x, rest, mul-suc w (length xs))

-- so nothing is missing of the bytes of an array
pub exactly-elements : {V : Type 0} (w n : ℕ) (bytes : V → List ℕ)
    → ((x : V) → length (bytes x) ≡ w) → (xs : List V) → length xs ≡ n
    → exactly (w * n) (flat_map bytes xs) ≡ flat_map bytes xs
exactly-elements w n bytes len xs size =
    let whole = length-exactly (w * n) (flat_map bytes xs) in
    same_number_lists (exactly (w * n) (flat_map bytes xs)) (flat_map bytes xs)
    (whole ∙ sym (length-elements w bytes len xs ∙ ap (λ k. w * k) size)) (λ i l.
    get_or-map-range_with_len (slice_index (flat_map bytes xs)) 0 (w * n) i i 0
    (omega (arith, l, whole)) (omega arith))

-- each element is made of its bytes
elements-back : {V : Type 0} (w : ℕ) (bytes : V → List ℕ) (makes : List ℕ → V → Type 0)
    (fits : V → Type 0) → ((x : V) → length (bytes x) ≡ w)
    → ((x : V) (rest : List ℕ) → fits x → makes (bytes x ++ rest) x) → (xs : List V) → All fits xs
    → (rest : List ℕ) (i : ℕ) (d : V) → i < length xs
    → makes (drop (w * i) (flat_map bytes xs ++ rest)) (slice_index_or xs i d)
elements-back w bytes makes fits len back [] all rest i d l = absurd (omega (arith, l))
elements-back w bytes makes fits len back (x ∷ xs) all rest zero d l =
    let here : w * 0 ≡ 0 = omega arith in
    let first : bytes x ++ (flat_map bytes xs ++ rest) ≡ (bytes x ++ flat_map bytes xs) ++ rest =
    sym (append_assoc (bytes x) (flat_map bytes xs) rest) in
    subst (λ n. makes (drop n ((bytes x ++ flat_map bytes xs) ++ rest)) x) (sym here)
    (subst (λ s. makes s x) first (back x (flat_map bytes xs ++ rest) (All-head fits x xs all)))
elements-back w bytes makes fits len back (x ∷ xs) all rest (suc i) d l =
    let later : w * suc i ≡ length (bytes x) + w * i = omega (arith, mul-suc w i, len x) in
    let source : drop (w * i) (flat_map bytes xs ++ rest) ≡ drop (w * suc i)
    ((bytes x ++ flat_map bytes xs) ++ rest) =
    sym (ap (λ n. drop n ((bytes x ++ flat_map bytes xs) ++ rest)) later
    ∙ ap (drop (length (bytes x) + w * i)) (append_assoc (bytes x) (flat_map bytes xs) rest)
    ∙ drop-append-add (bytes x) (flat_map bytes xs ++ rest) (w * i)) in
    subst (λ s. makes s (slice_index_or xs i d)) source
    (elements-back w bytes makes fits len back xs (All-tail fits x xs all) rest i d
    (omega (arith, l)))

pub array-back : {V : Type 0} (w n : ℕ) (bytes : V → List ℕ) (makes : List ℕ → ℕ → V → Type 0)
    (fits : V → Type 0) → ((x : V) → length (bytes x) ≡ w)
    → ((x : V) (prefix rest : List ℕ) → fits x
    → makes (prefix ++ (bytes x ++ rest)) (length prefix) x) → (xs : List V) (prefix rest : List ℕ)
    → length xs ≡ n → All fits xs → MakesArray w (λ s x. makes s 0 x) n
    (drop (length prefix) (prefix ++ (exactly (w * n) (flat_map bytes xs) ++ rest))) xs
array-back w n bytes makes fits len back xs prefix rest size all =
    let source : drop (length prefix)
    (prefix ++ (exactly (w * n) (flat_map bytes xs) ++ rest)) ≡ flat_map bytes xs ++ rest =
    drop-append_seam prefix (exactly (w * n) (flat_map bytes xs) ++ rest)
    ∙ ap (λ l. l ++ rest) (exactly-elements w n bytes len xs size) in
    record {
      len = size;
      each = λ i d l. subst (λ s. makes (drop (w * i) s) 0 (slice_index_or xs i d)) (sym source)
          (elements-back w bytes (λ s x. makes s 0 x) fits len
          (λ x t h. back x [] t h) xs all rest i d (omega (arith, l, size)));
    }

-- the elements that bytes make fit
pub array-fits : {V : Type 0} (w n : ℕ) (makes : List ℕ → ℕ → V → Type 0) (fits : V → Type 0)
    → ((s : List ℕ) (at : ℕ) (x : V) → All (λ b. b < 256) s → makes s at x → fits x)
    → (s : List ℕ) (at : ℕ) (xs : List V) → All (λ b. b < 256) s
    → MakesArray w (λ s x. makes s 0 x) n (drop at s) xs → (length xs ≡ n) × All fits xs
array-fits w n makes fits made s at xs all h = (
  h.len,
  λ i d l. made (drop (w * i) (drop at s)) 0 (slice_index_or xs i d)
      (All-drop (λ b. b < 256) (w * i) (drop at s) (All-drop (λ b. b < 256) at s all))
      (h.each i d (omega (arith, l, h.len))),
)

-- exactly one value of each element makes exactly one array
pub array-one : {V : Type 0} (w n : ℕ) (makes : List ℕ → V → Type 0) (s : List ℕ)
    → ((i : ℕ) → One (makes (drop (w * i) s))) → One (MakesArray w makes n s)
array-one {V} w n makes s one =
    let value : ℕ → V = λ i. (one i).value in
    let at : (i : ℕ) (d : V) → i < n
    → slice_index_or (map value (range_with_len 0 n)) i d ≡ value i =
    λ i d l. get_or-map-range_with_len value 0 n i i d l (omega arith) in
    record {
      value = map value (range_with_len 0 n);
      is = record {
        len = length-map-range_with_len value 0 n;
        each = λ i d l. subst (makes (drop (w * i) s)) (sym (at i d l)) (one i).is;
      };
      only = λ xs h. same_lists xs (map value (range_with_len 0 n))
          (h.len ∙ sym (length-map-range_with_len value 0 n)) (λ i d l.
          let inside : i < n = omega (arith, l, h.len) in
          (one i).only (slice_index_or xs i d) (h.each i d inside) ∙ sym (at i d inside));
    }

-- the same bytes have the same parts
part-same : (k w m : ℕ) (u v : List ℕ) → k + w ≤ m → take m u ≡ take m v
    → take w (drop k u) ≡ take w (drop k v)
part-same k w m u v le same =
    sym (drop-take k w u)
    ∙ ap (drop k) (sym (take-take (k + w) m u le) ∙ ap (take (k + w)) same
    ∙ take-take (k + w) m v le)
    ∙ drop-take k w v

pub element-inside : (w i n : ℕ) → i < n → w * i + w ≤ w * n
element-inside w i n l = let le : w * suc i ≤ w * n =
    mul-le-mul_left w (omega (arith, l)) in omega (arith, le, mul-suc w i)

-- an array depends on its bytes alone, if each element does
pub array-local : {V : Type 0} (w n : ℕ) (makes : List ℕ → ℕ → V → Type 0)
    → ((s : List ℕ) (at : ℕ) (t : List ℕ) (to : ℕ) (x : V) → SameAt w s at t to → makes s at x
    → makes t to x) → (s : List ℕ) (at : ℕ) (t : List ℕ) (to : ℕ) (xs : List V)
    → SameAt (w * n) s at t to → MakesArray w (λ s x. makes s 0 x) n (drop at s) xs
    → MakesArray w (λ s x. makes s 0 x) n (drop to t) xs
array-local w n makes local s at t to xs same h = record {
  len = h.len;
  each =
      λ i d l. local (drop (w * i) (drop at s)) 0 (drop (w * i) (drop to t)) 0
      (slice_index_or xs i d)
      (part-same (w * i) w (w * n) (drop at s) (drop to t) (element-inside w i n l) same)
      (h.each i d l);
}

-- elements that have the bytes of which they are made have these one after another
pub elements-kept : {V : Type 0} (w : ℕ) (bytes : V → List ℕ) (xs : List V) (s : List ℕ)
    → ((i : ℕ) (d : V) → i < length xs → bytes (slice_index_or xs i d) ≡ take w (drop (w * i) s))
    → flat_map bytes xs ≡ take (w * length xs) s
elements-kept w bytes [] s kept = let none : 0 ≡ w * 0 = omega arith in ap (λ n. take n s) none
elements-kept w bytes (x ∷ xs) s kept =
    let here : w * 0 ≡ 0 = omega arith in
    let first : bytes x ≡ take w s = kept 0 x (omega arith) ∙ ap (λ n. take w (drop n s)) here in
    let rest : flat_map bytes xs ≡ take (w * length xs) (drop w s) =
    elements-kept w bytes xs (drop w s) (λ i d l.
    let offset : w + w * i ≡ w * suc i = omega (arith, mul-suc w i) in
    kept (suc i) d (omega (arith, l))
    ∙ ap (take w) (ap (λ n. drop n s) (sym offset) ∙ sym (drop-drop (w * i) w s))) in
    let size : w + w * length xs ≡ w * suc (length xs) = omega (arith, mul-suc w (length xs)) in
    ap (λ l. l ++ flat_map bytes xs) first ∙ ap (λ l. take w s ++ l) rest
    ∙ sym (take-add w (w * length xs) s) ∙ ap (λ n. take n s) size

pub array-kept : {V : Type 0} (w n : ℕ) (bytes : V → List ℕ) (makes : List ℕ → V → Type 0)
    → ((x : V) → length (bytes x) ≡ w)
    → ((s : List ℕ) (x : V) → All (λ b. b < 256) s → w ≤ length s → makes s x → bytes x ≡ take w s)
    → (s : List ℕ) (xs : List V) → ((k : ℕ) → All (λ b. b < 256) (drop k s)) → w * n ≤ length s
    → MakesArray w makes n s xs → exactly (w * n) (flat_map bytes xs) ≡ take (w * n) s
array-kept w n bytes makes len kept s xs all room h =
    exactly-elements w n bytes len xs h.len
    ∙ elements-kept w bytes xs s (λ i d l.
    let inside = element-inside w i n (omega (arith, l, h.len)) in
    kept (drop (w * i) s) (slice_index_or xs i d) (all (w * i))
    (omega (arith, inside, room, length-drop (w * i) s)) (h.each i d (omega (arith, l, h.len))))
    ∙ ap (λ k. take (w * k) s) h.len

-- what a function of the source gives is the one value
pub one-value : {X : Type 0} (x : X) → One (λ y. y ≡ x)
one-value x = record { value = x; is = refl; only = λ y h. h }

-- a value that begins its bytes is what they make at their offset
pub value-back : {X : Type 0} (value_of : List ℕ → X) (x : X) (bytes prefix rest : List ℕ)
    → value_of (bytes ++ rest) ≡ x → x ≡ value_of (drop (length prefix) (prefix ++ (bytes ++ rest)))
value-back value_of x bytes prefix rest begins =
    sym begins ∙ ap value_of (sym (drop-append_seam prefix (bytes ++ rest)))

pub number-back-at : (order : Endian) (w x : ℕ) (prefix rest : List ℕ) → x < 256 ^ w
    → x ≡ number order w (drop (length prefix) (prefix ++ (number_bytes order w x ++ rest)))
number-back-at order w x prefix rest fits = value-back (number order w) x
    (number_bytes order w x) prefix rest (number-begins order w x rest fits)

pub signed-back-at : (order : Endian) (w : ℕ) (x : ℤ) (prefix rest : List ℕ)
    → (neg_ℤ (pos (256 ^ w)) ≤ℤ (pos 2 *ℤ x)) × ((pos 2 *ℤ x) <ℤ pos (256 ^ w))
    → x ≡ signed_number order w (drop (length prefix) (prefix ++ (signed_bytes order w x ++ rest)))
signed-back-at order w x prefix rest fits = value-back (signed_number order w) x
    (signed_bytes order w x) prefix rest (signed-begins order w x rest fits.0 fits.1)

pub float-back-at : (f : Format) (order : Endian) (x : Float) (prefix rest : List ℕ) → T (fits f x)
    → x ≡ float f order (drop (length prefix) (prefix ++ (float_bytes f order x ++ rest)))
float-back-at f order x prefix rest is = value-back (float f order) x
    (float_bytes f order x) prefix rest (float-begins f order x rest is)

-- a float that was made of bits has the format
pub float-fits : (f : Format) (order : Endian) (s : List ℕ) (at : ℕ) (x : Float)
    → x ≡ float f order (drop at s) → T (fits f x)
float-fits f order s at x is =
    subst (λ y. T (fits f y)) (sym is) (of_bits-fits f (number order (float_width f) (drop at s)))

-- both parts of a pair
pub both-one : {X Y : Type 0} {P : X → Type 0} {Q : Y → Type 0} → One P → One Q
    → One (λ (x : X × Y). P x.0 × Q x.1)
both-one {X} {Y} {P} {Q} p q = record {
  value = (p.value, q.value);
  is = (p.is, q.is);
  only = λ x h. ap (λ a. (a, x.1)) (p.only x.0 h.0) ∙ ap (λ b. (p.value, b)) (q.only x.1 h.1);
}

pub both-len : {a b : ℕ} (xs ys : List ℕ) → length xs ≡ a → length ys ≡ b
    → length (xs ++ ys) ≡ a + b
both-len xs ys h k = omega (arith, h, k, length-append xs ys)

pub both-back : (w : ℕ) (xs ys prefix rest : List ℕ) → length xs ≡ w → (P Q : List ℕ → ℕ → Type 0)
    → ((f t : List ℕ) → P (f ++ (xs ++ t)) (length f))
    → ((f t : List ℕ) → Q (f ++ (ys ++ t)) (length f))
    → P (prefix ++ ((xs ++ ys) ++ rest)) (length prefix)
    × Q (prefix ++ ((xs ++ ys) ++ rest)) (length prefix + w)
both-back w xs ys prefix rest len P Q p q =
    let e : xs ++ (ys ++ rest) ≡ (xs ++ ys) ++ rest = sym (append_assoc xs ys rest) in
    let k : (prefix ++ xs) ++ (ys ++ rest) ≡ prefix ++ ((xs ++ ys) ++ rest) =
    append_assoc prefix xs (ys ++ rest) ∙ ap (λ t. prefix ++ t) e in
    let l : length (prefix ++ xs) ≡ length prefix + w =
    length-append prefix xs ∙ ap (λ n. length prefix + n) len in (
      subst (λ t. P (prefix ++ t) (length prefix)) e (p prefix (ys ++ rest)),
      subst
          (λ t. Q t (length prefix + w)) k
          (subst (Q ((prefix ++ xs) ++ (ys ++ rest))) l (q (prefix ++ xs) rest)),
    )

-- equal bytes have equal prefixes, and equal bytes after these
pub same-first : (a b : ℕ) (s : List ℕ) (at : ℕ) (t : List ℕ) (to : ℕ) → SameAt (a + b) s at t to
    → SameAt a s at t to
same-first a b s at t to h =
    sym (take-take a (a + b) (drop at s) (omega arith)) ∙ ap (take a) h
    ∙ take-take a (a + b) (drop to t) (omega arith)

part-after : (a b at : ℕ) (s : List ℕ)
    → drop a (take (a + b) (drop at s)) ≡ take b (drop (at + a) s)
part-after a b at s = drop-take a b (drop at s) ∙ ap (take b) (drop-drop a at s)

pub same-second : (a b : ℕ) (s : List ℕ) (at : ℕ) (t : List ℕ) (to : ℕ) → SameAt (a + b) s at t to
    → SameAt b s (at + a) t (to + a)
same-second a b s at t to h = sym (part-after a b at s) ∙ ap (drop a) h ∙ part-after a b to t

-- a number depends on its bytes alone
pub number-local : (order : Endian) (w : ℕ) (s : List ℕ) (at : ℕ) (t : List ℕ) (to x : ℕ)
    → SameAt w s at t to → x ≡ number order w (drop at s) → x ≡ number order w (drop to t)
number-local order w s at t to x same is = is ∙ number-same w order (drop to t) (drop at s) same

pub signed-local : (order : Endian) (w : ℕ) (s : List ℕ) (at : ℕ) (t : List ℕ) (to : ℕ) (x : ℤ)
    → SameAt w s at t to → x ≡ signed_number order w (drop at s)
    → x ≡ signed_number order w (drop to t)
signed-local order w s at t to x same is = is ∙ signed-same w order (drop to t) (drop at s) same

pub float-local : (f : Format) (order : Endian) (s : List ℕ) (at : ℕ) (t : List ℕ) (to : ℕ)
    (x : Float) → SameAt (float_width f) s at t to → x ≡ float f order (drop at s)
    → x ≡ float f order (drop to t)
float-local f order s at t to x same is =
    is ∙ ap (from_bits f) (number-same (float_width f) order (drop to t) (drop at s) same)

-- exactly one struct has what exactly one value of its parts has
pub record-one : {R X : Type 0} {P : X → Type 0} {Q : R → Type 0} (parts_of : R → X)
    (of_parts : X → R) → ((x : R) → of_parts (parts_of x) ≡ x)
    → ((p : X) → parts_of (of_parts p) ≡ p) → One P → ((x : R) → P (parts_of x) → Q x)
    → ((x : R) → Q x → P (parts_of x)) → One Q
record-one {R} {X} {P} {Q} parts_of of_parts again there one of to = record {
  value = of_parts one.value;
  is = of (of_parts one.value) (subst P (sym (there one.value)) one.is);
  only = λ x h. sym (again x) ∙ ap of_parts (one.only (parts_of x) (to x h));
}

-- the bytes from an offset on are below 256
pub byte-bound : (offset : ℕ) (s : List ℕ) → ((i : ℕ) → Fits w8 (slice_index s i)) → (i : ℕ)
    → slice_index (drop offset s) i < 256
byte-bound offset s h i = rw (get_or-drop offset s i 0) (omega (arith, (h (offset + i)).fits))

-- a number of w bytes is below 256 ^ w; of a slice `s` of bytes `type_inv.s` says that each fits
pub number-bound : (order : Endian) (w offset : ℕ) (s : List ℕ)
    → ((i : ℕ) → Fits w8 (slice_index s i)) → number order w (drop offset s) < 256 ^ w
unfolding number
number-bound Little w offset s h =
    digits-bound 256 (λ i. slice_index (drop offset s) i) (byte-bound offset s h) w
number-bound Big w offset s h =
    let t = drop offset s in
    subst (λ n. n < 256 ^ w) (sym (number-backwards w t))
    (digits-bound 256 (λ i. slice_index t (w - 1 - i)) (λ i. byte-bound offset s h (w - 1 - i)) w)

-- a number that was read at an offset has the range of its width
pub number-fits : (order : Endian) (w : ℕ) (s : List ℕ) (at x : ℕ) → All (λ b. b < 256) s
    → x ≡ number order w (drop at s) → x < 256 ^ w
number-fits order w s at x all is =
    let low = number-bound order w at s (bytes-fit s all) in omega (arith, is, low)

complement-fits : (m n : ℕ) → n < m → (x : ℤ)
    → x ≡ (if nat_lt (2 * n) m then pos n else pos n -ℤ pos m)
    → (neg_ℤ (pos m) ≤ℤ (pos 2 *ℤ x)) × ((pos 2 *ℤ x) <ℤ pos m)
complement-fits m n h x is = (grind (arith, ints), grind (arith, ints))

pub signed-fits : (order : Endian) (w : ℕ) (s : List ℕ) (at : ℕ) (x : ℤ) → All (λ b. b < 256) s
    → x ≡ signed_number order w (drop at s)
    → (neg_ℤ (pos (256 ^ w)) ≤ℤ (pos 2 *ℤ x)) × ((pos 2 *ℤ x) <ℤ pos (256 ^ w))
unfolding signed_number
signed-fits order w s at x all is = complement-fits (256 ^ w) (number order w (drop at s))
    (number-bound order w at s (bytes-fit s all)) x is

-- the bytes of the number at an offset are the bytes there
pub number-back : (order : Endian) (w offset : ℕ) (s : List ℕ)
    → ((i : ℕ) → Fits w8 (slice_index s i)) → offset + w ≤ length s
    → number_bytes order w (number order w (drop offset s)) ≡ take w (drop offset s)
unfolding number
number-back Little w offset s h room =
    let t = drop offset s in
    let len : length (take w t) ≡ w =
    length-take-le w t (omega (arith, room, length-drop offset s)) in
    same_number_lists (number_bytes Little w (number Little w t)) (take w t)
    (length-number_bytes Little w (number Little w t) ∙ sym len) (λ i l.
    let inside : i < w = omega (arith, l, length-number_bytes Little w (number Little w t)) in
    get_or-map-range_with_len (λ j. number Little w t / 256 ^ j % 256) 0 w i i 0 inside
    (omega arith)
    ∙ digit-at 256 (λ j. slice_index t j) (byte-bound offset s h) w i inside
    ∙ sym (get_or-take w t i 0 inside))
number-back Big w offset s h room =
    let t = drop offset s in
    let len : length (take w t) ≡ w =
    length-take-le w t (omega (arith, room, length-drop offset s)) in
    same_number_lists (number_bytes Big w (number Big w t)) (take w t)
    (length-number_bytes Big w (number Big w t) ∙ sym len) (λ i l.
    let inside : i < w = omega (arith, l, length-number_bytes Big w (number Big w t)) in
    let twice : w - 1 - (w - 1 - i) ≡ i = omega (arith, inside) in
    get_or-map-range_with_len (λ j. number Big w t / 256 ^ (w - 1 - j) % 256) 0 w i i 0 inside
    (omega arith)
    ∙ ap (λ n. n / 256 ^ (w - 1 - i) % 256) (number-backwards w t)
    ∙ digit-at 256 (λ j. slice_index t (w - 1 - j)) (λ j. byte-bound offset s h (w - 1 - j)) w
    (w - 1 - i) (omega (arith, inside))
    ∙ ap (λ k. slice_index t k) twice
    ∙ sym (get_or-take w t i 0 inside))

-- the unsigned form of a signed number is the number of its bytes
complement-again : (m n : ℕ) → n < m → (x : ℤ)
    → x ≡ (if nat_lt (2 * n) m then pos n else pos n -ℤ pos m)
    → (if int_lt x (pos 0) then nat_abs (pos m +ℤ x) else nat_abs x) ≡ n
complement-again m n h x is = grind (arith, ints)

-- the bytes of the signed number at an offset are the bytes there
pub signed-back : (order : Endian) (w offset : ℕ) (s : List ℕ)
    → ((i : ℕ) → Fits w8 (slice_index s i)) → offset + w ≤ length s
    → signed_bytes order w (signed_number order w (drop offset s)) ≡ take w (drop offset s)
unfolding signed_number
signed-back order w offset s h room =
    ap (number_bytes order w) (complement-again (256 ^ w) (number order w (drop offset s))
    (number-bound order w offset s h) (signed_number order w (drop offset s)) refl)
    ∙ number-back order w offset s h room

-- a number that was read at an offset
pub number-kept : (order : Endian) (w : ℕ) (s : List ℕ) (at x : ℕ) → All (λ b. b < 256) s
    → at + w ≤ length s → x ≡ number order w (drop at s)
    → number_bytes order w x ≡ take w (drop at s)
number-kept order w s at x all room is =
    ap (number_bytes order w) is ∙ number-back order w at s (bytes-fit s all) room

pub signed-kept : (order : Endian) (w : ℕ) (s : List ℕ) (at : ℕ) (x : ℤ) → All (λ b. b < 256) s
    → at + w ≤ length s → x ≡ signed_number order w (drop at s)
    → signed_bytes order w x ≡ take w (drop at s)
signed-kept order w s at x all room is =
    ap (signed_bytes order w) is ∙ signed-back order w at s (bytes-fit s all) room

-- the parts of a pair
pub both-kept : (a b : ℕ) (s : List ℕ) (at : ℕ) {xs ys : List ℕ} → xs ≡ take a (drop at s)
    → ys ≡ take b (drop (at + a) s) → xs ++ ys ≡ take (a + b) (drop at s)
both-kept a b s at {xs} {ys} first second =
    ap (λ l. l ++ ys) first ∙ ap (λ l. take a (drop at s) ++ l)
    (second ∙ ap (take b) (sym (drop-drop a at s))) ∙ sym (take-add a b (drop at s))

-- the elements of an array
pub array-kept-at : {V : Type 0} (w n : ℕ) (bytes : V → List ℕ) (makes : List ℕ → ℕ → V → Type 0)
    → ((x : V) → length (bytes x) ≡ w)
    → ((s : List ℕ) (at : ℕ) (x : V) → All (λ b. b < 256) s → at + w ≤ length s → makes s at x
    → bytes x ≡ take w (drop at s)) → (s : List ℕ) (at : ℕ) (xs : List V) → All (λ b. b < 256) s
    → at + w * n ≤ length s → MakesArray w (λ s x. makes s 0 x) n (drop at s) xs
    → exactly (w * n) (flat_map bytes xs) ≡ take (w * n) (drop at s)
array-kept-at w n bytes makes len kept s at xs all room h =
    array-kept w n bytes (λ s x. makes s 0 x) len
    (λ s x fit long is. kept s 0 x fit (omega (arith, long)) is) (drop at s) xs
    (λ k. All-drop (λ b. b < 256) k (drop at s) (All-drop (λ b. b < 256) at s all))
    (omega (arith, room, length-drop at s)) h
