-- Arrays that are made by calls, none of which changes what the calls read; lists that a bulk read
-- fills; arrays whose elements are viewed as other values, such as strings as their bytes; and
-- values that are written one after another.
use Rattle.std.proofs.Common.{◌≡◌, ◌≢◌, ℕ, zero, suc, ◌+◌, ◌<◌, ◌≤◌, List, [], ◌∷◌, length, map, get_or, set, Option, Some, None, sym, ap, ◌∙◌, subst, arith, add-zero, drop, inl, inr, Result, Ok, Err, IfErr, ◌*◌, ◌++◌, refl, append_assoc}
use Rattle.std.proofs.lemmas.List.{get_or-set_other, get_or-map, length-map, same_lists, get_or_default, drop-drop, length_push, map-append}
use Rattle.std.specs.Fn.{Mut, Called, Takes}
use Rattle.std.specs.List.{FoldsTo, slice_index_or}
use Rattle.std.specs.Iterator.{Yields, CallableAtEachTurn}
use Rattle.std.specs.Array.{index_steps, IsFromFnResultFrom, IsFromFnResult}
use Rattle.scroll.specs.Arrays.{RefusesArray, OverwritesValue, OverwritesAll, WritesAll, FailsArray}
use Rattle.scroll.specs.Reads.{ReadsAll, RefusesAt, ReadsBetween}
use Rattle.std.proofs.Math.Nat.{mul-suc}
use Rattle.scroll.proofs.lemmas.Buffers.{ReadsAll-push}
use Rattle.scroll.specs.Writes.{WritesAt, FailsAt}

-- each index from i on and below n holds a value
abbrev pub IsFull : {B : Type 0} → List (Option B) → ℕ → ℕ → Type 0
IsFull {B} slots i n = (k : ℕ) → i ≤ k → k < n → (b : B) × (get_or slots k None ≡ Some b)

IsFull-map : {B : Type 0} (xs : List B) → IsFull (map (λ (y : B). Some y) xs) 0 (length xs)
IsFull-map [] k ge lt = absurd (omega arith)
IsFull-map {B} (x ∷ xs) k ge lt =
    (get_or (x ∷ xs) k x, get_or-map (λ (y : B). Some y) (x ∷ xs) k x None lt)

pub IsFull-from_map : {B : Type 0} (slots : List (Option B)) (xs : List B)
    → slots ≡ map (λ (y : B). Some y) xs → (n : ℕ) → length xs ≡ n → IsFull slots 0 n
IsFull-from_map slots xs e n long = rw (e, ← long) (IsFull-map xs)

module _ {F B : Type 0} (view : F → List (Option B)) (g : Mut F (ℕ × Unit {0}) B)
    (gives : (p : F) (i : ℕ) (y : B) (q : F) → Called g p (i, tt) y q → get_or (view p) i None
    ≡ Some y)
    (overwrites : (p : F) (i : ℕ) (y : B) (q : F) → Called g p (i, tt) y q → view q
    ≡ set (view p) i None) where
  pub IsFull-called : (p : F) (i n : ℕ) (y : B) (q : F) → Called g p (i, tt) y q
      → IsFull (view p) i n → IsFull (view q) (i + 1) n
  IsFull-called p i n y q call full k ge lt =
      let was = full k (omega arith) lt in
      let other : k ≢ i = omega arith in
      (was.0, rw (overwrites p i y q call, get_or-set_other) was.1)

  still : (n : ℕ) (xs : List ℕ) (i t : ℕ) (p q : F) → Yields (index_steps n) i xs t
      → FoldsTo (λ p x q. (y : B) × Called g p (x, tt) y q) p xs q → IsFull (view p) i n
      → IsFull (view q) t n
  still n [] i t p q y c full = rw (← y, ← c) full
  still n (x ∷ xs) i t p q y c full =
      let call : Called g p (i, tt) c.1.0 c.0 = rw (← y.1.1) c.1.1 in
      still n xs y.0 t c.0 q y.2 c.2 (rw y.1.2 (IsFull-called p i n c.1.0 c.0 call full))

  pub callable : (n : ℕ) (f : F)
      → ((p : F) (i : ℕ) (b : B) → get_or (view p) i None ≡ Some b → Takes g p (i, tt))
      → IsFull (view f) 0 n
      → CallableAtEachTurn (index_steps n) (λ p x q. (y : B) × Called g p (x, tt) y q)
      (λ p x. Takes g p (x, tt)) 0 f
  callable n f can full = record {
    at = λ xs t q x u y c e.
        let here = still n xs 0 t f q y c full t (omega arith) (omega (arith, e.0)) in
        rw e.1 (can q t here.0 here.1);
  }

  pub made : (f : F) (ys : List B) (i n : ℕ) → IsFromFnResultFrom g f ys i n → (k : ℕ) (d : B)
      → k < n → get_or (view f) (i + k) None ≡ Some (get_or ys (i + k) d)
  made f ys i zero m k d lt = absurd (omega arith)
  made f ys i (suc n) m zero d lt =
      rw (add-zero, gives f i m.1 m.0 m.3) (ap (λ (y : B). Some y) (sym (m.2.1 d)))
  made f ys i (suc n) m (suc k) d lt =
      let other : i + suc k ≢ i = omega arith in
      let next : i + suc k ≡ i + 1 + k = omega arith in
      let later = made m.0 ys (i + 1) n m.4 k d (omega arith) in
      sym (get_or-set_other (view f) i (i + suc k) None None other)
      ∙ rw (← overwrites f i m.1 m.0 m.3, next) later

  pub filled_from : (n : ℕ) (f : F) (ys : List B) → IsFull (view f) 0 n → length (view f) ≡ n
      → IsFromFnResult g f ys n → view f ≡ map (λ (y : B). Some y) ys
  filled_from n f ys full long m =
      same_lists (view f) (map (λ (y : B). Some y) ys)
      (long ∙ sym m.long ∙ sym (length-map ys (λ (y : B). Some y)))
      (λ k d lt.
      let inside : k < n = omega arith in
      let b = (full k (omega arith) inside).0 in
      let there : k < length ys = omega (arith, m.long) in
      let from_zero : 0 + k ≡ k = omega arith in
      let same : get_or (view f) k None ≡ Some (get_or ys k b) =
      subst (λ (j : ℕ). get_or (view f) j None ≡ Some (get_or ys j b)) from_zero
      (made f ys 0 n m.each k b inside) in
      get_or_default (view f) k d None lt ∙ same
      ∙ sym (get_or-map (λ (y : B). Some y) ys k b d there))

ReadsAll-map : {V W : Type 0} (f : V → W) (reads : List ℕ → W → ℕ → Type 0) (s : List ℕ) (from : ℕ)
    (vs : List V) (to : ℕ) → ReadsAll (λ s v n. reads s (f v) n) s from vs to
    → ReadsAll reads s from (map f vs) to
ReadsAll-map f reads s from [] to h = h
ReadsAll-map f reads s from (v ∷ vs) to h = (
  h.0,
  record { inside = h.1.inside; value = h.1.value },
  ReadsAll-map f reads s (from + h.0) vs to h.2,
)

RefusesArray-map : {V W E : Type 0} (f : V → W) (reads : List ℕ → W → ℕ → Type 0)
    (refuses : List ℕ → E → Type 0) (past_end : ℕ → E → Type 0) (count : ℕ) (s : List ℕ) (e : E)
    → RefusesArray (λ s v n. reads s (f v) n) refuses past_end count s e
    → RefusesArray reads refuses past_end count s e
RefusesArray-map f reads refuses past_end count s e h = record {
  prefix = map f h.prefix;
  stop = h.stop;
  fewer = subst (λ n. n < count) (sym (length-map h.prefix f)) h.fewer;
  each = ReadsAll-map f reads s 0 h.prefix h.stop h.each;
  error = h.error;
}

RefusesAt-by : {E : Type 0} (refuses refuses' : List ℕ → E → Type 0) (past_end : ℕ → E → Type 0)
    → ((s : List ℕ) (e : E) → refuses s e → refuses' s e) → (buffer : List ℕ) (offset : ℕ) (e : E)
    → RefusesAt refuses past_end buffer offset e → RefusesAt refuses' past_end buffer offset e
RefusesAt-by refuses refuses' past_end by buffer offset e (inl h) = inl h
RefusesAt-by refuses refuses' past_end by buffer offset e (inr h) =
    inr (h.0, by (drop offset buffer) e h.1)

-- an array whose read fails at an offset, where its error is that of a result
pub err-map : {T V W E : Type 0} (f : V → W) (reads : List ℕ → W → ℕ → Type 0)
    (refuses : List ℕ → E → Type 0) (past_end : ℕ → E → Type 0) (count : ℕ) (buffer : List ℕ)
    (offset : ℕ) (r : Result T E)
    → IfErr r (RefusesAt (RefusesArray (λ s v n. reads s (f v) n) refuses past_end count) past_end
    buffer offset) → IfErr r
    (RefusesAt (RefusesArray reads refuses past_end count) past_end buffer offset)
err-map f reads refuses past_end count buffer offset (Ok x) h = tt
err-map f reads refuses past_end count buffer offset (Err e) h =
    RefusesAt-by (RefusesArray (λ s v n. reads s (f v) n) refuses past_end count)
    (RefusesArray reads refuses past_end count) past_end
    (RefusesArray-map f reads refuses past_end count) buffer offset e h

-- lists that agree from one index on agree from the next
pub drop-next : {X : Type 0} (i : ℕ) (xs ys : List X) → drop i xs ≡ drop i ys
    → drop (i + 1) xs ≡ drop (i + 1) ys
drop-next i xs ys e = sym (drop-drop 1 i xs) ∙ ap (drop 1) e ∙ drop-drop 1 i ys

zero-add : (n : ℕ) → 0 + n ≡ n
zero-add n = omega arith

module _ {F B X : Type 0} (view : F → X) (g : Mut F (ℕ × Unit {0}) B)
    (same : (p : F) (i : ℕ) (y : B) (q : F) → Called g p (i, tt) y q → view q ≡ view p) where
  steps-same : (xs : List ℕ) (p q : F) → FoldsTo (λ p x q. (y : B) × Called g p (x, tt) y q) p xs q
      → view q ≡ view p
  steps-same [] p q c = rw (← c) refl
  steps-same (x ∷ xs) p q c = steps-same xs c.0 q c.2 ∙ same p x c.1.0 c.0 c.1.1

  pub callable-same : (n : ℕ) (f : F)
      → ((p : F) (i : ℕ) → view p ≡ view f → i < n → Takes g p (i, tt))
      → CallableAtEachTurn (index_steps n) (λ p x q. (y : B) × Called g p (x, tt) y q)
      (λ p x. Takes g p (x, tt)) 0 f
  callable-same n f can = record {
    at = λ xs t q x u y c e. rw e.1 (can q t (steps-same xs f q c) (omega (arith, e.0)));
  }

  module _ (P : X → ℕ → B → Type 0)
      (gives : (p : F) (i : ℕ) (y : B) (q : F) → Called g p (i, tt) y q → P (view p) i y) where
    made-same : (f : F) (ys : List B) (i n : ℕ) → IsFromFnResultFrom g f ys i n → (k : ℕ) (d : B)
        → k < n → P (view f) (i + k) (slice_index_or ys (i + k) d)
    made-same f ys i zero m k d lt = absurd (omega arith)
    made-same f ys i (suc n) m zero d lt = rw (add-zero, m.2.1 d) (gives f i m.1 m.0 m.3)
    made-same f ys i (suc n) m (suc k) d lt =
        let next : i + 1 + k ≡ i + suc k = omega arith in
        let later = made-same m.0 ys (i + 1) n m.4 k d (omega arith) in
        subst (λ s. P s (i + suc k) (slice_index_or ys (i + suc k) d)) (same f i m.1 m.0 m.3)
        (subst (λ j. P (view m.0) j (slice_index_or ys j d)) next later)

    pub each-made : (f : F) (ys : List B) (n : ℕ) → IsFromFnResult g f ys n → (i : ℕ) (d : B)
        → i < n → P (view f) i (slice_index_or ys i d)
    each-made f ys n m i d lt =
        subst (λ j. P (view f) j (slice_index_or ys j d)) (zero-add i)
        (made-same f ys 0 n m.each i d lt)

-- one more value is written
pub OverwritesAll-push : {V : Type 0} (width : ℕ) (overwrites : V → List ℕ → List ℕ → Type 0)
    (old : List ℕ) (from : ℕ) (vs : List V) (mid : List ℕ) (x : V) (new : List ℕ)
    → OverwritesAll width overwrites old from vs mid
    → OverwritesValue (overwrites x) mid (from + width * length vs) new
    → OverwritesAll width overwrites old from (vs ++ x ∷ []) new
OverwritesAll-push width overwrites old from [] mid x new h w =
    let here : from + width * 0 ≡ from = omega arith in (
      new,
      subst (λ k. OverwritesValue (overwrites x) old k new) here
          (subst (λ y. OverwritesValue (overwrites x) y (from + width * 0) new) h w),
      refl,
    )
OverwritesAll-push width overwrites old from (v ∷ vs) mid x new h w =
    let next : from + width * length (v ∷ vs) ≡ from + width + width * length vs =
    omega (arith, mul-suc width (length vs)) in (
      h.0,
      h.1,
      OverwritesAll-push width overwrites h.0 (from + width) vs mid x new h.2
          (subst (λ k. OverwritesValue (overwrites x) mid k new) next w),
    )

pub OverwritesAll-next : {V : Type 0} (width : ℕ) (overwrites : V → List ℕ → List ℕ → Type 0)
    (old : List ℕ) (vs : List V) (mid : List ℕ) (x : V) (new : List ℕ) (i : ℕ) → length vs ≡ i
    → OverwritesAll width overwrites old 0 vs mid
    → OverwritesValue (overwrites x) mid (width * i) new
    → OverwritesAll width overwrites old 0 (vs ++ x ∷ []) new
OverwritesAll-next width overwrites old vs mid x new i len h w =
    let at : width * i ≡ 0 + width * length vs =
    ap (λ k. width * k) (sym len) ∙ sym (zero-add (width * length vs)) in
    OverwritesAll-push width overwrites old 0 vs mid x new h
    (subst (λ k. OverwritesValue (overwrites x) mid k new) at w)

-- lists are equal if their optional values are
pub map_some-same : {A : Type 0} → (xs ys : List A)
    → map (λ (x : A). Some x) xs ≡ map (λ (x : A). Some x) ys → xs ≡ ys
map_some-same [] [] e = refl
map_some-same [] (y ∷ ys) e = cc
map_some-same (x ∷ xs) [] e = cc
map_some-same {A} (x ∷ xs) (y ∷ ys) e =
    let heads : x ≡ y = cc in
    let tails : map (λ (x : A). Some x) xs ≡ map (λ (x : A). Some x) ys = cc in
    let rest = map_some-same xs ys tails in
    cc

-- an index at which there is something is within the list
pub is_there : {V : Type 0} (xs : List (Option V)) (i : ℕ) (x : V)
    → slice_index_or xs i None ≡ Some x → i < length xs
is_there [] i x e = absurd cc
is_there (y ∷ ys) zero x e = omega arith
is_there (y ∷ ys) (suc i) x e = let more : i < length ys = is_there ys i x e in omega arith

-- that many elements were read, are in the slots, and end at an offset
pub record IsFilled {V : Type 0} (reads : List ℕ → V → ℕ → Type 0) (s : List ℕ)
    (places : List (Option V)) (count offset : ℕ) : Type 0 where
  pub values : List V
  pub slots : places ≡ map (λ (x : V). Some x) values
  pub len : length values ≡ count
  pub each : ReadsAll reads s 0 values offset

-- no element was read yet
pub IsFilled-none : {V : Type 0} (reads : List ℕ → V → ℕ → Type 0) (s : List ℕ)
    (slots : List (Option V)) → slots ≡ [] → IsFilled reads s slots 0 0
IsFilled-none reads s slots empty = record { values = []; slots = empty; len = refl; each = refl }

-- one more element
pub IsFilled-push : {V : Type 0} (reads : List ℕ → V → ℕ → Type 0) (s : List ℕ)
    (slots slots' : List (Option V)) (count offset to : ℕ) (x : V)
    → IsFilled reads s slots count offset → slots' ≡ slots ++ Some x ∷ []
    → ReadsBetween reads s offset to x → IsFilled reads s slots' (count + 1) to
IsFilled-push {V} reads s slots slots' count offset to x was pushed read = record {
  values = was.values ++ x ∷ [];
  slots = pushed ∙ ap (λ l. l ++ Some x ∷ []) was.slots
      ∙ sym (map-append (λ (y : V). Some y) was.values (x ∷ []));
  len = omega (arith, length_push was.values x, was.len);
  each = ReadsAll-push reads s 0 was.values offset to read.0 x was.each read.1 read.2;
}

-- the read of one more element fails
pub IsFilled-refused : {V E : Type 0} (reads : List ℕ → V → ℕ → Type 0)
    (refuses : List ℕ → E → Type 0) (past_end : ℕ → E → Type 0) (s : List ℕ)
    (slots : List (Option V)) (i count offset : ℕ) (e : E) → IsFilled reads s slots i offset
    → i < count → RefusesAt refuses past_end s offset e
    → RefusesArray reads refuses past_end count s e
IsFilled-refused reads refuses past_end s slots i count offset e was more error =
    record {
      prefix = was.values;
      stop = offset;
      fewer = rw was.len more;
      each = was.each;
      error = error;
    }

-- one more value is written
pub WritesAll-push : {V : Type 0} (writes : V → List ℕ → List ℕ → ℕ → Type 0) (old : List ℕ)
    (from : ℕ) (vs : List V) (mid : List ℕ) (to : ℕ) (x : V) (new : List ℕ) (n : ℕ)
    → WritesAll writes old from vs mid to → WritesAt (writes x) mid to new n
    → WritesAll writes old from (vs ++ x ∷ []) new (to + n)
WritesAll-push writes old from [] mid to x new n h w = (
  new,
  n,
  subst (λ k. WritesAt (writes x) old k new n) h.1
      (subst (λ y. WritesAt (writes x) y to new n) h.0 w),
  (refl, ap (λ k. k + n) h.1),
)
WritesAll-push writes old from (y ∷ vs) mid to x new n h w =
    (h.0, h.1, h.2, WritesAll-push writes h.0 (from + h.1) vs mid to x new n h.3 w)

-- that many values of an array are written, the others are left, and the last one written ends at
-- an offset
pub record IsPartWritten {V : Type 0} (writes : V → List ℕ → List ℕ → ℕ → Type 0)
    (all left : List V) (old new : List ℕ) (count offset : ℕ) : Type 0 where
  pub done : List V
  pub split : all ≡ done ++ left
  pub len : length done ≡ count
  pub written : WritesAll writes old 0 done new offset
  pub inside : offset ≤ length new

-- none are written yet
pub IsPartWritten-none : {V : Type 0} (writes : V → List ℕ → List ℕ → ℕ → Type 0)
    (all left : List V) (old : List ℕ) → left ≡ all → IsPartWritten writes all left old old 0 0
IsPartWritten-none writes all left old same =
    record { done = []; split = sym same; len = refl; written = (refl, refl); inside = omega arith }

-- one more value
pub IsPartWritten-next : {V : Type 0} (writes : V → List ℕ → List ℕ → ℕ → Type 0)
    (all left left' : List V) (old new new' : List ℕ) (count offset n : ℕ) (x : V)
    → IsPartWritten writes all left old new count offset → left ≡ x ∷ left'
    → WritesAt (writes x) new offset new' n → offset + n ≤ length new'
    → IsPartWritten writes all left' old new' (count + 1) (offset + n)
IsPartWritten-next writes all left left' old new new' count offset n x was next wrote inside =
    record {
      done = was.done ++ x ∷ [];
      split = was.split ∙ ap (λ l. was.done ++ l) next ∙ sym (append_assoc was.done (x ∷ []) left');
      len = omega (arith, length_push was.done x, was.len);
      written = WritesAll-push writes old 0 was.done new offset x new' n was.written wrote;
      inside = inside;
    }

-- the next value fails
pub IsPartWritten-fails : {V E : Type 0} (writes : V → List ℕ → List ℕ → ℕ → Type 0)
    (refuses : V → List ℕ → List ℕ → E → Type 0) (all left left' : List V) (old mid new : List ℕ)
    (count offset : ℕ) (x : V) (e : E) → IsPartWritten writes all left old mid count offset
    → left ≡ x ∷ left' → FailsAt (refuses x) mid offset new e
    → FailsArray writes refuses all old new e
IsPartWritten-fails writes refuses all left left' old mid new count offset x e was next failed =
    record {
      prefix = was.done;
      value = x;
      back = left';
      mid = mid;
      stop = offset;
      split = was.split ∙ ap (λ l. was.done ++ l) next;
      written = was.written;
      refused = failed;
    }
