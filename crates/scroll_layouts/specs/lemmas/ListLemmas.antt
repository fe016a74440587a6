-- Lists that are read value by value. The lemmas are proved, and promise nothing.
use Rattle.std.proofs.Common.{refl, ◌≡◌, ◌≢◌, ℕ, ◌+◌, ◌<◌, ◌≤◌, ◌++◌, List, [], ◌∷◌, length, take, drop, sym, ap, subst, ◌∙◌, arith, length-append, length-drop}
use Rattle.std.proofs.Math.Logic.{∥∥₁_elim}
use Rattle.std.proofs.Props.{props}
use Rattle.std.proofs.lemmas.List.{length-take, length-take-le, take-take}
use Rattle.std.proofs.lemmas.List.Elements.{All-take}
use Rattle.std.specs.List.{All}
use Rattle.scroll.specs.declared.endian.Endian.{Endian}
use Rattle.scroll_layouts.specs.Formats.{Format, reads, len}
use Rattle.scroll_layouts.specs.Lists.{ListValue, TableValue, Items, SomeItems, CountedItems, StandsIn}
use Rattle.scroll_layouts.specs.OneWay.{told}
use Rattle.scroll_layouts.specs.lemmas.FormatLaws.{moved}
use Rattle.scroll_layouts.specs.lemmas.Parts.{same-part}
use Rattle.scroll_layouts.specs.lemmas.SameLaws.{one-len}

-- one more value
pub push : {E X : Type 0} (f : Format E X) (order : Endian) (s : List ℕ) (at : ℕ) (xs : List X)
    (mid : ℕ) (x : X) → Items f order s at xs mid → reads f order s mid x → 1 ≤ len f x
    → Items f order s at (xs ++ x ∷ []) (mid + len f x)
push f order s at [] mid x h r some =
    (subst (λ k. reads f order s k x) (sym h) r, some, ap (λ k. k + len f x) h)
push f order s at (y ∷ ys) mid x h r some =
    (h.0, h.1, push f order s (at + len f y) ys mid x h.2 r some)

pub counted-push : {E X : Type 0} (f : Format E X) (order : Endian) (s : List ℕ)
    (at mid to n : ℕ) (x : X) → CountedItems f order s at mid n → reads f order s mid x
    → to ≡ mid + len f x → to ≢ mid → CountedItems f order s at to (n + 1)
counted-push f order s at mid to n x h r is other = record {
  values = h.values ++ x ∷ [];
  each = subst (λ k. Items f order s at (h.values ++ x ∷ []) k) (sym is)
      (push f order s at h.values mid x h.each r (omega (arith, is, other)));
  count = length-append h.values (x ∷ []) ∙ ap (λ k. k + 1) h.count;
}

-- values end behind where they begin
pub ends : {E X : Type 0} (f : Format E X) (order : Endian) (s : List ℕ) (at : ℕ) (xs : List X)
    (to : ℕ) → Items f order s at xs to → at ≤ to
ends f order s at [] to h = omega (arith, h)
ends f order s at (x ∷ xs) to h = omega (arith, ends f order s (at + len f x) xs to h.2)

-- they are values of the bytes up to their end
pub items-cut : {E X : Type 0} (f : Format E X) (order : Endian) (s : List ℕ) (at : ℕ) (xs : List X)
    (to : ℕ) → All (λ b. b < 256) s → to ≤ length s → Items f order s at xs to
    → Items f order (take to s) at xs to
items-cut f order s at [] to all le h = h
items-cut f order s at (x ∷ xs) to all le h =
    let n : ℕ = len f x in
    let later : at + n ≤ to = ends f order s (at + n) xs to h.2 in
    let long : length (take to s) ≡ to = length-take-le to s le in (
      moved f order s at (take to s) at x all (omega (arith, long, later))
          (same-part n at to s later) h.0,
      h.1,
      items-cut f order s (at + n) xs to all le h.2,
    )

pub counted-cut : {E X : Type 0} (f : Format E X) (order : Endian) (s : List ℕ) (to n : ℕ)
    → All (λ b. b < 256) s → to ≤ length s → CountedItems f order s 0 to n
    → CountedItems f order (take to s) 0 (length (take to s)) n
counted-cut f order s to n all le h = record {
  values = h.values;
  each = subst (λ k. Items f order (take to s) 0 h.values k) (sym (length-take-le to s le))
      (items-cut f order s 0 h.values to all le h.each);
  count = h.count;
}

-- values of the bytes up to an offset are values of the source
pub items-grown : {E X : Type 0} (f : Format E X) (order : Endian) (s : List ℕ) (at : ℕ)
    (xs : List X) (to : ℕ) → All (λ b. b < 256) s → to ≤ length s
    → Items f order (take to s) at xs to → Items f order s at xs to
items-grown f order s at [] to all le h = h
items-grown f order s at (x ∷ xs) to all le h =
    let n : ℕ = len f x in
    let later : at + n ≤ to = ends f order (take to s) (at + n) xs to h.2 in (
      moved f order (take to s) at s at x (All-take (λ b. b < 256) to s all)
          (omega (arith, later, le)) (sym (same-part n at to s later)) h.0,
      h.1,
      items-grown f order s (at + n) xs to all le h.2,
    )

-- a value at the start of bytes stands in each source that has them
pub stands-in : {E X : Type 0} (f : Format E X) (order : Endian) (s : List ℕ) (x : X)
    → All (λ b. b < 256) s → reads f order s 0 x → 1 ≤ len f x → len f x ≤ length s
    → StandsIn f order s x
stands-in f order s x all h some le = λ same o t alike is.
    let long : length s ≤ length (drop o t) =
    omega (arith, ap length is, length-take (length s) (drop o t)) in
    subst (λ k. reads f k t o x) alike
    (moved f order s 0 t o x all (omega (arith, long, some, le, length-drop o t))
    (ap (take (len f x)) is ∙ take-take (len f x) (length s) (drop o t) le) h)

-- as many values end at one offset
items-one : {E X : Type 0} (f : Format E X) → told f → (order : Endian) (s : List ℕ) (at : ℕ)
    (xs ys : List X) (to stop : ℕ) → All (λ b. b < 256) s → Items f order s at xs to
    → Items f order s at ys stop → length xs ≡ length ys → to ≡ stop
items-one f t order s at [] [] to stop all h k l = sym h ∙ k
items-one f t order s at [] (y ∷ ys) to stop all h k l = absurd (omega (arith, l))
items-one f t order s at (x ∷ xs) [] to stop all h k l = absurd (omega (arith, l))
items-one f t order s at (x ∷ xs) (y ∷ ys) to stop all h k l =
    let same : len f y ≡ len f x = one-len f t order s at y x all k.0 h.0 in
    items-one f t order s (at + len f x) xs ys to stop all h.2
    (subst (λ n. Items f order s (at + n) ys stop) same k.2) (omega (arith, l))

-- values that end at one offset are as many
items-count : {E X : Type 0} (f : Format E X) → told f → (order : Endian) (s : List ℕ) (at : ℕ)
    (xs ys : List X) (to : ℕ) → All (λ b. b < 256) s → Items f order s at xs to
    → Items f order s at ys to → length xs ≡ length ys
items-count f t order s at [] [] to all h k = refl
items-count f t order s at [] (y ∷ ys) to all h k =
    absurd (omega (arith, h, k.1, ends f order s (at + len f y) ys to k.2))
items-count f t order s at (x ∷ xs) [] to all h k =
    absurd (omega (arith, k, h.1, ends f order s (at + len f x) xs to h.2))
items-count f t order s at (x ∷ xs) (y ∷ ys) to all h k =
    let same : len f y ≡ len f x = one-len f t order s at y x all k.0 h.0 in
    omega (
      arith,
      items-count f t order s (at + len f x) xs ys to all h.2
          (subst (λ n. Items f order s (at + n) ys to) same k.2),
    )

-- values of a list are values of a source that begins with it
begun : {E X : Type 0} (f : Format E X) (order : Endian) (s x : List ℕ) (values : List X)
    → All (λ b. b < 256) s → length x ≤ length s → x ≡ take (length x) s
    → Items f order x 0 values (length x) → Items f order s 0 values (length x)
begun f order s x values all inside begins each =
    items-grown f order s 0 values (length x) all inside
    (subst (λ l. Items f order l 0 values (length x)) begins each)

-- a source begins with one list of so many bytes
pub within-one : {E X : Type 0} (f : Format E X) → told f → (order : Endian) (s : List ℕ) (n : ℕ)
    (x y : List ℕ) (k m : ℕ) → All (λ b. b < 256) s → length x ≤ length s → length y ≤ length s
    → x ≡ take (length x) s → y ≡ take (length y) s
    → (n ≡ length x) × ∥ CountedItems f order x 0 (length x) k ∥₁
    → (n ≡ length y) × ∥ CountedItems f order y 0 (length y) m ∥₁
    → (length x ≡ length y) × (k ≡ m)
within-one f t order s n x y k m all inside within begins starts some others =
    let size : length x ≡ length y = sym some.0 ∙ others.0 in (
      size,
      ∥∥₁_elim some.1 (hlevel props) (λ h. ∥∥₁_elim others.1 (hlevel props) (λ j.
          sym h.count ∙ items-count f t order s 0 h.values j.values (length x) all
          (begun f order s x h.values all inside begins h.each)
          (subst (λ l. Items f order s 0 j.values l) (sym size)
          (begun f order s y j.values all within starts j.each)) ∙ j.count)),
    )

-- a source begins with one list of so many values
pub counted-one : {E X : Type 0} (f : Format E X) → told f → (order : Endian) (s : List ℕ) (n : ℕ)
    (x y : List ℕ) (k m : ℕ) → All (λ b. b < 256) s → length x ≤ length s → length y ≤ length s
    → x ≡ take (length x) s → y ≡ take (length y) s
    → (k ≡ n) × ∥ CountedItems f order x 0 (length x) n ∥₁
    → (m ≡ n) × ∥ CountedItems f order y 0 (length y) n ∥₁ → (length x ≡ length y) × (k ≡ m)
counted-one f t order s n x y k m all inside within begins starts some others = (
  ∥∥₁_elim some.1 (hlevel props) (λ h. ∥∥₁_elim others.1 (hlevel props) (λ j.
      items-one f t order s 0 h.values j.values (length x) (length y) all
      (begun f order s x h.values all inside begins h.each)
      (begun f order s y j.values all within starts j.each) (h.count ∙ sym j.count))),
  some.0 ∙ sym others.0,
)

-- what is so of some bytes and a number is so of a list that has them
pub list-has : (P : List ℕ → ℕ → Type 0) {s l : List ℕ} {n m : ℕ} → l ≡ s → m ≡ n → P s n → P l m
list-has P {s} {l} {n} {m} same is h =
    subst (λ l. P l m) (sym same) (subst (λ m. P s m) (sym is) h)

-- lists whose parts are equal are equal
pub list-is : (x y : ListValue) → (x.bytes ≡ y.bytes) × (x.order ≡ y.order) × (x.count ≡ y.count)
    → x ≡ y
list-is x y h =
    ap (λ s. record { bytes = s; order = x.order; count = x.count }) h.0
    ∙ ap (λ o. record { bytes = y.bytes; order = o; count = x.count }) h.1
    ∙ ap (λ n. record { bytes = y.bytes; order = y.order; count = n }) h.2

pub table-is : (x y : TableValue) → (x.bytes ≡ y.bytes) × (x.order ≡ y.order) → x ≡ y
table-is x y h =
    ap (λ s. record { bytes = s; order = x.order }) h.0
    ∙ ap (λ o. record { bytes = y.bytes; order = o }) h.1

-- values of a number are some
pub counted-some : {E X : Type 0} {f : Format E X} {order : Endian} {s : List ℕ} {at to n : ℕ}
    → CountedItems f order s at to n → SomeItems f order s at to
counted-some h = record { values = h.values; each = h.each }
