-- Lists up to a value that says that it is the last. The lemmas are proved, and promise nothing.
use Rattle.std.proofs.Common.{refl, ◌≡◌, ◌≢◌, ℕ, ◌+◌, ◌<◌, ◌≤◌, ◌++◌, List, [], ◌∷◌, length, take, sym, ap, subst, ◌∙◌, arith, length-append}
use Rattle.std.proofs.Math.Logic.{∥∥₁_elim}
use Rattle.std.proofs.Props.{props}
use Rattle.std.proofs.lemmas.Bool.{true≢false}
use Rattle.std.proofs.lemmas.List.{length-take-le}
use Rattle.std.proofs.lemmas.List.Elements.{All-head, All-push, All-tail}
use Rattle.std.specs.List.{All}
use Rattle.std.specs.Prelude.{Bool, true, false}
use Rattle.scroll.specs.declared.endian.Endian.{Endian}
use Rattle.scroll.specs.declared.error.Error.{Error}
use Rattle.scroll_layouts.specs.Closed.{alike, ClosedList, ClosedItems, CountedClosed, OpenList, RefusesClosed}
use Rattle.scroll_layouts.specs.Formats.{Format, reads, len}
use Rattle.scroll_layouts.specs.Lists.{Items, SomeItems, StopsAtItem}
use Rattle.scroll_layouts.specs.OneWay.{told, one_way}
use Rattle.scroll_layouts.specs.lemmas.ListClashes.{stop-clash}
use Rattle.scroll_layouts.specs.lemmas.ListLemmas.{push, items-cut, items-grown}
use Rattle.scroll_layouts.specs.lemmas.SameLaws.{one-len, one-value, tells}

-- one more value behind those of which none is the last
items-push : {E X : Type 0} (f : Format E X) (order : Endian) (s : List ℕ) (xs : List X)
    (mid to : ℕ) (x : X) → Items f order s 0 xs mid → reads f order s mid x → to ≡ mid + len f x
    → to ≢ mid → Items f order s 0 (xs ++ x ∷ []) to
items-push f order s xs mid to x h r is other =
    subst (λ k. Items f order s 0 (xs ++ x ∷ []) k) (sym is)
    (push f order s 0 xs mid x h r (omega (arith, is, other)))

-- which isn't the last either
pub open-push : {E X : Type 0} (f : Format E X) (closes : X → Bool) (order : Endian) (s : List ℕ)
    (xs : List X) (mid to : ℕ) (x : X) → OpenList f closes order s xs mid → reads f order s mid x
    → to ≡ mid + len f x → to ≢ mid → closes x ≡ false
    → OpenList f closes order s (xs ++ x ∷ []) to
open-push f closes order s xs mid to x h r is other not_last = record {
  each = items-push f order s xs mid to x h.each r is other;
  go_on = All-push (λ v. closes v ≡ false) xs x h.go_on not_last;
}

-- or is
pub closed-push : {E X : Type 0} (f : Format E X) (closes : X → Bool) (order : Endian) (s : List ℕ)
    (xs : List X) (mid to : ℕ) (x : X) → OpenList f closes order s xs mid → reads f order s mid x
    → to ≡ mid + len f x → to ≢ mid → closes x ≡ true
    → CountedClosed f closes order s to (length xs + 1)
closed-push f closes order s xs mid to x h r is other is_last = (
  xs ++ x ∷ [],
  record {
    others = xs;
    final = x;
    split = refl;
    each = items-push f order s xs mid to x h.each r is other;
    go_on = h.go_on;
    closed = is_last;
  },
  length-append xs (x ∷ []),
)

-- a list is one in the bytes up to its end
pub closed-cut : {E X : Type 0} (f : Format E X) (closes : X → Bool) (order : Endian) (s : List ℕ)
    (to n : ℕ) → All (λ b. b < 256) s → to ≤ length s → CountedClosed f closes order s to n
    → CountedClosed f closes order (take to s) (length (take to s)) n
closed-cut f closes order s to n all le h = (
  h.0,
  record {
    others = h.1.others;
    final = h.1.final;
    split = h.1.split;
    each = subst (λ k. Items f order (take to s) 0 h.0 k) (sym (length-take-le to s le))
        (items-cut f order s 0 h.0 to all le h.1.each);
    go_on = h.1.go_on;
    closed = h.1.closed;
  },
  h.2,
)

-- its values are those of a source that begins with it
closed-items : {E X : Type 0} (f : Format E X) (closes : X → Bool) (order : Endian) (s x : List ℕ)
    (values : List X) → All (λ b. b < 256) s → length x ≤ length s → x ≡ take (length x) s
    → (h : ClosedList f closes order x values (length x))
    → Items f order s 0 (h.others ++ h.final ∷ []) (length x)
closed-items f closes order s x values all inside begins h =
    items-grown f order s 0 (h.others ++ h.final ∷ []) (length x) all inside
    (subst (λ l. Items f order l 0 (h.others ++ h.final ∷ []) (length x)) begins
    (subst (λ l. Items f order x 0 l (length x)) h.split h.each))

-- a value isn't the last where one that is read at the same place is
one-closes : {E X : Type 0} (f : Format E X) (closes : X → Bool) → told f → alike f closes
    → (order : Endian) (s : List ℕ) (at : ℕ) (x y : X) → All (λ b. b < 256) s
    → reads f order s at x → reads f order s at y → closes x ≡ true → closes y ≡ false → ⊥
one-closes f closes t a order s at x y all h k is_last not_last =
    true≢false (sym is_last ∙ a x y (one-value f t order s at x y all h k) ∙ not_last)

-- lists end at one offset, and have one number of values
closed-ends : {E X : Type 0} (f : Format E X) (closes : X → Bool) → told f → alike f closes
    → (order : Endian) (s : List ℕ) (at : ℕ) (xs : List X) (x : X) (ys : List X) (y : X)
    (to stop : ℕ) → All (λ b. b < 256) s → Items f order s at (xs ++ x ∷ []) to
    → All (λ v. closes v ≡ false) xs → closes x ≡ true → Items f order s at (ys ++ y ∷ []) stop
    → All (λ v. closes v ≡ false) ys → closes y ≡ true → (to ≡ stop) × (length xs ≡ length ys)
closed-ends f closes t a order s at [] x [] y to stop all h on is_last k others last =
    (omega (arith, h.2, k.2, one-len f t order s at x y all h.0 k.0), refl)
closed-ends f closes t a order s at [] x (w ∷ ys) y to stop all h on is_last k others last =
    absurd (one-closes f closes t a order s at x w all h.0 k.0 is_last
    (All-head (λ v. closes v ≡ false) w ys others))
closed-ends f closes t a order s at (v ∷ xs) x [] y to stop all h on is_last k others last =
    absurd (one-closes f closes t a order s at y v all k.0 h.0 last
    (All-head (λ v. closes v ≡ false) v xs on))
closed-ends f closes t a order s at (v ∷ xs) x (w ∷ ys) y to stop all h on is_last k others last =
    let same : len f w ≡ len f v = one-len f t order s at w v all k.0 h.0 in
    let rest : (to ≡ stop) × (length xs ≡ length ys) =
    closed-ends f closes t a order s (at + len f v) xs x ys y to stop all h.2
    (All-tail (λ v. closes v ≡ false) v xs on) is_last
    (subst (λ n. Items f order s (at + n) (ys ++ y ∷ []) stop) same k.2)
    (All-tail (λ v. closes v ≡ false) w ys others) last in
    (rest.0, omega (arith, rest.1))

-- all values of a list are one more than those before the last
one-more : {E X : Type 0} (f : Format E X) (closes : X → Bool) (order : Endian) (s : List ℕ)
    (values : List X) (to n : ℕ) → (h : ClosedList f closes order s values to) → length values ≡ n
    → n ≡ length h.others + 1
one-more f closes order s values to n h is =
    sym is ∙ ap length h.split ∙ length-append h.others (h.final ∷ [])

-- a source begins with one list
pub closed-one : {E X : Type 0} (f : Format E X) (closes : X → Bool) → told f → alike f closes
    → (order : Endian) (s x y : List ℕ) (m n : ℕ) → All (λ b. b < 256) s → length x ≤ length s
    → length y ≤ length s → x ≡ take (length x) s → y ≡ take (length y) s
    → ∥ CountedClosed f closes order x (length x) m ∥₁
    → ∥ CountedClosed f closes order y (length y) n ∥₁ → (length x ≡ length y) × (m ≡ n)
closed-one f closes t a order s x y m n all inside within begins starts some others =
    ∥∥₁_elim some (hlevel props) (λ h. ∥∥₁_elim others (hlevel props) (λ k.
    let one : (length x ≡ length y) × (length h.1.others ≡ length k.1.others) =
    closed-ends f closes t a order s 0 h.1.others h.1.final k.1.others k.1.final (length x)
    (length y) all (closed-items f closes order s x h.0 all inside begins h.1) h.1.go_on h.1.closed
    (closed-items f closes order s y k.0 all within starts k.1) k.1.go_on k.1.closed in (
      one.0,
      omega (
        arith,
        one.1,
        one-more f closes order x h.0 (length x) m h.1 h.2,
        one-more f closes order y k.0 (length y) n k.1 k.2,
      ),
    )))

-- a list isn't cut by values of which none is the last and at whose end none can be read
ends-clash : {E X : Type 0} (gives : Error → E → Type 0) (f : Format E X) (closes : X → Bool)
    → one_way f → alike f closes → (order : Endian) (s : List ℕ) (at : ℕ) (xs : List X) (x : X)
    (ys : List X) (to stop : ℕ) (e : E) → All (λ b. b < 256) s
    → Items f order s at (xs ++ x ∷ []) to → closes x ≡ true → Items f order s at ys stop
    → All (λ v. closes v ≡ false) ys → StopsAtItem gives f order s stop e → ⊥
ends-clash gives f closes t a order s at [] x [] to stop e all h is_last k on r =
    stop-clash gives f t order s stop x e all (subst (λ n. reads f order s n x) k h.0) h.1 r
ends-clash gives f closes t a order s at [] x (w ∷ ys) to stop e all h is_last k on r =
    one-closes f closes (tells f t) a order s at x w all h.0 k.0 is_last
    (All-head (λ v. closes v ≡ false) w ys on)
ends-clash gives f closes t a order s at (v ∷ xs) x [] to stop e all h is_last k on r =
    stop-clash gives f t order s stop v e all (subst (λ n. reads f order s n v) k h.0) h.1 r
ends-clash gives f closes t a order s at (v ∷ xs) x (w ∷ ys) to stop e all h is_last k on r =
    let same : len f w ≡ len f v = one-len f (tells f t) order s at w v all k.0 h.0 in
    ends-clash gives f closes t a order s (at + len f v) xs x ys to stop e all h.2 is_last
    (subst (λ n. Items f order s (at + n) ys stop) same k.2)
    (All-tail (λ v. closes v ≡ false) w ys on) r

-- a source hasn't both a list and an error
pub closed-clash : {E X : Type 0} (gives : Error → E → Type 0) (f : Format E X) (closes : X → Bool)
    → one_way f → alike f closes → (order : Endian) (s x : List ℕ) (n : ℕ) (e : E)
    → All (λ b. b < 256) s → length x ≤ length s → x ≡ take (length x) s
    → ∥ CountedClosed f closes order x (length x) n ∥₁ → RefusesClosed gives f closes order s e
    → ⊥
closed-clash gives f closes t a order s x n e all inside begins some r =
    ∥∥₁_elim some (hlevel props) (λ h.
    ends-clash gives f closes t a order s 0 h.1.others h.1.final r.values (length x) r.stop e all
    (closed-items f closes order s x h.0 all inside begins h.1) h.1.closed r.before.each
    r.before.go_on r.error)

-- values of a number are some
pub counted-closed : {E X : Type 0} {f : Format E X} {closes : X → Bool} {order : Endian}
    {s : List ℕ} {to n : ℕ} → CountedClosed f closes order s to n → ClosedItems f closes order s to
counted-closed h = (h.0, h.1)

-- and stand one after another
pub closed-some : {E X : Type 0} {f : Format E X} {closes : X → Bool} {order : Endian}
    {s : List ℕ} {to n : ℕ} → CountedClosed f closes order s to n → SomeItems f order s 0 to
closed-some h = record { values = h.0; each = h.1.each }
