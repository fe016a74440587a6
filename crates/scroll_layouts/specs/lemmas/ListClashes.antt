-- A source hasn't both a list and an error. The lemmas are proved, and promise nothing.
use Rattle.std.proofs.Common.{◌≡◌, ℕ, ◌+◌, ◌<◌, ◌≤◌, ◌⊎◌, List, [], ◌∷◌, length, take, drop, sym, ap, subst, ◌∙◌, inl, inr, arith}
use Rattle.std.proofs.Math.Logic.{∥∥₁_elim}
use Rattle.std.proofs.Props.{props}
use Rattle.std.proofs.lemmas.List.Elements.{All-take}
use Rattle.std.specs.List.{All}
use Rattle.std.specs.Prelude.{None}
use Rattle.scroll.specs.declared.endian.Endian.{Endian}
use Rattle.scroll.specs.declared.error.Error.{Error}
use Rattle.scroll_layouts.specs.Errors.{NoRoom}
use Rattle.scroll_layouts.specs.OneWay.{one_way}
use Rattle.scroll_layouts.specs.Formats.{Format, reads, len}
use Rattle.scroll_layouts.specs.Lists.{Items, CountedItems, StopsAtItem, RefusesItems, RefusesCounted}
use Rattle.scroll_layouts.specs.Marks.{Mark, MarkEnds, ItemsBefore, CountedMarked, RefusesMarked}
use Rattle.scroll_layouts.specs.lemmas.ListLemmas.{items-grown, ends}
use Rattle.scroll_layouts.specs.lemmas.MarkLemmas.{marked-there, no-mark}
use Rattle.scroll_layouts.specs.lemmas.OneWayLemmas.{no-clash}
use Rattle.scroll_layouts.specs.lemmas.SameLaws.{one-len, tells}

-- a value that has a byte isn't read where none can be read
pub stop-clash : {E X : Type 0} (gives : Error → E → Type 0) (f : Format E X) → one_way f
    → (order : Endian) (s : List ℕ) (stop : ℕ) (x : X) (e : E) → All (λ b. b < 256) s
    → reads f order s stop x → 1 ≤ len f x → StopsAtItem gives f order s stop e → ⊥
stop-clash gives f t order s stop x e all h some (inl r) = no-clash f t order s stop x e all h r
stop-clash gives f t order s stop x e all h some (inr (y, read, none, g)) =
    omega (arith, one-len f (tells f t) order s stop x y all h read, none, some)

-- values up to an offset, at which none can be read, aren't followed by more values
items-clash : {E X : Type 0} (gives : Error → E → Type 0) (f : Format E X) → one_way f
    → (order : Endian) (s : List ℕ) (at : ℕ) (xs ys : List X) (to stop : ℕ) (e : E)
    → All (λ b. b < 256) s → Items f order s at xs to → Items f order s at ys stop → stop < to
    → StopsAtItem gives f order s stop e → ⊥
items-clash gives f t order s at [] [] to stop e all h k l r = omega (arith, h, k, l)
items-clash gives f t order s at [] (y ∷ ys) to stop e all h k l r =
    omega (arith, h, l, ends f order s (at + len f y) ys stop k.2)
items-clash gives f t order s at (x ∷ xs) [] to stop e all h k l r =
    stop-clash gives f t order s stop x e all (subst (λ n. reads f order s n x) k h.0) h.1 r
items-clash gives f t order s at (x ∷ xs) (y ∷ ys) to stop e all h k l r =
    let same : len f y ≡ len f x = one-len f (tells f t) order s at y x all k.0 h.0 in
    items-clash gives f t order s (at + len f x) xs ys to stop e all h.2
    (subst (λ n. Items f order s (at + n) ys stop) same k.2) l r

pub within-clash : {E X : Type 0} (gives : Error → E → Type 0) (f : Format E X) (n : ℕ)
    → one_way f → (order : Endian) (s x : List ℕ) (m : ℕ) (e : E) → All (λ b. b < 256) s
    → length x ≤ length s → x ≡ take (length x) s
    → (n ≡ length x) × ∥ CountedItems f order x 0 (length x) m ∥₁
    → NoRoom gives n s e ⊎ ((n ≤ length s) × RefusesItems gives f order (take n s) e) → ⊥
within-clash gives f n t order s x m e all inside begins h (inl r) =
    omega (arith, inside, h.0, r.short)
within-clash gives f n t order s x m e all inside begins h (inr r) =
    let same : take n s ≡ x = ap (λ k. take k s) h.0 ∙ sym begins in
    let there = subst (λ l. RefusesItems gives f order l e) same r.1 in
    let below : All (λ b. b < 256) x =
    subst (λ l. All (λ b. b < 256) l) same (All-take (λ b. b < 256) n s all) in
    ∥∥₁_elim h.1 (hlevel props) (λ k. items-clash gives f t order x 0 k.values there.before.values
    (length x) there.stop e below k.each there.before.each there.more there.error)

-- after fewer values, at whose end none can be read, there aren't more
count-clash : {E X : Type 0} (gives : Error → E → Type 0) (f : Format E X) → one_way f
    → (order : Endian) (s : List ℕ) (at : ℕ) (xs ys : List X) (to stop : ℕ) (e : E)
    → All (λ b. b < 256) s → Items f order s at xs to → Items f order s at ys stop
    → length ys < length xs → StopsAtItem gives f order s stop e → ⊥
count-clash gives f t order s at [] ys to stop e all h k l r = omega (arith, l)
count-clash gives f t order s at (x ∷ xs) [] to stop e all h k l r =
    stop-clash gives f t order s stop x e all (subst (λ n. reads f order s n x) k h.0) h.1 r
count-clash gives f t order s at (x ∷ xs) (y ∷ ys) to stop e all h k l r =
    let same : len f y ≡ len f x = one-len f (tells f t) order s at y x all k.0 h.0 in
    count-clash gives f t order s (at + len f x) xs ys to stop e all h.2
    (subst (λ n. Items f order s (at + n) ys stop) same k.2) (omega (arith, l)) r

pub counted-clash : {E X : Type 0} (gives : Error → E → Type 0) (f : Format E X) (n : ℕ)
    → one_way f → (order : Endian) (s x : List ℕ) (m : ℕ) (e : E) → All (λ b. b < 256) s
    → length x ≤ length s → x ≡ take (length x) s
    → (m ≡ n) × ∥ CountedItems f order x 0 (length x) n ∥₁ → RefusesCounted gives f order n s e → ⊥
counted-clash gives f n t order s x m e all inside begins some r =
    ∥∥₁_elim some.1 (hlevel props) (λ h.
    count-clash gives f t order s 0 h.values r.before.values (length x) r.stop e all
    (items-grown f order s 0 h.values (length x) all inside
    (subst (λ l. Items f order l 0 h.values (length x)) begins h.each))
    r.before.each (omega (arith, r.before.count, r.fewer, h.count)) r.error)

-- after values, at whose end no mark stands and no value can be read, there is no mark
mark-clash : {E X : Type 0} (gives : Error → E → Type 0) (mark : Mark) (f : Format E X)
    → one_way f → (order : Endian) (s : List ℕ) (at : ℕ) (xs ys : List X) (to stop end : ℕ) (e : E)
    → All (λ b. b < 256) s → ItemsBefore mark f order s at xs to → MarkEnds mark s to end
    → ItemsBefore mark f order s at ys stop → mark.size (drop stop s) ≡ None
    → StopsAtItem gives f order s stop e → ⊥
mark-clash gives mark f t order s at [] [] to stop end e all h m k none r =
    no-mark (mark.size (drop to s)) m.size
    (subst (λ o. mark.size (drop o s) ≡ None) (sym k ∙ h) none) m.there
mark-clash gives mark f t order s at [] (y ∷ ys) to stop end e all h m k none r =
    no-mark (mark.size (drop to s)) m.size
    (subst (λ o. mark.size (drop o s) ≡ None) h k.0) m.there
mark-clash gives mark f t order s at (x ∷ xs) [] to stop end e all h m k none r =
    stop-clash gives f t order s stop x e all (subst (λ n. reads f order s n x) k h.1) h.2 r
mark-clash gives mark f t order s at (x ∷ xs) (y ∷ ys) to stop end e all h m k none r =
    let same : len f y ≡ len f x = one-len f (tells f t) order s at y x all k.1 h.1 in
    mark-clash gives mark f t order s (at + len f x) xs ys to stop end e all h.3 m
    (subst (λ n. ItemsBefore mark f order s (at + n) ys stop) same k.3) none r

pub marked-clash : {E X : Type 0} (gives : Error → E → Type 0) (mark : Mark) (f : Format E X)
    → one_way f → (order : Endian) (s x : List ℕ) (m : ℕ) (e : E) → All (λ b. b < 256) s
    → length x ≤ length s → x ≡ take (length x) s
    → ∥ CountedMarked mark f order x (length x) m ∥₁ → RefusesMarked gives mark f order s e → ⊥
marked-clash gives mark f t order s x m e all inside begins some r =
    ∥∥₁_elim some (hlevel props) (λ h.
    let there = marked-there mark f order s x h.0 all inside begins h.1 in
    mark-clash gives mark f t order s 0 h.0 r.before.values there.stop r.stop (length x) e all
    there.each there.ends r.before.each r.other r.error)
