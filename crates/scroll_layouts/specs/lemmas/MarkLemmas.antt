-- Lists that end with a mark are read value by value. The lemmas are proved, and promise nothing.
use Rattle.std.proofs.Common.{refl, ◌≡◌, ◌≢◌, ℕ, ◌+◌, ◌-◌, ◌<◌, ◌≤◌, ◌++◌, List, [], ◌∷◌, length, take, drop, sym, ap, subst, ◌∙◌, arith, length-drop, length-append}
use Rattle.std.proofs.Math.Logic.{∥∥₁_elim, ∥∥₁_map}
use Rattle.std.proofs.Props.{props}
use Rattle.std.proofs.lemmas.List.{drop-drop, length-take-le, take-take, take_all}
use Rattle.std.proofs.lemmas.List.Elements.{All-take}
use Rattle.std.specs.List.{All}
use Rattle.std.specs.Prelude.{Option, Some, None}
use Rattle.scroll.specs.declared.endian.Endian.{Endian}
use Rattle.scroll_layouts.specs.Formats.{Format, reads, len}
use Rattle.scroll_layouts.specs.Marks.{Mark, MarkEnds, ItemsBefore, CountedBefore, MarkedList, MarkedItems, CountedMarked}
use Rattle.scroll_layouts.specs.OneWay.{told, one_way}
use Rattle.scroll_layouts.specs.lemmas.FormatLaws.{inside, moved}
use Rattle.scroll_layouts.specs.lemmas.Parts.{same-part}
use Rattle.scroll_layouts.specs.lemmas.SameLaws.{one-len, tells}

-- one more value
pub push : {E X : Type 0} (mark : Mark) (f : Format E X) (order : Endian) (s : List ℕ) (at : ℕ)
    (xs : List X) (mid : ℕ) (x : X) → ItemsBefore mark f order s at xs mid
    → mark.size (drop mid s) ≡ None → reads f order s mid x → 1 ≤ len f x
    → ItemsBefore mark f order s at (xs ++ x ∷ []) (mid + len f x)
push mark f order s at [] mid x h other r some = (
  subst (λ k. mark.size (drop k s) ≡ None) (sym h) other,
  subst (λ k. reads f order s k x) (sym h) r,
  some,
  ap (λ k. k + len f x) h,
)
push mark f order s at (y ∷ ys) mid x h other r some =
    (h.0, h.1, h.2, push mark f order s (at + len f y) ys mid x h.3 other r some)

pub before-push : {E X : Type 0} (mark : Mark) (f : Format E X) (order : Endian) (s : List ℕ)
    (mid to n : ℕ) (x : X) → CountedBefore mark f order s mid n → mark.size (drop mid s) ≡ None
    → reads f order s mid x → to ≡ mid + len f x → to ≢ mid
    → CountedBefore mark f order s to (n + 1)
before-push mark f order s mid to n x h none r is other = record {
  values = h.values ++ x ∷ [];
  each = subst (λ k. ItemsBefore mark f order s 0 (h.values ++ x ∷ []) k) (sym is)
      (push mark f order s 0 h.values mid x h.each none r (omega (arith, is, other)));
  count = length-append h.values (x ∷ []) ∙ ap (λ k. k + 1) h.count;
}

-- values end behind where they begin
ends : {E X : Type 0} (mark : Mark) (f : Format E X) (order : Endian) (s : List ℕ) (at : ℕ)
    (xs : List X) (to : ℕ) → ItemsBefore mark f order s at xs to → at ≤ to
ends mark f order s at [] to h = omega (arith, h)
ends mark f order s at (x ∷ xs) to h =
    omega (arith, ends mark f order s (at + len f x) xs to h.3)

-- a part of a source that begins with the same bytes
same-in : (n at end : ℕ) (s t : List ℕ) → at + n ≤ end → take end t ≡ take end s
    → take n (drop at t) ≡ take n (drop at s)
same-in n at end s t le same =
    same-part n at end t le ∙ ap (λ l. take n (drop at l)) same ∙ sym (same-part n at end s le)

-- values before a mark are values of each source that has the same bytes up to the end of the mark
before-same : {E X : Type 0} (mark : Mark) (f : Format E X) (order : Endian) (s t : List ℕ)
    (at : ℕ) (xs : List X) (to end : ℕ) → All (λ b. b < 256) s → end ≤ length s
    → end ≤ length t → take end t ≡ take end s → MarkEnds mark s to end
    → ItemsBefore mark f order s at xs to → ItemsBefore mark f order t at xs to
before-same mark f order s t at [] to end all here room same m h = h
before-same mark f order s t at (x ∷ xs) to end all here room same m h =
    let w : ℕ = len f x in
    let later : at + w ≤ to = ends mark f order s (at + w) xs to h.3 in
    let left : ℕ = to - at in
    let reached : at + left ≡ to = omega (arith, later) in
    let behind : mark.size (drop left (drop at s)) ≡ Some m.size =
    ap (λ l. mark.size l) (drop-drop left at s ∙ ap (λ k. drop k s) reached) ∙ m.there in (
      mark.none (drop at s) (drop at t) left m.size h.0 behind
          (omega (arith, reached, m.whole, here, length-drop at s))
          (omega (arith, reached, m.whole, room, length-drop at t))
          (same-in (left + m.size) at end s t (omega (arith, reached, m.whole)) same),
      moved f order s at t at x all (omega (arith, later, m.whole, room))
          (sym (same-in w at end s t (omega (arith, later, m.whole)) same)) h.1,
      h.2,
      before-same mark f order s t (at + w) xs to end all here room same m h.3,
    )

-- so is the mark
mark-same : (mark : Mark) (s t : List ℕ) (to end : ℕ) → end ≤ length t → take end t ≡ take end s
    → MarkEnds mark s to end → MarkEnds mark t to end
mark-same mark s t to end room same m = record {
  size = m.size;
  there = mark.found (drop to s) (drop to t) m.size m.there
      (omega (arith, room, m.whole, length-drop to t))
      (same-in m.size to end s t (omega (arith, m.whole)) same);
  whole = m.whole;
}

-- a list up to its mark is one in the bytes up to the end of the mark
pub list-cut : {E X : Type 0} (mark : Mark) (f : Format E X) (order : Endian) (s : List ℕ)
    (values : List X) (end : ℕ) → All (λ b. b < 256) s → end ≤ length s
    → MarkedList mark f order s values end
    → MarkedList mark f order (take end s) values (length (take end s))
list-cut mark f order s values end all le h =
    let long : length (take end s) ≡ end = length-take-le end s le in
    let same : take end (take end s) ≡ take end s = take-take end end s (omega arith) in
    let room : end ≤ length (take end s) = omega (arith, long) in
    record {
      stop = h.stop;
      each = before-same mark f order s (take end s) 0 values h.stop end all le room same h.ends
          h.each;
      ends = subst (MarkEnds mark (take end s) h.stop) (sym long)
          (mark-same mark s (take end s) h.stop end room same h.ends);
    }

pub marked-cut : {E X : Type 0} (mark : Mark) (f : Format E X) (order : Endian) (s : List ℕ)
    (end n : ℕ) → All (λ b. b < 256) s → end ≤ length s → CountedMarked mark f order s end n
    → CountedMarked mark f order (take end s) (length (take end s)) n
marked-cut mark f order s end n all le h =
    (h.0, list-cut mark f order s h.0 end all le h.1, h.2)

pub no-mark : (r : Option ℕ) (n : ℕ) → r ≡ None → r ≡ Some n → ⊥
no-mark r n none some = cc

-- a source has one mark after values, and one number of these
before-one : {E X : Type 0} (mark : Mark) (f : Format E X) → told f → (order : Endian)
    (s : List ℕ) (at : ℕ) (xs ys : List X) (to stop end last : ℕ) → All (λ b. b < 256) s
    → ItemsBefore mark f order s at xs to → MarkEnds mark s to end
    → ItemsBefore mark f order s at ys stop → MarkEnds mark s stop last
    → (to ≡ stop) × (length xs ≡ length ys)
before-one mark f t order s at [] [] to stop end last all h m k n = (sym h ∙ k, refl)
before-one mark f t order s at [] (y ∷ ys) to stop end last all h m k n =
    absurd (no-mark (mark.size (drop at s)) m.size k.0
    (subst (λ o. mark.size (drop o s) ≡ Some m.size) (sym h) m.there))
before-one mark f t order s at (x ∷ xs) [] to stop end last all h m k n =
    absurd (no-mark (mark.size (drop at s)) n.size h.0
    (subst (λ o. mark.size (drop o s) ≡ Some n.size) (sym k) n.there))
before-one mark f t order s at (x ∷ xs) (y ∷ ys) to stop end last all h m k n =
    let same : len f y ≡ len f x = one-len f t order s at y x all k.1 h.1 in
    let rest : (to ≡ stop) × (length xs ≡ length ys) =
    before-one mark f t order s (at + len f x) xs ys to stop end last all h.3 m
    (subst (λ a. ItemsBefore mark f order s (at + a) ys stop) same k.3) n in
    (rest.0, omega (arith, rest.1))

-- so is it in a source that begins with it
pub marked-there : {E X : Type 0} (mark : Mark) (f : Format E X) (order : Endian) (s x : List ℕ)
    (values : List X) → All (λ b. b < 256) s → length x ≤ length s → x ≡ take (length x) s
    → MarkedList mark f order x values (length x) → MarkedList mark f order s values (length x)
marked-there mark f order s x values all inside begins h =
    let whole : take (length x) x ≡ x = take_all (length x) x (omega arith) in
    let same : take (length x) s ≡ take (length x) x = sym begins ∙ sym whole in
    let below : All (λ b. b < 256) x =
    subst (λ l. All (λ b. b < 256) l) (sym begins) (All-take (λ b. b < 256) (length x) s all) in
    record {
      stop = h.stop;
      each = before-same mark f order x s 0 values h.stop (length x) below (omega arith) inside
          same h.ends h.each;
      ends = mark-same mark x s h.stop (length x) inside same h.ends;
    }

same-size : (r : Option ℕ) (n m : ℕ) → r ≡ Some n → r ≡ Some m → n ≡ m
same-size r n m is there = cc

pub marked-one : {E X : Type 0} (mark : Mark) (f : Format E X) → told f → (order : Endian)
    (s x y : List ℕ) (m n : ℕ) → All (λ b. b < 256) s → length x ≤ length s → length y ≤ length s
    → x ≡ take (length x) s → y ≡ take (length y) s
    → ∥ CountedMarked mark f order x (length x) m ∥₁
    → ∥ CountedMarked mark f order y (length y) n ∥₁ → (length x ≡ length y) × (m ≡ n)
marked-one mark f t order s x y m n all inside within begins starts some others =
    ∥∥₁_elim some (hlevel props) (λ h. ∥∥₁_elim others (hlevel props) (λ k.
    let a = marked-there mark f order s x h.0 all inside begins h.1 in
    let b = marked-there mark f order s y k.0 all within starts k.1 in
    let one : (a.stop ≡ b.stop) × (length h.0 ≡ length k.0) =
    before-one mark f t order s 0 h.0 k.0 a.stop b.stop (length x) (length y) all a.each a.ends
    b.each b.ends in
    let sizes : a.ends.size ≡ b.ends.size =
    same-size (mark.size (drop b.stop s)) a.ends.size b.ends.size
    (subst (λ o. mark.size (drop o s) ≡ Some a.ends.size) one.0 a.ends.there) b.ends.there in
    (omega (arith, one.0, sizes, a.ends.whole, b.ends.whole), sym h.2 ∙ one.1 ∙ k.2)))

-- values of a number are some
pub counted-marked : {E X : Type 0} {mark : Mark} {f : Format E X} {order : Endian} {s : List ℕ}
    {end n : ℕ} → CountedMarked mark f order s end n → MarkedItems mark f order s end
counted-marked h = (h.0, h.1)

-- the rest of a list after its first value, as a list of its own
rest-before : {E X : Type 0} (mark : Mark) (f : Format E X) (order : Endian) (s : List ℕ)
    (at : ℕ) (xs : List X) (to n : ℕ) → All (λ b. b < 256) s → n ≤ at
    → ItemsBefore mark f order s at xs to → at ≤ length s
    → ItemsBefore mark f order (drop n s) (at - n) xs (to - n)
rest-before mark f order s at [] to n all le h here = ap (λ k. k - n) h
rest-before mark f order s at (x ∷ xs) to n all le h here =
    let there : drop (at - n) (drop n s) ≡ drop at s =
    drop-drop (at - n) n s ∙ ap (λ k. drop k s) (omega (arith, le)) in
    let inner : at + len f x ≤ length s = inside f order s at x here h.1 in
    let next : (at + len f x) - n ≡ (at - n) + len f x = omega (arith, le) in (
      ap (λ l. mark.size l) there ∙ h.0,
      moved f order s at (drop n s) (at - n) x all
          (omega (arith, inner, le, length-drop n s)) (ap (take (len f x)) (sym there)) h.1,
      h.2,
      subst (λ k. ItemsBefore mark f order (drop n s) k xs (to - n)) next
          (rest-before mark f order s (at + len f x) xs to n all (omega (arith, le)) h.3 inner),
    )

-- the rest of a list after a value that was read at its start
marked-rest : {E X : Type 0} (mark : Mark) (f : Format E X) → one_way f → (order : Endian)
    (s : List ℕ) (y : X) (n : ℕ) → All (λ b. b < 256) s → mark.size s ≡ None
    → reads f order s 0 y → n ≡ len f y → (xs : List X) (stop : ℕ)
    → ItemsBefore mark f order s 0 xs stop → MarkEnds mark s stop (length s)
    → MarkedItems mark f order (drop n s) (length (drop n s))
marked-rest mark f t order s y n all other k is [] stop each m =
    absurd (no-mark (mark.size s) m.size other
    (subst (λ o. mark.size (drop o s) ≡ Some m.size) (sym each) m.there))
marked-rest mark f t order s y n all other k is (x ∷ xs) stop each m =
    let same : n ≡ len f x = is ∙ one-len f (tells f t) order s 0 y x all k each.1 in
    let here : n ≤ length s = omega (arith, same, inside f order s 0 x (omega arith) each.1) in
    let from : ItemsBefore mark f order s n xs stop =
    subst (λ o. ItemsBefore mark f order s o xs stop) (omega (arith, same)) each.3 in
    let later : n ≤ stop = ends mark f order s n xs stop from in
    let there : drop (stop - n) (drop n s) ≡ drop stop s =
    drop-drop (stop - n) n s ∙ ap (λ o. drop o s) (omega (arith, later)) in (
      xs,
      record {
        stop = stop - n;
        each = subst (λ o. ItemsBefore mark f order (drop n s) o xs (stop - n)) (omega arith)
            (rest-before mark f order s n xs stop n all (omega arith) from here);
        ends = record {
          size = m.size;
          there = ap (λ l. mark.size l) there ∙ m.there;
          whole = omega (arith, m.whole, later, length-drop n s);
        };
      },
    )

-- a value was read at the start of a list, where no mark stands: it is the first one, and the rest
-- is a list
pub marked-next : {E X : Type 0} (mark : Mark) (f : Format E X) → one_way f → (order : Endian)
    (s : List ℕ) (y : X) (n : ℕ) → All (λ b. b < 256) s → mark.size s ≡ None
    → reads f order s 0 y → n ≡ len f y → ∥ MarkedItems mark f order s (length s) ∥₁
    → ∥ MarkedItems mark f order (drop n s) (length (drop n s)) ∥₁
marked-next mark f t order s y n all other k is some =
    ∥∥₁_map some
    (λ h. marked-rest mark f t order s y n all other k is h.0 h.1.stop h.1.each h.1.ends)

-- a list with no first value is a mark
pub marked-none : {E X : Type 0} (mark : Mark) (f : Format E X) (order : Endian) (s : List ℕ)
    → ((x : X) → mark.size s ≡ None → reads f order s 0 x → 1 ≤ len f x → ⊥)
    → ∥ MarkedItems mark f order s (length s) ∥₁ → mark.size s ≡ Some (length s)
marked-none mark f order s none some =
    ∥∥₁_elim some (hlevel props) (λ h. first h.0 h.1.stop h.1.each h.1.ends) where
      first : (xs : List _) (stop : ℕ) → ItemsBefore mark f order s 0 xs stop
          → MarkEnds mark s stop (length s) → mark.size s ≡ Some (length s)
      first [] stop each m =
          subst (λ o. mark.size (drop o s) ≡ Some m.size) (sym each) m.there
          ∙ ap Some (omega (arith, each, m.whole))
      first (x ∷ xs) stop each m = absurd (none x each.0 each.1 each.2)
