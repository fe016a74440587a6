-- What the calls of an iterator over a list up to a mark yielded stands in the list, one value
-- after another.
use Rattle.std.proofs.Common.{◌≡◌, ℕ, ◌+◌, ◌<◌, ◌≤◌, List, [], ◌∷◌, length, drop, refl, ap, subst, sym, ◌∙◌, arith, length-drop}
use Rattle.std.proofs.lemmas.List.{drop-drop}
use Rattle.std.proofs.lemmas.List.Elements.{All-drop}
use Rattle.std.specs.Iterator.{Yields}
use Rattle.std.specs.List.{All}
use Rattle.std.specs.Prelude.{Option, Some, None}
use Rattle.scroll.specs.declared.endian.Endian.{Endian}
use Rattle.scroll_layouts.specs.Formats.{Format, reads, len}
use Rattle.scroll_layouts.specs.Marks.{Mark, ItemsBefore, MarkedItems, YieldsMarked}
use Rattle.scroll_layouts.specs.OneWay.{one_way}
use Rattle.scroll_layouts.specs.declared.marked.values.MarkedValues.{MarkedValues}
use Rattle.scroll_layouts.specs.lemmas.FormatLaws.{moved}

-- what a call of the iterator does
abbrev pub Steps : {E X F K : Type 0} → Mark → Format E X → MarkedValues F K → Option X
    → MarkedValues F K → Type 0
Steps mark f old found new =
    (new.order ≡ old.order) × YieldsMarked mark f old.order old.bytes.now found new.bytes.now

-- values stand from the offset `at` on, and the bytes of the state `new` are left
pub record Walk {E X F K : Type 0} (mark : Mark) (f : Format E X) (order : Endian) (list : List ℕ)
    (at : ℕ) (xs : List X) (old new : MarkedValues F K) : Type 0 where
  pub to : ℕ
  pub each : ItemsBefore mark f order list at xs to
  pub left : new.bytes.now ≡ drop to list
  pub inside : to ≤ length list
  pub same : new.order ≡ order
  pub rest : one_way f → ∥ MarkedItems mark f order old.bytes.now (length old.bytes.now) ∥₁
      → ∥ MarkedItems mark f order new.bytes.now (length new.bytes.now) ∥₁

pub walk : {E X F K : Type 0} (mark : Mark) (f : Format E X) (order : Endian) (list : List ℕ)
    (at : ℕ) (xs : List X) (old new : MarkedValues F K) → All (λ b. b < 256) list
    → old.bytes.now ≡ drop at list → at ≤ length list → old.order ≡ order
    → Yields (Steps mark f) old xs new → Walk mark f order list at xs old new
walk mark f order list at [] old new below left inside is same = record {
  to = at;
  each = refl;
  left = subst (λ v. v.bytes.now ≡ drop at list) same left;
  inside = inside;
  same = subst (λ v. v.order ≡ order) same is;
  rest = λ t h. subst (λ v. ∥ MarkedItems mark f order v.bytes.now (length v.bytes.now) ∥₁) same h;
}
walk mark f order list at (x ∷ xs) old new below left inside is (mid, step, later) =
    let n = len f x in
    let s = drop at list in
    let here : at + n ≤ length list =
    omega (arith, step.1.3, ap length left, length-drop at list, inside) in
    let first : reads f order s 0 x =
    subst (λ l. reads f order l 0 x) left (subst (λ o. reads f o old.bytes.now 0 x) is step.1.1) in
    let read : reads f order list at x =
    moved f order s 0 list at x (All-drop (λ b. b < 256) at list below) here refl first in
    let later = walk mark f order list (at + n) xs mid new below
    (step.1.4 ∙ ap (drop n) left ∙ drop-drop n at list) here (step.0 ∙ is) later in
    record {
      to = later.to;
      each = (subst (λ l. mark.size l ≡ None) left step.1.0, read, step.1.2, later.each);
      left = later.left;
      inside = later.inside;
      same = later.same;
      rest = λ t h. later.rest t
          (subst (λ o. ∥ MarkedItems mark f o mid.bytes.now (length mid.bytes.now) ∥₁) is
          (step.1.6 t (subst (λ o. ∥ MarkedItems mark f o old.bytes.now (length old.bytes.now) ∥₁)
          (sym is) h)));
    }

-- values and a mark are a list, and the mark is left
pub record Left {E X : Type 0} (mark : Mark) (f : Format E X) (order : Endian) (list rest : List ℕ)
    : Type 0 where
  pub values : List X
  pub stop : ℕ
  pub each : ItemsBefore mark f order list 0 values stop
  pub is : rest ≡ drop stop list
  pub inside : stop ≤ length list
  pub end : mark.size rest ≡ Some (length rest)

-- values were yielded, and now no value is left
pub mark-left : {E X F K : Type 0} (mark : Mark) (f : Format E X) (order : Endian) (list : List ℕ)
    (xs : List X) (start old new : MarkedValues F K) → All (λ b. b < 256) list
    → start.bytes.now ≡ list → start.order ≡ order → Yields (Steps mark f) start xs old
    → Steps mark f old None new → one_way f
    → ∥ MarkedItems mark f start.order start.bytes.now (length start.bytes.now) ∥₁
    → Left mark f order list new.bytes.now
mark-left mark f order list xs start old new below is same yielded step way whole =
    let w = walk mark f order list 0 xs start old below is (omega arith) same yielded in
    let P : Endian → Type 0 = λ o.
    ∥ MarkedItems mark f o start.bytes.now (length start.bytes.now) ∥₁ in
    let Q : Endian → Type 0 = λ o.
    ∥ MarkedItems mark f o old.bytes.now (length old.bytes.now) ∥₁ in
    let end : mark.size old.bytes.now ≡ Some (length old.bytes.now) =
    step.1.1 way (subst Q (sym w.same) (w.rest way (subst P same whole))) in
    record {
      values = xs;
      stop = w.to;
      each = w.each;
      is = step.1.0 ∙ w.left;
      inside = w.inside;
      end = subst (λ l. mark.size l ≡ Some (length l)) (sym step.1.0) end;
    }
