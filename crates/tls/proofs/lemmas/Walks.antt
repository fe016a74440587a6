-- What the calls of an iterator over a list yielded stands in the list, one value after another.
use Rattle.std.proofs.Common.{◌≡◌, ℕ, ◌+◌, ◌<◌, ◌≤◌, List, [], ◌∷◌, length, drop, refl, sym, ap, subst, ◌∙◌, arith, length-drop}
use Rattle.std.proofs.lemmas.List.{drop-drop}
use Rattle.std.proofs.lemmas.List.Elements.{All-drop}
use Rattle.std.specs.Iterator.{Yields}
use Rattle.std.specs.List.{All}
use Rattle.std.specs.Prelude.{Option, Some, None}
use Rattle.scroll.specs.declared.endian.Endian.{Endian}
use Rattle.scroll.specs.declared.error.Error.{Error}
use Rattle.scroll_layouts.specs.Formats.{Format, reads, len}
use Rattle.scroll_layouts.specs.Lists.{Items, SomeItems, YieldsItem}
use Rattle.scroll_layouts.specs.OneWay.{one_way}
use Rattle.scroll_layouts.specs.declared.walk.Values.{Values}
use Rattle.scroll_layouts.specs.lemmas.FormatLaws.{moved}
use Rattle.tls.specs.Hello.{HasServer, HasNoServer, FirstServer, NoServer}
use Rattle.tls.specs.declared.hello.Extension.{Extension}

-- what a call of the iterator does
abbrev pub Steps : {E X F K : Type 0} → Format E X → Values F K → Option X → Values F K → Type 0
Steps f old found new =
    (new.order ≡ old.order) × YieldsItem f old.order old.bytes.now found new.bytes.now

-- what is read of the rest of a list is read in the list
pub stands : {E X : Type 0} (f : Format E X) (order : Endian) (list rest : List ℕ) (at : ℕ) (x : X)
    → All (λ b. b < 256) list → rest ≡ drop at list → at ≤ length list → reads f order rest 0 x
    → len f x ≤ length rest → reads f order list at x
stands f order list rest at x below is inside r here =
    let P : List ℕ → Type 0 = λ s. reads f order s 0 x in
    moved f order (drop at list) 0 list at x (All-drop (λ b. b < 256) at list below)
    (omega (arith, here, ap length is, length-drop at list, inside)) refl
    (subst P is r)

-- values stand from the offset `at` on, and the bytes of the state `new` are left
pub record Walk {E X F K : Type 0} (f : Format E X) (order : Endian) (list : List ℕ) (at : ℕ)
    (xs : List X) (old new : Values F K) : Type 0 where
  pub to : ℕ
  pub each : Items f order list at xs to
  pub left : new.bytes.now ≡ drop to list
  pub inside : to ≤ length list
  pub same : new.order ≡ order
  pub rest : one_way f → ∥ SomeItems f order old.bytes.now 0 (length old.bytes.now) ∥₁
      → ∥ SomeItems f order new.bytes.now 0 (length new.bytes.now) ∥₁

pub walk : {E X F K : Type 0} (f : Format E X) (order : Endian) (list : List ℕ) (at : ℕ)
    (xs : List X) (old new : Values F K) → All (λ b. b < 256) list → old.bytes.now ≡ drop at list
    → at ≤ length list → old.order ≡ order → Yields (Steps f) old xs new
    → Walk f order list at xs old new
walk f order list at [] old new below left inside is same = record {
  to = at;
  each = refl;
  left = subst (λ v. v.bytes.now ≡ drop at list) same left;
  inside = inside;
  same = subst (λ v. v.order ≡ order) same is;
  rest = λ t h. subst (λ v. ∥ SomeItems f order v.bytes.now 0 (length v.bytes.now) ∥₁) same h;
}
walk f order list at (x ∷ xs) old new below left inside is (mid, step, later) =
    let n = len f x in
    let read : reads f order old.bytes.now 0 x =
    subst (λ o. reads f o old.bytes.now 0 x) is step.1.0 in
    let here : at + n ≤ length list =
    omega (arith, step.1.2, ap length left, length-drop at list, inside) in
    let rest = walk f order list (at + n) xs mid new below
    (step.1.3 ∙ ap (drop n) left ∙ drop-drop n at list) here (step.0 ∙ is) later in
    record {
      to = rest.to;
      each = (
        stands f order list old.bytes.now at x below left inside read step.1.2,
        step.1.1,
        rest.each,
      );
      left = rest.left;
      inside = rest.inside;
      same = rest.same;
      rest = λ t h. rest.rest t
          (subst (λ o. ∥ SomeItems f o mid.bytes.now 0 (length mid.bytes.now) ∥₁) is
          (step.1.5 t (subst (λ o. ∥ SomeItems f o old.bytes.now 0 (length old.bytes.now) ∥₁)
          (sym is) h)));
    }

-- extensions without a name were yielded, and now one that has a name
pub first : {F K : Type 0} (f : Format Error Extension) (order : Endian) (list : List ℕ)
    (xs : List Extension) (start old new : Values F K) (x : Extension) (name : List ℕ)
    → All (λ b. b < 256) list → start.bytes.now ≡ list → start.order ≡ order
    → Yields (Steps f) start xs old → All HasNoServer xs → Steps f old (Some x) new
    → HasServer x name → FirstServer f order list name
first f order list xs start old new x name below is same yielded others step server =
    let w = walk f order list 0 xs start old below is (omega arith) same yielded in
    record {
      before = xs;
      at = w.to;
      each = w.each;
      none = others;
      extension = x;
      stands = stands f order list old.bytes.now w.to x below w.left w.inside
          (subst (λ o. reads f o old.bytes.now 0 x) w.same step.1.0) step.1.2;
      server = server;
    }

-- extensions without a name were yielded, and now none is left
pub none : {F K : Type 0} (f : Format Error Extension) (order : Endian) (list : List ℕ)
    (xs : List Extension) (start old new : Values F K) → All (λ b. b < 256) list
    → start.bytes.now ≡ list → start.order ≡ order → Yields (Steps f) start xs old
    → All HasNoServer xs → Steps f old None new → one_way f
    → ∥ SomeItems f start.order start.bytes.now 0 (length start.bytes.now) ∥₁
    → NoServer f order list
none f order list xs start old new below is same yielded others step way whole =
    let w = walk f order list 0 xs start old below is (omega arith) same yielded in
    let P : Endian → Type 0 = λ o. ∥ SomeItems f o start.bytes.now 0 (length start.bytes.now) ∥₁ in
    let Q : Endian → Type 0 = λ o. ∥ SomeItems f o old.bytes.now 0 (length old.bytes.now) ∥₁ in
    let end : length old.bytes.now ≡ 0 =
    step.1.1 way (subst Q (sym w.same) (w.rest way (subst P same whole))) in
    record {
      extensions = xs;
      each = subst (λ n. Items f order list 0 xs n)
          (omega (arith, end, ap length w.left, length-drop w.to list, w.inside)) w.each;
      none = others;
    }
