-- What follows where a source is read in one way. The lemmas are proved, and promise nothing.
use Rattle.std.proofs.Common.{◌≡◌, ℕ, ◌+◌, ◌<◌, ◌≤◌, ◌-◌, List, [], ◌∷◌, length, take, drop, sym, ap, subst, ◌∙◌, arith, length-drop, inl, inr}
use Rattle.std.proofs.Math.Logic.{∥∥₁_elim, ∥∥₁_map}
use Rattle.std.proofs.Props.{props}
use Rattle.std.proofs.lemmas.Bool.{true≢false}
use Rattle.std.proofs.lemmas.List.{get_or-take, get_or-replicate, drop-drop}
use Rattle.std.specs.List.{All}
use Rattle.std.specs.Prelude.{true, false, Some, None, slice_index, replicate}
use Rattle.scroll.specs.declared.error.Error.{Error}
use Rattle.scroll.specs.declared.endian.Endian.{Endian}
use Rattle.scroll_formats.specs.Zeros.{RefusesZeros, padding_len}
use Rattle.scroll_layouts.specs.OneWay.{one_way}
use Rattle.scroll_layouts.specs.Formats.{Format, run, counted, zeros, last, shape, pair, headed, padded, within, behind, ordered, leaf, choice, when, reads, refuses, len}
use Rattle.scroll_layouts.specs.Lists.{Items, SomeItems}
use Rattle.scroll_layouts.specs.declared.choice.Choice.TheVariants.{First, Second}
use Rattle.scroll_layouts.specs.lemmas.FormatLaws.{inside, moved, alone}
use Rattle.scroll_layouts.specs.lemmas.Parts.{bytes-taken}
use Rattle.scroll_layouts.specs.lemmas.SameLaws.{one-len, one-value, tells}

-- zeros that are there aren't refused
zeros-clash : {E : Type 0} (gives : Error → E → Type 0) (n at : ℕ) (s : List ℕ) (e : E)
    → (at + n ≤ length s) × (take n (drop at s) ≡ replicate n 0)
    → (inner : Error) × RefusesZeros n (drop at s) inner × gives inner e → ⊥
zeros-clash gives n at s e h (inner, inl r, g) = omega (arith, h.0, r.short, length-drop at s)
zeros-clash gives n at s e h (inner, inr r, g) =
    r.nonzero (sym (get_or-take n (drop at s) r.index 0 r.inside)
    ∙ ap (λ l. slice_index l r.index) h.1
    ∙ get_or-replicate n r.index 0 0 r.inside)

-- what is read isn't refused
pub no-clash : {E X : Type 0} (f : Format E X) → one_way f → (order : Endian) (s : List ℕ)
    (at : ℕ) (x : X) (e : E) → All (λ b. b < 256) s → reads f order s at x → refuses f order s at e
    → ⊥
no-clash (run gives p) t order s at x e all h r =
    omega (arith, h.0, r.short, length-drop at s)
no-clash (counted gives n) t order s at x e all h r =
    omega (arith, h.0, r.short, length-drop at s)
no-clash (zeros gives n unique) t order s at x e all h r = zeros-clash gives n at s e h r
no-clash (last f get) t order s at x e all h r = no-clash f t order s at (get x) e all h r
no-clash (shape f get unique) t order s at x e all h r = no-clash f t order s at (get x) e all h r
no-clash (pair f g) t order s at x e all h (inl r) =
    no-clash f t.0 order s at x.0 e all h.0 r
no-clash (pair f g) t order s at x e all h (inr (y, k, r)) =
    let size : len f y ≡ len f x.0 = one-len f (tells f t.0) order s at y x.0 all k h.0 in
    no-clash g t.1 order s (at + len f x.0) x.1 e all h.1
    (subst (λ n. refuses g order s (at + n) e) size r)
no-clash (headed f holds fails next rest) t order s at x e all h (inl r) =
    no-clash f t.0 order s at x.0 e all h.0 r
no-clash (headed f holds fails next rest) t order s at x e all h (inr (y, k, inl r)) =
    t.2 x.0 y e (one-value f (tells f t.0) order s at x.0 y all h.0 k) h.1.0 r
no-clash (headed f holds fails next rest) t order s at x e all h (inr (y, k, inr r)) =
    let size : len f y ≡ len f x.0 = one-len f (tells f t.0) order s at y x.0 all k h.0 in
    let is : next y ≡ next x.0 =
    t.1 y x.0 (one-value f (tells f t.0) order s at y x.0 all k h.0) in
    no-clash (rest (next x.0)) (t.3 (next x.0)) order s (at + len f x.0) x.1 e all h.1.1
    (subst (λ n. refuses (rest (next x.0)) order s (at + n) e) size
    (subst (λ d. refuses (rest d) order s (at + len f y) e) is r.1))
no-clash (padded gives m f) t order s at x e all h (inl r) =
    no-clash f t order s at x e all h.0 r
no-clash (padded gives m f) t order s at x e all h (inr (y, k, r)) =
    let size : len f y ≡ len f x = one-len f (tells f t) order s at y x all k h.0 in
    zeros-clash gives (padding_len (len f x) m) (at + len f x) s e h.1
    (subst (λ n. (inner : Error) × RefusesZeros (padding_len n m) (drop (at + n) s) inner
    × gives inner e) size r)
no-clash (within gives n f) t order s at x e all h (inl r) =
    omega (arith, h.0, r.short, length-drop at s)
no-clash (within gives n f) t order s at x e all h (inr (inl r)) =
    no-clash f t order (take n (drop at s)) 0 x e (bytes-taken n at s all)
    (alone f order s at n x all h.0 h.2 h.1) r.1
no-clash (within gives n f) t order s at x e all h (inr (inr (y, k, other, g))) =
    other (one-len f (tells f t) order (take n (drop at s)) 0 y x (bytes-taken n at s all) k
    (alone f order s at n x all h.0 h.2 h.1)
    ∙ h.2)
no-clash (behind gives n f rest) t order s at x e all h (inl r) =
    no-clash f t.0 order s at x.0 e all h.0 r
no-clash (behind gives n f rest) t order s at x e all h (inr (y, k, inl r)) =
    let size : len f y ≡ len f x.0 = one-len f (tells f t.0) order s at y x.0 all k h.0 in
    omega (arith, size, r.0, h.1.0)
no-clash (behind gives n f rest) t order s at x e all h (inr (y, k, inr r)) =
    let size : len f y ≡ len f x.0 = one-len f (tells f t.0) order s at y x.0 all k h.0 in
    let left = n - len f x.0 in
    no-clash (rest left) (t.1 left) order s (at + len f x.0) x.1 e all h.1.1
    (subst (λ m. refuses (rest (n - m)) order s (at + m) e) size r.1)
no-clash (ordered o f) t order s at x e all h r = no-clash f t o s at x e all h r
no-clash (leaf l) t order s at x e all h r = l.leaf_clash t.1 order s at x e all h r
no-clash (choice gives true f g) t order s at (First x) e all h r =
    no-clash f t.0 order s at x e all h.1 r
no-clash (choice gives true f g) t order s at (Second x) e all h r = absurd (true≢false h.0)
no-clash (choice gives false f g) t order s at (First x) e all h r =
    absurd (true≢false (sym h.0))
no-clash (choice gives false f g) t order s at (Second x) e all h r =
    no-clash g t.1 order s at x e all h.1 r
no-clash (when gives true f) t order s at (Some x) e all h r =
    no-clash f t order s at x e all h.1 r
no-clash (when gives true f) t order s at None e all h r = absurd (true≢false h)
no-clash (when gives false f) t order s at x e all h r = absurd r

-- the rest of a list after its first value, as a list of its own
pub rest-items : {E X : Type 0} (f : Format E X) (order : Endian) (s : List ℕ) (at : ℕ)
    (xs : List X) (n : ℕ) → All (λ b. b < 256) s → n ≤ at → Items f order s at xs (length s)
    → at ≤ length s → Items f order (drop n s) (at - n) xs (length s - n)
rest-items f order s at [] n all le h here = ap (λ k. k - n) h
rest-items f order s at (x ∷ xs) n all le h here =
    let there : drop (at - n) (drop n s) ≡ drop at s =
    drop-drop (at - n) n s ∙ ap (λ k. drop k s) (omega (arith, le)) in
    let inner : at + len f x ≤ length s = inside f order s at x here h.0 in
    let next : (at + len f x) - n ≡ (at - n) + len f x = omega (arith, le) in (
      moved f order s at (drop n s) (at - n) x all
          (omega (arith, inner, le, length-drop n s)) (ap (take (len f x)) (sym there)) h.0,
      h.1,
      subst (λ k. Items f order (drop n s) k xs (length s - n)) next
          (rest-items f order s (at + len f x) xs n all (omega (arith, le)) h.2 inner),
    )

-- a value was read at the start of a list: it is the first one, and the rest is a list
pub list-next : {E X : Type 0} (f : Format E X) → one_way f → (order : Endian) (s : List ℕ) (y : X)
    (n : ℕ) → All (λ b. b < 256) s → ∥ SomeItems f order s 0 (length s) ∥₁ → 0 < length s
    → reads f order s 0 y → n ≡ len f y
    → ∥ SomeItems f order (drop n s) 0 (length (drop n s)) ∥₁
list-next f t order s y n all list some k is = ∥∥₁_map list (λ h. next h.values h.each) where
  next : (xs : List _) → Items f order s 0 xs (length s)
      → SomeItems f order (drop n s) 0 (length (drop n s))
  next [] each = absurd (omega (arith, some, each))
  next (x ∷ xs) each =
      let same : n ≡ len f x = is ∙ one-len f (tells f t) order s 0 y x all k each.0 in
      let here : n ≤ length s = omega (arith, same, inside f order s 0 x (omega arith) each.0) in
      let from : Items f order s n xs (length s) =
      subst (λ m. Items f order s m xs (length s)) (omega (arith, same)) each.2 in
      let rest = rest-items f order s n xs n all (omega arith) from here in
      record {
        values = xs;
        each = subst (λ m. Items f order (drop n s) 0 xs m) (sym (length-drop n s))
            (subst (λ m. Items f order (drop n s) m xs (length s - n)) (omega arith) rest);
      }

-- a list in which a value without bytes is read, or one is refused, has none
pub list-none : {E X : Type 0} (f : Format E X) → one_way f → (order : Endian) (s : List ℕ) (y : X)
    → All (λ b. b < 256) s → reads f order s 0 y → len f y ≡ 0
    → ∥ SomeItems f order s 0 (length s) ∥₁ → length s ≡ 0
list-none f t order s y all k none list =
    ∥∥₁_elim list (hlevel props) (λ h. first h.values h.each) where
      first : (xs : List _) → Items f order s 0 xs (length s) → length s ≡ 0
      first [] each = sym each
      first (x ∷ xs) each = absurd (omega (
        arith,
        one-len f (tells f t) order s 0 y x all k each.0,
        each.1,
        none,
      ))

pub list-refused : {E X : Type 0} (f : Format E X) → one_way f → (order : Endian) (s : List ℕ)
    (e : E) → All (λ b. b < 256) s → refuses f order s 0 e
    → ∥ SomeItems f order s 0 (length s) ∥₁ → length s ≡ 0
list-refused f t order s e all r list =
    ∥∥₁_elim list (hlevel props) (λ h. first h.values h.each) where
      first : (xs : List _) → Items f order s 0 xs (length s) → length s ≡ 0
      first [] each = sym each
      first (x ∷ xs) each = absurd (no-clash f t order s 0 x e all each.0 r)
