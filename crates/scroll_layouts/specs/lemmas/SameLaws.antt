-- The values of a source are the same, by recursion: a line or two for each form. The lemmas are
-- proved, and promise nothing.
use Rattle.std.proofs.Common.{◌≡◌, ℕ, ◌+◌, ◌-◌, ◌<◌, List, refl, sym, ap, subst, ◌∙◌, arith}
use Rattle.std.proofs.lemmas.Bool.{true≢false, and_parts}
use Rattle.std.specs.List.{All}
use Rattle.std.specs.Prelude.{◌&&◌, Bool, true, false, Option, Some, None, option_map}
use Rattle.scroll.specs.declared.endian.Endian.{Endian}
use Rattle.scroll_formats.specs.Zeros.{padding_len}
use Rattle.scroll_layouts.specs.Formats.{Format, run, counted, zeros, last, shape, pair, headed, padded, within, behind, ordered, leaf, choice, when, reads, len}
use Rattle.scroll_layouts.specs.OneWay.{plain, same, same_if, same_choice, same_seen, seen_if, same_optional, told, one_way}
use Rattle.scroll_layouts.specs.declared.choice.Choice.{Choice}
use Rattle.scroll_layouts.specs.declared.choice.Choice.TheVariants.{First, Second}
use Rattle.scroll_layouts.specs.lemmas.EqualLemmas.{pair-is}
use Rattle.scroll_layouts.specs.lemmas.LayoutLaws.{layout-one, fields-is}

if-same : {X : Type 0} {x y : X} {P : Type 0} (b : Bool) → (b ≡ true → x ≡ y) → P
    → same_if b x y P
if-same true is h = is refl
if-same false is h = h

same-if : {X : Type 0} {x y : X} (P : Type 0) (b : Bool) → b ≡ true → same_if b x y P → x ≡ y
same-if P true is h = h
same-if P false is h = absurd (true≢false (sym is))

-- values that are the same are equal if they borrow nothing
pub same-is : {E X : Type 0} (f : Format E X) → plain f ≡ true → (x y : X) → same f x y → x ≡ y
same-is (run gives p) is x y h = fields-is p x y h
same-is (counted gives n) is x y h = h
same-is (zeros gives n unique) is x y h = unique x y
same-is (last f get) is x y h = absurd (true≢false (sym is))
same-is (shape f get unique) is x y h = same-if _ (plain f) is h
same-is (pair f g) is x y h =
    let both = and_parts (plain f) (plain g) is in
    pair-is x y (same-is f both.0 x.0 y.0 h.0) (same-is g both.1 x.1 y.1 h.1)
same-is (headed f holds fails next rest) is x y h = absurd (true≢false (sym is))
same-is (padded gives m f) is x y h = same-is f is x y h
same-is (within gives n f) is x y h = same-is f is x y h
same-is (behind gives n f rest) is x y h = absurd (true≢false (sym is))
same-is (ordered o f) is x y h = same-is f is x y h
same-is (leaf l) is x y h = l.leaf_equal x y h
same-is (choice gives b f g) is x y h = same-if _ (plain f && plain g) is h
same-is (when gives b f) is x y h = same-if _ (plain f) is h

choice-is : {E A B : Type 0} (f : Format E A) (g : Format E B) (x y : Choice A B)
    → same_choice (same f) (same g) x y → (plain f && plain g) ≡ true → x ≡ y
choice-is f g (First x) (First y) h is =
    ap First (same-is f (and_parts (plain f) (plain g) is).0 x y h)
choice-is f g (First x) (Second y) h is = absurd h
choice-is f g (Second x) (First y) h is = absurd h
choice-is f g (Second x) (Second y) h is =
    ap Second (same-is g (and_parts (plain f) (plain g) is).1 x y h)

-- what is seen of optional values is the same if it is equal
seen-is : {E X Y : Type 0} (f : Format E Y) (see : X → Y) (x y : Option X)
    → option_map see x ≡ option_map see y → same_seen f see x y
seen-is (run gives p) see x y h = h
seen-is (counted gives n) see x y h = h
seen-is (zeros gives n unique) see x y h = h
seen-is (last f get) see x y h = h
seen-is (shape f get unique) see x y h = h
seen-is (pair f g) see x y h = h
seen-is (headed f holds fails next rest) see x y h = h
seen-is (padded gives m f) see x y h = h
seen-is (within gives n f) see x y h = h
seen-is (behind gives n f rest) see x y h = h
seen-is (ordered o f) see x y h = h
seen-is (leaf l) see x y h = l.leaf_seen see x y h
seen-is (choice gives b f g) see x y h = h
seen-is (when gives b f) see x y h = h

if-seen : {P Q : Type 0} (b : Bool) → (b ≡ true → P) → Q → seen_if b P Q
if-seen true is h = is refl
if-seen false is h = h

-- optional values that are there, and ones that aren't, are the same

some-same : {E X : Type 0} (f : Format E X) (x y : X) → same f x y
    → same_optional f (same f) (Some x) (Some y)
some-same (run gives p) x y h = h
some-same (counted gives n) x y h = h
some-same (zeros gives n unique) x y h = h
some-same (last f get) x y h =
    if-seen (plain f)
    (λ is. seen-is f get (Some x) (Some y) (ap Some (same-is f is (get x) (get y) h))) h
some-same (shape f get unique) x y h = h
some-same (pair f g) x y h = h
some-same (headed f holds fails next rest) x y h = h
some-same (padded gives m f) x y h = h
some-same (within gives n f) x y h = h
some-same (behind gives n f rest) x y h = h
some-same (ordered o f) x y h = h
some-same (leaf l) x y h = h
some-same (choice gives b f g) x y h = h
some-same (when gives b f) x y h = h

none-same : {E X : Type 0} (f : Format E X) → same_optional f (same f) None None
none-same (run gives p) = tt
none-same (counted gives n) = tt
none-same (zeros gives n unique) = tt
none-same (last f get) = if-seen (plain f) (λ is. seen-is f get None None refl) tt
none-same (shape f get unique) = tt
none-same (pair f g) = tt
none-same (headed f holds fails next rest) = tt
none-same (padded gives m f) = tt
none-same (within gives n f) = tt
none-same (behind gives n f rest) = tt
none-same (ordered o f) = tt
none-same (leaf l) = tt
none-same (choice gives b f g) = tt
none-same (when gives b f) = tt

-- a source has one length at an offset, and its values are the same
one : {E X : Type 0} (f : Format E X) → told f → (order : Endian) (s : List ℕ) (at : ℕ) (x y : X)
    → All (λ b. b < 256) s → reads f order s at x → reads f order s at y
    → (len f x ≡ len f y) × same f x y
one (run gives p) t order s at x y all h k = (refl, layout-one p order s at x y h.1 k.1)
one (counted gives n) t order s at x y all h k = (refl, h.1 ∙ sym k.1)
one (zeros gives n unique) t order s at x y all h k = (refl, tt)
one (last f get) t order s at x y all h k = one f t order s at (get x) (get y) all h k
one (shape f get unique) t order s at x y all h k =
    let parts : (len f (get x) ≡ len f (get y)) × same f (get x) (get y) =
    one f t order s at (get x) (get y) all h k in (
      parts.0,
      if-same (plain f) (λ is. unique x y (same-is f is (get x) (get y) parts.1)) parts.1,
    )
one (pair f g) t order s at x y all h k =
    let first : (len f x.0 ≡ len f y.0) × same f x.0 y.0 =
    one f t.0 order s at x.0 y.0 all h.0 k.0 in
    let there : reads g order s (at + len f x.0) y.1 =
    subst (λ n. reads g order s (at + n) y.1) (sym first.0) k.1 in
    let second : (len g x.1 ≡ len g y.1) × same g x.1 y.1 =
    one g t.1 order s (at + len f x.0) x.1 y.1 all h.1 there in
    (omega (arith, first.0, second.0), (first.1, second.1))
one (headed f holds fails next rest) t order s at x y all h k =
    let first : (len f x.0 ≡ len f y.0) × same f x.0 y.0 =
    one f t.0 order s at x.0 y.0 all h.0 k.0 in
    let is : next x.0 ≡ next y.0 = t.1 x.0 y.0 first.1 in
    let there : reads (rest (next x.0)) order s (at + len f x.0) y.1 =
    subst (λ d. reads (rest d) order s (at + len f x.0) y.1) (sym is)
    (subst (λ n. reads (rest (next y.0)) order s (at + n) y.1) (sym first.0) k.1.1) in
    let second : (len (rest (next x.0)) x.1 ≡ len (rest (next x.0)) y.1)
    × same (rest (next x.0)) x.1 y.1 =
    one (rest (next x.0)) (t.2 (next x.0)) order s (at + len f x.0) x.1 y.1 all h.1.1 there in
    let other : len (rest (next x.0)) y.1 ≡ len (rest (next y.0)) y.1 =
    ap (λ d. len (rest d) y.1) is in
    (omega (arith, first.0, second.0, other), (first.1, second.1))
one (padded gives m f) t order s at x y all h k =
    let first : (len f x ≡ len f y) × same f x y = one f t order s at x y all h.0 k.0 in
    (ap (λ n. n + padding_len n m) first.0, first.1)
one (within gives n f) t order s at x y all h k =
    (refl, (one f t order s at x y all h.1 k.1).1)
one (behind gives n f rest) t order s at x y all h k =
    let first : (len f x.0 ≡ len f y.0) × same f x.0 y.0 =
    one f t.0 order s at x.0 y.0 all h.0 k.0 in
    let left = n - len f x.0 in
    let there : reads (rest left) order s (at + len f x.0) y.1 =
    subst (λ m. reads (rest (n - m)) order s (at + m) y.1) (sym first.0) k.1.1 in
    let second : (len (rest left) x.1 ≡ len (rest left) y.1) × same (rest left) x.1 y.1 =
    one (rest left) (t.1 left) order s (at + len f x.0) x.1 y.1 all h.1.1 there in
    let other : len (rest left) y.1 ≡ len (rest (n - len f y.0)) y.1 =
    ap (λ m. len (rest (n - m)) y.1) first.0 in
    (omega (arith, first.0, second.0, other), (first.1, second.1))
one (ordered o f) t order s at x y all h k = one f t o s at x y all h k
one (leaf l) t order s at x y all h k = l.leaf_one t order s at x y all h k
one (choice gives b f g) t order s at (First x) (First y) all h k =
    let both : (len f x ≡ len f y) × same f x y = one f t.0 order s at x y all h.1 k.1 in
    (both.0, if-same (plain f && plain g) (choice-is f g (First x) (First y) both.1) both.1)
one (choice gives b f g) t order s at (First x) (Second y) all h k =
    absurd (true≢false (sym h.0 ∙ k.0))
one (choice gives b f g) t order s at (Second x) (First y) all h k =
    absurd (true≢false (sym k.0 ∙ h.0))
one (choice gives b f g) t order s at (Second x) (Second y) all h k =
    let both : (len g x ≡ len g y) × same g x y = one g t.1 order s at x y all h.1 k.1 in
    (both.0, if-same (plain f && plain g) (choice-is f g (Second x) (Second y) both.1) both.1)
one (when gives b f) t order s at (Some x) (Some y) all h k =
    let both : (len f x ≡ len f y) × same f x y = one f t order s at x y all h.1 k.1 in (
      both.0,
      if-same (plain f) (λ is. ap Some (same-is f is x y both.1)) (some-same f x y both.1),
    )
one (when gives b f) t order s at (Some x) None all h k = absurd (true≢false (sym h.0 ∙ k))
one (when gives b f) t order s at None (Some y) all h k = absurd (true≢false (sym k.0 ∙ h))
one (when gives b f) t order s at None None all h k =
    (refl, if-same (plain f) (λ is. refl) (none-same f))

pub one-len : {E X : Type 0} (f : Format E X) → told f → (order : Endian) (s : List ℕ) (at : ℕ)
    (x y : X) → All (λ b. b < 256) s → reads f order s at x → reads f order s at y
    → len f x ≡ len f y
one-len f t order s at x y all h k = (one f t order s at x y all h k).0

pub one-value : {E X : Type 0} (f : Format E X) → told f → (order : Endian) (s : List ℕ) (at : ℕ)
    (x y : X) → All (λ b. b < 256) s → reads f order s at x → reads f order s at y → same f x y
one-value f t order s at x y all h k = (one f t order s at x y all h k).1

-- where a source is read in one way, heads say one thing of what follows them
pub tells : {E X : Type 0} (f : Format E X) → one_way f → told f
tells (run gives p) t = tt
tells (counted gives n) t = tt
tells (zeros gives n unique) t = tt
tells (last f get) t = tells f t
tells (shape f get unique) t = tells f t
tells (pair f g) t = (tells f t.0, tells g t.1)
tells (headed f holds fails next rest) t = (tells f t.0, t.1, λ d. tells (rest d) (t.3 d))
tells (padded gives m f) t = tells f t
tells (within gives n f) t = tells f t
tells (behind gives n f rest) t = (tells f t.0, λ k. tells (rest k) (t.1 k))
tells (ordered o f) t = tells f t
tells (leaf l) t = t.0
tells (choice gives b f g) t = (tells f t.0, tells g t.1)
tells (when gives b f) t = tells f t
