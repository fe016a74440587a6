-- Formats that read a source in one way. All values that it has are the same, and it has no value
-- and an error. So what was written and is read again is the same, and lists of such values are
-- walked where they lie.
use Rattle.std.specs.Prelude.{◌≡◌, ◌-◌, ◌&&◌, ⊤, ℕ, Bool, true, false, Option, Some, None, option_map}
use Rattle.scroll_layouts.specs.Layouts.{same_fields}
use Rattle.scroll_layouts.specs.Formats.{Format, run, counted, zeros, last, shape, pair, headed, padded, within, behind, ordered, leaf, choice, when, len}
use Rattle.scroll_layouts.specs.declared.choice.Choice.{Choice}
use Rattle.scroll_layouts.specs.declared.choice.Choice.TheVariants.{First, Second}

-- `plain f`: whether it is known that values whose parts are the same are equal: they borrow
-- nothing, and no part has a format that others before it say
abbrev pub plain : {E X : Type 0} → Format E X → Bool
plain (run gives p) = true
plain (counted gives n) = true
plain (zeros gives n unique) = true
plain (last f get) = false
plain (shape f get unique) = plain f
plain (pair f g) = plain f && plain g
plain (headed f holds fails next rest) = false
plain (padded gives m f) = plain f
plain (within gives n f) = plain f
plain (behind gives n f rest) = false
plain (ordered o f) = plain f
plain (leaf l) = true
plain (choice gives b f g) = plain f && plain g
plain (when gives b f) = plain f

-- `same_if b x y P`: two values are equal; or, if `b` is false, `P`
abbrev pub same_if : {X : Type 0} → Bool → X → X → Type 0 → Type 0
same_if true x y P = x ≡ y
same_if false x y P = P

-- two values of a choice, or two optional ones, are both of the one kind or both of the other, and
-- are the same
abbrev pub same_choice : {A B : Type 0} → (A → A → Type 0) → (B → B → Type 0) → Choice A B
    → Choice A B → Type 0
same_choice P Q (First x) (First y) = P x y
same_choice P Q (First x) (Second y) = ⊥
same_choice P Q (Second x) (First y) = ⊥
same_choice P Q (Second x) (Second y) = Q x y

abbrev pub same_option : {X : Type 0} → (X → X → Type 0) → Option X → Option X → Type 0
same_option P (Some x) (Some y) = P x y
same_option P (Some x) None = ⊥
same_option P None (Some y) = ⊥
same_option P None None = ⊤

-- `same_seen f see x y`: what is seen of two optional values is equal
abbrev pub same_seen : {E X Y : Type 0} → Format E Y → (X → Y) → Option X → Option X → Type 0
same_seen (leaf l) see x y = l.leaf_same_seen see x y
same_seen f see x y = option_map see x ≡ option_map see y

-- `seen_if b P Q`: `P`; or, if `b` is false, `Q`
abbrev pub seen_if : Bool → Type 0 → Type 0 → Type 0
seen_if true P Q = P
seen_if false P Q = Q

-- two optional values are the same. Of what is borrowed that is an equation, as `search` wants it
abbrev pub same_optional : {E X : Type 0} → Format E X → (X → X → Type 0) → Option X → Option X
    → Type 0
same_optional (last f get) P x y = seen_if (plain f) (same_seen f get x y) (same_option P x y)
same_optional f P x y = same_option P x y

-- `same f x y`: each part of the one value is that of the other; where `plain` is true of a struct,
-- a choice or an optional value, the two are equal
abbrev pub same : {E X : Type 0} → Format E X → X → X → Type 0
same (run gives p) x y = same_fields p x y
same (counted gives n) x y = x ≡ y
same (zeros gives n unique) x y = ⊤
same (last f get) x y = same f (get x) (get y)
same (shape f get unique) x y = same_if (plain f) x y (same f (get x) (get y))
same (pair f g) x y = same f x.0 y.0 × same g x.1 y.1
same (headed f holds fails next rest) x y = same f x.0 y.0 × same (rest (next x.0)) x.1 y.1
same (padded gives m f) x y = same f x y
same (within gives n f) x y = same f x y
same (behind gives n f rest) x y =
    same f x.0 y.0 × same (rest (n - len f x.0)) x.1 y.1
same (ordered o f) x y = same f x y
same (leaf l) x y = l.leaf_same x y
same (choice gives b f g) x y =
    same_if (plain f && plain g) x y (same_choice (same f) (same g) x y)
same (when gives b f) x y = same_if (plain f) x y (same_optional f (same f) x y)

-- `told f`: heads whose parts are the same say the same of what follows them
abbrev pub told : {E X : Type 0} → Format E X → Type 0
told (run gives p) = ⊤
told (counted gives n) = ⊤
told (zeros gives n unique) = ⊤
told (last f get) = told f
told (shape f get unique) = told f
told (pair f g) = told f × told g
told (headed {A} {B} {D} f holds fails next rest) =
    told f × ((x y : A) → same f x y → next x ≡ next y) × ((d : D) → told (rest d))
told (padded gives m f) = told f
told (within gives n f) = told f
told (behind gives n f rest) = told f × ((k : ℕ) → told (rest k))
told (ordered o f) = told f
told (leaf l) = l.leaf_told
told (choice gives b f g) = told f × told g
told (when gives b f) = told f

-- `one_way f`: `told f`; and of heads whose parts are the same none obeys the rule where another
-- one breaks it
abbrev pub one_way : {E X : Type 0} → Format E X → Type 0
one_way (run gives p) = ⊤
one_way (counted gives n) = ⊤
one_way (zeros gives n unique) = ⊤
one_way (last f get) = one_way f
one_way (shape f get unique) = one_way f
one_way (pair f g) = one_way f × one_way g
one_way {E} (headed {A} {B} {D} f holds fails next rest) =
    one_way f
    × ((x y : A) → same f x y → next x ≡ next y)
    × ((x y : A) (e : E) → same f x y → holds x → fails y e → ⊥)
    × ((d : D) → one_way (rest d))
one_way (padded gives m f) = one_way f
one_way (within gives n f) = one_way f
one_way (behind gives n f rest) = one_way f × ((k : ℕ) → one_way (rest k))
one_way (ordered o f) = one_way f
one_way (leaf l) = l.leaf_told × l.leaf_certain
one_way (choice gives b f g) = one_way f × one_way g
one_way (when gives b f) = one_way f
