-- Where values end that are put together from others. The lemmas are proved, and promise nothing.
use Rattle.std.proofs.Common.{inr, ◌≡◌, ◌+◌, ◌-◌, ◌<◌, ◌≤◌, ℕ, List, length, take, drop, sym, subst, arith}
use Rattle.std.specs.List.{All}
use Rattle.std.specs.Prelude.{IfSome, IfNone, Bool, true, false, Option, Some, None}
use Rattle.scroll.specs.declared.endian.Endian.{Endian}
use Rattle.scroll.specs.declared.error.Error.{Error}
use Rattle.scroll_formats.specs.Zeros.{padding_len}
use Rattle.scroll_layouts.specs.Formats.{Format, pair, headed, within, behind, ordered, choice, shape, when, zeros, padded, EndsAt, RefusedAt, reads, len}
use Rattle.scroll_layouts.specs.declared.choice.Choice.TheVariants.{First, Second}
use Rattle.scroll_layouts.specs.lemmas.FormatLaws.{outer}
use Rattle.scroll_layouts.specs.lemmas.LeafLemmas.{gap-read, gap-moves, gap-refused}

-- what follows of an option
pub some-map : {X : Type 0} {P Q : X → Type 0} (o : Option X) → ((x : X) → P x → Q x)
    → IfSome o P → IfSome o Q
some-map (Some x) f h = f x h
some-map None f h = tt

pub none-map : {X P Q : Type 0} (o : Option X) → (P → Q) → IfNone o P → IfNone o Q
none-map (Some x) f h = tt
none-map None f h = f h

pub ends-of : {E X : Type 0} (f : Format E X) (order : Endian) (s : List ℕ) (at to : ℕ) (x : X)
    → reads f order s at x → to ≡ at + len f x → EndsAt f order s at to
ends-of f order s at to x there moves = record { value = x; there = there; moves = moves }

pub shape-ends : {E X Y : Type 0} (f : Format E Y) (get : X → Y) (of : Y → X)
    (unique : (x y : X) → get x ≡ get y → x ≡ y) → ((y : Y) → get (of y) ≡ y) → (order : Endian)
    (s : List ℕ) (at to : ℕ) → EndsAt f order s at to → EndsAt (shape f get unique) order s at to
shape-ends f get of unique is order s at to h = record {
  value = of h.value;
  there = subst (reads f order s at) (sym (is h.value)) h.there;
  moves = subst (λ y. to ≡ at + len f y) (sym (is h.value)) h.moves;
}

pub pair-ends : {E A B : Type 0} (f : Format E A) (g : Format E B) (order : Endian) (s : List ℕ)
    (at mid to : ℕ) → EndsAt f order s at mid → EndsAt g order s mid to
    → EndsAt (pair f g) order s at to
pair-ends f g order s at mid to h k = record {
  value = (h.value, k.value);
  there = (h.there, subst (λ m. reads g order s m k.value) h.moves k.there);
  moves = omega (arith, h.moves, k.moves);
}

pub headed-ends : {E A B D : Type 0} (f : Format E A) (holds : A → Type 0) (fails : A → E → Type 0)
    (next : A → D) (rest : D → Format E B) (order : Endian) (s : List ℕ) (at mid to : ℕ) (x : A)
    → reads f order s at x → mid ≡ at + len f x → holds x → EndsAt (rest (next x)) order s mid to
    → EndsAt (headed f holds fails next rest) order s at to
headed-ends f holds fails next rest order s at mid to x there moves held k = record {
  value = (x, k.value);
  there = (there, (held, subst (λ m. reads (rest (next x)) order s m k.value) moves k.there));
  moves = omega (arith, moves, k.moves);
}

pub ordered-ends : {E X : Type 0} (o : Endian) (f : Format E X) (order : Endian) (s : List ℕ)
    (at to : ℕ) → EndsAt f o s at to → EndsAt (ordered o f) order s at to
ordered-ends o f order s at to h = record { value = h.value; there = h.there; moves = h.moves }

pub first-ends : {E A B : Type 0} (gives : Error → E → Type 0) (b : Bool) (f : Format E A)
    (g : Format E B) (order : Endian) (s : List ℕ) (at to : ℕ) → b ≡ true → EndsAt f order s at to
    → EndsAt (choice gives b f g) order s at to
first-ends gives b f g order s at to is h = record {
  value = First h.value;
  there = (is, h.there);
  moves = h.moves;
}

pub second-ends : {E A B : Type 0} (gives : Error → E → Type 0) (b : Bool) (f : Format E A)
    (g : Format E B) (order : Endian) (s : List ℕ) (at to : ℕ) → b ≡ false → EndsAt g order s at to
    → EndsAt (choice gives b f g) order s at to
second-ends gives b f g order s at to is h = record {
  value = Second h.value;
  there = (is, h.there);
  moves = h.moves;
}

pub some-ends : {E X : Type 0} (gives : Error → E → Type 0) (b : Bool) (f : Format E X)
    (order : Endian) (s : List ℕ) (at to : ℕ) → b ≡ true → EndsAt f order s at to
    → EndsAt (when gives b f) order s at to
some-ends gives b f order s at to is h = record {
  value = Some h.value;
  there = (is, h.there);
  moves = h.moves;
}

pub none-ends : {E X : Type 0} (gives : Error → E → Type 0) (b : Bool) (f : Format E X)
    (order : Endian) (s : List ℕ) (at : ℕ) → b ≡ false → EndsAt (when gives b f) order s at at
none-ends gives b f order s at is = record { value = None; there = is; moves = omega arith }

pub behind-ends : {E A B : Type 0} (gives : Error → E → Type 0) (n : ℕ) (f : Format E A)
    (rest : ℕ → Format E B) (order : Endian) (s : List ℕ) (at mid to size : ℕ)
    → EndsAt f order s at mid → size ≡ mid - at → size ≤ n → EndsAt (rest (n - size)) order s mid to
    → EndsAt (behind gives n f rest) order s at to
behind-ends gives n f rest order s at mid to size h is fit j =
    let same : size ≡ len f h.value = omega (arith, is, h.moves) in
    let k : EndsAt (rest (n - len f h.value)) order s mid to =
    subst (λ m. EndsAt (rest (n - m)) order s mid to) same j in record {
      value = (h.value, k.value);
      there = (
        h.there,
        (
          omega (arith, same, fit),
          subst (λ m. reads (rest (n - len f h.value)) order s m k.value) h.moves k.there,
        ),
      );
      moves = omega (arith, h.moves, k.moves);
    }

pub within-ends : {E X : Type 0} (gives : Error → E → Type 0) (n : ℕ) (f : Format E X)
    (order : Endian) (s : List ℕ) (at to end : ℕ) → All (λ b. b < 256) s → at + n ≤ length s
    → to ≡ at + n → end ≡ n → EndsAt f order (take n (drop at s)) 0 end
    → EndsAt (within gives n f) order s at to
within-ends gives n f order s at to end all room is full h =
    let size : len f h.value ≡ n = omega (arith, h.moves, full) in record {
      value = h.value;
      there = (room, outer f order s at n h.value all room size h.there, size);
      moves = is;
    }

pub padded-ends : {E A X : Type 0} (gives : Error → E → Type 0) (m : ℕ) (f : Format E A)
    (unique : (x y : X) → x ≡ y) (order : Endian) (s : List ℕ) (at mid to n : ℕ)
    → EndsAt f order s at mid → n ≡ padding_len (mid - at) m
    → EndsAt (zeros gives n unique) order s mid to → EndsAt (padded gives m f) order s at to
padded-ends gives m f unique order s at mid to n h is k = record {
  value = h.value;
  there = (h.there, gap-read m at (len f h.value) mid n s h.moves is k.there);
  moves = gap-moves m at (len f h.value) mid n to h.moves is k.moves;
}

pub padded-refused : {E A X : Type 0} (gives : Error → E → Type 0) (m : ℕ) (f : Format E A)
    (unique : (x y : X) → x ≡ y) (order : Endian) (s : List ℕ) (at mid n : ℕ)
    → EndsAt f order s at mid → n ≡ padding_len (mid - at) m
    → RefusedAt (zeros gives n unique) order s mid → RefusedAt (padded gives m f) order s at
padded-refused gives m f unique order s at mid n h is k = record {
  error = k.error;
  refused = inr (
    h.value,
    h.there,
    gap-refused gives m at (len f h.value) mid n s k.error h.moves is k.refused,
  );
}

pub ruleset padded_parts = (padded-ends, padded-refused, none-map)

pub ruleset part_ends = (
  ends-of,
  pair-ends,
  headed-ends,
  ordered-ends,
  first-ends,
  second-ends,
  some-ends,
  none-ends,
  behind-ends,
)
