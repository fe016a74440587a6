-- Values that are read or written one after another, and that these read back.
use Rattle.std.proofs.Common.{◌≡◌, ℕ, ◌+◌, ◌<◌, ◌≤◌, ◌++◌, List, [], ◌∷◌, length, take, drop, refl, sym, ap, subst, append_assoc, length-drop, length-take, arith, ◌∙◌}
use Rattle.std.proofs.lemmas.List.{drop-drop, drop-take, length-take-le, take-take, take_more, take-append-drop}
use Rattle.std.proofs.lemmas.List.Elements.{All-head, All-tail}
use Rattle.std.specs.List.{All, AllZip, slice_index_or}
use Rattle.scroll.specs.Arrays.{WritesAll}
use Rattle.scroll.specs.Errors.{PastEnd}
use Rattle.scroll.specs.Reads.{ReadsBetween, ReadsAll}
use Rattle.scroll.specs.Writes.{WritesAt, RefusesWriteAt}
use Rattle.scroll.specs.declared.error.Error.{Error}
use Rattle.scroll.specs.lemmas.Frames.{drop-same}
use Rattle.scroll.proofs.lemmas.callers.Cursors.{ReadsAll-next, WritesAll-push}
use Rattle.scroll_formats.specs.Many.{WithBytes, FailsMany, StopsBefore, WritesPlaced, ChangesBetween, KeepsOne, KeepsAll}

-- values that have bytes are values
pub with-bytes-read : {V : Type 0} (reads : List ℕ → V → ℕ → Type 0) (buffer : List ℕ) (from : ℕ)
    (vs : List V) (to : ℕ) → ReadsAll (WithBytes reads) buffer from vs to
    → ReadsAll reads buffer from vs to
with-bytes-read reads buffer from [] to h = h
with-bytes-read reads buffer from (v ∷ vs) to h = (
  h.0,
  record { inside = h.1.inside; value = h.1.value.0 },
  with-bytes-read reads buffer (from + h.0) vs to h.2,
)

-- the first values, and the one after them
more : {V : Type 0} (vs : List V) (i : ℕ) (v : V) → i < length vs → v ≡ slice_index_or vs i v
    → take (i + 1) vs ≡ take i vs ++ v ∷ []
more vs i v inside is = take_more vs i v inside ∙ ap (λ x. take i vs ++ x ∷ []) (sym is)

-- one more value of a list is written
pub WritesAll-item : {V : Type 0} (writes : V → List ℕ → List ℕ → ℕ → Type 0) (old : List ℕ)
    (from : ℕ) (vs : List V) (i : ℕ) (v : V) (mid : List ℕ) (to : ℕ) {new : List ℕ} {n : ℕ}
    (next : ℕ) → i < length vs → v ≡ slice_index_or vs i v
    → WritesAll writes old from (take i vs) mid to → WritesAt (writes v) mid to new n
    → next ≡ to + n → WritesAll writes old from (take (i + 1) vs) new next
WritesAll-item writes old from vs i v mid to {new} {n} next inside is h wrote moves =
    subst (λ k. WritesAll writes old from (take (i + 1) vs) new k) (sym moves)
    (subst (λ l. WritesAll writes old from l new (to + n)) (sym (more vs i v inside is))
    (WritesAll-push writes old from (take i vs) mid to v new n h wrote))

-- the write of one fails
pub FailsMany-item : {V E : Type 0} (writes : V → List ℕ → List ℕ → ℕ → Type 0)
    (refuses : V → List ℕ → List ℕ → E → Type 0) (gives : Error → E → Type 0) {old : List ℕ}
    {from : ℕ} (vs : List V) (i : ℕ) (v : V) {mid new : List ℕ} {stop : ℕ} {e : E} → i < length vs
    → v ≡ slice_index_or vs i v → WritesAll writes old from (take i vs) mid stop
    → RefusesWriteAt (refuses v) (PastEnd gives) mid stop new e
    → FailsMany writes refuses gives old from vs new stop e
FailsMany-item writes refuses gives {old} {from} vs i v {mid} {new} {stop} {e} inside is h refused =
    record {
      values = take i vs;
      value = v;
      others = drop (i + 1) vs;
      split =
          sym (take-append-drop (i + 1) vs) ∙ ap (λ l. l ++ drop (i + 1) vs) (more vs i v inside is)
          ∙ append_assoc (take i vs) (v ∷ []) (drop (i + 1) vs);
      mid = mid;
      each = h;
      error = refused;
    }

-- one value that was written reads back, whatever is written after it
pub kept-one : {V : Type 0} (reads : List ℕ → V → ℕ → Type 0)
    (writes : List ℕ → List ℕ → ℕ → Type 0) (v : V)
    → ((old new rest : List ℕ) (n : ℕ) → writes old new n → reads (take n new ++ rest) v n)
    → (old : List ℕ) (from : ℕ) (new : List ℕ) (n to : ℕ) → WritesAt writes old from new n
    → to ≡ from + n → KeepsOne reads new from v to
kept-one reads writes v back old from new n to h moves later same =
    let text = rw moves at same in
    let here : take n (drop from later) ≡ take n (drop from new) =
    sym (drop-take from n later) ∙ ap (drop from) text ∙ drop-take from n new in
    let rest = drop n (drop from later) in
    let whole : take n (drop from new) ++ rest ≡ drop from later =
    ap (λ l. l ++ rest) (sym here) ∙ take-append-drop n (drop from later) in (
      n,
      moves,
      record {
        inside =
            omega (
              arith,
              h.inside,
              h.len,
              ap length text,
              length-take (from + n) later,
              length-take (from + n) new,
            );
        value =
            subst (λ s. reads s v n) whole (back (drop from old) (drop from new) rest n h.after);
      },
    )

-- and no other bytes are changed
pub changes-one : {writes : List ℕ → List ℕ → ℕ → Type 0}
    → ((old new : List ℕ) (n : ℕ) → writes old new n → drop n new ≡ drop n old)
    → (old : List ℕ) (from : ℕ) (new : List ℕ) (n to : ℕ) → WritesAt writes old from new n
    → to ≡ from + n → ChangesBetween from to old new
changes-one keeps old from new n to h moves = record {
  forward = omega (arith, moves);
  before = h.before;
  after =
      rw (moves, ← drop-drop n from new, ← drop-drop n from old)
      (keeps (drop from old) (drop from new) n h.after);
  len = h.len;
}

-- bytes are changed, and then further ones
pub changes-next : {a b c : ℕ} {old mid new : List ℕ} → ChangesBetween a b old mid
    → ChangesBetween b c mid new → ChangesBetween a c old new
changes-next {a} {b} {c} {old} {mid} {new} x y = record {
  forward = omega (arith, x.forward, y.forward);
  before = sym (take-take a b new x.forward) ∙ ap (take a) y.before ∙ take-take a b mid x.forward
      ∙ x.before;
  after = y.after ∙ drop-same b c mid old y.forward x.after;
  len = y.len ∙ x.len;
}

-- the bytes before those that are changed are the same later on
pub changes-before : {from to : ℕ} {old new : List ℕ} (later : List ℕ)
    → ChangesBetween from to old new → take to later ≡ take to new → take from later ≡ take from old
changes-before {from} {to} {old} {new} later h same =
    sym (take-take from to later h.forward) ∙ ap (take from) same ∙ take-take from to new h.forward
    ∙ h.before

-- no bytes are changed
pub changes-none : (at : ℕ) (s : List ℕ) → ChangesBetween at at s s
changes-none at s = record { forward = omega arith; before = refl; after = refl; len = refl }

-- no bytes but those of the values are changed
pub changes-many : {V : Type 0} (writes : V → List ℕ → List ℕ → ℕ → Type 0)
    → ((v : V) (old new : List ℕ) (n : ℕ) → writes v old new n → drop n new ≡ drop n old)
    → (vs : List V) (old : List ℕ) (from : ℕ) (new : List ℕ) (to : ℕ)
    → WritesAll writes old from vs new to → ChangesBetween from to old new
changes-many writes keeps [] old from new to h = rw (h.0, h.1) (changes-none from old)
changes-many writes keeps (v ∷ vs) old from new to h =
    changes-next (changes-one (keeps v) old from h.0 h.1 (from + h.1) h.2 refl)
    (changes-many writes keeps vs h.0 (from + h.1) new to h.3)

-- bytes are changed up to `size`: in the first `size` of them those before are unchanged
pub changes-within : {from size : ℕ} {old new : List ℕ} → ChangesBetween from size old new
    → take from (take size new) ≡ take from old
changes-within {from} {size} {old} {new} h = take-take from size new h.forward ∙ h.before

AllZip-push : {A B : Type 0} (R : A → B → Type 0) (xs : List A) (ys : List B) (x : A) (y : B)
    → AllZip R xs ys → R x y → AllZip R (xs ++ x ∷ []) (ys ++ y ∷ [])
AllZip-push R [] [] x y h r = (r, tt)
AllZip-push R [] (z ∷ zs) x y h r = absurd h
AllZip-push R (z ∷ zs) [] x y h r = absurd h
AllZip-push R (w ∷ ws) (z ∷ zs) x y h r = (h.0, AllZip-push R ws zs x y h.1 r)

-- a relation of two lists, of one more element of the second, which a loop copies
pub AllZip-item : {A B : Type 0} (R : A → B → Type 0) (xs : List A) (x : A) (ys : List B) (i : ℕ)
    (y : B) → i < length ys → y ≡ slice_index_or ys i y → AllZip R xs (take i ys) → R x y
    → AllZip R (xs ++ x ∷ []) (take (i + 1) ys)
AllZip-item R xs x ys i y inside is h r =
    rw (more ys i y inside is) (AllZip-push R xs (take i ys) x y h r)

-- the write of a list stops before one of its values
pub StopsBefore-item : {V E : Type 0} (writes : V → List ℕ → List ℕ → ℕ → Type 0)
    (refuses : V → ℕ → E → Type 0) {old : List ℕ} {from : ℕ} (vs : List V) (i : ℕ) (v : V)
    {new : List ℕ} {stop : ℕ} {e : E} → i < length vs → v ≡ slice_index_or vs i v
    → WritesAll writes old from (take i vs) new stop → refuses v stop e
    → StopsBefore writes refuses old from vs new stop e
StopsBefore-item writes refuses vs i v inside is h error = record {
  values = take i vs;
  value = v;
  others = drop (i + 1) vs;
  split = sym (take-append-drop (i + 1) vs)
      ∙ ap (λ l. l ++ drop (i + 1) vs) (more vs i v inside is)
      ∙ append_assoc (take i vs) (v ∷ []) (drop (i + 1) vs);
  each = h;
  error = error;
}

-- one more value is written, where its entry says
WritesPlaced-push : {P V : Type 0} (writes : V → List ℕ → List ℕ → ℕ → Type 0) (place : P → ℕ)
    (old : List ℕ) (from : ℕ) (ps : List P) (vs : List V) (mid : List ℕ) (to : ℕ) (p : P) (v : V)
    (new : List ℕ) (n : ℕ) → WritesPlaced writes place old from ps vs mid to → place p ≡ to
    → WritesAt (writes v) mid to new n
    → WritesPlaced writes place old from (ps ++ p ∷ []) (vs ++ v ∷ []) new (to + n)
WritesPlaced-push writes place old from [] [] mid to p v new n h there wrote = (
  there ∙ h.1,
  (
    new,
    n,
    subst (λ m. WritesAt (writes v) m from new n) h.0
        (subst (λ k. WritesAt (writes v) mid k new n) h.1 wrote),
    (refl, ap (λ k. k + n) h.1),
  ),
)
WritesPlaced-push writes place old from [] (w ∷ ws) mid to p v new n h there wrote = absurd h
WritesPlaced-push writes place old from (q ∷ qs) [] mid to p v new n h there wrote = absurd h
WritesPlaced-push writes place old from (q ∷ qs) (w ∷ ws) mid to p v new n h there wrote = (
  h.0,
  (
    h.1.0,
    h.1.1,
    h.1.2,
    WritesPlaced-push writes place h.1.0 (from + h.1.1) qs ws mid to p v new n h.1.3 there wrote,
  ),
)

-- and one more of a list, which a loop copies
pub WritesPlaced-item : {P V : Type 0} (writes : V → List ℕ → List ℕ → ℕ → Type 0)
    (place : P → ℕ) (old : List ℕ) (from : ℕ) (ps : List P) (p : P) (vs : List V) (i : ℕ) (v : V)
    (mid : List ℕ) (to : ℕ) {new : List ℕ} {n : ℕ} (next : ℕ) → i < length vs
    → v ≡ slice_index_or vs i v → WritesPlaced writes place old from ps (take i vs) mid to
    → place p ≡ to → WritesAt (writes v) mid to new n → next ≡ to + n
    → WritesPlaced writes place old from (ps ++ p ∷ []) (take (i + 1) vs) new next
WritesPlaced-item writes place old from ps p vs i v mid to {new} {n} next inside is h there wrote
    moves =
    subst (λ k. WritesPlaced writes place old from (ps ++ p ∷ []) (take (i + 1) vs) new k)
    (sym moves)
    (subst (λ l. WritesPlaced writes place old from (ps ++ p ∷ []) l new (to + n))
    (sym (more vs i v inside is))
    (WritesPlaced-push writes place old from ps (take i vs) mid to p v new n h there wrote))

-- the bytes before the first value are unchanged
forward : {V : Type 0} (writes : V → List ℕ → List ℕ → ℕ → Type 0) (vs : List V) (old : List ℕ)
    (from : ℕ) (new : List ℕ) (to : ℕ) → WritesAll writes old from vs new to → from ≤ to
forward writes [] old from new to h = omega (arith, h.1)
forward writes (v ∷ vs) old from new to h =
    omega (arith, forward writes vs h.0 (from + h.1) new to h.3)

before : {V : Type 0} (writes : V → List ℕ → List ℕ → ℕ → Type 0) (vs : List V) (old : List ℕ)
    (from : ℕ) (new : List ℕ) (to : ℕ) → WritesAll writes old from vs new to
    → take from new ≡ take from old
before writes [] old from new to h = ap (take from) h.0
before writes (v ∷ vs) old from new to h =
    let inside : from ≤ from + h.1 = omega arith in
    sym (take-take from (from + h.1) new inside)
    ∙ ap (take from) (before writes vs h.0 (from + h.1) new to h.3)
    ∙ take-take from (from + h.1) h.0 inside ∙ h.2.before

-- what was written reads back, if each value does, whatever is written after it
pub WritesAll-kept : {V : Type 0} (reads : List ℕ → V → ℕ → Type 0)
    (writes : V → List ℕ → List ℕ → ℕ → Type 0) (fits : V → Type 0)
    → ((v : V) (old new rest : List ℕ) (n : ℕ) → fits v → writes v old new n
    → reads (take n new ++ rest) v n)
    → (vs : List V) (old : List ℕ) (from : ℕ) (new : List ℕ) (to : ℕ) → All fits vs
    → WritesAll writes old from vs new to → KeepsAll reads new from vs to
WritesAll-kept reads writes fits back [] old from new to fit h later same = h.1
WritesAll-kept reads writes fits back (v ∷ vs) old from new to fit h later same =
    let mid = h.0 in
    let at = from + h.1 in
    let le = forward writes vs mid at new to h.3 in
    let early : take at later ≡ take at mid = sym (take-take at to later le) ∙ ap (take at) same
    ∙ take-take at to new le ∙ before writes vs mid at new to h.3 in
    let one =
    kept-one reads (writes v) v
    (λ old new rest n w. back v old new rest n (All-head fits v vs fit) w) old from mid h.1
    at h.2 refl later early in (
      one.0,
      one.2,
      subst (λ k. ReadsAll reads later k vs to) one.1
          (WritesAll-kept reads writes fits back vs mid at new to (All-tail fits v vs fit) h.3 later
          same),
    )

-- they end inside the target
pub WritesAll-inside : {V : Type 0} (writes : V → List ℕ → List ℕ → ℕ → Type 0)
    → ((v : V) (old new : List ℕ) (n : ℕ) → writes v old new n → n ≤ length old)
    → (vs : List V) (old : List ℕ) (from : ℕ) (new : List ℕ) (to : ℕ) → from ≤ length old
    → WritesAll writes old from vs new to → to ≤ length new
WritesAll-inside writes bounded [] old from new to inside h = rw (h.0, h.1) inside
WritesAll-inside writes bounded (v ∷ vs) old from new to inside h =
    let w = h.2 in
    let size = bounded v (drop from old) (drop from h.0) h.1 w.after in
    WritesAll-inside writes bounded vs h.0 (from + h.1) new to
    (omega (arith, w.inside, w.len, size, length-drop from old)) h.3

-- and these read up to the end of the bytes that are written
pub kept-whole : {V : Type 0} (reads : List ℕ → V → ℕ → Type 0) (vs : List V) (new : List ℕ)
    (from to : ℕ) → to ≤ length new → KeepsAll reads new from vs to
    → ReadsAll reads (take to new) from vs (length (take to new))
kept-whole reads vs new from to inside kept =
    subst (λ k. ReadsAll reads (take to new) from vs k) (sym (length-take-le to new inside))
    (kept (take to new) (take-take to to new (omega arith)))
