-- Lists that are borrowed as their bytes.
use Rattle.std.proofs.Common.{refl, sym, ap, ◌∙◌, arith, length-drop}
use Rattle.std.proofs.lemmas.List.Elements.{All-drop}
use Rattle.std.specs.List.{All}
use Rattle.std.specs.Prelude.{◌≡◌, ◌≢◌, ◌+◌, ◌<◌, ◌≤◌, ◌⊎◌, ℕ, Bool, List, Option, length, take, drop, codes, option_map}
use Rattle.scroll.specs.declared.endian.Endian.{Endian}
use Rattle.scroll.specs.declared.error.Error.{Error}
use Rattle.scroll_layouts.specs.Closed.{alike, CountedClosed, RefusesClosed}
use Rattle.scroll_layouts.specs.Errors.{NoRoom, GivesBadInput}
use Rattle.scroll_layouts.specs.Formats.{Format, Leaf}
use Rattle.scroll_layouts.specs.Lists.{ListValue, CountedItems, RefusesItems, RefusesCounted}
use Rattle.scroll_layouts.specs.Marks.{Mark, CountedMarked, RefusesMarked}
use Rattle.scroll_layouts.specs.OneWay.{told, one_way}
use Rattle.scroll_layouts.specs.lemmas.ClosedLemmas.{closed-one, closed-clash}
use Rattle.scroll_layouts.specs.lemmas.ListClashes.{within-clash, counted-clash, marked-clash}
use Rattle.scroll_layouts.specs.lemmas.ListLemmas.{list-is, within-one, counted-one}
use Rattle.scroll_layouts.specs.lemmas.EqualLemmas.{seen-part}
use Rattle.scroll_layouts.specs.lemmas.MarkLemmas.{marked-one}
use Rattle.scroll_layouts.specs.lemmas.Parts.{part-within, slice-back}

-- `OneEnd T P`: where `T` holds, a source begins with one list of bytes that `P` holds of, and it
-- has one number of values
abbrev pub OneEnd : Type 0 → (Endian → List ℕ → ℕ → Type 0) → Type 0
OneEnd T P = T → (order : Endian) (s x y : List ℕ) (m n : ℕ) → All (λ b. b < 256) s
    → length x ≤ length s → length y ≤ length s → x ≡ take (length x) s → y ≡ take (length y) s
    → P order x m → P order y n → (length x ≡ length y) × (m ≡ n)

-- `Clashes C P R`: where `C` holds, a source that begins with bytes that `P` holds of has no error
-- that `R` holds of
abbrev pub Clashes : {E : Type 0} → Type 0 → (Endian → List ℕ → ℕ → Type 0)
    → (Endian → List ℕ → E → Type 0) → Type 0
Clashes {E} C P R = C → (order : Endian) (s x : List ℕ) (n : ℕ) (e : E) → All (λ b. b < 256) s
    → length x ≤ length s → x ≡ take (length x) s → P order x n → R order s e → ⊥

-- `held gives T C P R ends clash other`: a list whose bytes are borrowed. `P` holds of the bytes
-- and of the number of values, and where `T` holds, `ends` says that a source has one such list.
-- `R` says the errors of a read; where `C` holds, `clash` says that a source hasn't both. A write
-- in another order than that of the read is `BadInput` with the number of bytes and the message
-- `another byte order than its values`; in that order `other` says the errors
abbrev pub held : {E : Type 0} → (Error → E → Type 0) → (T C : Type 0)
    → (P : Endian → List ℕ → ℕ → Type 0) → (R : Endian → List ℕ → E → Type 0) → OneEnd T P
    → Clashes C P R → (ListValue → E → Type 0) → Leaf E ListValue
held gives T C P R ends clash other = record {
  leaf_len = λ x. length x.bytes;
  leaf_bytes = λ order x. x.bytes;
  leaf_reads = λ order s at x.
      (at + length x.bytes ≤ length s) × (x.bytes ≡ take (length x.bytes) (drop at s))
      × (x.order ≡ order) × P order x.bytes x.count;
  leaf_refuses = λ order s at e. R order (drop at s) e;
  leaf_agrees = λ order x. (x.order ≡ order) × P order x.bytes x.count;
  leaf_differs = λ order x e. ((x.order ≢ order)
      × GivesBadInput gives (length x.bytes) (codes "another byte order than its values") e)
      ⊎ ((x.order ≡ order) × other x e);
  leaf_same = λ x y. (x.bytes ≡ y.bytes) × (x.order ≡ y.order) × (x.count ≡ y.count);
  leaf_same_seen = λ see x y.
      (option_map (λ v. (see v).bytes) x ≡ option_map (λ v. (see v).bytes) y)
      × (option_map (λ v. (see v).order) x ≡ option_map (λ v. (see v).order) y)
      × (option_map (λ v. (see v).count) x ≡ option_map (λ v. (see v).count) y);
  leaf_told = T;
  leaf_certain = C;
  leaf_inside = λ order s at x here h. h.0;
  leaf_made = λ order s at x all h. (h.2, h.3);
  leaf_bytes-len = λ order x h. refl;
  leaf_back = λ order x prefix rest h. (
    part-within (length x.bytes) x.bytes prefix rest refl,
    slice-back (length x.bytes) x.bytes prefix rest refl,
    h.0,
    h.1,
  );
  leaf_kept = λ order s at x all h. h.1;
  leaf_one = λ t order s at x y all h k.
      let one : (length x.bytes ≡ length y.bytes) × (x.count ≡ y.count) =
      ends t order (drop at s) x.bytes y.bytes x.count y.count
      (All-drop (λ b. b < 256) at s all) (omega (arith, h.0, length-drop at s))
      (omega (arith, k.0, length-drop at s)) h.1 k.1 h.3 k.3 in (
        one.0,
        (h.1 ∙ ap (λ n. take n (drop at s)) one.0 ∙ sym k.1, h.2 ∙ sym k.2, one.1),
      );
  leaf_equal = list-is;
  leaf_seen = λ see x y h. (
    seen-part see (λ v. v.bytes) x y h,
    seen-part see (λ v. v.order) x y h,
    seen-part see (λ v. v.count) x y h,
  );
  leaf_clash = λ t order s at x e all h r.
      clash t order (drop at s) x.bytes x.count e (All-drop (λ b. b < 256) at s all)
      (omega (arith, h.0, length-drop at s)) h.1 h.3 r;
}

-- a list of values that use up `n` bytes. A list of another length is `BadInput` with its length
-- and the message `another length than its count`
abbrev pub list_within : {E X : Type 0} → (Error → E → Type 0) → Format E X → ℕ
    → Leaf E ListValue
list_within gives f n = held gives (told f) (one_way f)
    (λ order x m. (n ≡ length x) × ∥ CountedItems f order x 0 (length x) m ∥₁)
    (λ order s e. NoRoom gives n s e
    ⊎ ((n ≤ length s) × RefusesItems gives f order (take n s) e))
    (λ t order s. within-one f t order s n)
    (within-clash gives f n)
    (λ x e. (n ≢ length x.bytes)
    × GivesBadInput gives (length x.bytes) (codes "another length than its count") e)

-- a list of `n` values. A list of another number of values is `BadInput` with their number and the
-- message `another number of values than its count`
abbrev pub list_of : {E X : Type 0} → (Error → E → Type 0) → Format E X → ℕ → Leaf E ListValue
list_of gives f n = held gives (told f) (one_way f)
    (λ order x m. (m ≡ n) × ∥ CountedItems f order x 0 (length x) n ∥₁)
    (λ order s e. RefusesCounted gives f order n s e)
    (λ t order s. counted-one f t order s n)
    (counted-clash gives f n)
    (λ x e. (x.count ≢ n)
    × GivesBadInput gives x.count (codes "another number of values than its count") e)

-- a list of values up to a mark, with the mark
abbrev pub list_until : {E X : Type 0} → (Error → E → Type 0) → Mark → Format E X
    → Leaf E ListValue
list_until gives mark f = held gives (told f) (one_way f)
    (λ order x m. ∥ CountedMarked mark f order x (length x) m ∥₁)
    (λ order s e. RefusesMarked gives mark f order s e)
    (λ t order s. marked-one mark f t order s)
    (marked-clash gives mark f)
    (λ x e. ⊥)

-- a list of values up to the one that says that it is the last
abbrev pub list_to_last : {E X : Type 0} → (Error → E → Type 0) → Format E X → (X → Bool)
    → Leaf E ListValue
list_to_last gives f closes = held gives (told f × alike f closes) (one_way f × alike f closes)
    (λ order x m. ∥ CountedClosed f closes order x (length x) m ∥₁)
    (λ order s e. RefusesClosed gives f closes order s e)
    (λ t order s. closed-one f closes t.0 t.1 order s)
    (λ t order s. closed-clash gives f closes t.0 t.1 order s)
    (λ x e. ⊥)
