-- From a call to leaves. What is written is a list of leaves, each of which is written whole or not
-- at all. These lemmas say which leaves a type has, that a write at an offset is a write of them
-- there, and that writes that don't overlap may be exchanged.
use Rattle.std.proofs.Common.{◌≡◌, ℕ, ℤ, ◌+◌, ◌-◌, ◌≤◌, ◌<◌, ◌++◌, List, [], ◌∷◌, length, drop, map, arith, refl, sym, ◌∙◌, ap, subst, inl, inr, ◌⊎◌, Some, Result, Ok, Err, IfOk, IfErr, FitsSigned, to_z, of_z}
use Rattle.std.proofs.lemmas.Int.{to_z-of_z}
use Rattle.std.specs.Borrow.{Bor}
use Rattle.std.specs.Int.{Width}
use Rattle.std.specs.List.{sum_by, flat_map}
use Rattle.scroll.proofs.lemmas.LeafArrays.{leaves-of-array}
use Rattle.scroll.proofs.lemmas.HistoryLemmas.{pieces-fits, pieces-misfit, pieces-past, left_over-fits, left_over-misfit, left_over-drop, refusal-inside, refusal-past, seen-rest, prefix-piece, length-seen, seen-append, seen-nil}
use Rattle.scroll.proofs.lemmas.StandLemmas.{seen-exchange, pieces-behind}
use Rattle.scroll.specs.Arrays.{WritesArray, FailsArray, FailsIfFits}
use Rattle.scroll.specs.Bytes.{WritesPrefix, FailsShort}
use Rattle.scroll.specs.Errors.{IsBadOffset}
use Rattle.scroll.specs.Numbers.{number_bytes, signed_bytes, WritesNumber, WritesSigned}
use Rattle.scroll.specs.History.{seen, pieces, AnswersLeaves, WritesLeaves, HasLeaves}
use Rattle.scroll.specs.Laws.{Apart, WritesNested, FailsNested, leaves_nested}
use Rattle.scroll.specs.Leb128.{Counted}
use Rattle.scroll.specs.Encoding.{uleb_text, sleb_text, WritesUleb, WritesSleb, unsigned_form}
use Rattle.scroll.specs.Writes.{WritesAt, RefusesWriteAt, AnswersWrite}
use Rattle.scroll.specs.declared.error.Error.TheVariants.{NoMemory}
use Rattle.scroll.specs.declared.endian.Endian.{Endian}
use Rattle.scroll.specs.declared.error.Error.{Error}
use Rattle.scroll.specs.declared.error.Error.TheVariants.{TooBig}
use Rattle.scroll.specs.lemmas.Frames.{length-number_bytes, length-signed_bytes, length-encoding}

-- WHICH LEAVES A TYPE HAS bytes that are written whole or not at all are one leaf, such as those of
-- a caller's own type with `WritesPrefix` and `FailsShort`
pub prefix-leaf-by : {V : Type 0} (w : V → ℕ) (bytes : V → List ℕ)
    → ((x : V) → length (bytes x) ≡ w x)
    → HasLeaves (λ x. bytes x ∷ []) (λ x. WritesPrefix (w x) (bytes x)) (λ x. FailsShort (w x))
prefix-leaf-by w bytes len = record {
  written = λ x old new n h.
      let t = bytes x in
      let inside : 0 + length (bytes x) ≤ length old = omega (arith, len x, h.room) in
      record {
        after = h.after ∙ ap (λ m. bytes x ++ drop m old) (sym (len x))
            ∙ prefix-piece (bytes x) old (omega (arith, inside))
            ∙ ap (seen old) (sym (pieces-fits (length old) 0 (bytes x) [] inside));
        answer = (
          refusal-inside (length old) 0 (bytes x ∷ []) (omega arith)
              ∙ left_over-fits (length old) 0 (bytes x) [] inside,
          h.size ∙ sym (len x) ∙ omega arith,
        );
      };
  refused = λ x old new e h.
      let outside : length old < 0 + length (bytes x) = omega (arith, len x, h.short) in
      let all : length old - 0 ≡ length old = omega arith in
      record {
        after = h.same ∙ sym (seen-nil old)
            ∙ ap (seen old) (sym (pieces-misfit (length old) 0 (bytes x) [] outside));
        answer = refusal-inside (length old) 0 (bytes x ∷ []) (omega arith)
            ∙ left_over-misfit (length old) 0 (bytes x) [] outside
            ∙ ap (λ m. Some (TooBig (length (bytes x)) m)) all
            ∙ ap (λ m. Some (TooBig m (length old))) (len x) ∙ ap Some (sym h.error);
      };
}

-- the same where all values have the same number of bytes
pub prefix-leaf : {V : Type 0} (w : ℕ) (bytes : V → List ℕ) → ((x : V) → length (bytes x) ≡ w)
    → HasLeaves (λ x. bytes x ∷ []) (λ x. WritesPrefix w (bytes x)) (λ _. FailsShort w)
prefix-leaf w = prefix-leaf-by (λ _. w)

-- bytes that are written unchanged: a slice, a string, a C string with its zero
pub bytes-leaves : {V : Type 0} (bytes : V → List ℕ)
    → HasLeaves (λ x. bytes x ∷ []) (λ x. WritesPrefix (length (bytes x)) (bytes x))
    (λ x. FailsShort (length (bytes x)))
bytes-leaves bytes = prefix-leaf-by (λ x. length (bytes x)) bytes (λ _. refl)

-- a number, without a sign or with one
pub number-leaves : (w : ℕ) (order : Endian)
    → HasLeaves (λ x. number_bytes order w x ∷ []) (WritesNumber w order) (λ _. FailsShort w)
number-leaves w order = prefix-leaf w (number_bytes order w) (length-number_bytes order w)

pub signed-leaves : (w : ℕ) (order : Endian)
    → HasLeaves (λ x. signed_bytes order w x ∷ []) (WritesSigned w order) (λ _. FailsShort w)
signed-leaves w order = prefix-leaf w (signed_bytes order w) (length-signed_bytes order w)

-- a number in LEB128
pub uleb-leaves : HasLeaves (λ (x : Counted ℕ). uleb_text x ∷ []) WritesUleb
    (λ x. FailsShort x.count)
uleb-leaves = prefix-leaf-by (λ x. x.count) uleb_text (λ x. length-encoding x.value x.count)

pub sleb-leaves : HasLeaves (λ (x : Counted ℤ). sleb_text x ∷ []) WritesSleb
    (λ x. FailsShort x.count)
sleb-leaves =
    prefix-leaf-by (λ x. x.count) sleb_text
    (λ x. length-encoding (unsigned_form x.value x.count) x.count)

-- an array has those of its elements, in order
pub array-leaves : {V : Type 0} (leaves : V → List (List ℕ))
    (writes : V → List ℕ → List ℕ → ℕ → Type 0) (refuses : V → List ℕ → List ℕ → Error → Type 0)
    → HasLeaves leaves writes refuses
    → HasLeaves (flat_map leaves) (WritesArray writes) (FailsArray writes refuses)
array-leaves = leaves-of-array

-- so do arrays of arrays, nested to any depth
pub nested-leaves : {V : Type 0} (leaves : V → List (List ℕ))
    (writes : V → List ℕ → List ℕ → ℕ → Type 0) (refuses : V → List ℕ → List ℕ → Error → Type 0)
    → HasLeaves leaves writes refuses → (counts : List ℕ)
    → HasLeaves (leaves_nested leaves counts) (WritesNested writes counts)
    (FailsNested writes refuses counts)
nested-leaves leaves writes refuses has [] = has
nested-leaves leaves writes refuses has (count ∷ counts) =
    array-leaves (leaves_nested leaves counts) (WritesNested writes counts)
    (FailsNested writes refuses counts) (nested-leaves leaves writes refuses has counts)

-- an error that is stated under a condition that holds, like an array's in generic code
pub leaves-where : {V : Type 0} (leaves : V → List (List ℕ))
    (writes : V → List ℕ → List ℕ → ℕ → Type 0)
    (refuses lacks : V → List ℕ → List ℕ → Error → Type 0) (P : Type 0) → P
    → HasLeaves leaves writes refuses
    → HasLeaves leaves writes
    (λ v old new e. FailsIfFits P (refuses v old new e) (lacks v old new e))
leaves-where leaves writes refuses lacks P p has = record {
  written = has.written;
  refused = λ v old new e h. has.refused v old new e (h.0 p);
}

-- A WRITE AT AN OFFSET
-- a write at an offset is a write of the leaves there, whatever its result
pub at-leaves : {V : Type 0} (leaves : V → List (List ℕ))
    (writes : V → List ℕ → List ℕ → ℕ → Type 0) (refuses : V → List ℕ → List ℕ → Error → Type 0)
    → HasLeaves leaves writes refuses
    → (x : V) (old : List ℕ) (o : ℕ) (new : List ℕ) (r : Result ℕ Error)
    → AnswersWrite (writes x) (refuses x) IsBadOffset old o new r
    → WritesLeaves old o (leaves x) new r
at-leaves leaves writes refuses has x old o new (Ok n) w =
    let part = has.written x (drop o old) (drop o new) n w.after in
    record {
      after = seen-rest o old new (leaves x) w.inside w.len w.before part.after;
      answer = (
        refusal-inside (length old) o (leaves x) w.inside ∙ left_over-drop old o (leaves x) w.inside
            ∙ part.answer.0,
        part.answer.1,
      );
    }
at-leaves leaves writes refuses has x old o new (Err e) (inl w) =
    record {
      after = w.same ∙ sym (seen-nil old)
          ∙ ap (seen old) (sym (pieces-past (length old) o (leaves x) w.past));
      answer = refusal-past (length old) o (leaves x) w.past ∙ ap Some (sym w.error);
    }
at-leaves leaves writes refuses has x old o new (Err e) (inr w) =
    let part = has.refused x (drop o old) (drop o new) e w.after in
    record {
      after = seen-rest o old new (leaves x) w.inside w.len w.before part.after;
      answer = refusal-inside (length old) o (leaves x) w.inside
          ∙ left_over-drop old o (leaves x) w.inside ∙ part.answer;
    }

-- the same for a call, from its clauses `wrote` and `refused`
pub call-leaves : {V : Type 0} (leaves : V → List (List ℕ))
    (writes : V → List ℕ → List ℕ → ℕ → Type 0) (refuses : V → List ℕ → List ℕ → Error → Type 0)
    → HasLeaves leaves writes refuses
    → (x : V) (old : List ℕ) (offset : ℕ) (new : List ℕ) (r : Result ℕ Error)
    → IfOk r (WritesAt (writes x) old offset new)
    → IfErr r (RefusesWriteAt (refuses x) IsBadOffset old offset new)
    → WritesLeaves old offset (leaves x) new r
call-leaves leaves writes refuses has x old offset new (Ok n) w l =
    at-leaves leaves writes refuses has x old offset new (Ok n) w
call-leaves leaves writes refuses has x old offset new (Err e) w l =
    at-leaves leaves writes refuses has x old offset new (Err e) l

-- and for one that succeeded, as after a `?`
pub wrote-leaves : {V : Type 0} {leaves : V → List (List ℕ)}
    {writes : V → List ℕ → List ℕ → ℕ → Type 0} {refuses : V → List ℕ → List ℕ → Error → Type 0}
    → HasLeaves leaves writes refuses → (x : V) {old : List ℕ} {offset : ℕ} {new : List ℕ} {n : ℕ}
    → WritesAt (writes x) old offset new n → WritesLeaves old offset (leaves x) new (Ok n)
wrote-leaves {V} {leaves} {writes} {refuses} has x {old} {offset} {new} {n} w =
    at-leaves leaves writes refuses has x old offset new (Ok n) w

-- a number that is written at an offset
pub number-leaf : (w : ℕ) (order : Endian) (x : ℕ) (old : List ℕ) (o : ℕ) (new : List ℕ)
    (r : Result ℕ Error) → AnswersWrite (WritesNumber w order x) (FailsShort w) IsBadOffset old o
    new r → WritesLeaves old o (number_bytes order w x ∷ []) new r
number-leaf w order x old o new r h = at-leaves _ _ _ (number-leaves w order) x old o new r h

-- a signed number that is written at an offset, where it is passed as its bits
pub signed-leaf : (w : ℕ) (b : Width) (order : Endian) (x : ℤ) (old : List ℕ) (o : ℕ) (new : List ℕ)
    (r : Result ℕ Error) → FitsSigned b x
    → AnswersWrite (WritesSigned w order (to_z b (of_z b x))) (FailsShort w) IsBadOffset old o new r
    → WritesLeaves old o (signed_bytes order w x ∷ []) new r
signed-leaf w b order x old o new r fits h =
    at-leaves _ _ _ (signed-leaves w order) x old o new r (rw (to_z-of_z b x fits) at h)

-- bytes that are written at an offset
pub bytes-leaf : (bytes old : List ℕ) (o : ℕ) (new : List ℕ) (r : Result ℕ Error)
    → AnswersWrite (WritesPrefix (length bytes) bytes) (FailsShort (length bytes)) IsBadOffset old o
    new r → WritesLeaves old o (bytes ∷ []) new r
bytes-leaf bytes old o new r h = at-leaves _ _ _ (bytes-leaves (λ b. b)) bytes old o new r h

-- a number in LEB128 that is written at an offset
pub uleb-leaf : (x : Counted ℕ) (old : List ℕ) (o : ℕ) (new : List ℕ) (r : Result ℕ Error)
    → AnswersWrite (WritesUleb x) (FailsShort x.count) IsBadOffset old o new r
    → WritesLeaves old o (uleb_text x ∷ []) new r
uleb-leaf =
    at-leaves (λ (x : Counted ℕ). uleb_text x ∷ []) WritesUleb (λ x. FailsShort x.count) uleb-leaves

pub sleb-leaf : (x : Counted ℤ) (old : List ℕ) (o : ℕ) (new : List ℕ) (r : Result ℕ Error)
    → AnswersWrite (WritesSleb x) (FailsShort x.count) IsBadOffset old o new r
    → WritesLeaves old o (sleb_text x ∷ []) new r
sleb-leaf =
    at-leaves (λ (x : Counted ℤ). sleb_text x ∷ []) WritesSleb (λ x. FailsShort x.count) sleb-leaves

-- one leaf for each element
one_each : {V : Type 0} (f : V → List ℕ) (xs : List V) → flat_map (λ x. f x ∷ []) xs ≡ map f xs
one_each f [] = refl
one_each f (x ∷ xs) = ap (λ ls. f x ∷ ls) (one_each f xs)

-- an array of numbers that is written at an offset, where it fits in memory
pub numbers-leaves : {P : Type 0} (w : ℕ) (order : Endian) (xs : List ℕ) (old : List ℕ) (o : ℕ)
    (new : List ℕ) (r : Result ℕ Error)
    → AnswersWrite (WritesArray (WritesNumber w order) xs)
    (λ old new e. FailsIfFits P (FailsArray (WritesNumber w order) (λ _. FailsShort w) xs old new e)
    ((e ≡ NoMemory) × (new ≡ old))) IsBadOffset old o new r → P
    → WritesLeaves old o (map (number_bytes order w) xs) new r
numbers-leaves {P} w order xs old o new r h p =
    subst (λ ls. WritesLeaves old o ls new r) (one_each (number_bytes order w) xs)
    (at-leaves _ _ _ (leaves-where _ _ _ (λ _ old new e. (e ≡ NoMemory) × (new ≡ old)) P p
    (array-leaves _ _ _ (number-leaves w order))) xs old o new r h)

-- an array of slices that is written at an offset, where it fits in memory
pub slices-leaves : {P : Type 0} (xs : List (Bor (List ℕ))) (old : List ℕ) (o : ℕ) (new : List ℕ)
    (r : Result ℕ Error) → AnswersWrite (WritesArray (λ x. WritesPrefix (length x.now) x.now) xs)
    (λ old new e. FailsIfFits P
    (FailsArray (λ x. WritesPrefix (length x.now) x.now) (λ x. FailsShort (length x.now)) xs old new
    e) ((e ≡ NoMemory) × (new ≡ old))) IsBadOffset old o new r → P
    → WritesLeaves old o (flat_map (λ x. x.now ∷ []) xs) new r
slices-leaves {P} xs old o new r h p =
    at-leaves _ _ _ (leaves-where _ _ _ (λ _ old new e. (e ≡ NoMemory) × (new ≡ old)) P p
    (array-leaves _ _ _ (bytes-leaves (λ x. x.now)))) xs old o new r h

-- WRITES IN EITHER ORDER
-- leaves that end where others begin, or before, don't overlap them
pub apart-behind : (len offset offset' : ℕ) (leaves leaves' : List (List ℕ))
    → offset + sum_by length leaves ≤ offset'
    → Apart (pieces len offset leaves) (pieces len offset' leaves')
apart-behind = pieces-behind

pub apart-before : (len offset offset' : ℕ) (leaves leaves' : List (List ℕ))
    → offset' + sum_by length leaves' ≤ offset
    → Apart (pieces len offset leaves) (pieces len offset' leaves')
apart-before len offset offset' leaves leaves' h i a b =
    apart-behind len offset' offset leaves' leaves h i b a

-- two writes that don't overlap may be exchanged
pub leaves-exchange : (old mid new : List ℕ) (offset offset' : ℕ) (leaves leaves' : List (List ℕ))
    (r r' : Result ℕ Error) → Apart (pieces (length old) offset leaves)
    (pieces (length old) offset' leaves') → WritesLeaves old offset leaves mid r
    → WritesLeaves mid offset' leaves' new r'
    → (mid' : List ℕ) × WritesLeaves old offset' leaves' mid' r'
    × WritesLeaves mid' offset leaves new r
leaves-exchange old mid new o o' ls ls' r r' apart w w' =
    let second : WritesLeaves (seen old (pieces (length old) o ls)) o' ls' new r' =
    subst (λ x. WritesLeaves x o' ls' new r') w.after w' in
    let len = length-seen old (pieces (length old) o ls) in
    let len' = length-seen old (pieces (length old) o' ls') in (
      seen old (pieces (length old) o' ls'),
      record {
        after = refl;
        answer = subst (λ n. AnswersLeaves n o' ls' r') len second.answer;
      },
      record {
        after =
            second.after ∙ ap (λ n. seen (seen old (pieces (length old) o ls)) (pieces n o' ls'))
            len
            ∙ seen-append old (pieces (length old) o ls) (pieces (length old) o' ls')
            ∙ seen-exchange old (pieces (length old) o ls) (pieces (length old) o' ls') apart
            ∙ sym (seen-append old (pieces (length old) o' ls') (pieces (length old) o ls))
            ∙ ap (λ n. seen (seen old (pieces (length old) o' ls')) (pieces n o ls)) (sym len');
        answer = subst (λ n. AnswersLeaves n o ls r) (sym len') w.answer;
      },
    )

-- a write of leaves has one outcome: what it leaves, and its result
one-answer : (len offset : ℕ) (leaves : List (List ℕ)) (r q : Result ℕ Error)
    → AnswersLeaves len offset leaves r → AnswersLeaves len offset leaves q → r ≡ q
one-answer len offset leaves (Ok n) (Ok m) a b = ap Ok (a.1 ∙ sym b.1)
one-answer len offset leaves (Ok n) (Err e) a b = let wrong = sym a.0 ∙ b in absurd (cc wrong)
one-answer len offset leaves (Err e) (Ok n) a b = let wrong = sym b.0 ∙ a in absurd (cc wrong)
one-answer len offset leaves (Err e) (Err d) a b =
    let some : Some e ≡ Some d = sym a ∙ b in
    let same : e ≡ d = cc some in
    ap Err same

pub one-outcome : (old : List ℕ) (offset : ℕ) (leaves : List (List ℕ)) (new new' : List ℕ)
    (r r' : Result ℕ Error) → WritesLeaves old offset leaves new r
    → WritesLeaves old offset leaves new' r' → (new ≡ new') × (r ≡ r')
one-outcome old offset leaves new new' r r' w w' = (
  w.after ∙ sym w'.after,
  one-answer (length old) offset leaves r r' w.answer w'.answer,
)

-- two writes that don't overlap leave the same bytes in either order, and return the same
pub either-order : {old mid new mid' new' : List ℕ} {offset offset' : ℕ}
    {leaves leaves' : List (List ℕ)} {r r' q q' : Result ℕ Error}
    → Apart (pieces (length old) offset leaves) (pieces (length old) offset' leaves')
    → WritesLeaves old offset leaves mid r → WritesLeaves mid offset' leaves' new r'
    → WritesLeaves old offset' leaves' mid' q' → WritesLeaves mid' offset leaves new' q
    → (new ≡ new') × (r ≡ q) × (r' ≡ q')
either-order {old} {mid} {new} {mid'} {new'} {offset} {offset'} {leaves} {leaves'} {r} {r'} {q} {q'}
    apart w w' v' v =
    let exchanged = leaves-exchange old mid new offset offset' leaves leaves' r r' apart w w' in
    let first = one-outcome old offset' leaves' exchanged.0 mid' r' q' exchanged.1 v' in
    let second =
    one-outcome mid' offset leaves new new' r q
    (subst (λ m. WritesLeaves m offset leaves new r) first.0 exchanged.2) v in
    (second.0, second.1, first.1)

-- two writes of values of fixed sizes that don't overlap may be exchanged
pub prefixes-exchange : {w w' offset offset' n n' : ℕ} {bytes bytes' old mid new : List ℕ}
    → length bytes ≡ w → length bytes' ≡ w' → (offset + w ≤ offset') ⊎ (offset' + w' ≤ offset)
    → WritesAt (WritesPrefix w bytes) old offset mid n
    → WritesAt (WritesPrefix w' bytes') mid offset' new n'
    → (mid' : List ℕ) × WritesLeaves old offset' (bytes' ∷ []) mid' (Ok w')
    × WritesLeaves mid' offset (bytes ∷ []) new (Ok w)
prefixes-exchange {w} {w'} {offset} {offset'} {n} {n'} {bytes} {bytes'} {old} {mid} {new} len len'
    apart first second =
    let one : WritesLeaves old offset (bytes ∷ []) mid (Ok w) =
    wrote-leaves (prefix-leaf w (λ (_ : ℕ). bytes) (λ _. len)) 0
    (rw first.after.size at first) in
    let two : WritesLeaves mid offset' (bytes' ∷ []) new (Ok w') =
    wrote-leaves (prefix-leaf w' (λ (_ : ℕ). bytes') (λ _. len')) 0
    (rw second.after.size at second) in
    let away : Apart (pieces (length old) offset (bytes ∷ []))
    (pieces (length old) offset' (bytes' ∷ [])) =
    elim apart [
      | inl h ↦
          apart-behind (length old) offset offset' (bytes ∷ []) (bytes' ∷ [])
          (omega (arith, h, len))
      | inr h ↦
          apart-before (length old) offset offset' (bytes ∷ []) (bytes' ∷ [])
          (omega (arith, h, len'))
    ] in
    leaves-exchange old mid new offset offset' (bytes ∷ []) (bytes' ∷ []) (Ok w) (Ok w') away one
    two
