-- What a write of a list cites. The lemmas are proved, and promise nothing.
use Rattle.std.proofs.Common.{◌≡◌, ℕ, ◌+◌, ◌<◌, ◌++◌, List, [], ◌∷◌, length, take, drop, refl, sym, ap, subst, ◌∙◌, arith, append_assoc, length-append}
use Rattle.std.proofs.lemmas.List.{take_at, take_more, take-append-drop}
use Rattle.std.proofs.lemmas.List.Elements.{All-weaker}
use Rattle.std.specs.List.{All, flat_map, slice_index_or}
use Rattle.scroll.specs.Bytes.{WritesPrefix}
use Rattle.scroll.specs.Reads.{ReadsAt, ReadsAll}
use Rattle.scroll.specs.declared.endian.Endian.{Endian}
use Rattle.scroll.proofs.lemmas.callers.RoundTrips.{all-back}
use Rattle.scroll_formats.proofs.lemmas.callers.Written.{ReadsAll-again}
use Rattle.scroll_layouts.specs.Each.{list_bytes, ReadsList, WritesList, DiffersOne}
use Rattle.scroll_layouts.specs.Formats.{Format, reads, bytes, agrees, differs}
use Rattle.scroll_layouts.specs.Wholes.{ReadsExact, ReadsBack}
use Rattle.scroll_layouts.specs.lemmas.FormatLaws.{bytes-len, back}

-- a value that agrees is read from what begins with its bytes
exact-back : {E X : Type 0} (f : Format E X) (order : Endian) (x : X) → agrees f order x
    → (rest : List ℕ) → ReadsBack f order (bytes f order x ++ rest) x (length (bytes f order x))
exact-back f order x agreed rest = record {
  value = back f order x [] rest agreed;
  agreed = agreed;
  size = bytes-len f order x agreed;
  inside = omega (arith, length-append (bytes f order x) rest);
  count = refl;
  back = sym (take_at (bytes f order x) rest (length (bytes f order x)) refl);
}

-- and so are a head and values
list-back : {E A X : Type 0} (h : Format E A) (f : Format E X) (order : Endian) (head : A)
    (xs : List X) → agrees h order head → All (agrees f order) xs → (rest : List ℕ)
    → ReadsList h f order (list_bytes h f order head xs ++ rest) head xs
    (length (list_bytes h f order head xs))
list-back {E} {A} {X} h f order head xs agreed all rest =
    let first : List ℕ = bytes h order head in
    let others : List ℕ = flat_map (bytes f order) xs in
    let again : All (λ x. (rest : List ℕ)
    → ReadsBack f order (bytes f order x ++ rest) x (length (bytes f order x))) xs =
    All-weaker (agrees f order)
    (λ x. (rest : List ℕ)
    → ReadsBack f order (bytes f order x ++ rest) x (length (bytes f order x)))
    (exact-back f order) xs all in
    record {
      first = subst (λ s. reads h order s 0 head) (sym (append_assoc first others rest))
          (back h order head [] (others ++ rest) agreed);
      each = subst
          (λ k. ReadsAll (ReadsBack f order) (first ++ others ++ rest) k xs
          (length (first ++ others))) (bytes-len h order head agreed)
          (ReadsAll-again (ReadsBack f order) (bytes f order) xs again first rest);
    }

-- a list that was written at the start
pub list-written : {E A X : Type 0} (h : Format E A) (f : Format E X) (order : Endian) (head : A)
    (xs : List X) (old new : List ℕ) (n : ℕ) → agrees h order head → All (agrees f order) xs
    → WritesPrefix (length (list_bytes h f order head xs)) (list_bytes h f order head xs) old new n
    → WritesList h f order head xs old new n
list-written h f order head xs old new n agreed all wrote =
    let text : List ℕ = list_bytes h f order head xs in
    let left : List ℕ = drop (length text) old in
    let whole : take n new ≡ text =
    ap (take n) wrote.after ∙ take_at text left n (sym wrote.size) in
    record {
      agreed = agreed;
      all = all;
      wrote = wrote;
      again = subst (λ k. ReadsList h f order new head xs k) (sym wrote.size)
          (subst (λ s. ReadsList h f order s head xs (length text)) (sym wrote.after)
          (list-back h f order head xs agreed all left));
      kept = λ rest. subst (λ k. ReadsList h f order (take n new ++ rest) head xs k)
          (sym wrote.size)
          (subst (λ s. ReadsList h f order (s ++ rest) head xs (length text)) (sym whole)
          (list-back h f order head xs agreed all rest));
    }

-- one of the values doesn't agree
pub one-differs : {E X : Type 0} (f : Format E X) (order : Endian) (xs : List X) (i : ℕ) (x : X)
    (e : E) → i < length xs → x ≡ slice_index_or xs i x → All (agrees f order) (take i xs)
    → differs f order x e → DiffersOne f order xs e
one-differs f order xs i x e inside is before error = record {
  values = take i xs;
  value = x;
  others = drop (i + 1) xs;
  split = sym (take-append-drop (i + 1) xs)
      ∙ ap (λ l. l ++ drop (i + 1) xs)
      (take_more xs i x inside ∙ ap (λ y. take i xs ++ y ∷ []) (sym is))
      ∙ append_assoc (take i xs) (x ∷ []) (drop (i + 1) xs);
  before = before;
  error = error;
}

-- values that were read one after another stand there as those that were written do
pub list_read_back : {E X : Type 0} (f : Format E X) (order : Endian) (s : List ℕ) (at : ℕ)
    (xs : List X) (to : ℕ) → ReadsAll (ReadsExact f order) s at xs to
    → ReadsAll (ReadsBack f order) s at xs to
list_read_back f order s at [] to h = h
list_read_back f order s at (x ∷ xs) to h =
    let one : ReadsAt (ReadsExact f order) s at x h.0 = h.1 in
    let read : ReadsExact f order (drop at s) x h.0 = one.value in (
      h.0,
      record {
        inside = one.inside;
        value = record {
          value = read.value;
          agreed = read.agreed;
          size = read.size;
          inside = read.inside;
          count = read.count;
          back = read.back;
        };
      },
      list_read_back f order s (at + h.0) xs to h.2,
    )

-- values that were read one after another up to the end of a source are its bytes
pub list_written_back : {E X : Type 0} (f : Format E X) (order : Endian) (s : List ℕ) (xs : List X)
    → ReadsAll (ReadsExact f order) s 0 xs (length s) → flat_map (bytes f order) xs ≡ s
list_written_back f order s xs h =
    all-back (ReadsExact f order) (bytes f order) s xs (λ at x n one. one.value.back) h refl
