-- The leaves of an array, which are those of its elements, in order.
use Rattle.std.proofs.Common.{◌≡◌, ℕ, ◌+◌, List, [], ◌∷◌, length, Some, None, sym, ap, ◌∙◌, arith, drop, inl, inr, ◌++◌, refl}
use Rattle.std.specs.List.{sum_by, flat_map}
use Rattle.scroll.specs.Arrays.{WritesAll, WritesArray, FailsArray}
use Rattle.scroll.specs.Writes.{WritesAt, FailsAt}
use Rattle.std.proofs.lemmas.Grind.{flat_map-append}
use Rattle.std.proofs.lemmas.Bool.{cases_lt}
use Rattle.std.proofs.lemmas.List.Sums.{sum_by-append, sum_by-cons}
use Rattle.scroll.proofs.lemmas.HistoryLemmas.{pieces-fits, pieces-misfit, left_over-fits, left_over-misfit, left_over-drop, refusal-inside, seen-rest, length-seen, seen-append, seen-nil}
use Rattle.scroll.specs.History.{seen, pieces, left_over, HasLeaves}
use Rattle.scroll.specs.declared.error.Error.{Error}

-- leaves after leaves that fit
pieces-append : (n o : ℕ) (ls ks : List (List ℕ)) → left_over n o ls ≡ None
    → pieces n o (ls ++ ks) ≡ pieces n o ls ++ pieces n (o + sum_by length ls) ks
pieces-append n o [] ks h = ap (λ m. pieces n m ks) (omega arith)
pieces-append n o (l ∷ ls) ks h =
    elim (cases_lt n (o + length l))
    as (λ _. pieces n o ((l ∷ ls) ++ ks)
    ≡ pieces n o (l ∷ ls) ++ pieces n (o + sum_by length (l ∷ ls)) ks) [
      | inl k ↦ let wrong = sym (left_over-misfit n o l ls k) ∙ h in absurd (cc wrong)
      | inr k ↦
          let rest = pieces-append n (o + length l) ls ks (sym (left_over-fits n o l ls k) ∙ h) in
          let total : o + length l + sum_by length ls ≡ o + sum_by length (l ∷ ls) =
          omega (arith, sum_by-cons length l ls) in
          pieces-fits n o l (ls ++ ks) k
          ∙ ap (λ x. (o, l) ∷ x) (rest
          ∙ ap (λ m. pieces n (o + length l) ls ++ pieces n m ks) total)
          ∙ ap (λ x. x ++ pieces n (o + sum_by length (l ∷ ls)) ks) (sym (pieces-fits n o l ls k))
    ]

left_over-append : (n o : ℕ) (ls ks : List (List ℕ)) → left_over n o ls ≡ None
    → left_over n o (ls ++ ks) ≡ left_over n (o + sum_by length ls) ks
left_over-append n o [] ks h = ap (λ m. left_over n m ks) (omega arith)
left_over-append n o (l ∷ ls) ks h =
    elim (cases_lt n (o + length l))
    as (λ _. left_over n o ((l ∷ ls) ++ ks) ≡ left_over n (o + sum_by length (l ∷ ls)) ks) [
      | inl k ↦ let wrong = sym (left_over-misfit n o l ls k) ∙ h in absurd (cc wrong)
      | inr k ↦
          let rest =
          left_over-append n (o + length l) ls ks (sym (left_over-fits n o l ls k) ∙ h) in
          let total : o + length l + sum_by length ls ≡ o + sum_by length (l ∷ ls) =
          omega (arith, sum_by-cons length l ls) in
          left_over-fits n o l (ls ++ ks) k ∙ rest ∙ ap (λ m. left_over n m ks) total
    ]

-- leaves after one that doesn't fit
pieces-stop : (n o : ℕ) (ls ks : List (List ℕ)) (e : Error) → left_over n o ls ≡ Some e
    → (pieces n o (ls ++ ks) ≡ pieces n o ls) × (left_over n o (ls ++ ks) ≡ Some e)
pieces-stop n o [] ks e h = absurd (cc h)
pieces-stop n o (l ∷ ls) ks e h =
    elim (cases_lt n (o + length l))
    as (λ _. (pieces n o ((l ∷ ls) ++ ks) ≡ pieces n o (l ∷ ls))
    × (left_over n o ((l ∷ ls) ++ ks) ≡ Some e)) [
      | inl k ↦ (
        pieces-misfit n o l (ls ++ ks) k ∙ sym (pieces-misfit n o l ls k),
        left_over-misfit n o l (ls ++ ks) k ∙ sym (left_over-misfit n o l ls k) ∙ h,
      )
      | inr k ↦
          let rest = pieces-stop n (o + length l) ls ks e (sym (left_over-fits n o l ls k) ∙ h) in (
            pieces-fits n o l (ls ++ ks) k ∙ ap (λ x. (o, l) ∷ x) rest.0
                ∙ sym (pieces-fits n o l ls k),
            left_over-fits n o l (ls ++ ks) k ∙ rest.1,
          )
    ]

-- leaves that were written whole from one offset to another
record Laid (old : List ℕ) (offset : ℕ) (leaves : List (List ℕ)) (new : List ℕ) (stop : ℕ) : Type 0
  where
    pub after : new ≡ seen old (pieces (length old) offset leaves)
    pub whole : left_over (length old) offset leaves ≡ None
    pub end : stop ≡ offset + sum_by length leaves

-- leaves of which one is left over
record Cut (old : List ℕ) (offset : ℕ) (leaves : List (List ℕ)) (new : List ℕ) (e : Error) : Type 0
  where
    pub after : new ≡ seen old (pieces (length old) offset leaves)
    pub error : left_over (length old) offset leaves ≡ Some e

-- leaves after those that were written whole
Laid-then : (old : List ℕ) (o : ℕ) (ls : List (List ℕ)) (mid : List ℕ) (m : ℕ) (ks : List (List ℕ))
    (new : List ℕ) (end : ℕ) → Laid old o ls mid m → Laid mid m ks new end
    → Laid old o (ls ++ ks) new end
Laid-then old o ls mid m ks new end a b =
    let len : length mid ≡ length old =
    ap length a.after ∙ length-seen old (pieces (length old) o ls) in
    let total = sum_by-append length ls ks in
    record {
      after = b.after ∙ ap (λ k. seen mid (pieces k m ks)) len
          ∙ ap (λ k. seen mid (pieces (length old) k ks)) a.end
          ∙ ap (λ x. seen x (pieces (length old) (o + sum_by length ls) ks)) a.after
          ∙ seen-append old (pieces (length old) o ls)
          (pieces (length old) (o + sum_by length ls) ks)
          ∙ ap (seen old) (sym (pieces-append (length old) o ls ks a.whole));
      whole = left_over-append (length old) o ls ks a.whole
          ∙ ap (λ k. left_over (length old) k ks) (sym a.end)
          ∙ ap (λ k. left_over k m ks) (sym len) ∙ b.whole;
      end = omega (arith, a.end, b.end, total);
    }

-- leaves after those that were written whole, the first list of which is left over
Laid-cut : (old : List ℕ) (o : ℕ) (ls : List (List ℕ)) (mid : List ℕ) (m : ℕ)
    (ks js : List (List ℕ)) (new : List ℕ) (e : Error) → Laid old o ls mid m → Cut mid m ks new e
    → Cut old o (ls ++ (ks ++ js)) new e
Laid-cut old o ls mid m ks js new e a b =
    let len : length mid ≡ length old =
    ap length a.after ∙ length-seen old (pieces (length old) o ls) in
    let refused : left_over (length old) (o + sum_by length ls) ks ≡ Some e =
    ap (λ k. left_over (length old) k ks) (sym a.end) ∙ ap (λ k. left_over k m ks) (sym len)
    ∙ b.error in
    let stop = pieces-stop (length old) (o + sum_by length ls) ks js e refused in
    record {
      after = b.after ∙ ap (λ k. seen mid (pieces k m ks)) len
          ∙ ap (λ k. seen mid (pieces (length old) k ks)) a.end
          ∙ ap (λ x. seen x (pieces (length old) (o + sum_by length ls) ks)) a.after
          ∙ seen-append old (pieces (length old) o ls)
          (pieces (length old) (o + sum_by length ls) ks)
          ∙ ap (λ x. seen old (pieces (length old) o ls ++ x)) (sym stop.0)
          ∙ ap (seen old) (sym (pieces-append (length old) o ls (ks ++ js) a.whole));
      error = left_over-append (length old) o ls (ks ++ js) a.whole ∙ stop.1;
    }

module _ {V : Type 0} (leaves : V → List (List ℕ)) (writes : V → List ℕ → List ℕ → ℕ → Type 0)
    (refuses : V → List ℕ → List ℕ → Error → Type 0) (has : HasLeaves leaves writes refuses) where
  -- a value that was written at an offset
  one-laid : (v : V) (old : List ℕ) (o : ℕ) (new : List ℕ) (n : ℕ) → WritesAt (writes v) old o new n
      → Laid old o (leaves v) new (o + n)
  one-laid v old o new n w =
      let part = has.written v (drop o old) (drop o new) n w.after in
      record {
        after = seen-rest o old new (leaves v) w.inside w.len w.before part.after;
        whole = left_over-drop old o (leaves v) w.inside ∙ part.answer.0;
        end = ap (λ k. o + k) part.answer.1;
      }

  one-cut : (v : V) (old : List ℕ) (o : ℕ) (new : List ℕ) (e : Error)
      → FailsAt (refuses v) old o new e → Cut old o (leaves v) new e
  one-cut v old o new e w =
      let part = has.refused v (drop o old) (drop o new) e w.after in
      record {
        after = seen-rest o old new (leaves v) w.inside w.len w.before part.after;
        error = left_over-drop old o (leaves v) w.inside ∙ part.answer;
      }

  -- values that were written one after another
  all-laid : (vs : List V) (old : List ℕ) (o : ℕ) (new : List ℕ) (end : ℕ)
      → WritesAll writes old o vs new end → Laid old o (flat_map leaves vs) new end
  all-laid [] old o new end w = record {
    after = w.0 ∙ sym (seen-nil old);
    whole = refl;
    end = w.1 ∙ omega arith;
  }
  all-laid (v ∷ vs) old o new end w =
      Laid-then old o (leaves v) w.0 (o + w.1) (flat_map leaves vs) new end
      (one-laid v old o w.0 w.1 w.2) (all-laid vs w.0 (o + w.1) new end w.3)

  -- arrays have the leaves of their elements
  pub leaves-of-array : HasLeaves (flat_map leaves) (WritesArray writes) (FailsArray writes refuses)
  leaves-of-array = record {
    written = λ vs old new n w.
        let all = all-laid vs old 0 new n w in
        record {
          after = all.after;
          answer = (
            refusal-inside (length old) 0 (flat_map leaves vs) (omega arith) ∙ all.whole,
            all.end
                ∙ omega arith,
          );
        };
    refused = λ vs old new e w.
        let split : flat_map leaves vs
        ≡ flat_map leaves w.prefix ++ (leaves w.value ++ flat_map leaves w.back) =
        ap (flat_map leaves) w.split ∙ flat_map-append leaves w.prefix (w.value ∷ w.back) in
        let cut =
        Laid-cut old 0 (flat_map leaves w.prefix) w.mid w.stop (leaves w.value)
        (flat_map leaves w.back) new e
        (all-laid w.prefix old 0 w.mid w.stop w.written)
        (one-cut w.value w.mid w.stop new e w.refused) in
        record {
          after = cut.after ∙ ap (λ ls. seen old (pieces (length old) 0 ls)) (sym split);
          answer = refusal-inside (length old) 0 (flat_map leaves vs) (omega arith)
              ∙ ap (left_over (length old) 0) split ∙ cut.error;
        };
  }
