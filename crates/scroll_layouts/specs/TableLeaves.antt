-- Tables that are borrowed as their bytes.
use Rattle.std.proofs.Common.{refl, sym, ◌∙◌, arith, length-drop}
use Rattle.std.specs.Prelude.{◌≡◌, ◌≢◌, ◌+◌, ◌≤◌, ◌⊎◌, ⊤, ℕ, length, take, drop, codes, option_map}
use Rattle.scroll.specs.declared.error.Error.{Error}
use Rattle.scroll_layouts.specs.Errors.{NoRoom, GivesBadInput}
use Rattle.scroll_layouts.specs.Formats.{Leaf}
use Rattle.scroll_layouts.specs.Lists.{TableValue}
use Rattle.scroll_layouts.specs.lemmas.EqualLemmas.{seen-part}
use Rattle.scroll_layouts.specs.lemmas.ListLemmas.{table-is}
use Rattle.scroll_layouts.specs.lemmas.Parts.{part-within, slice-agrees, slice-back}

-- a table of `n` bytes. A write in another order than that of the read is `BadInput` with the
-- number of bytes and the message `another byte order than its values`; in that order, a table of
-- another length is one with its length and the message `another length than its count`
abbrev pub table_of : {E : Type 0} → (Error → E → Type 0) → ℕ → Leaf E TableValue
table_of gives n = record {
  leaf_len = λ x. n;
  leaf_bytes = λ order x. x.bytes;
  leaf_reads = λ order s at x.
      (at + n ≤ length s) × (x.bytes ≡ take n (drop at s)) × (x.order ≡ order);
  leaf_refuses = λ order s at e. NoRoom gives n (drop at s) e;
  leaf_agrees = λ order x. (x.order ≡ order) × (n ≡ length x.bytes);
  leaf_differs = λ order x e. ((x.order ≢ order)
      × GivesBadInput gives (length x.bytes) (codes "another byte order than its values") e)
      ⊎ ((x.order ≡ order) × (n ≢ length x.bytes)
      × GivesBadInput gives (length x.bytes) (codes "another length than its count") e);
  leaf_same = λ x y. (x.bytes ≡ y.bytes) × (x.order ≡ y.order);
  leaf_same_seen = λ see x y.
      (option_map (λ v. (see v).bytes) x ≡ option_map (λ v. (see v).bytes) y)
      × (option_map (λ v. (see v).order) x ≡ option_map (λ v. (see v).order) y);
  leaf_told = ⊤;
  leaf_certain = ⊤;
  leaf_inside = λ order s at x here h. h.0;
  leaf_made = λ order s at x all h. (h.2, slice-agrees n s at x.bytes h.0 h.1);
  leaf_bytes-len = λ order x h. sym h.1;
  leaf_back = λ order x prefix rest h.
      (part-within n x.bytes prefix rest (sym h.1), slice-back n x.bytes prefix rest h.1, h.0);
  leaf_kept = λ order s at x all h. h.1;
  leaf_one = λ t order s at x y all h k. (refl, (h.1 ∙ sym k.1, h.2 ∙ sym k.2));
  leaf_equal = table-is;
  leaf_seen = λ see x y h. (
    seen-part see (λ v. v.bytes) x y h,
    seen-part see (λ v. v.order) x y h,
  );
  leaf_clash = λ t order s at x e all h r. omega (arith, h.0, r.short, length-drop at s);
}
