-- Fields of some bits in one number of some bytes.
use Rattle.std.proofs.Common.{refl, arith, length-drop}
use Rattle.std.specs.Prelude.{◌≡◌, ◌+◌, ◌<◌, ◌≤◌, ◌⊎◌, ◌^◌, ⊤, ℕ, length, drop, codes, option_map}
use Rattle.scroll.specs.Numbers.{number, number_bytes}
use Rattle.scroll.specs.declared.error.Error.{Error}
use Rattle.scroll.specs.lemmas.FixedLemmas.{number-back-at, number-kept, number-bound}
use Rattle.scroll.specs.lemmas.Frames.{length-number_bytes}
use Rattle.scroll.specs.lemmas.NumberLemmas.{bytes-fit}
use Rattle.scroll_layouts.specs.Errors.{NoRoom, GivesBadInput}
use Rattle.scroll_layouts.specs.Fields.{Fields, packed, splits, small, highest, same_bits, TooLarge}
use Rattle.scroll_layouts.specs.Formats.{Leaf}
use Rattle.scroll_layouts.specs.lemmas.BitLemmas.{splits-packed, packed-splits, splits-small, splits-bound, splits-one, bits-is}
use Rattle.scroll_layouts.specs.lemmas.Parts.{part-within}

-- fields in a number of `w` bytes. A highest field that has no room is `BadInput` with the field
-- and the message `a field has more bits`
abbrev pub packed_in : {E X : Type 0} → (Error → E → Type 0) → ℕ → Fields X → Leaf E X
packed_in gives w f = record {
  leaf_len = λ x. w;
  leaf_bytes = λ order x. number_bytes order w (packed f x);
  leaf_reads = λ order s at x. (at + w ≤ length s) × splits f (number order w (drop at s)) x;
  leaf_refuses = λ order s at e. NoRoom gives w (drop at s) e;
  leaf_agrees = λ order x. small f x × (packed f x < 256 ^ w);
  leaf_differs = λ order x e. TooLarge gives f x e
      ⊎ (small f x × (256 ^ w ≤ packed f x)
      × GivesBadInput gives (highest f x) (codes "a field has more bits") e);
  leaf_same = same_bits f;
  leaf_same_seen = λ see x y. option_map see x ≡ option_map see y;
  leaf_told = ⊤;
  leaf_certain = ⊤;
  leaf_inside = λ order s at x here h. h.0;
  leaf_made = λ order s at x all h. (
    splits-small f (number order w (drop at s)) x h.1,
    splits-bound f (number order w (drop at s)) (256 ^ w) x h.1
        (number-bound order w at s (bytes-fit s all)),
  );
  leaf_bytes-len = λ order x h. length-number_bytes order w (packed f x);
  leaf_back = λ order x prefix rest h. (
    part-within w (number_bytes order w (packed f x)) prefix rest
        (length-number_bytes order w (packed f x)),
    splits-packed f x _ h.0 (number-back-at order w (packed f x) prefix rest h.1),
  );
  leaf_kept = λ order s at x all h.
      number-kept order w s at (packed f x) all h.0
      (packed-splits f (number order w (drop at s)) x h.1);
  leaf_one = λ t order s at x y all h k.
      (refl, splits-one f (number order w (drop at s)) x y h.1 k.1);
  leaf_equal = bits-is f;
  leaf_seen = λ see x y h. h;
  leaf_clash = λ t order s at x e all h r. omega (arith, h.0, r.short, length-drop at s);
}
