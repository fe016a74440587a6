-- Texts that are filled up, as parts.
use Rattle.std.proofs.Common.{refl, ◌≡◌, ℕ, ◌+◌, ◌<◌, ◌≤◌, ◌⊎◌, List, length, take, sym, ap, ◌∙◌, arith, length-append}
use Rattle.std.proofs.lemmas.List.{take_at}
use Rattle.std.specs.Prelude.{codes, slice_index}
use Rattle.scroll.specs.declared.error.Error.{Error}
use Rattle.scroll_layouts.specs.Errors.{NoRoom, GivesBadInput}
use Rattle.scroll_layouts.specs.Fills.{filled, IsText}
use Rattle.scroll_layouts.specs.Starts.{Start}
use Rattle.scroll_layouts.specs.lemmas.FillLemmas.{filled-len, filled-one}

-- a text, and bytes `d` that fill up `n` bytes. A longer text is `BadInput` with its length and the
-- message `more bytes than its field`; one that ends with `d` is one with the offset of that and
-- the message `a text ends with what fills its field`
abbrev pub fill : {E : Type 0} → (Error → E → Type 0) → ℕ → ℕ → Start E (List ℕ)
fill gives n d = record {
  start_len = λ text. n;
  start_bytes = filled n d;
  start_reads = λ s text m. (n ≤ length s) × (filled n d text ≡ take n s) × IsText n d text
      × (m ≡ n);
  start_refuses = NoRoom gives n;
  start_agrees = IsText n d;
  start_differs = λ text e.
      ((n < length text)
      × GivesBadInput gives (length text) (codes "more bytes than its field") e)
      ⊎ ((length text ≤ n) × ((i : ℕ) × (i + 1 ≡ length text) × (slice_index text i ≡ d)
      × GivesBadInput gives i (codes "a text ends with what fills its field") e));
  start_inside = λ s x m h. omega (arith, h.0, h.3);
  start_made = λ s x m all h. h.2;
  start_bytes-len = λ x h. filled-len n d x h.room;
  start_back = λ x rest h. (
    omega (arith, filled-len n d x h.room, length-append (filled n d x) rest),
    sym (take_at (filled n d x) rest n (filled-len n d x h.room)),
    h,
    refl,
  );
  start_kept = λ s x m all h. h.1 ∙ ap (λ k. take k s) (sym h.3);
  start_one = λ s x y h k. (refl, filled-one n d x y h.2 k.2 (h.1 ∙ sym k.1));
  start_clash = λ s x e h r. omega (arith, h.0, r.short);
}
