-- Numbers of any length besides those in LEB128, as parts.
use Rattle.std.proofs.Common.{ℕ, ℤ, ◌<◌, ◌^◌, take, sym, ap, ◌∙◌, arith}
use Rattle.scroll.specs.Encoding.{HasEncoding, uleb_text}
use Rattle.scroll.specs.Leb128.{Counted, ReadsCountedUleb}
use Rattle.scroll.specs.declared.error.Error.{Error}
use Rattle.scroll_layouts.specs.Leaves.{uleb}
use Rattle.scroll_layouts.specs.Starts.{Start}
use Rattle.scroll_layouts.specs.Varints.{zigzag, vlq_of, vlq_bytes, ReadsVlq, RefusesVlq}
use Rattle.scroll_layouts.specs.declared.leb128.Zigzag.{Zigzag}
use Rattle.scroll_layouts.specs.declared.vlq.Vlq.{Vlq}
use Rattle.scroll_layouts.specs.lemmas.EqualLemmas.{counted-is}
use Rattle.scroll_layouts.specs.lemmas.LeafLemmas.{leb-clash, zigzag-one}
use Rattle.scroll_layouts.specs.lemmas.VlqLemmas.{vlq-len, vlq-back, vlq-kept, vlq-has}

-- a number and the length of its encoding, and the number in LEB128 that it is in zigzag
abbrev pub zigzag_counted : Zigzag → Counted ℤ
zigzag_counted x = record { value = x.value; count = x.count }

abbrev pub zigzag_uleb : Counted ℤ → Counted ℕ
zigzag_uleb x = record { value = zigzag x.value; count = x.count }

-- a number and the length of its encoding
abbrev pub vlq_counted : Vlq → Counted ℕ
vlq_counted x = record { value = x.value; count = x.count }

-- a number with its high groups first
abbrev pub vlq : {E : Type 0} → (Error → E → Type 0) → Start E (Counted ℕ)
vlq gives = record {
  start_len = λ x. x.count;
  start_bytes = λ x. vlq_bytes x.value x.count;
  start_reads = ReadsVlq;
  start_refuses = λ s e. (inner : Error) × RefusesVlq s inner × gives inner e;
  start_agrees = λ x. HasEncoding x.value x.count;
  start_differs = λ x e. ⊥;
  start_inside = λ s x n h. omega (arith, h.0.complete.0, h.0.size);
  start_made = λ s x n all h. vlq-has s x n h;
  start_bytes-len = λ x h. vlq-len x.value x.count;
  start_back = λ x rest h. vlq-back x.value x.count rest h;
  start_kept = λ s x n all h.
      ap (λ v. vlq_bytes v x.count) h.0.value
      ∙ ap (λ k. vlq_bytes (vlq_of s) k) (h.1 ∙ h.0.size)
      ∙ vlq-kept s all h.0.complete.0 ∙ ap (λ k. take k s) (sym h.0.size);
  start_one = λ s x y h k. (
    h.0.size ∙ sym k.0.size,
    counted-is x y (h.0.value ∙ sym k.0.value)
        (h.0.size ∙ sym k.0.size),
  );
  start_clash = λ s x e h r.
      leb-clash vlq_of (λ v. v < 2 ^ 64) s x.value x.count r.0 h.0 r.1;
}

-- a signed number in zigzag: the number in LEB128 that it is
abbrev pub zigzags : {E : Type 0} → (Error → E → Type 0) → Start E (Counted ℤ)
zigzags {E} gives = let number : Start E (Counted ℕ) = uleb gives in record {
  start_len = λ x. x.count;
  start_bytes = λ x. uleb_text (zigzag_uleb x);
  start_reads = λ s x n. ReadsCountedUleb s (zigzag_uleb x) n;
  start_refuses = number.start_refuses;
  start_agrees = λ x. HasEncoding (zigzag x.value) x.count;
  start_differs = λ x e. ⊥;
  start_inside = λ s x n h. number.start_inside s (zigzag_uleb x) n h;
  start_made = λ s x n all h. number.start_made s (zigzag_uleb x) n all h;
  start_bytes-len = λ x h. number.start_bytes-len (zigzag_uleb x) h;
  start_back = λ x rest h. number.start_back (zigzag_uleb x) rest h;
  start_kept = λ s x n all h. number.start_kept s (zigzag_uleb x) n all h;
  start_one = λ s x y h k.
      let one = number.start_one s (zigzag_uleb x) (zigzag_uleb y) h k in
      (one.0, counted-is x y (zigzag-one x.value y.value (ap (λ c. c.value) one.1)) one.0);
  start_clash = λ s x e h r. number.start_clash s (zigzag_uleb x) e h r;
}
