-- Numbers in LEB128, C strings and texts, as `scroll` reads and writes them.
use Rattle.std.proofs.Common.{refl, ◌≡◌, ◌≢◌, ℕ, ℤ, ◌+◌, ◌<◌, ◌^◌, ◌++◌, List, [], ◌∷◌, length, take, sym, ap, subst, ◌∙◌, arith, IsUtf8, length-append, append_assoc, length-take}
use Rattle.std.proofs.lemmas.List.{length-take-le}
use Rattle.std.proofs.lemmas.List.Elements.{All-from_get_or}
use Rattle.std.specs.Int.{w64}
use Rattle.std.specs.Prelude.{codes, slice_index, FitsSigned}
use Rattle.scroll.specs.CStrings.{ReadsCString, RefusesCString}
use Rattle.scroll.specs.Encoding.{HasEncoding, HasSignedEncoding, uleb_text, sleb_text, unsigned_form}
use Rattle.scroll.specs.Leb128.{Counted, unsigned_of, signed_of, ReadsCountedUleb, ReadsCountedSleb, RefusesUleb, RefusesSleb}
use Rattle.scroll.specs.Texts.{index_of, ReadsText, RefusesText}
use Rattle.scroll.specs.declared.ctx.str_ctx.StrCtx.TheVariants.{Length, Required}
use Rattle.scroll.specs.declared.error.Error.{Error}
use Rattle.scroll.specs.lemmas.Frames.{length-encoding}
use Rattle.scroll.proofs.lemmas.callers.RoundTrips.{unsigned-form, signed-form, reads_encoding, required-back, required-again}
use Rattle.scroll_formats.proofs.lemmas.callers.Sequences.{uleb-begins, sleb-begins, uleb-inside, sleb-inside, text-begins, c_string-begins}
use Rattle.scroll_layouts.specs.Errors.{GivesBadInput}
use Rattle.scroll_layouts.specs.Starts.{Start}
use Rattle.scroll_layouts.specs.declared.leb128.Sleb.{Sleb}
use Rattle.scroll_layouts.specs.declared.leb128.Uleb.{Uleb}
use Rattle.scroll_layouts.specs.lemmas.EqualLemmas.{counted-is}
use Rattle.scroll_layouts.specs.lemmas.LeafLemmas.{without, without-before, delimited, zero-there, leb-clash, text-clash}

-- a number and the length of its encoding
abbrev pub uleb_counted : Uleb → Counted ℕ
uleb_counted x = record { value = x.value; count = x.count }

abbrev pub sleb_counted : Sleb → Counted ℤ
sleb_counted x = record { value = x.value; count = x.count }

-- an unsigned number in LEB128
abbrev pub uleb : {E : Type 0} → (Error → E → Type 0) → Start E (Counted ℕ)
uleb gives = record {
  start_len = λ x. x.count;
  start_bytes = uleb_text;
  start_reads = ReadsCountedUleb;
  start_refuses = λ s e. (inner : Error) × RefusesUleb s inner × gives inner e;
  start_agrees = λ x. HasEncoding x.value x.count;
  start_differs = λ x e. ⊥;
  start_inside = uleb-inside;
  start_made = λ s x n all h. subst (HasEncoding x.value) (sym h.1)
      ((reads_encoding unsigned-form s x.value n all).0 h.0).has;
  start_bytes-len = λ x h. length-encoding x.value x.count;
  start_back = λ x rest h. uleb-begins x h rest;
  start_kept = λ s x n all h.
      ap (λ k. uleb_text (record { value = x.value; count = k })) h.1
      ∙ sym ((reads_encoding unsigned-form s x.value n all).0 h.0).prefix;
  start_one = λ s x y h k. (
    h.0.size ∙ sym k.0.size,
    counted-is x y (h.0.value ∙ sym k.0.value)
        (h.0.size ∙ sym k.0.size),
  );
  start_clash = λ s x e h r.
      leb-clash unsigned_of (λ v. v < 2 ^ 64) s x.value x.count r.0 h.0 r.1;
}

-- a signed number in LEB128
abbrev pub sleb : {E : Type 0} → (Error → E → Type 0) → Start E (Counted ℤ)
sleb gives = record {
  start_len = λ x. x.count;
  start_bytes = sleb_text;
  start_reads = ReadsCountedSleb;
  start_refuses = λ s e. (inner : Error) × RefusesSleb s inner × gives inner e;
  start_agrees = λ x. HasSignedEncoding x.value x.count;
  start_differs = λ x e. ⊥;
  start_inside = sleb-inside;
  start_made = λ s x n all h. subst (HasSignedEncoding x.value) (sym h.1)
      ((reads_encoding signed-form s x.value n all).0 h.0).has;
  start_bytes-len = λ x h. length-encoding (unsigned_form x.value x.count) x.count;
  start_back = λ x rest h. sleb-begins x h rest;
  start_kept = λ s x n all h.
      ap (λ k. sleb_text (record { value = x.value; count = k })) h.1
      ∙ sym ((reads_encoding signed-form s x.value n all).0 h.0).prefix;
  start_one = λ s x y h k. (
    h.0.size ∙ sym k.0.size,
    counted-is x y (h.0.value ∙ sym k.0.value)
        (h.0.size ∙ sym k.0.size),
  );
  start_clash = λ s x e h r.
      leb-clash signed_of (FitsSigned w64) s x.value x.count r.0 h.0 r.1;
}

-- a C string: a text without a zero, and a zero
abbrev pub c_string : {E : Type 0} → (Error → E → Type 0) → Start E (List ℕ)
c_string gives = record {
  start_len = λ text. length text + 1;
  start_bytes = λ text. text ++ 0 ∷ [];
  start_reads = ReadsCString;
  start_refuses = λ s e. (inner : Error) × RefusesCString s inner × gives inner e;
  start_agrees = λ text. index_of 0 text ≡ length text;
  start_differs = λ text e. ⊥;
  start_inside = λ s x n h. omega (arith, h.found, h.size);
  start_made = λ s x n all h. without-before 0 s x (omega (arith, h.found)) h.value;
  start_bytes-len = λ x h. length-append x (0 ∷ []);
  start_back = λ x rest h. c_string-begins x rest (without 0 x h);
  start_kept = λ s x n all h. sym (zero-there s x n h);
  start_one = λ s x y h k. (h.size ∙ sym k.size, h.value ∙ sym k.value);
  start_clash = λ s x e h r. omega (arith, h.found, r.1.none);
}

-- a text of `n` bytes. A text of another length is `BadInput` with its length and the message
-- `another length than its count`
abbrev pub text_of : {E : Type 0} → (Error → E → Type 0) → ℕ → Start E (List ℕ)
text_of gives n = record {
  start_len = λ text. n;
  start_bytes = λ text. text;
  start_reads = λ s text m. ReadsText (Length n) s text m;
  start_refuses = λ s e. (inner : Error) × RefusesText (Length n) s inner × gives inner e;
  start_agrees = λ text. (n ≡ length text) × IsUtf8 text;
  start_differs = λ text e. (n ≢ length text)
      × GivesBadInput gives (length text) (codes "another length than its count") e;
  start_inside = λ s x m h. omega (arith, h.room, h.size, ap length h.prefix, length-take n s);
  start_made = λ s x m all h. (sym (ap length h.prefix ∙ length-take-le n s h.room), h.utf8);
  start_bytes-len = λ x h. sym h.0;
  start_back = λ x rest h. text-begins x n (sym h.0) h.1 rest;
  start_kept = λ s x m all h. h.prefix
      ∙ ap (λ k. take k s) (omega (arith, h.size, ap length h.prefix, length-take-le n s h.room));
  start_one = λ s x y h k. (refl, h.prefix ∙ sym k.prefix);
  start_clash = λ s x e h r. text-clash (Length n) s x n r.0 h r.1;
}

-- a text without the byte `d`, and that byte. A text that has it is `BadInput` with the offset of
-- the first one and the message `a text has its delimiter`
abbrev pub text_until : {E : Type 0} → (Error → E → Type 0) → ℕ → Start E (List ℕ)
text_until gives d = record {
  start_len = λ text. length text + 1;
  start_bytes = λ text. text ++ d ∷ [];
  start_reads = λ s text m. ReadsText (Required d) s text m;
  start_refuses = λ s e. (inner : Error) × RefusesText (Required d) s inner × gives inner e;
  start_agrees = λ text. ((i : ℕ) → i < length text → slice_index text i ≢ d) × IsUtf8 text;
  start_differs = λ text e. (i : ℕ) × (i < length text) × (slice_index text i ≡ d)
      × ((k : ℕ) → k < i → slice_index text k ≢ d)
      × GivesBadInput gives i (codes "a text has its delimiter") e;
  start_inside = λ s x m h.
      omega (arith, h.there, h.size, ap length h.prefix, length-take (index_of d s) s);
  start_made = λ s x m all h.
      (delimited d x (without-before d s x (omega (arith, h.there)) h.prefix), h.utf8);
  start_bytes-len = λ x h. length-append x (d ∷ []);
  start_back = λ x rest h.
      subst (λ l. ReadsText (Required d) l x (length x + 1)) (sym (append_assoc x (d ∷ []) rest))
      (required-again d x rest (All-from_get_or (λ b. b ≢ d) x 0 h.0) h.1);
  start_kept = λ s x m all h. sym (required-back d s x m h);
  start_one = λ s x y h k.
      let same : x ≡ y = h.prefix ∙ sym k.prefix in (ap (λ l. length l + 1) same, same);
  start_clash = λ s x e h r. text-clash (Required d) s x (length x + 1) r.0 h r.1;
}
