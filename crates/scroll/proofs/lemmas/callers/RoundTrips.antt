-- Lemmas for callers: round trips. What was read is written back, and what was written reads back.
use Rattle.std.proofs.Common.{◌≡◌, ◌≢◌, ℕ, ◌+◌, ◌<◌, ◌++◌, ◌==◌, true, List, [], ◌∷◌, length, take, drop, get_or, slice_index, Fits, w8, refl, sym, ap, ◌∙◌, arith, IsUtf8, append_assoc, length-append, length-take-le}
use Rattle.std.proofs.Math.Seq.{take-add}
use Rattle.std.proofs.lemmas.List.{append-nil, take_at, take_all, take_more, get_or-drop}
use Rattle.std.proofs.lemmas.List.Elements.{All-from_get_or}
use Rattle.std.proofs.lemmas.List.Sums.{passes_at_first}
use Rattle.std.specs.List.{All, flat_map}
use Rattle.scroll.proofs.lemmas.TextLemmas.{offset-behind}
use Rattle.scroll.specs.Reads.{ReadsAt, ReadsAll}
use Rattle.scroll.specs.Texts.{index_of, ReadsText}
use Rattle.scroll.specs.declared.ctx.str_ctx.StrCtx.TheVariants.{Required}
-- where the first delimiter is, after bytes that are not the delimiter, and in lists that begin
-- alike
pub use Rattle.scroll.proofs.lemmas.TextLemmas.{offset-behind, index_of-prefixes}
-- what was written in LEB128 reads back, and what is read are the bytes of an encoding
pub use Rattle.scroll.proofs.lemmas.EncodingLemmas.{written_reads, reads_encoding, unsigned-form, signed-form}
-- a list that begins with the bytes of a number begins with that number
pub use Rattle.scroll.specs.lemmas.NumberLemmas.{number-begins, signed-begins}
-- the bytes of the number at an offset are the bytes there
pub use Rattle.scroll.specs.lemmas.FixedLemmas.{number-back, signed-back}

-- bytes that are written back one after another: some more
pub back-next : (offset n : ℕ) (s : List ℕ) {prefix bytes : List ℕ} → prefix ≡ take offset s
    → bytes ≡ take n (drop offset s) → prefix ++ bytes ≡ take (offset + n) s
back-next offset n s {prefix} {bytes} before next =
    ap (λ l. l ++ bytes) before ∙ ap (λ l. take offset s ++ l) next ∙ sym (take-add offset n s)

is-byte : (b d : ℕ) → (b == d) ≡ true → b ≡ d
is-byte b d e = grind (arith, e)

pub required-back : (d : ℕ) (s text : List ℕ) (n : ℕ) → ReadsText (Required d) s text n
    → take n s ≡ text ++ d ∷ []
required-back d s text n r =
    let byte : get_or s (index_of d s) 0 ≡ d =
    is-byte (get_or s (index_of d s) 0) d (passes_at_first (λ b. b == d) s 0 r.there) in
    let text = length-take-le (index_of d s) s (omega (arith, r.there)) in
    let size : n ≡ index_of d s + 1 = omega (arith, r.size, ap length r.prefix, text) in
    ap (λ m. take m s) size ∙ take_more s (index_of d s) 0 r.there
    ∙ ap (λ b. take (index_of d s) s ++ b ∷ []) byte ∙ ap (λ t. t ++ d ∷ []) (sym r.prefix)

-- a string without the delimiter, followed by the delimiter, reads back
pub required-again : (d : ℕ) (text rest : List ℕ) → All (λ b. b ≢ d) text → IsUtf8 text
    → ReadsText (Required d) (text ++ d ∷ rest) text (length text + 1)
required-again d text rest h utf8 =
    let at = offset-behind d text rest h in
    record {
      room = omega arith;
      prefix =
          sym (ap (λ n. take n (text ++ d ∷ rest)) at ∙ take_at text (d ∷ rest) (length text) refl);
      utf8 = utf8;
      size = refl;
      there = omega (arith, at, length-append text (d ∷ rest));
    }

-- values that were read one after another are written back, if each is
pub ReadsAll-back : {V : Type 0} (reads : List ℕ → V → ℕ → Type 0) (bytes : V → List ℕ)
    (buffer : List ℕ) → ((offset : ℕ) (v : V) (n : ℕ) → ReadsAt reads buffer offset v n → bytes v
    ≡ take n (drop offset buffer)) → (from : ℕ) (vs : List V) (to : ℕ)
    → ReadsAll reads buffer from vs to → take from buffer ++ flat_map bytes vs ≡ take to buffer
ReadsAll-back reads bytes buffer back from [] to h =
    append-nil (take from buffer) ∙ ap (λ n. take n buffer) (sym h)
ReadsAll-back reads bytes buffer back from (v ∷ vs) to h =
    sym (append_assoc (take from buffer) (bytes v) (flat_map bytes vs))
    ∙ ap (λ l. l ++ flat_map bytes vs) (back-next from h.0 buffer refl (back from v h.0 h.1))
    ∙ ReadsAll-back reads bytes buffer back (from + h.0) vs to h.2

-- values that were read from a whole buffer are written back
pub all-back : {V : Type 0} (reads : List ℕ → V → ℕ → Type 0) (bytes : V → List ℕ) (buffer : List ℕ)
    (vs : List V) {to : ℕ} →
    ((offset : ℕ) (v : V) (n : ℕ) → ReadsAt reads buffer offset v n → bytes v
    ≡ take n (drop offset buffer)) → ReadsAll reads buffer 0 vs to → to ≡ length buffer
    → flat_map bytes vs ≡ buffer
all-back reads bytes buffer vs {to} back h end =
    ReadsAll-back reads bytes buffer back 0 vs to h ∙ take_all to buffer (omega (arith, end))

-- the bytes of a slice from an offset on are bytes
pub bytes-below : (offset : ℕ) (s : List ℕ) → ((i : ℕ) → Fits w8 (slice_index s i))
    → All (λ b. b < 256) (drop offset s)
bytes-below offset s h =
    All-from_get_or (λ b. b < 256) (drop offset s) 0
    (λ i l. rw (get_or-drop offset s i 0) (omega (arith, (h (offset + i)).fits)))
