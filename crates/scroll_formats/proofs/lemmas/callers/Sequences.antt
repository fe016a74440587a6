-- Lemmas for callers: texts and numbers in LEB128 that were written read back, whatever follows
-- them.
use Rattle.std.proofs.Common.{◌≡◌, ◌≢◌, ℕ, ℤ, ◌+◌, ◌≤◌, ◌++◌, List, [], ◌∷◌, length, take, IsUtf8, refl, sym, ap, append_assoc, length-append, arith, ◌∙◌}
use Rattle.std.proofs.lemmas.Grind.{common_steps}
use Rattle.std.proofs.lemmas.List.{take_at}
use Rattle.std.specs.List.{All}
use Rattle.scroll.specs.CStrings.{ReadsCString}
use Rattle.scroll.specs.Leb128.{Counted, ReadsCountedUleb, ReadsCountedSleb}
use Rattle.scroll.specs.Encoding.{uleb_text, sleb_text, HasEncoding, HasSignedEncoding}
use Rattle.scroll.specs.Texts.{index_of, ReadsSlice, ReadsText}
use Rattle.scroll.proofs.lemmas.callers.RoundTrips.{offset-behind}
use Rattle.scroll.specs.declared.ctx.str_ctx.StrCtx.TheVariants.{Length}
use Rattle.scroll.proofs.lemmas.callers.RoundTrips.{written_reads, unsigned-form, signed-form}

-- a slice
slice-begins : (bytes : List ℕ) (n : ℕ) → length bytes ≡ n → (rest : List ℕ)
    → ReadsSlice n (bytes ++ rest) bytes n
slice-begins bytes n size rest =
    record {
      room = omega (arith, size, length-append bytes rest);
      value = grind (arith, common_steps, size);
      size = refl;
    }

-- a text
pub text-begins : (bytes : List ℕ) (n : ℕ) → length bytes ≡ n → IsUtf8 bytes → (rest : List ℕ)
    → ReadsText (Length n) (bytes ++ rest) bytes n
text-begins bytes n size utf8 rest =
    let prefix = slice-begins bytes n size rest in
    record {
      room = prefix.room;
      prefix = prefix.value;
      utf8 = utf8;
      size = omega (arith, size);
      there = _;
    }

-- a number in LEB128
pub uleb-begins : (x : Counted ℕ) → HasEncoding x.value x.count → (rest : List ℕ)
    → ReadsCountedUleb (uleb_text x ++ rest) x x.count
uleb-begins x has rest =
    (written_reads unsigned-form x.value x.count (uleb_text x ++ rest) rest has refl, refl)

pub sleb-begins : (x : Counted ℤ) → HasSignedEncoding x.value x.count → (rest : List ℕ)
    → ReadsCountedSleb (sleb_text x ++ rest) x x.count
sleb-begins x has rest =
    (written_reads signed-form x.value x.count (sleb_text x ++ rest) rest has refl, refl)

-- numbers are in the source
pub uleb-inside : (s : List ℕ) (x : Counted ℕ) (n : ℕ) → ReadsCountedUleb s x n → n ≤ length s
uleb-inside s x n h = omega (arith, h.0.complete.0, h.0.size)

pub sleb-inside : (s : List ℕ) (x : Counted ℤ) (n : ℕ) → ReadsCountedSleb s x n → n ≤ length s
sleb-inside s x n h = omega (arith, h.0.complete.0, h.0.size)

-- a C string
pub c_string-begins : (text rest : List ℕ) → All (λ b. b ≢ 0) text
    → ReadsCString ((text ++ 0 ∷ []) ++ rest) text (length text + 1)
c_string-begins text rest none =
    let split : (text ++ 0 ∷ []) ++ rest ≡ text ++ 0 ∷ rest = append_assoc text (0 ∷ []) rest in
    let index : index_of 0 ((text ++ 0 ∷ []) ++ rest) ≡ length text =
    ap (index_of 0) split ∙ offset-behind 0 text rest none in
    record {
      found = omega (arith, index, ap length split, length-append text (0 ∷ rest));
      value =
          sym (ap (λ n. take n ((text ++ 0 ∷ []) ++ rest)) index ∙ ap (take (length text)) split
          ∙ take_at text (0 ∷ rest) (length text) refl);
      size = omega (arith, index);
    }
