use Rattle.std.proofs.Common.{ℕ, arith, take}
use Rattle.scroll.proofs.lemmas.OneAnswer.{one-at, one-prefix, reader-within, reader-sized, reader-nested}
use Rattle.scroll.proofs.lemmas.LebReadLemmas.{local-uleb, local-sleb, one-uleb, one-sleb}
use Rattle.scroll.proofs.lemmas.TextLemmas.{local-c_string, within-c_string, one-c_string, local-slice, local-text, within-length, one-text}
use Rattle.scroll.specs.Bytes.{RefusesShort}
use Rattle.scroll.specs.CStrings.{ReadsCString, RefusesCString}
use Rattle.scroll.specs.Laws.{IsReader, IsReaderWithin}
use Rattle.scroll.specs.Leb128.{ReadsUleb, ReadsSleb, RefusesUleb, RefusesSleb}
use Rattle.scroll.specs.Texts.{ReadsText, RefusesText, ReadsSlice}
use Rattle.scroll.specs.declared.ctx.str_ctx.StrCtx.{StrCtx}
use Rattle.scroll.specs.lemmas.Frames.{ReadsText-bounded}
use Rattle.scroll.proofs.laws.reads.reads_keep_their_laws.Goals as goal

slice-reader : (n : ℕ) → IsReaderWithin (ReadsSlice n) (RefusesShort n)
slice-reader n =
    reader-within (ReadsSlice n) (RefusesShort n) (local-slice n)
    (λ s v size r. omega (arith, r.room, r.size)) (one-prefix n (take n))

text-reader : (ctx : StrCtx) → IsReader (ReadsText ctx) (RefusesText ctx)
text-reader ctx = record {
  local = local-text ctx;
  bounded = ReadsText-bounded ctx;
  one = one-at (ReadsText ctx) (RefusesText ctx) (one-text ctx);
}

c_string-reader : IsReaderWithin ReadsCString RefusesCString
c_string-reader =
    reader-within ReadsCString RefusesCString local-c_string within-c_string one-c_string

pub returns-clause-slice : goal.returns-clause-slice
returns-clause-slice c = slice-reader

pub returns-clause-text : goal.returns-clause-text
returns-clause-text c = text-reader

pub returns-clause-text_of_length : goal.returns-clause-text_of_length
returns-clause-text_of_length c = within-length

pub returns-clause-c_string : goal.returns-clause-c_string
returns-clause-c_string c = c_string-reader

pub returns-clause-uleb : goal.returns-clause-uleb
returns-clause-uleb c =
    reader-within ReadsUleb RefusesUleb local-uleb (λ s x n r. omega (arith, r.complete.0, r.size))
    one-uleb

pub returns-clause-sleb : goal.returns-clause-sleb
returns-clause-sleb c =
    reader-within ReadsSleb RefusesSleb local-sleb (λ s x n r. omega (arith, r.complete.0, r.size))
    one-sleb

pub returns-clause-counted_uleb : goal.returns-clause-counted_uleb
returns-clause-counted_uleb c =
    reader-sized ReadsUleb RefusesUleb local-uleb (λ s x n r. omega (arith, r.complete.0, r.size))
    one-uleb

pub returns-clause-counted_sleb : goal.returns-clause-counted_sleb
returns-clause-counted_sleb c =
    reader-sized ReadsSleb RefusesSleb local-sleb (λ s x n r. omega (arith, r.complete.0, r.size))
    one-sleb

pub returns-clause-slices : goal.returns-clause-slices
returns-clause-slices c n counts =
    reader-nested (ReadsSlice n) (RefusesShort n) (slice-reader n).reader counts

pub returns-clause-texts : goal.returns-clause-texts
returns-clause-texts c ctx counts =
    reader-nested (ReadsText ctx) (RefusesText ctx) (text-reader ctx) counts

pub returns-clause-c_strings : goal.returns-clause-c_strings
returns-clause-c_strings c counts =
    reader-nested ReadsCString RefusesCString c_string-reader.reader counts
