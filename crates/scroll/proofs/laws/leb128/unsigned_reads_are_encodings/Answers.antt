use Rattle.scroll.proofs.lemmas.EncodingLemmas.{unsigned-form, reads_encoding, longer_encoding, one_encoding}
use Rattle.scroll.proofs.laws.leb128.unsigned_reads_are_encodings.Goals as goal

pub returns : goal.returns
returns c =
    record {
      reads = reads_encoding unsigned-form;
      longer = longer_encoding unsigned-form;
      one = one_encoding unsigned-form;
    }
