use Rattle.scroll.proofs.lemmas.EncodingLemmas.{signed-form, reads_encoding, longer_encoding, one_encoding}
use Rattle.scroll.proofs.laws.leb128.signed_reads_are_encodings.Goals as goal

pub returns : goal.returns
returns c =
    record {
      reads = reads_encoding signed-form;
      longer = longer_encoding signed-form;
      one = one_encoding signed-form;
    }
