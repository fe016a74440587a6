use Rattle.scroll.proofs.lemmas.EncodingLemmas.{unsigned-form, encoding_back, encoding_again, encoding_begins}
use Rattle.scroll.proofs.laws.leb128.unsigned_texts_are_kept.Goals as goal

pub returns : goal.returns
returns c =
    record {
      back = encoding_back unsigned-form;
      again = encoding_again unsigned-form;
      begins = encoding_begins unsigned-form;
    }
