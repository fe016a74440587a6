use Rattle.scroll.proofs.lemmas.EncodingLemmas.{signed-form, encoding_back, encoding_again, encoding_begins}
use Rattle.scroll.proofs.laws.leb128.signed_texts_are_kept.Goals as goal

pub returns : goal.returns
returns c =
    record {
      back = encoding_back signed-form;
      again = encoding_again signed-form;
      begins = encoding_begins signed-form;
    }
