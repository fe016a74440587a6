use Rattle.scroll.proofs.lemmas.callers.OwnTypes.{reader-within}
use Rattle.scroll_formats.proofs.lemmas.ZerosLemmas.{local-zeros, one-zeros, within-zeros}
use Rattle.scroll_formats.specs.Zeros.{ReadsZeros, RefusesZeros}
use Rattle.scroll_formats.specs.declared.zeros.Zeros.{Zeros}
use Rattle.scroll_formats.proofs.laws.zeros_keep_their_laws.Goals as goal

pub returns : goal.returns
returns c n =
    reader-within (λ s (_ : Zeros) m. ReadsZeros n s m) (RefusesZeros n) (local-zeros n)
    (within-zeros n) (one-zeros n)
