use Rattle.scroll.proofs.lemmas.TextLemmas.{IsCString-of_std}
use Rattle.scroll.proofs.cstr.of_std.CStringFromFfiCString.from.Goals as goal

pub invariant_of-result : goal.invariant_of-result
invariant_of-result c = record { one_zero = IsCString-of_std _ c.into_bytes_with_nul.ensures.ended }
