use Rattle.scroll.proofs.lemmas.TextLemmas.{IsCString-to_std}
use Rattle.scroll.proofs.cstr.of_std.FfiCStringFromCString.from.Goals as goal

pub from_vec_with_nul_unchecked-requires : goal.from_vec_with_nul_unchecked-requires
from_vec_with_nul_unchecked-requires c = IsCString-to_std _ c.args.s.one_zero
