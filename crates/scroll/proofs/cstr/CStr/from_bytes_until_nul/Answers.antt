use Rattle.std.proofs.Common.{◌<◌, length, arith}
use Rattle.std.proofs.lemmas.Grind.{common_steps}
use Rattle.scroll.proofs.lemmas.TextLemmas.{IsCString-prefix}
use Rattle.scroll.specs.lemmas.Frames.{index_of-le}
use Rattle.scroll.specs.Texts.{index_of}
use Rattle.scroll.proofs.cstr.CStr.from_bytes_until_nul.Goals as goal

pub overflow_add-result : goal.overflow_add-result
overflow_add-result c = let within = index_of-le 0 c.args.bytes.now in grind (arith, common_steps)

pub slice_bounds-result-end : goal.slice_bounds-result-end
slice_bounds-result-end c = let within = index_of-le 0 c.args.bytes.now in
    grind (arith, common_steps)

pub invariant_of-result : goal.invariant_of-result
invariant_of-result c =
    let within = index_of-le 0 c.args.bytes.now in
    let found : index_of 0 c.args.bytes.now < length c.args.bytes.now = grind arith in
    record { one_zero = rw c.index_of-index.ensures (IsCString-prefix c.args.bytes.now found) }

pub returns-clause-found : goal.returns-clause-found
returns-clause-found c = grind (arith, common_steps)

pub returns-clause-text : goal.returns-clause-text
returns-clause-text c = grind (arith, common_steps)
