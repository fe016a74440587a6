use Rattle.std.proofs.Common.{refl, arith}
use Rattle.scroll.proofs.lemmas.LebWriteLemmas.{place_found, shortest_found}
use Rattle.scroll.proofs.leb128.write.count_by_top_bit.Goals as goal

pub overflow_sub-index : goal.overflow_sub-index
overflow_sub-index c = (place_found c.args.value _ c.ranges.value.fits refl).0

pub returns : goal.returns
returns c =
    let index = place_found c.args.value _ c.ranges.value.fits refl in
    shortest_found c.args.value _ _ (omega arith) index.1 index.2 refl
