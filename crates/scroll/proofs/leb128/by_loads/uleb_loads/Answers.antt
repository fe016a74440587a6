use Rattle.scroll.proofs.lemmas.LebReadLemmas.{local-uleb, block_reads}
use Rattle.scroll.proofs.leb128.by_loads.uleb_loads.Goals as goal

pub returns-in-Some-uleb_block-clause-read : goal.returns-in-Some-uleb_block-clause-read
returns-in-Some-uleb_block-clause-read c =
    let first = c.in-Some.ensures.first in
    block_reads local-uleb c.args.src.now.bytes c.in-Some.block _ _ first.0 first.1
    c.in-Some-uleb_block.ensures.read
