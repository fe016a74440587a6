use Rattle.scroll.proofs.lemmas.LebReadLemmas.{local-sleb, block_reads}
use Rattle.scroll.proofs.leb128.by_loads.sleb_loads.Goals as goal

pub returns-in-Some-sleb_block-clause-read : goal.returns-in-Some-sleb_block-clause-read
returns-in-Some-sleb_block-clause-read c =
    let first = c.in-Some.ensures.first in
    block_reads local-sleb c.args.src.now.bytes c.in-Some.block _ _ first.0 first.1
    c.in-Some-sleb_block.ensures.read

pub signed-requires : goal.signed-requires
signed-requires c = (c.args.src.now.bytes, c.short_groups.ensures.read)

pub signed-requires-2 : goal.signed-requires-2
signed-requires-2 c = (c.word.new.self.bytes, c.long_groups.ensures.read)
