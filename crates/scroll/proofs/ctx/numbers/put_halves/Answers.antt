use Rattle.scroll.proofs.lemmas.NumberLemmas.{parts_written}
use Rattle.scroll.proofs.ctx.numbers.put_halves.Goals as goal

pub returns : goal.returns
returns c =
    let split = c.split_at_mut-prefix.ensures in
    parts_written c.args.dst.now _ _ _ _ _ _ _ _ c.to_le_bytes.ensures c.to_le_bytes-2.ensures
    split.front split.back c.put_prefix.ensures c.put_prefix-2.ensures
