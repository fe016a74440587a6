-- A byte is its own byte.
use Rattle.std.proofs.Common.{sym}
use Rattle.scroll.proofs.lemmas.NumberLemmas.{bytes-same}
use Rattle.scroll.proofs.ctx.numbers.unsigned.U8Fixed.as_bytes.Goals as goal

pub returns : goal.returns
returns c = sym (bytes-same c.args._order c.args.values.now c.type_inv.values)
