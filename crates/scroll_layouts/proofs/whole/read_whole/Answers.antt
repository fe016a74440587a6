-- What follows from a read.
use Rattle.std.proofs.Common.{arith}
use Rattle.scroll_layouts.specs.lemmas.WholeLemmas.{whole-read, bytes-below}
use Rattle.scroll_layouts.proofs.whole.read_whole.Goals as goal

pub returns-clause-read : goal.returns-clause-read
returns-clause-read g c =
    whole-read (g.L.ReadPart.format c.args.ctx.now) c.args.order c.args.from.now
    c.in_ok-value.value c.in_ok-value.end c.requires (bytes-below c.args.from.now c.type_inv.from)
    c.in_ok-value.ensures.read (omega (arith, c.in_ok-value.ensures.moves))
