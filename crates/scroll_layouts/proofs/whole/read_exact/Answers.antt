-- The bytes are those that were read.
use Rattle.scroll_layouts.specs.lemmas.WholeLemmas.{exact-read, bytes-below}
use Rattle.scroll_layouts.proofs.whole.read_exact.Goals as goal

pub returns-clause-read : goal.returns-clause-read
returns-clause-read g c =
    exact-read (g.L.ReadPart.format c.args.ctx.now) c.args.order c.args.from.now
    c.in_ok-value.value c.in_ok-value.end c.requires.exact
    (bytes-below c.args.from.now c.type_inv.from) c.in_ok-value.ensures.read
