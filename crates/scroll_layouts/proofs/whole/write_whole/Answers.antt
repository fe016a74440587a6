-- What was written reads back.
use Rattle.std.proofs.Common.{rules}
use Rattle.scroll_layouts.specs.lemmas.WholeLemmas.{whole-written}
use Rattle.scroll_layouts.proofs.whole.write_whole.Goals as goal

pub returns-clause-wrote : goal.returns-clause-wrote
returns-clause-wrote g c =
    whole-written (g.L.Part.format c.args.ctx.now) c.args.order c.args.value.now c.args.dst.now
    c.put.new.dst c.size-size.result c.in_ok-check.ensures.agrees (search rules)
