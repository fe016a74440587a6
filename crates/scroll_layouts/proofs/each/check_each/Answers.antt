-- One more value agrees, or it is the one that doesn't.
use Rattle.scroll_layouts.specs.lemmas.EachLemmas.{one-differs}
use Rattle.scroll_layouts.proofs.each.check_each.Goals as goal

pub returns-in-Err-clause-differs : goal.returns-in-Err-clause-differs
returns-in-Err-clause-differs g c =
    one-differs (g.L.Part.format c.args.ctx.now) c.args.order c.args.values.now c.loop-i.i
    c.index-values-i.result c.in-Err.error c.loop-i-test.true c.index-values-i.is
    c.loop-i.invariant c.in-Err.ensures.differs
