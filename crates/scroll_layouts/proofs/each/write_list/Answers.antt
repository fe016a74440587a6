-- What was written reads back.
use Rattle.std.proofs.Common.{rules}
use Rattle.scroll_layouts.specs.lemmas.EachLemmas.{list-written}
use Rattle.scroll_layouts.proofs.each.write_list.Goals as goal

pub returns-clause-wrote : goal.returns-clause-wrote
returns-clause-wrote g c =
    list-written (g.H.Part.format c.args.ctx.now) (g.L.Part.format c.args.each.now) c.args.order
    c.args.head.now c.args.values.now c.args.dst.now c.put_list.new.dst c.size_list-size.result
    c.in_ok-check.ensures.agrees c.in_ok-check_each.ensures.agrees (search rules)
