-- One more value is appended, or it is the one that fails.
use Rattle.std.proofs.Common.{arith}
use Rattle.std.specs.Prelude.{vec_capacity}
use Rattle.scroll_layouts.specs.lemmas.WholeLemmas.{each-next, each-fails}
use Rattle.scroll_layouts.proofs.append.append_each.Goals as goal

pub loop-i-preserved : goal.loop-i-preserved
loop-i-preserved g c = record {
  appended = each-next (g.L.Part.format c.args.ctx.now) c.args.order c.args.target.now.items
      c.args.values.now c.loop-i.i c.index-values-i.result c.loop-i.target.items
      c.append_whole.new.target.items c.loop-i-test.true c.index-values-i.is
      c.loop-i.invariant.appended c.in-Ok.ensures.appended;
  room = omega (arith, c.loop-i.invariant.room, c.in-Ok.ensures.capacity);
}

pub returns-in-Err-clause-refused : goal.returns-in-Err-clause-refused
returns-in-Err-clause-refused g c =
    each-fails g.E.From.from_gives (vec_capacity c.args.target.now)
    (vec_capacity c.loop-i.target) (g.L.Part.format c.args.ctx.now) c.args.order
    c.args.target.now.items c.args.values.now c.loop-i.i c.index-values-i.result
    c.loop-i.target.items c.append_whole.new.target.items c.in-Err.error c.loop-i-test.true
    c.index-values-i.is c.loop-i.invariant.appended c.in-Err.ensures.unchanged
    c.loop-i.invariant.room c.in-Err.ensures.refused
