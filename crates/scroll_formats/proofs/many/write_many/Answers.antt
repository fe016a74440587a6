-- One more value is written, and at the end all are.
use Rattle.std.proofs.Common.{refl, subst}
use Rattle.std.proofs.lemmas.List.{take_all}
use Rattle.scroll.specs.Arrays.{WritesAll}
use Rattle.scroll_formats.proofs.lemmas.ManyLemmas.{WritesAll-item, FailsMany-item}
use Rattle.scroll_formats.proofs.many.write_many.Goals as goal

pub loop-i-init : goal.loop-i-init
loop-i-init g c = (refl, refl)

pub returns-in-Err-clause-refused : goal.returns-in-Err-clause-refused
returns-in-Err-clause-refused g c =
    FailsMany-item _ _ _ c.args.values.now c.loop-i.i c.index-values-i.result c.loop-i-test.true
    c.index-values-i.is c.loop-i.invariant c.in-Err.ensures.refused

pub loop-i-preserved : goal.loop-i-preserved
loop-i-preserved g c =
    WritesAll-item _ _ _ c.args.values.now c.loop-i.i c.index-values-i.result _ _ _
    c.loop-i-test.true c.index-values-i.is c.loop-i.invariant c.in-Ok.ensures.wrote
    c.in-Ok.ensures.moves

pub returns-clause-wrote : goal.returns-clause-wrote
returns-clause-wrote g c =
    let l = c.loop-i in
    subst (λ vs. WritesAll (g.T.TryIntoCtx.writes c.args.ctx) c.args.dst.now c.args.offset.now vs
    l.dst l.offset) (take_all l.i c.args.values.now c.loop-i-test.false) l.invariant
