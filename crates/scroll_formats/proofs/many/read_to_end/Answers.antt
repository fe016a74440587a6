-- One more value was read.
use Rattle.std.proofs.Common.{subst}
use Rattle.scroll.specs.Reads.{ReadsAll}
use Rattle.scroll.proofs.lemmas.callers.Cursors.{ReadsAll-pushed}
use Rattle.scroll_formats.proofs.lemmas.ManyLemmas.{with-bytes-read}
use Rattle.scroll_formats.proofs.many.read_to_end.Goals as goal

pub returns-in-Err-clause-refused : goal.returns-in-Err-clause-refused
returns-in-Err-clause-refused g c = record {
  values = c.loop-end.values.items;
  each = c.loop-end.invariant;
  more = c.loop-end-test.true;
  error = c.in-Err.ensures.refused;
}

pub loop-end-preserved : goal.loop-end-preserved
loop-end-preserved g c =
    let next = c.in_default.ensures.read in
    ReadsAll-pushed _ _ c.loop-end.invariant next.2 next.1

pub returns-clause-read : goal.returns-clause-read
returns-clause-read g c =
    let l = c.loop-end in
    let reads = g.T.TryFromCtx.reads c.args.ctx in
    subst (ReadsAll reads c.args.from.now c.args.offset.now l.values.items) c.loop-end-test.false
    (with-bytes-read reads c.args.from.now c.args.offset.now l.values.items l.end l.invariant)
