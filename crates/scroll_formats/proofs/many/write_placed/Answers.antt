-- One more value is written, where its entry says.
use Rattle.std.proofs.Common.{length, inl, inr, ap, arith, subst}
use Rattle.std.specs.List.{AllZip}
use Rattle.std.proofs.lemmas.List.{length_push, take_all}
use Rattle.scroll.specs.Arrays.{WritesAll}
use Rattle.scroll_formats.specs.Many.{StandsAs, WritesPlaced}
use Rattle.scroll_formats.proofs.lemmas.ManyLemmas.{WritesAll-item, WritesPlaced-item, FailsMany-item, StopsBefore-item, AllZip-item, changes-next, changes-before}
use Rattle.scroll_formats.proofs.many.write_placed.Goals as goal

pub returns-in-Err-clause-refused : goal.returns-in-Err-clause-refused
returns-in-Err-clause-refused g c =
    let l = c.loop-k in
    let vs = c.args.values.now in
    let inside = c.loop-k-test.true in
    let failed = c.in-Err.ensures in
    rw failed.stays (elim failed.refused [
      | inl r ↦
          inl (FailsMany-item _ _ _ vs l.k c.index-values-k.result inside c.index-values-k.is
          l.invariant.wrote r)
      | inr r ↦
          inr (rw r.0 (StopsBefore-item _ _ vs l.k c.index-values-k.result inside
          c.index-values-k.is l.invariant.wrote r.1))
    ])

pub loop-k-preserved : goal.loop-k-preserved
loop-k-preserved g c =
    let l = c.loop-k in
    let vs = c.args.values.now in
    let v = c.index-values-k.result in
    let inside = c.loop-k-test.true in
    let is = c.index-values-k.is in
    let next = c.in_default.ensures in
    let entry = next.entered in
    record {
      wrote =
          WritesAll-item _ _ _ vs l.k v _ _ _ inside is l.invariant.wrote next.wrote.2 next.wrote.1;
      places =
          rw entry.1 (WritesPlaced-item _ _ _ _ l.entries.items entry.0 vs l.k v _ _ _ inside is
          l.invariant.places entry.2 next.wrote.2 next.wrote.1);
      others = changes-next l.invariant.others next.others;
      kept = λ later same.
          let read = next.kept later same in
          rw entry.1
          (AllZip-item _ l.entries.items entry.0 vs l.k v inside is
          (l.invariant.kept later (changes-before later next.others same))
          (record { there = (read.0, rw entry.2 read.2); is = entry.3 }));
      count =
          omega (arith, ap length entry.1, length_push l.entries.items entry.0, l.invariant.count);
    }

pub returns-clause-wrote : goal.returns-clause-wrote
returns-clause-wrote g c =
    let l = c.loop-k in
    subst (λ vs. WritesAll (g.T.TryIntoCtx.writes c.args.ctx) c.args.dst.now c.args.offset.now vs
    l.dst l.offset) (take_all l.k c.args.values.now c.loop-k-test.false) l.invariant.wrote

pub returns-clause-places : goal.returns-clause-places
returns-clause-places g c =
    let l = c.loop-k in
    subst (λ vs. WritesPlaced (g.T.TryIntoCtx.writes c.args.ctx) g.P.EntryOf.place c.args.dst.now
    c.args.offset.now l.entries.items vs l.dst l.offset)
    (take_all l.k c.args.values.now c.loop-k-test.false) l.invariant.places

pub returns-clause-kept : goal.returns-clause-kept
returns-clause-kept g c =
    λ later same.
    subst (λ vs. AllZip (StandsAs (g.T.Kept.reads c.args.ctx) g.P.EntryOf.place
    g.P.EntryOf.describes later) c.loop-k.entries.items vs)
    (take_all c.loop-k.k c.args.values.now c.loop-k-test.false)
    (c.loop-k.invariant.kept later same)
