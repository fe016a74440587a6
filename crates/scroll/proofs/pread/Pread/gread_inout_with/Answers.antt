use Rattle.std.proofs.Common.{◌+◌, ◌<◌, length, arith, ◌∙◌}
use Rattle.std.proofs.lemmas.List.{take_more_set, drop-set-lt, take_all}
use Rattle.std.proofs.Math.ListN.{length-set}
use Rattle.scroll.proofs.lemmas.ArrayLemmas.{drop-next}
use Rattle.scroll.proofs.lemmas.Buffers.{ReadsAll-push}
use Rattle.scroll.proofs.pread.Pread.gread_inout_with.Goals as goal

pub loop-i-preserved : goal.loop-i-preserved
loop-i-preserved g c =
    let read = c.in_ok-inout.ensures.read in
    let inside : c.loop-i.i < length c.loop-i.inout = omega (arith, c.loop-i.invariant.len) in
    record {
      len = length-set c.loop-i.inout c.loop-i.i c.in_ok-inout.field-0 ∙ c.loop-i.invariant.len;
      prefix = rw (take_more_set c.loop-i.inout c.loop-i.i c.in_ok-inout.field-0 inside)
          (ReadsAll-push _ _ _ _ _ _ _ _ c.loop-i.invariant.prefix read.1 read.2);
      others =
          drop-set-lt (c.loop-i.i + 1) c.loop-i.inout c.loop-i.i c.in_ok-inout.field-0 (omega arith)
          ∙ drop-next c.loop-i.i _ _ c.loop-i.invariant.others;
    }

pub returns-clause-read : goal.returns-clause-read
returns-clause-read g c =
    rw (take_all c.loop-i.i c.loop-i.inout (omega (arith, c.loop-i.invariant.len))) at
    c.loop-i.invariant.prefix
