-- One more value was read.
use Rattle.std.proofs.Common.{length, ap, arith}
use Rattle.std.proofs.lemmas.List.{length_push}
use Rattle.scroll.proofs.lemmas.callers.Cursors.{ReadsAll-pushed}
use Rattle.scroll_formats.proofs.many.read_many.Goals as goal

pub returns-in-Err-clause-refused : goal.returns-in-Err-clause-refused
returns-in-Err-clause-refused g c =
    let l = c.loop-i in
    rw c.in-Err.ensures.stays record {
      values = l.values.items;
      fewer = omega (arith, l.invariant.1, c.loop-i-test.true);
      each = l.invariant.0;
      error = c.in-Err.ensures.refused;
    }

pub loop-i-preserved : goal.loop-i-preserved
loop-i-preserved g c =
    let next = c.in_default.ensures.read in (
      ReadsAll-pushed _ _ c.loop-i.invariant.0 next.2 next.1,
      omega (
        arith,
        ap length next.1,
        length_push c.loop-i.values.items next.0,
        c.loop-i.invariant.1,
      ),
    )
