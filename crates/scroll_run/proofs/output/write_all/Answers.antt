use Rattle.std.proofs.Common.{◌++◌, take, rules}
use Rattle.std.proofs.KnownBytes.{Appends-trans, Appends-kept}
use Rattle.scroll_run.proofs.Fronts.{prefix_moves, appends_all, appends_prefix, appends_more}
use Rattle.scroll_run.proofs.output.write_all.Goals as goal
use Rattle.scroll_run.proofs.output.write_all.Goals.{in-Ok, in-Err}

pub loop-preserved : goal.loop-preserved
loop-preserved g c = elim c.match-write.branch [
  | in-Ok w ↦ record {
    done = c.loop.invariant.done ++ take w.in-Ok.count c.loop.rest.now;
    whole = rw w.rest-is (prefix_moves _ _ _ w.in-Ok.count c.loop.invariant.whole);
    appended = Appends-trans _ _ _ _ _ c.loop.invariant.appended w.in-Ok.ensures.bytes;
  }
  | in-Err w ↦ record {
    done = c.loop.invariant.done;
    whole = rw w.rest-is c.loop.invariant.whole;
    appended = Appends-kept _ _ _ _ c.loop.invariant.appended w.in-Err.ensures.bytes;
  }
]

pub returns-clause-prefix : goal.returns-clause-prefix
returns-clause-prefix g c =
    appends_prefix _ _ _ _ _ c.loop.invariant.whole c.loop.invariant.appended

pub returns-in-Ok-eq0-clause-prefix : goal.returns-in-Ok-eq0-clause-prefix
returns-in-Ok-eq0-clause-prefix g c =
    appends_more _ _ _ _ _ _ c.in-Ok-eq0.field-0 c.loop.invariant.whole c.loop.invariant.appended
    (rw c.in-Ok-eq0.is at c.write.ensures.bytes)

pub returns-in-Err-2-clause-prefix : goal.returns-in-Err-2-clause-prefix
returns-in-Err-2-clause-prefix g c =
    appends_prefix _ _ _ _ _ c.loop.invariant.whole
    (Appends-kept _ _ _ _ c.loop.invariant.appended c.in-Err-2.ensures.bytes)

pub returns-then-is_empty-clause-written : goal.returns-then-is_empty-clause-written
returns-then-is_empty-clause-written g c =
    appends_all _ _ _ _ _ c.loop.invariant.whole (search rules) c.loop.invariant.appended

pub returns-then-is_empty-clause-prefix : goal.returns-then-is_empty-clause-prefix
returns-then-is_empty-clause-prefix g c =
    appends_prefix _ _ _ _ _ c.loop.invariant.whole c.loop.invariant.appended

pub returns-then-is_empty-2-clause-written : goal.returns-then-is_empty-2-clause-written
returns-then-is_empty-2-clause-written g c =
    appends_all _ _ _ _ _ c.loop.invariant.whole (search rules) c.loop.invariant.appended

pub returns-then-is_empty-2-clause-prefix : goal.returns-then-is_empty-2-clause-prefix
returns-then-is_empty-2-clause-prefix g c =
    appends_prefix _ _ _ _ _ c.loop.invariant.whole c.loop.invariant.appended
