-- The two writes don't overlap, so they may be exchanged.
use Rattle.std.proofs.Common.{refl, arith, inr}
use Rattle.scroll.proofs.lemmas.callers.OwnTypes.{prefixes-exchange}
use Rattle.packets.proofs.write_headers.Goals as goal

pub returns-clause-either_order : goal.returns-clause-either_order
returns-clause-either_order c =
    prefixes-exchange refl refl (inr (omega arith)) c.in_ok-pwrite_with.ensures.wrote
    c.in_ok-pwrite_with-2.ensures.wrote
