use Rattle.std.proofs.Common.{◌*◌, ◌≤◌}
use Rattle.std.specs.List.{position_or_len}
use Rattle.scroll.proofs.search.first_in_blocks.Given as goal

abbrev pub invariant-loop-k : goal.invariant-loop-k
invariant-loop-k g l = l.k * g.row.N ≤ position_or_len (g.S.Stops.stops l.at) l.source
