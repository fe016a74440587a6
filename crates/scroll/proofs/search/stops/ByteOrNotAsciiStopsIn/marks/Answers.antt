use Rattle.std.proofs.Common.{rules}
use Rattle.scroll.proofs.lemmas.SearchLemmas.{stop_marks}
use Rattle.scroll.proofs.search.stops.ByteOrNotAsciiStopsIn.marks.Goals as goal

pub returns : goal.returns
returns g c = stop_marks g.row.N c.args.self.0 c.args.block.now (search rules) c.requires
