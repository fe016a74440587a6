use Rattle.std.proofs.Common.{rules}
use Rattle.scroll.proofs.lemmas.SearchLemmas.{equal_marks}
use Rattle.scroll.proofs.search.stops.OneByteStopsIn.marks.Goals as goal

pub returns : goal.returns
returns g c = equal_marks g.row.N c.args.self.0 c.args.block.now (search rules) c.requires
