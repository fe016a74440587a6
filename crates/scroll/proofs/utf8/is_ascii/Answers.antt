use Rattle.std.proofs.Common.{rules}
use Rattle.scroll.proofs.lemmas.SearchLemmas.{none_wide}
use Rattle.scroll.proofs.utf8.is_ascii.Goals as goal

pub returns : goal.returns
returns g c = none_wide g.row.N c.args.block.now (search rules) c.requires
