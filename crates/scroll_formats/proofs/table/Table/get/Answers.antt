use Rattle.std.proofs.Common.{arith}
use Rattle.std.proofs.lemmas.Grind.{common_steps}
use Rattle.scroll_formats.proofs.table.Table.get.Goals as goal

pub returns-clause-element : goal.returns-clause-element
returns-clause-element g c = grind (arith, common_steps)
