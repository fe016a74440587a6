use Rattle.std.proofs.Common.{arith}
use Rattle.std.proofs.lemmas.Grind.{common_steps}
use Rattle.scroll.proofs.error.ErrorDisplay.fmt.Goals as goal

pub returns-in-TooBig-clause-writes : goal.returns-in-TooBig-clause-writes
returns-in-TooBig-clause-writes g c = grind (arith, common_steps)

pub returns-in-BadInput-clause-writes : goal.returns-in-BadInput-clause-writes
returns-in-BadInput-clause-writes g c = grind (arith, common_steps)
