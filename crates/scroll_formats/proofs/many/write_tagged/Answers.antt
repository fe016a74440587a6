use Rattle.std.proofs.Common.{arith}
use Rattle.std.proofs.lemmas.Grind.{common_steps}
use Rattle.scroll_formats.proofs.many.write_tagged.Goals as goal

pub returns-in_err-size-clause-refused : goal.returns-in_err-size-clause-refused
returns-in_err-size-clause-refused g c = grind (arith, common_steps)

pub returns-clause-wrote : goal.returns-clause-wrote
returns-clause-wrote g c = grind (arith, common_steps)
