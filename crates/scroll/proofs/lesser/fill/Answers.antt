use Rattle.std.proofs.Common.{arith}
use Rattle.std.proofs.lemmas.Grind.{common_steps}
use Rattle.scroll.proofs.lesser.fill.Goals as goal

pub returns-then-is_empty : goal.returns-then-is_empty
returns-then-is_empty g c = grind (arith, common_steps)

pub returns-in-Ok : goal.returns-in-Ok
returns-in-Ok g c = grind (arith, common_steps)

pub returns-in-Ok-eq0 : goal.returns-in-Ok-eq0
returns-in-Ok-eq0 g c = grind (arith, common_steps)

pub returns-in-Ok-2 : goal.returns-in-Ok-2
returns-in-Ok-2 g c = grind (arith, common_steps)
