use Rattle.std.proofs.Common.{take}
use Rattle.scroll_run.specs.Commands.{AreCommandsOf}
use Rattle.scroll_run.proofs.commands.borrow_commands.Given as goal

abbrev pub invariant-loop-line : goal.invariant-loop-line
invariant-loop-line g l = AreCommandsOf (take l.line-index l.lines) l.commands.items
