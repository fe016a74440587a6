use Rattle.std.proofs.Common.{map, take}
use Rattle.scroll_run.specs.Lines.{SpellsAllHeld}
use Rattle.scroll_run.proofs.lines.parse_commands.Given as goal

abbrev pub invariant-loop-line : goal.invariant-loop-line
invariant-loop-line g l =
    SpellsAllHeld (take l.line-index (map (λ line. line.now) l.lines)) l.commands.items
