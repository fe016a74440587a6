use Rattle.std.proofs.Common.{◌≡◌, ◌+◌, ◌≤◌, take, vec_len, vec_capacity}
use Rattle.scroll.specs.Runs.{IsRun}
use Rattle.scroll.proofs.runner.run.Given as goal

-- the first commands have run, and the answers have kept the room that they had
abbrev pub invariant-loop-command : goal.invariant-loop-command
invariant-loop-command l =
    IsRun l.fn.buffer l.buffer l.fn.cursor l.cursor (take l.command-index l.commands)
    l.fn.answers.items l.answers.items
    × (vec_len l.answers ≡ vec_len l.fn.answers + l.command-index)
    × (vec_capacity l.fn.answers ≤ vec_capacity l.answers)
