use Rattle.std.proofs.Common.{rules, ◌++◌, ◌∷◌, [], ap, ◌∙◌}
use Rattle.scroll_run.proofs.CommandLemmas.{commands_next}
use Rattle.scroll_run.proofs.commands.borrow_commands.Goals as goal

pub loop-line-preserved : goal.loop-line-preserved
loop-line-preserved g c =
    let items = c.push_reserved.ensures.items
    ∙ ap (λ cs. cs ++ c.command.result ∷ []) c.reserve.ensures.items in
    rw items (commands_next c.args.lines.now c.loop-line.line-index _ c.line-item.result
    c.command.result c.loop-line.invariant (search rules) c.line-item.is c.command.ensures)
