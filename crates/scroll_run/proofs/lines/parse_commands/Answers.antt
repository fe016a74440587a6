use Rattle.std.proofs.Common.{◌+◌, ◌++◌, [], ◌∷◌, rules, arith, ap, ◌∙◌, map}
use Rattle.std.proofs.lemmas.List.{length-map, take_all}
use Rattle.std.proofs.lemmas.Result.{err_from_is_err_and}
use Rattle.scroll_run.proofs.LineLemmas.{stops_here, held_next}
use Rattle.scroll_run.proofs.lines.parse_commands.Goals as goal

pub returns-in_err-reserve : goal.returns-in_err-reserve
returns-in_err-reserve g c =
    let p = err_from_is_err_and c.from_residual.result c.from_residual.ensures.1 in
    rw (p.1, p.2) c.in_err-reserve.ensures.refused

pub returns-in_err-command : goal.returns-in_err-command
returns-in_err-command g c =
    let p =
    err_from_is_err_and c.from_residual-in_err-command.result
    c.from_residual-in_err-command.ensures.1 in rw (p.1, p.2) c.in_err-command.ensures

pub returns : goal.returns
returns g c =
    let count = length-map c.args.lines.now (λ line. line.now) in
    let end = c.loop-line-test.false in
    rw (take_all c.loop-line.line-index (map (λ line. line.now) c.args.lines.now) (omega arith)) at
    c.loop-line.invariant

pub returns-in-None : goal.returns-in-None
returns-in-None g c =
    let none = rw c.in-None.is at c.in_ok-command.ensures in
    stops_here (g.M.Memory.refuses c.args.memory) c.args.lines.now _ c.loop-line.commands.items
    c.loop-line.line-index (c.len.result + 3) c.loop-line.invariant (search rules)
    (search rules) none

pub loop-line-preserved : goal.loop-line-preserved
loop-line-preserved g c =
    let some = rw c.in-Some.is at c.in_ok-command.ensures in
    rw (c.push_reserved.ensures.items
    ∙ ap (λ xs. xs ++ c.in-Some.command ∷ []) c.in_ok-reserve.ensures.items)
    (held_next c.args.lines.now _ c.loop-line.commands.items c.loop-line.line-index
    c.in-Some.command c.loop-line.invariant (search rules) some)
