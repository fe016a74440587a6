use Rattle.std.proofs.Common.{◌∷◌, map, ap, ◌∙◌}
use Rattle.std.proofs.lemmas.List.{length-map}
use Rattle.std.proofs.lemmas.Result.{err_from_is_err_and}
use Rattle.scroll_run.proofs.LineLemmas.{SpellsAllHeld-commands, first_bad, no_lines, one_line, second_bad, stops_lines}
use Rattle.scroll_run.proofs.lines.parse_lines.Goals as goal

pub returns-in_default : goal.returns-in_default
returns-in_default g c =
    no_lines _ (length-map c.args.lines.now (λ line. line.now) ∙ c.in_default.ensures.cases)

pub returns-in_err-buffer : goal.returns-in_err-buffer
returns-in_err-buffer g c =
    let p = err_from_is_err_and c.from_residual.result c.from_residual.ensures.1 in
    rw (p.1, p.2) c.in_err-buffer.ensures

pub returns-in_default-split_first : goal.returns-in_default-split_first
returns-in_default-split_first g c =
    one_line _ _ _ _ (ap (map (λ line. line.now)) c.in-Some.ensures.cases.0)
    (length-map c.in-Some.rest.now (λ line. line.now) ∙ c.in_default-split_first.ensures.cases)
    (rw c.in-Some-2.is at c.in_ok-buffer.ensures)

pub returns-in_default-2 : goal.returns-in_default-2
returns-in_default-2 g c =
    first_bad _ _ _ (ap (map (λ line. line.now)) c.in-Some.ensures.cases.0)
    (rw c.in_default-2.is at c.in_ok-buffer.ensures)

pub returns-in_default-parse_cursor : goal.returns-in_default-parse_cursor
returns-in_default-parse_cursor g c =
    let both = c.in-Some.ensures.cases.0
    ∙ ap (λ rest. c.in-Some.first.now ∷ rest) c.in-Some-split_first.ensures.cases.0 in
    second_bad _ _ _ _ _ (ap (map (λ line. line.now)) both)
    (rw c.in-Some-2.is at c.in_ok-buffer.ensures) c.in_default-parse_cursor.ensures

pub returns-in_err-commands : goal.returns-in_err-commands
returns-in_err-commands g c =
    let p =
    err_from_is_err_and c.from_residual-in_err-commands.result
    c.from_residual-in_err-commands.ensures.1 in
    let both = c.in-Some.ensures.cases.0
    ∙ ap (λ rest. c.in-Some.first.now ∷ rest) c.in-Some-split_first.ensures.cases.0 in
    rw (p.1, p.2) (stops_lines (g.M.Memory.refuses c.args.memory) _ _ _ _ _ _ _
    (ap (map (λ line. line.now)) both) (rw c.in-Some-2.is at c.in_ok-buffer.ensures)
    c.in-Some-parse_cursor.ensures c.in_err-commands.ensures)

pub returns : goal.returns
returns g c =
    let both = c.in-Some.ensures.cases.0
    ∙ ap (λ rest. c.in-Some.first.now ∷ rest) c.in-Some-split_first.ensures.cases.0 in
    λ commands held.
    record {
      first = _;
      second = _;
      rest = _;
      lines_are = ap (map (λ line. line.now)) both;
      buffer_is = rw c.in-Some-2.is at c.in_ok-buffer.ensures;
      cursor_is = c.in-Some-parse_cursor.ensures;
      commands_are = SpellsAllHeld-commands _ _ commands c.in_ok-commands.ensures held;
    }
