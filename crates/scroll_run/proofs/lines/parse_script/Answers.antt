use Rattle.std.proofs.Common.{map, ap, ◌∙◌}
use Rattle.scroll_run.proofs.lines.parse_script.Goals as goal

pub returns : goal.returns
returns g c =
    let lines = ap (map (λ line. line.now)) c.deref.ensures.value ∙ c.in_ok-lines.ensures in
    rw c.without_last_feed.ensures at (rw lines at c.parse_lines.ensures)
