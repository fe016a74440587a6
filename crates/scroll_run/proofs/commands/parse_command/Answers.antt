use Rattle.std.proofs.Common.{map, ap, ◌∙◌}
use Rattle.scroll_run.proofs.commands.parse_command.Goals as goal

pub returns : goal.returns
returns g c =
    let words = ap (map (λ word. word.now)) c.deref.ensures.value ∙ c.in_ok-words.ensures in
    rw words at c.parse_words.ensures
