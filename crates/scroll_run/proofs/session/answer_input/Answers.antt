use Rattle.std.proofs.Common.{refl, rules, inr}
use Rattle.scroll_run.proofs.session.answer_input.Goals as goal

pub returns-in_ok-run_script-in-Ok : goal.returns-in_ok-run_script-in-Ok
returns-in_ok-run_script-in-Ok g c =
    let run = c.in_ok-run_script-in-Ok.ensures in
    inr (inr record {
      short = search rules;
      buffer = c.in-Ok.script.buffer.items;
      cursor = c.in-Ok.script.cursor;
      commands = run.commands;
      spelled = c.in-Ok.ensures run.commands run.held;
      runs = run.runs;
      status_is = refl;
    })
