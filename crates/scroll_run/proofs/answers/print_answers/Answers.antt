use Rattle.std.proofs.Common.{arith, rules, string_bytes, subst}
use Rattle.std.proofs.lemmas.Grind.{common_steps}
use Rattle.scroll_run.specs.Answers.{IsAnswerLine}
use Rattle.scroll_run.proofs.AnswerLemmas.{lines_next}
use Rattle.scroll_run.proofs.answers.print_answers.Goals as goal

pub loop-answer-preserved : goal.loop-answer-preserved
loop-answer-preserved g c =
    let line = c.in_ok-print_answer.ensures in
    let is = subst (λ a. IsAnswerLine a line.0) c.answer-item.is line.2 in
    lines_next c.args.answers.now c.answer-item.result c.loop-answer.answer-index _ _ line.0
    c.loop-answer.invariant (search rules) line.1 is

pub returns : goal.returns
returns g c = record {
  prefix = string_bytes c.loop-answer.text;
  lines = grind (arith, common_steps);
  whole = grind (arith, common_steps);
}
