use Rattle.std.proofs.Common.{take, string_bytes}
use Rattle.scroll_run.specs.Answers.{AreAnswerLines}
use Rattle.scroll_run.proofs.answers.print_answers.Given as goal

abbrev pub invariant-loop-answer : goal.invariant-loop-answer
invariant-loop-answer g l = AreAnswerLines (take l.answer-index l.answers) (string_bytes l.text)
