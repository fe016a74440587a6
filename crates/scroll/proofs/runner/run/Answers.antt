use Rattle.std.proofs.Common.{◌≡◌, arith, ◌++◌, ◌∷◌, [], ap, ◌∙◌, sym, subst, get_or, rules}
use Rattle.std.proofs.lemmas.List.{take_all}
use Rattle.scroll.proofs.lemmas.HistoryLemmas.{IsRun-none, IsRun-next}
use Rattle.scroll.specs.Runs.{IsStep, IsRun}
use Rattle.scroll.proofs.runner.run.Goals as goal

pub loop-command-init : goal.loop-command-init
loop-command-init c = (
  IsRun-none c.args.buffer.now c.args.cursor.now c.args.answers.now.items,
  omega arith,
  omega arith,
)

pub loop-command-preserved : goal.loop-command-preserved
loop-command-preserved c =
    let appended = c.in-Ok.ensures.answered in
    let items = appended.items ∙ ap (λ xs. xs ++ appended.answer ∷ []) c.reserve.ensures.items in
    let command : get_or c.args.commands.now c.loop-command.command-index c.command-item.result
    ≡ c.command-item.result =
    search rules in
    let step =
    subst (λ k. IsStep c.loop-command.buffer c.step.new.buffer c.loop-command.cursor k
    appended.answer c.step.new.cursor) (sym command) appended.said in
    let inv = c.loop-command.invariant in
    let run = IsRun-next _ _ _ _ _ _ _ _ _ _ _ _ _ c.loop-command-test.true inv.0 items step in (
      run,
      omega (arith, inv.1, c.reserve.ensures.len, c.in-Ok.ensures.len),
      omega (arith, inv.2, c.reserve.ensures.capacity, c.step.ensures.capacity),
    )

pub returns-clause-ran : goal.returns-clause-ran
returns-clause-ran c =
    let l = c.loop-command in
    subst (λ commands. IsRun c.args.buffer.now l.buffer c.args.cursor.now l.cursor commands
    c.args.answers.now.items l.answers.items)
    (take_all l.command-index c.args.commands.now c.loop-command-test.false) l.invariant.0

pub returns-then-is_err-clause-prefix : goal.returns-then-is_err-clause-prefix
returns-then-is_err-clause-prefix c = record {
  count = c.loop-command.command-index;
  fewer = c.loop-command-test.true;
  prefix = rw c.reserve.ensures.items c.loop-command.invariant.0;
}

pub returns-in-Err-clause-prefix : goal.returns-in-Err-clause-prefix
returns-in-Err-clause-prefix c = record {
  count = c.loop-command.command-index;
  fewer = c.loop-command-test.true;
  prefix =
      rw (
        c.in-Err.ensures.same,
        c.in-Err.ensures.stays,
        c.in-Err.ensures.kept,
        c.reserve.ensures.items,
      ) c.loop-command.invariant.0;
}
