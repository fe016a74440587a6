use Rattle.std.proofs.Common.{ℕ, List, string_bytes, refl, inl, inr, rules, Option, Result, Ok, Err}
use Rattle.std.proofs.lemmas.Result.{err_from_is_err_and}
use Rattle.std.specs.Result.{MatchResult}
use Rattle.std.specs.declared.alloc.AllocError.{AllocError}
use Rattle.scroll_run.specs.Answers.{AnswersInput, AnswersSession, IsInput}
use Rattle.scroll_run.specs.declared.session.Outcome.{Outcome}
use Rattle.scroll_run.proofs.session.session.Goals as goal
use Rattle.scroll_run.proofs.session.session.Goals.{in-Ok, in-Err-NoMemory, in-Ok-outcome, in-Err}

-- what a session with an outcome prints
abbrev Prints : Type 0 → Option (List ℕ) → Option (List ℕ) → Result Outcome AllocError → Type 0
Prints refused old new r =
    MatchResult r (λ o. AnswersSession refused old new (string_bytes o.text) o.status)
    (λ _. refused)

prints : (refused : Type 0) (old new : Option (List ℕ)) (input : List ℕ)
    (r : Result Outcome AllocError) → IsInput old new input
    → MatchResult r (λ o. AnswersInput input (string_bytes o.text) o.status) (λ _. refused)
    → Prints refused old new r
prints refused old new input (Ok o) i h = inr (input, i, h)
prints refused old new input (Err e) i h = h

pub returns-in_err-write_output-clause-broken_off
    : goal.returns-in_err-write_output-clause-broken_off
returns-in_err-write_output-clause-broken_off g c =
    let outcome : Prints (g.M.Memory.refuses c.args.memory) (g.R.Read.remaining c.args.input.now)
    (g.R.Read.remaining c.read_input.new.input) c.match-read_input.outcome =
    elim c.match-read_input.branch [
      | in-Ok w ↦
          rw w.outcome-is (prints (g.M.Memory.refuses c.args.memory)
          (g.R.Read.remaining c.args.input.now) (g.R.Read.remaining c.read_input.new.input)
          w.in-Ok.bytes.items _ (record
          { bound = search rules; taken = w.in-Ok.ensures.taken; whole = search rules })
          (rw w.deref.ensures.value at w.answer_input-outcome.ensures))
      | in-Err-NoMemory w ↦
          rw w.outcome-is (rw w.in-Err-NoMemory.field-0-is at w.in-Err-NoMemory.ensures.refused)
    ] in
    let answers : AnswersSession (g.M.Memory.refuses c.args.memory)
    (g.R.Read.remaining c.args.input.now) (g.R.Read.remaining c.read_input.new.input)
    (c.match-outcome.status.0).now c.match-outcome.status.1 =
    elim c.match-outcome.branch [
      | in-Ok-outcome w ↦
          rw (w.status-is, w.as_bytes.ensures.value) (rw w.in-Ok-outcome.is at outcome)
      | in-Err w ↦ rw w.status-is (inl (rw w.in-Err.is at outcome, w.as_slice.ensures, refl))
    ] in
    let p = err_from_is_err_and c.from_residual.result c.from_residual.ensures.1 in
    rw p.1 (inr (
      (c.match-outcome.status.0).now,
      c.match-outcome.status.1,
      answers,
      c.in_err-write_output.ensures.prefix,
    ))

pub returns-clause-answered : goal.returns-clause-answered
returns-clause-answered g c =
    let outcome : Prints (g.M.Memory.refuses c.args.memory) (g.R.Read.remaining c.args.input.now)
    (g.R.Read.remaining c.read_input.new.input) c.match-read_input.outcome =
    elim c.match-read_input.branch [
      | in-Ok w ↦
          rw w.outcome-is (prints (g.M.Memory.refuses c.args.memory)
          (g.R.Read.remaining c.args.input.now) (g.R.Read.remaining c.read_input.new.input)
          w.in-Ok.bytes.items _ (record
          { bound = search rules; taken = w.in-Ok.ensures.taken; whole = search rules })
          (rw w.deref.ensures.value at w.answer_input-outcome.ensures))
      | in-Err-NoMemory w ↦
          rw w.outcome-is (rw w.in-Err-NoMemory.field-0-is at w.in-Err-NoMemory.ensures.refused)
    ] in
    let answers : AnswersSession (g.M.Memory.refuses c.args.memory)
    (g.R.Read.remaining c.args.input.now) (g.R.Read.remaining c.read_input.new.input)
    (c.match-outcome.status.0).now c.match-outcome.status.1 =
    elim c.match-outcome.branch [
      | in-Ok-outcome w ↦
          rw (w.status-is, w.as_bytes.ensures.value) (rw w.in-Ok-outcome.is at outcome)
      | in-Err w ↦ rw w.status-is (inl (rw w.in-Err.is at outcome, w.as_slice.ensures, refl))
    ] in
    ((c.match-outcome.status.0).now, c.in_ok-write_output.ensures.written, answers)
