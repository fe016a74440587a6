-- What one command appends, in the contracts of a run's private functions.
use Rattle.std.specs.Prelude.{◌≡◌, ◌++◌, ℕ, List, [], ◌∷◌, Result, Ok, Err}
use Rattle.scroll.specs.Runs.{ReadsHere, RefusesHere, moved}
use Rattle.scroll.specs.declared.error.Error.{Error}
use Rattle.scroll.specs.declared.runner.Answer.{Answer}
use Rattle.scroll.specs.declared.runner.Answer.TheVariants as answer
use Rattle.scroll.specs.declared.runner.Place.{Place}
use Rattle.scroll.specs.declared.runner.Value.{Value}

-- one answer was appended to `old`, of which `says` holds
pub record AppendsAnswer (old new : List Answer) (says : Answer → Type 0) : Type 0 where
  pub answer : Answer
  pub items : new ≡ old ++ answer ∷ []
  pub said : says answer

-- `AnswersRead reads refuses past_end buffer cursor at a after`: the result `a` of one read, as
-- these relations say, and the cursor `after` it
abbrev pub AnswersRead : (List ℕ → Value → ℕ → Type 0) → (List ℕ → Error → Type 0)
    → (ℕ → Error → Type 0) → List ℕ → ℕ → Place → Answer → ℕ → Type 0
AnswersRead reads refuses past_end buffer cursor at (answer.Read x) after =
    ReadsHere reads buffer cursor at x after
AnswersRead reads refuses past_end buffer cursor at (answer.Refused e) after =
    RefusesHere refuses past_end buffer cursor at e after
AnswersRead reads refuses past_end buffer cursor at (answer.Wrote n) after = ⊥

-- `answer_of r`: the answer to a write that returns `r`
abbrev pub answer_of : Result ℕ Error → Answer
answer_of (Ok n) = answer.Wrote n
answer_of (Err e) = answer.Refused e

-- `after_write at cursor r`: the cursor after a write that returns `r`
abbrev pub after_write : Place → ℕ → Result ℕ Error → ℕ
after_write at cursor (Ok n) = moved at cursor n
after_write at cursor (Err e) = cursor

-- a write returned a result of which `says` holds, its answer was appended to `old`, and `to`
-- is the cursor
pub record AppendsWrite (says : Result ℕ Error → Type 0) (at : Place) (from to : ℕ)
    (old new : List Answer) : Type 0 where
  pub result : Result ℕ Error
  pub wrote : says result
  pub items : new ≡ old ++ answer_of result ∷ []
  pub cursor : to ≡ after_write at from result
