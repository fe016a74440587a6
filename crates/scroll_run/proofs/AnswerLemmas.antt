-- Lemmas on the lines of answers.
use Rattle.std.proofs.Common.{◌≡◌, ◌<◌, ◌+◌, ◌++◌, ℕ, List, [], ◌∷◌, length, take, get_or, refl, sym, ap, ◌∙◌, append-nil, append_assoc}
use Rattle.std.proofs.lemmas.List.{take_more}
use Rattle.scroll.specs.declared.runner.Answer.{Answer}
use Rattle.scroll_run.specs.Answers.{IsAnswerLine, AreAnswerLines}

-- one more line, for one more answer
pub AreAnswerLines-more : (answers : List Answer) (text : List ℕ) (a : Answer) (line : List ℕ)
    → AreAnswerLines answers text → IsAnswerLine a line
    → AreAnswerLines (answers ++ a ∷ []) (text ++ line)
AreAnswerLines-more [] text a line h s =
    (line, [], ap (λ t. t ++ line) h ∙ sym (append-nil line), s, refl)
AreAnswerLines-more (b ∷ more) text a line h s = (
  h.0,
  h.1 ++ line,
  ap (λ t. t ++ line) h.2 ∙ append_assoc h.0 h.1 line,
  h.3,
  AreAnswerLines-more more h.1 a line h.4 s,
)

-- the answer at i has its line too
pub lines_next : (answers : List Answer) (d : Answer) (i : ℕ) (old new line : List ℕ)
    → AreAnswerLines (take i answers) old → i < length answers → new ≡ old ++ line
    → IsAnswerLine (get_or answers i d) line → AreAnswerLines (take (i + 1) answers) new
lines_next answers d i old new line h lt e s =
    let more = take_more answers i d lt in
    rw more (rw e (AreAnswerLines-more (take i answers) old (get_or answers i d) line h s))
