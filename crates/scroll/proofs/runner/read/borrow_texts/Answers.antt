use Rattle.std.proofs.Common.{ℕ, List, IfErr, rules}
use Rattle.std.specs.Borrow.{Bor}
use Rattle.scroll.proofs.lemmas.ArrayLemmas.{err-map}
use Rattle.scroll.specs.Arrays.{RefusesArray}
use Rattle.scroll.specs.Errors.{IsBadOffset}
use Rattle.scroll.specs.Reads.{RefusesAt}
use Rattle.scroll.specs.Texts.{ReadsText, RefusesText}
use Rattle.scroll.proofs.runner.read.borrow_texts.Goals as goal

pub returns-clause-refused : goal.returns-clause-refused
returns-clause-refused c =
    let now : Bor (List ℕ) → List ℕ = λ x. x.now in
    let refused : IfErr c.gread_with.result
    (RefusesAt (RefusesArray (λ s x n. ReadsText c.args.ctx s (now x) n)
    (RefusesText c.args.ctx) IsBadOffset 2) IsBadOffset c.args.buffer.now
    c.args.offset.now) =
    search rules in
    let seen =
    err-map now (ReadsText c.args.ctx) (RefusesText c.args.ctx) IsBadOffset 2 c.args.buffer.now
    c.args.offset.now c.gread_with.result refused in
    search (rules, seen)
