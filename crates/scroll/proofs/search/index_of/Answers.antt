use Rattle.std.proofs.Common.{ℕ, Bool, ◌+◌, ◌-◌, ◌==◌, length, take, drop, length-take, arith, ap, ◌∙◌}
use Rattle.scroll.proofs.lemmas.SearchLemmas.{position_or_len-le, position_or_len-rest, stop_in_front, none_in_front}
use Rattle.scroll.proofs.search.index_of.Goals as goal

pub returns-then-marks-ne0 : goal.returns-then-marks-ne0
returns-then-marks-ne0 c =
    let p : ℕ → Bool = λ b. b == c.args.delimiter in
    stop_in_front p c.args.source.now _ _ c.in-Some.ensures.cases.same c.marks-marks.ensures
    c.if-marks-ne0.true

pub overflow_add-result : goal.overflow_add-result
overflow_add-result c =
    let p : ℕ → Bool = λ b. b == c.args.delimiter in
    let s = c.args.source.now in
    omega (
      arith,
      c.far_index_of.ensures,
      position_or_len-le p (take (length s - 64) (drop 64 s)),
      length-take (length s - 64) (drop 64 s),
    )

pub returns : goal.returns
returns c =
    let p : ℕ → Bool = λ b. b == c.args.delimiter in
    let s = c.args.source.now in
    let none =
    none_in_front p s _ _ c.in-Some.ensures.cases.enough c.in-Some.ensures.cases.same
    c.marks-marks.ensures c.if-marks-ne0.false in
    ap (λ n. 64 + n) c.far_index_of.ensures ∙ position_or_len-rest p 64 s none
