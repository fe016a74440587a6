use Rattle.std.proofs.Common.{◌≡◌, ◌≢◌, ℕ, ◌<◌, ◌^◌, List, length, get_or, arith, Result, Ok, Err}
use Rattle.std.proofs.lemmas.Fmt.{IsAscii-from_digits}
use Rattle.std.proofs.lemmas.Str.{IsUtf8-from_ascii}
use Rattle.std.proofs.lemmas.Str.Parse.{not_in_digits, numerals_by_value, parse_plain, tells_digits}
use Rattle.std.proofs.lemmas.Grind.{common_steps}
use Rattle.std.specs.Str.Parse.{IsNumeral, AllDigits, digits_value, ParsesUnsigned}
use Rattle.std.specs.Option.{SomeIff}
use Rattle.std.specs.Result.{OkIff, result_ok}
use Rattle.scroll_run.proofs.words.parse_number.Goals as goal

-- a plus isn't a digit
no_plus : (word : List ℕ) → get_or word 0 0 ≡ 43 → ¬ (IsNumeral 10 word)
no_plus word plus n =
    not_in_digits (numerals_by_value (AllDigits 10) tells_digits) word 43 n.1
    (λ r. omega (arith, r.0)) 0 n.0 plus

-- what a word that doesn't begin with a plus parses to
parsed : {E : Type 0} (word text : List ℕ) (r : Result ℕ E) → text ≡ word → get_or word 0 0 ≢ 43
    → ParsesUnsigned 128 10 text r
    → SomeIff (result_ok r) (IsNumeral 10 word × (digits_value 10 word < 2 ^ 128))
    (digits_value 10 word)
parsed word text r e plain h =
    by_cases r (parse_plain (numerals_by_value (AllDigits 10) tells_digits) 128 word r (rw e at h)
    plain)
  where
    by_cases : {E : Type 0} (r : Result ℕ E)
        → OkIff r (AllDigits 10 word × (0 < length word) × (digits_value 10 word < 2 ^ 128))
        (digits_value 10 word) → SomeIff (result_ok r)
        (IsNumeral 10 word × (digits_value 10 word < 2 ^ 128)) (digits_value 10 word)
    by_cases (Ok x) p = (((p.0.1, p.0.0), p.0.2), p.1)
    by_cases (Err x) p = λ q. p (q.0.1, q.0.0, q.1)

pub returns-in_default : goal.returns-in_default
returns-in_default c =
    λ q. c.in_default.ensures.cases.0 (IsUtf8-from_ascii _ (IsAscii-from_digits _ q.0.1))

pub returns-then-branch-eq43 : goal.returns-then-branch-eq43
returns-then-branch-eq43 c =
    let first : get_or c.args.word.now 0 0 ≡ 43 = grind (arith, common_steps) in
    λ q. no_plus _ first q.0

pub returns : goal.returns
returns c =
    let plain : get_or c.args.word.now 0 0 ≢ 43 = grind (arith, common_steps) in
    rw c.ok.ensures.value (parsed _ _ _ c.in-Ok.ensures.cases.0 plain c.parse.ensures.value.0)
