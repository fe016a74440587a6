-- The number of one more digit.
use Rattle.std.proofs.Common.{◌≡◌, ◌≤◌, ◌<◌, ◌+◌, ◌*◌, ◌^◌, length, get_or, take, arith, rules, ap}
use Rattle.std.proofs.lemmas.Int.Digits.{digits_value_more}
use Rattle.std.specs.Str.Parse.{digits_value}
use Rattle.std.specs.Char.{digit_value}
use Rattle.scroll_layouts.specs.lemmas.NumeralLemmas.{too-great-digits}
use Rattle.scroll_layouts.proofs.numerals.value_of.Goals as goal

pub returns-in_default-clause-none : goal.returns-in_default-clause-none
returns-in_default-clause-none c =
    let s = c.args.digits.now in
    let n = c.loop-at.at in
    let h = c.loop-at.invariant in
    let great : 2 ^ 64 ≤ c.loop-at.value * c.args.base = search rules in
    let digit : c.digit-more.result ≡ digit_value (get_or s n 0) = search rules in
    too-great-digits c.args.base s n c.loop-at.value c.digit-more.result (search rules) h.0 digit
    c.digit-more.ensures.most (omega (arith, great))

pub returns-in_default-checked_add-clause-none : goal.returns-in_default-checked_add-clause-none
returns-in_default-checked_add-clause-none c =
    let s = c.args.digits.now in
    let n = c.loop-at.at in
    let h = c.loop-at.invariant in
    let digit : c.digit-more.result ≡ digit_value (get_or s n 0) = search rules in
    let product : c.in-Some.shifted ≡ c.loop-at.value * c.args.base = search rules in
    let great : 2 ^ 64 ≤ c.in-Some.shifted + c.digit-more.result = search rules in
    too-great-digits c.args.base s n c.loop-at.value c.digit-more.result (search rules) h.0 digit
    c.digit-more.ensures.most (omega (arith, great, product))

pub loop-at-preserved : goal.loop-at-preserved
loop-at-preserved c =
    let s = c.args.digits.now in
    let n = c.loop-at.at in
    let h = c.loop-at.invariant in
    let there : n < length s = search rules in
    let digit : c.digit-more.result ≡ digit_value (get_or s n 0) = search rules in
    let product : c.in-Some.shifted ≡ c.loop-at.value * c.args.base = search rules in
    let sum : c.in-Some-checked_add.next ≡ c.in-Some.shifted + c.digit-more.result = search rules in
    let same : c.loop-at.value * c.args.base ≡ digits_value c.args.base (take n s) * c.args.base =
    ap (λ k. k * c.args.base) h.0 in (
      omega (arith, sum, product, digit, same, digits_value_more c.args.base s n there),
      omega (arith, there),
    )
