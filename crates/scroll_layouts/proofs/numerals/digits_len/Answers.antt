-- One more digit, and the first byte that is none.
use Rattle.std.proofs.Common.{◌≤◌, ◌<◌, length, get_or, arith, rules}
use Rattle.std.specs.Char.{digit_value}
use Rattle.std.specs.Prelude.{nat_lt}
use Rattle.scroll_layouts.specs.lemmas.NumeralLemmas.{stops, stops-all, passes-more, is-below, is-not-below}
use Rattle.scroll_layouts.proofs.numerals.digits_len.Goals as goal

pub loop-at-preserved : goal.loop-at-preserved
loop-at-preserved c =
    let s = c.args.rest.now in
    let n = c.loop-at.at in
    let h = c.loop-at.invariant in
    let there : n < length s = search rules in
    let low : digit_value (get_or s n 0) < c.args.base = search rules in (
      passes-more (λ b. nat_lt (digit_value b) c.args.base) s n h.0
          (is-below (digit_value (get_or s n 0)) c.args.base low),
      omega (arith, there),
    )

pub returns-else-digit-base-clause-len : goal.returns-else-digit-base-clause-len
returns-else-digit-base-clause-len c =
    let s = c.args.rest.now in
    let n = c.loop-at.at in
    let h = c.loop-at.invariant in
    let high : c.args.base ≤ digit_value (get_or s n 0) = search rules in
    stops (λ b. nat_lt (digit_value b) c.args.base) s n (search rules) h.0
    (is-not-below (digit_value (get_or s n 0)) c.args.base high)

pub returns-after-loop-at-clause-len : goal.returns-after-loop-at-clause-len
returns-after-loop-at-clause-len c =
    let h = c.loop-at.invariant in
    stops-all (λ b. nat_lt (digit_value b) c.args.base) c.args.rest.now c.loop-at.at h.1
    (search rules) h.0
