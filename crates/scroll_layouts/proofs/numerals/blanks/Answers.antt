-- The first byte that is no blank.
use Rattle.std.proofs.Common.{◌==◌, get_or, rules}
use Rattle.scroll_layouts.specs.lemmas.NumeralLemmas.{stops, stops-all, is-other}
use Rattle.scroll_layouts.proofs.numerals.blanks.Goals as goal

pub returns-else-field-at-eq32-clause-len : goal.returns-else-field-at-eq32-clause-len
returns-else-field-at-eq32-clause-len c =
    let s = c.args.field.now in
    let n = c.loop-at.at in
    let h = c.loop-at.invariant in
    stops (λ b. b == 32) s n (search rules) h.0 (is-other (get_or s n 0) 32 (search rules))

pub returns-after-loop-at-clause-len : goal.returns-after-loop-at-clause-len
returns-after-loop-at-clause-len c =
    let h = c.loop-at.invariant in
    stops-all (λ b. b == 32) c.args.field.now c.loop-at.at h.1 (search rules) h.0
