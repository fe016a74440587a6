-- One more byte that fills.
use Rattle.std.proofs.Common.{◌≡◌, ◌-◌, get_or, arith, rules, refl}
use Rattle.scroll_layouts.specs.lemmas.FillLemmas.{fills-more}
use Rattle.scroll_layouts.proofs.fills.text_len.Goals as goal

pub loop-end-preserved : goal.loop-end-preserved
loop-end-preserved c =
    let s = c.args.field.now in
    let n = c.loop-end.end in
    let h = c.loop-end.invariant in
    let is : get_or s (n - 1) 0 ≡ c.args.fill = search rules in
    (fills-more c.args.fill s n (n - 1) c.loop-end-test.true h.1 refl is h.0, omega (arith, h.1))
