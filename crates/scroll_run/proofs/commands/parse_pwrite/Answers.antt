use Rattle.std.proofs.Common.{◌≡◌, ap, subst}
use Rattle.scroll_run.specs.Puts.{SpellsPut}
use Rattle.scroll_run.specs.Words.{texts_of}
use Rattle.scroll_run.proofs.commands.parse_pwrite.Goals as goal

pub returns-in-None : goal.returns-in-None
returns-in-None g c =
    let words = ap texts_of c.in-Some.ensures.cases.0 in
    let none = rw c.in-None.is at c.in_ok-put.ensures in
    rw words (λ k s.
    let e = s.4 in
    let more : s.1 ≡ texts_of c.in-Some.rest.now = cc in
    none s.3 (subst (λ ws. SpellsPut ws s.3) more s.6))

pub returns-in-Some-2 : goal.returns-in-Some-2
returns-in-Some-2 g c =
    let words = ap texts_of c.in-Some.ensures.cases.0 in
    let n = c.in-Some-parse_usize.ensures in
    let some = rw c.in-Some-2.is at c.in_ok-put.ensures in
    λ k is. (_, _, _, is.0, words, (n.0.0, n.0.1, n.1), some is.0 is.2, is.1)
