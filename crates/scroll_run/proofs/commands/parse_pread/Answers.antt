use Rattle.std.proofs.Common.{◌≡◌, ap, subst}
use Rattle.scroll_run.specs.Kinds.{SpellsKind}
use Rattle.scroll_run.specs.Words.{texts_of}
use Rattle.scroll_run.proofs.commands.parse_pread.Goals as goal

pub returns-in_err-kind : goal.returns-in_err-kind
returns-in_err-kind c =
    let words = ap texts_of c.in-Some.ensures.cases.0 in
    rw (c.from_residual-in_err-kind.ensures, words)
    (λ k s.
    let e = s.4 in
    let more : s.1 ≡ texts_of c.in-Some.rest.now = cc in
    c.in_err-kind.ensures s.3 (subst (λ ws. SpellsKind ws s.3) more s.6))

pub returns : goal.returns
returns c =
    let words = ap texts_of c.in-Some.ensures.cases.0 in
    let n = c.in_ok-offset.ensures in
    λ k is. (_, _, _, _, words, (n.0.0, n.0.1, n.1), c.in_ok-kind.ensures, is)
