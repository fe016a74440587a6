use Rattle.std.proofs.Common.{◌≡◌, subst}
use Rattle.scroll_run.specs.Words.{SpellsBytes}
use Rattle.scroll_run.proofs.puts.parse_two.Goals as goal

pub returns-in_default : goal.returns-in_default
returns-in_default g c =
    let none = rw c.in_default.is at c.in_ok-first.ensures in
    λ p s.
    let e = s.4 in
    let same : s.0 ≡ c.args.first.now = cc in
    none s.2.now (subst (λ w. SpellsBytes w s.2.now) same s.5)

pub returns-in-None : goal.returns-in-None
returns-in-None g c =
    let none = rw c.in-None.is at c.in_ok-second.ensures in
    λ p s.
    let e = s.4 in
    let same : s.1 ≡ c.args.second.now = cc in
    none s.3.now (subst (λ w. SpellsBytes w s.3.now) same s.6)
