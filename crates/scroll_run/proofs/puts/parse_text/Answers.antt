use Rattle.std.proofs.Common.{ap, sym, subst, refl}
use Rattle.std.proofs.lemmas.Str.{IsUtf8-string_bytes}
use Rattle.scroll_run.specs.Puts.{SpellsText}
use Rattle.scroll_run.proofs.CommandLemmas.{one_word}
use Rattle.scroll_run.proofs.puts.parse_text.Goals as goal

pub returns-in_default : goal.returns-in_default
returns-in_default g c =
    let none = rw c.in_default.is at c.in_ok-bytes.ensures in
    λ p s. let text = one_word s.1 in none s.0.now text.0

pub returns-in-Ok : goal.returns-in-Ok
returns-in-Ok g c =
    let bytes = rw c.in-Some.is at c.in_ok-bytes.ensures in
    let same = ap (λ v. v.items) c.in-Ok.ensures.ok in
    λ p is. (
      is.0,
      (_, refl, subst (SpellsText _) (sym is.2) (rw same bytes, IsUtf8-string_bytes c.in-Ok.text)),
      is.1,
    )
