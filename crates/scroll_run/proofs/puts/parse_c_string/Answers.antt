use Rattle.std.proofs.Common.{◌≡◌, ℕ, List, length, Bor, ◌∙◌, sym, subst, refl, inl, inr, arith}
use Rattle.std.proofs.lemmas.Grind.{common_steps}
use Rattle.scroll.specs.CStringTexts.{c_str_text}
use Rattle.scroll.specs.CStrings.{RefusesToHold}
use Rattle.scroll.specs.Texts.{index_of}
use Rattle.scroll.specs.declared.error.Error.{Error}
use Rattle.scroll.specs.declared.error.Error.TheVariants.{BadInput}
use Rattle.scroll_run.specs.Puts.{SpellsCString}
use Rattle.scroll_run.proofs.CommandLemmas.{one_word, same_bytes}
use Rattle.scroll_run.proofs.puts.parse_c_string.Goals as goal

-- a text whose conversion fails with `BadInput` contains a zero
has_a_zero : (text other : List ℕ) (e : Error) (size : ℕ) (msg : Bor (List ℕ)) → text ≡ other
    → index_of 0 other ≡ length other → e ≡ BadInput size msg → ¬ (RefusesToHold text e)
has_a_zero text other e size msg same none is (inl q) = let some = rw same at q.0 in
    omega (arith, some, none)
has_a_zero text other e size msg same none is (inr q) = let no = q.1 in grind (arith, common_steps)

pub returns-in_default : goal.returns-in_default
returns-in_default g c =
    let none = rw c.in_default.is at c.in_ok-text.ensures in
    λ p s. let text = one_word s.1 in none (c_str_text s.0) text.0

pub returns-in-Ok : goal.returns-in-Ok
returns-in-Ok g c =
    let bytes = rw c.in-Some.is at c.in_ok-text.ensures in
    let text = c.in-Ok.ensures.text in
    let zero = c.in-Ok.ensures.no_zero in
    λ p is. (
      is.0,
      (
        _,
        refl,
        subst (SpellsCString _) (sym is.2) (rw (text ∙ c.deref.ensures.value) bytes, rw text zero),
      ),
      is.1,
    )

pub returns-in-Err-BadInput : goal.returns-in-Err-BadInput
returns-in-Err-BadInput g c =
    let bytes = rw c.in-Some.is at c.in_ok-text.ensures in
    λ p s.
    let text = one_word s.1 in
    let same = c.deref.ensures.value ∙ same_bytes _ _ _ bytes text.0 in
    has_a_zero _ _ _ _ _ same text.1 c.in-Err-BadInput.field-0-is c.in-Err-BadInput.ensures.zero
