use Rattle.std.proofs.Common.{◌≤◌, ℕ, List, length, inl, inr, refl, arith}
use Rattle.scroll.proofs.lemmas.NumberLemmas.{within-array}
use Rattle.scroll.proofs.lemmas.TextLemmas.{local-text, within-required}
use Rattle.scroll.specs.Texts.{ReadsText, RefusesText}
use Rattle.scroll.specs.declared.ctx.str_ctx.StrCtx.TheVariants.{Required}
use Rattle.scroll.specs.declared.error.Error.TheVariants.{BadOffset}
use Rattle.scroll.proofs.laws.texts.required_text_is_within_its_source.Goals as goal

no-bad-offset : (d offset : ℕ) (s : List ℕ) → RefusesText (Required d) s (BadOffset offset) → ⊥
no-bad-offset d offset s (inl r) = absurd (omega (arith, r.short))
no-bad-offset d offset s (inr (inl r)) = r.error
no-bad-offset d offset s (inr (inr r)) = r.error

pub returns-clause-within : goal.returns-clause-within
returns-clause-within c = within-required

pub returns-clause-depends : goal.returns-clause-depends
returns-clause-depends c d s t text n r long same =
    local-text (Required d) s t text n r (within-required d s text n r) long same

pub returns-clause-arrays : goal.returns-clause-arrays
returns-clause-arrays c d count offset s r =
    let inside : r.stop ≤ length s =
    within-array (ReadsText (Required d)) (length r.prefix) (within-required d) s r.prefix
    r.stop (record { len = refl; each = r.each }) in
    elim r.error [
      | inl past ↦ absurd (omega (arith, inside, past.0))
      | inr at ↦ no-bad-offset d offset _ at.1
    ]
