use Rattle.std.proofs.Common.{◌≡◌, length, inr, refl, arith}
use Rattle.scroll.proofs.lemmas.TextLemmas.{IsCString-push}
use Rattle.scroll.specs.lemmas.Frames.{index_of-le}
use Rattle.scroll.specs.Texts.{index_of}
use Rattle.std.proofs.lemmas.Grind.{common_steps}
use Rattle.scroll.proofs.cstr.CString.new.Goals as goal

pub invariant_of-result : goal.invariant_of-result
invariant_of-result c =
    let within = index_of-le 0 c.args.text.now in
    let none : index_of 0 c.args.text.now ≡ length c.args.text.now =
    omega (arith, c.narrow_index_of-index.ensures) in
    record { one_zero = rw c.in-Ok.ensures.held (IsCString-push c.args.text.now none) }

pub returns-in-Err-clause-refused : goal.returns-in-Err-clause-refused
returns-in-Err-clause-refused c =
    let within = index_of-le 0 c.args.text.now in
    let none : index_of 0 c.args.text.now ≡ length c.args.text.now =
    omega (arith, c.narrow_index_of-index.ensures) in
    inr (none, refl)

pub returns-in-Ok-clause-text : goal.returns-in-Ok-clause-text
returns-in-Ok-clause-text c = grind (arith, common_steps)

pub returns-in-Ok-clause-no_zero : goal.returns-in-Ok-clause-no_zero
returns-in-Ok-clause-no_zero c = grind (arith, common_steps)
