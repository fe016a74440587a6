use Rattle.std.proofs.Common.{FitsSigned, rules, ◌∙◌}
use Rattle.std.specs.Int.{w64}
use Rattle.std.proofs.lemmas.Int.{to_z-of_z}
use Rattle.scroll.proofs.lemmas.LebLemmas.{signed_groups}
use Rattle.scroll.proofs.leb128.block.sign_extend.Goals as goal

pub returns : goal.returns
returns c =
    let fits : FitsSigned w64 c.cast_signed.result = search rules in
    to_z-of_z w64 c.cast_signed.result fits ∙ c.cast_signed.ensures
    ∙ signed_groups c.args.groups c.args.count c.requires.some c.requires.few c.requires.low
