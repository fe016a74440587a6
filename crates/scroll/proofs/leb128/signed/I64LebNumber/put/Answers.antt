use Rattle.std.proofs.Common.{◌≡◌, ap, ◌∙◌, of_z}
use Rattle.std.specs.Int.{w64}
use Rattle.std.proofs.lemmas.Int.{to_z-of_z}
use Rattle.std.proofs.lemmas.Result.{IfOk-weaker}
use Rattle.scroll.proofs.lemmas.LebWriteLemmas.{tenth_of, tenth_below, tenth_above, signed_groups_form}
use Rattle.scroll.proofs.lemmas.EncodingLemmas.{signed-form, written_reads, read_is_written}
use Rattle.scroll.proofs.leb128.signed.I64LebNumber.put.Goals as goal
use Rattle.scroll.proofs.leb128.signed.I64LebNumber.put.Goals.{then-self-lt0, else-self-lt0}

pub returns-clause-wrote : goal.returns-clause-wrote
returns-clause-wrote c =
    let a = c.args in
    let back = to_z-of_z w64 a.self c.ranges.self in
    let tenth : c.if-self-lt0.tenth ≡ tenth_of a.self = elim c.if-self-lt0.branch [
      | then-self-lt0 w ↦ tenth_below a.self _ (rw back at w.if-self-lt0.true) w.tenth-is
      | else-self-lt0 w ↦ tenth_above a.self _ (rw back at w.if-self-lt0.false) w.tenth-is
    ] in
    let low : c.cast_unsigned.result ≡ of_z w64 a.self =
    c.cast_unsigned.ensures ∙ ap (of_z w64) back in
    rw (low, tenth, signed_groups_form a.self a.count c.requires.spelled) at
    c.put_groups.ensures.wrote

pub returns-clause-reads : goal.returns-clause-reads
returns-clause-reads c =
    IfOk-weaker c.put_groups.result _ _
    (λ n w. written_reads signed-form c.args.self c.args.count _ _ c.requires.spelled w.after)
    (returns-clause-wrote c)

pub returns-clause-begins : goal.returns-clause-begins
returns-clause-begins c =
    IfOk-weaker c.put_groups.result _ _
    (λ n w. λ s. read_is_written signed-form c.args.self c.args.count s _ _ w.after)
    (returns-clause-wrote c)
