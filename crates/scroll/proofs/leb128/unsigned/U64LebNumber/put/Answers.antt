use Rattle.std.proofs.lemmas.Result.{IfOk-weaker}
use Rattle.scroll.proofs.lemmas.LebWriteLemmas.{unsigned_groups_form}
use Rattle.scroll.proofs.lemmas.EncodingLemmas.{unsigned-form, written_reads, read_is_written}
use Rattle.scroll.proofs.leb128.unsigned.U64LebNumber.put.Goals as goal

pub returns-clause-wrote : goal.returns-clause-wrote
returns-clause-wrote c =
    rw (unsigned_groups_form c.args.self c.args.count c.requires.spelled.room) at
    c.put_groups.ensures.wrote

pub returns-clause-reads : goal.returns-clause-reads
returns-clause-reads c =
    IfOk-weaker c.put_groups.result _ _
    (λ n w. written_reads unsigned-form c.args.self c.args.count _ _ c.requires.spelled w.after)
    (returns-clause-wrote c)

pub returns-clause-begins : goal.returns-clause-begins
returns-clause-begins c =
    IfOk-weaker c.put_groups.result _ _
    (λ n w. λ s. read_is_written unsigned-form c.args.self c.args.count s _ _ w.after)
    (returns-clause-wrote c)
