-- Each record has its fields where they stand.
use Rattle.std.proofs.Common.{Result, IfOk, rules}
use Rattle.std.specs.Prelude.{Ok, Err}
use Rattle.scroll_formats.proofs.lemmas.callers.Weaker.{ReadsAll-weaker}
use Rattle.packets.specs.Logs.{ReadsRecord}
use Rattle.packets.proofs.log.read_records.Goals as goal

-- what follows from the value of an `Ok`
if-ok : {T E : Type 0} (P Q : T → Type 0) (r : Result T E) → ((x : T) → P x → Q x) → IfOk r P
    → IfOk r Q
if-ok P Q (Ok x) follows h = follows x h
if-ok P Q (Err e) follows h = tt

pub returns-clause-fields : goal.returns-clause-fields
returns-clause-fields c =
    if-ok _ _ c.read_to_end.result
    (λ records h. ReadsAll-weaker _ (ReadsRecord c.args.order) c.args.log.now 0 records.items _
    (λ s x n r. search rules) h) c.read_to_end.ensures.read
