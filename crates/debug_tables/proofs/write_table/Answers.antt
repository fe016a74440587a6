-- A table that was written reads back, whatever stands around it.
use Rattle.std.proofs.Common.{ap, subst}
use Rattle.scroll_formats.proofs.lemmas.callers.Written.{puts-stands}
use Rattle.debug_tables.specs.Tables.{ReadsTableBytes}
use Rattle.debug_tables.proofs.write_table.Goals as goal

pub returns-in-Ok-clause-again : goal.returns-in-Ok-clause-again
returns-in-Ok-clause-again c =
    let target = c.put_at.new.dst in
    let stands = puts-stands c.in-Ok.ensures.wrote in
    subst (λ b. ReadsTableBytes _ target c.args.offset.now c.in-Ok.to b)
    (ap (λ t. t.bytes) c.table.view_is)
    (c.table.invariant.0, record { there = stands; table = c.table.invariant.1 })
