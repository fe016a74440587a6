-- The entry and its name, in the file.
use Rattle.std.proofs.Common.{rules, arith, refl, ap, take, drop, inr, subst}
use Rattle.std.proofs.lemmas.List.{take_rest}
use Rattle.scroll_ffi.proofs.Filled.{entry_at, name_at, same_name}
use Rattle.scroll_ffi.specs.Refusals.{RefusesLen}
use Rattle.scroll_ffi.proofs.elf.next.Goals as goal

pub returns-in-Ok-clause-entry : goal.returns-in-Ok-clause-entry
returns-in-Ok-clause-entry c =
    entry_at c.in_ok-order.order c.args.file.now c.args.sections.now c.section_at.result
    c.section_at.ensures.fields c.in_ok-order.ensures.order c.in_ok-check_part-2.ensures.room

pub returns-in-Ok-clause-name : goal.returns-in-Ok-clause-name
returns-in-Ok-clause-name c =
    let same =
    same_name c.in_ok-order.order c.args.file.now c.args.sections.now.next c.section_at.result
    c.cread_with-name.result c.section_at.ensures.fields c.cread_with-name.ensures in
    name_at c.args.file.now _ c.args.sections.now c.section_at.result c.cread_with-name.result
    c.in-Ok.len c.in-Ok.ensures.name
    (ap (take c.args.sections.now.names_size)
    (take_rest c.args.file.now c.args.sections.now.names_offset)) same c.section_at.ensures.len
    (search rules) c.in_ok-check_part.ensures.room

pub returns-in-Ok-clause-passes : goal.returns-in-Ok-clause-passes
returns-in-Ok-clause-passes c = refl

pub returns-in-Ok-clause-fewer : goal.returns-in-Ok-clause-fewer
returns-in-Ok-clause-fewer c = omega (arith, c.requires)

-- the name can't be read: the entry is stored
pub returns-in-Err-clause-refused : goal.returns-in-Err-clause-refused
returns-in-Err-clause-refused c =
    let x = c.args.sections.now in
    let file = c.args.file.now in
    let order = c.in_ok-order.ensures.order in
    let room = c.in_ok-check_part-2.ensures.room in
    let at = c.section_at-in-Err in
    let names = ap (take x.names_size) (take_rest file x.names_offset) in
    let why =
    subst (λ l. RefusesLen l c.cread_with-name.result x.names_offset c.in-Err.why) names
    c.in-Err.ensures.refused in
    let named =
    subst (λ n. RefusesLen (take x.names_size (drop x.names_offset file)) n x.names_offset
    c.in-Err.why) c.cread_with-name.ensures why in
    inr (
      record {
        order = c.in_ok-order.order;
        order-is = order;
        names = c.in_ok-check_part.ensures.room;
        room = room;
        why = named;
        left = refl;
      },
      record {
        entry = entry_at c.in_ok-order.order file x at.result at.ensures.fields order room;
        start = at.ensures.start;
        len = at.ensures.len;
      },
    )
