use Rattle.std.proofs.Common.{rules, ap, take, drop, subst, sym, ◌∙◌}
use Rattle.object_files.specs.Names.{IsName}
use Rattle.scroll.specs.Numbers.{number}
use Rattle.scroll_ffi.specs.Interface.{past}
use Rattle.scroll_ffi.proofs.Filled.{entry_at, name_at, same_name, same_order}
use Rattle.scroll_ffi.proofs.elf_fill.section_after.Goals as goal

pub returns-in-Ok-clause-section : goal.returns-in-Ok-clause-section
returns-in-Ok-clause-section c =
    let entry =
    entry_at c.args.order c.args.file.now (past c.args.after c.args.from) c.section_at.result
    c.section_at.ensures.fields
    c.requires.order (search rules)
    in
    let same =
    same_name c.args.order c.args.file.now (past c.args.after c.args.from).next
    c.section_at.result c.cread_with-name.result c.section_at.ensures.fields
    c.cread_with-name.ensures in
    let name =
    name_at c.args.file.now c.args.names.now (past c.args.after c.args.from) c.section_at.result
    c.cread_with-name.result c.in-Ok.len
    c.in-Ok.ensures.name c.requires.names same c.section_at.ensures.len (search rules)
    c.requires.inside
    in
    record { entry = entry; name = name }

-- a section there would have a name at the number that was read
pub returns-in-Err-clause-none : goal.returns-in-Err-clause-none
returns-in-Err-clause-none c = λ s h.
    let x = past c.args.after c.args.from in
    let same = same_order h.entry.order c.args.order x.order h.entry.order-is c.requires.order in
    let name = h.entry.fields.name ∙ ap (λ o. number o 4 (drop x.next c.args.file.now)) same
    ∙ sym c.cread_with-name.ensures in
    let (text, is, _) = h.name.len in
    c.in-Err.ensures.none text
    (subst (λ l. IsName l c.cread_with-name.result text) (sym c.requires.names)
    (subst (λ n. IsName (take x.names_size (drop x.names_offset c.args.file.now)) n text) name
    is))
