use Rattle.std.proofs.Common.{rules, arith, refl, inl, ◌≡◌, drop, length}
use Rattle.std.proofs.lemmas.Slice.{drop-append-drop}
use Rattle.scroll_ffi.proofs.Filled.{all_before}
use Rattle.scroll_ffi.proofs.elf_table.scroll_elf_table.Goals as goal

-- the sections that were read stand at the start
pub returns-clause-all : goal.returns-clause-all
returns-clause-all c = λ _.
    all_before c.args.file.now c.len-found.result c.copy_from_slice.new.self
    (drop c.len-found.result c.args.sections.now) (search rules) (search rules)

pub returns-clause-room : goal.returns-clause-room
returns-clause-room c = λ _. c.if-found-sections.false

pub returns-clause-rest : goal.returns-clause-rest
returns-clause-rest c = λ _.
    let size : length c.copy_from_slice.new.self ≡ c.len-found.result = search rules in
    drop-append-drop c.len-found.result c.args.sections.now _ _ (omega arith) size

pub returns-in-Err-clause-refused : goal.returns-in-Err-clause-refused
returns-in-Err-clause-refused c = λ _. inl (c.in-Err.ensures.refused, refl)
