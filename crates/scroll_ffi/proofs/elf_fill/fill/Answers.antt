use Rattle.std.proofs.Common.{rules, ◌≡◌, ◌<◌, length, arith, subst}
use Rattle.scroll_ffi.specs.Interface.{IsSection, IsNoSection, past}
use Rattle.scroll_ffi.proofs.Filled.{past_none}
use Rattle.scroll_ffi.proofs.elf_fill.fill.Goals as goal

-- where none was stored, there is no next section
pub returns-clause-filled : goal.returns-clause-filled
returns-clause-filled c =
    let none : c.fill_ready-found.result ≡ 0 = omega arith in
    let room : c.fill_ready-found.result < length c.args.filled.now = search rules in
    let left : c.fill_ready-found.result < c.args.sections.now.left = search rules in
    let no =
    subst (λ n. IsNoSection c.args.file.now (past n c.args.sections.now)) none
    (c.fill_ready-found.ensures.most room left) in
    let there : IsSection c.args.file.now c.args.sections.now c.next.new.section = search rules in
    let there_past : IsSection c.args.file.now (past 0 c.args.sections.now) c.next.new.section =
    rw past_none there in
    absurd (no _ there_past)
