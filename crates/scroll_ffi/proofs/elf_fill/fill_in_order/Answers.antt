use Rattle.std.proofs.Common.{rules, ◌<◌, length}
use Rattle.scroll_ffi.specs.Interface.{IsSection, past}
use Rattle.scroll_ffi.proofs.Filled.{stored_more, rest_more}
use Rattle.scroll_ffi.proofs.elf_fill.fill_in_order.Goals as goal

pub loop-i-preserved : goal.loop-i-preserved
loop-i-preserved c =
    let inside : c.loop-i.i < length c.loop-i.filled = search rules in (
      stored_more (λ k s. IsSection c.args.file.now (past k c.args.from) s) _ _ _ inside
          c.loop-i.invariant.0 c.in-Some.ensures.section,
      rest_more c.loop-i.filled c.args.filled.now c.loop-i.i c.in-Some.section c.loop-i.invariant.1,
    )
