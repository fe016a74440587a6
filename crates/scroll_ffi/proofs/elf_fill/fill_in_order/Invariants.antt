use Rattle.std.proofs.Common.{◌≡◌, drop}
use Rattle.scroll_ffi.specs.Interface.{AreSections}
use Rattle.scroll_ffi.proofs.elf_fill.fill_in_order.Given as goal

-- the sections before the index are stored, and the rest is unchanged
abbrev pub invariant-loop-i : goal.invariant-loop-i
invariant-loop-i l =
    AreSections l.file l.from l.i l.filled × (drop l.i l.filled ≡ drop l.i l.initial.filled)
