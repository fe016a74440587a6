use Rattle.std.proofs.Common.{◌≡◌, length, take, drop}
use Rattle.scroll.specs.Reads.{ReadsAll}
use Rattle.scroll.proofs.pread.Pread.gread_inout_with.Given as goal

abbrev pub invariant-loop-i : goal.invariant-loop-i
invariant-loop-i g l = record {
  len : length l.inout ≡ length l.initial.inout;
  prefix : ReadsAll (g.N.ReadFrom.reads l.ctx) (g.Self.Source.bytes l.fn.self) l.initial.offset
      (take l.i l.inout) l.offset;
  others : drop l.i l.inout ≡ drop l.i l.initial.inout;
}
