use Rattle.std.proofs.Common.{◌≡◌, ◌*◌, length, take}
use Rattle.std.specs.List.{flat_map}
use Rattle.scroll.proofs.lemmas.Buffers.{Begins}
use Rattle.scroll.proofs.ctx.fixed.arrays.put_elements.Given as goal

-- the elements so far are written
abbrev pub invariant-loop-i : goal.invariant-loop-i
invariant-loop-i g l = record {
  put : Begins (g.T.Fixed.width * l.i) (flat_map (g.T.Fixed.bytes l.order) (take l.i l.values))
      l.fn.dst l.dst;
  len : length l.dst ≡ length l.fn.dst;
}
