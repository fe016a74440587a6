use Rattle.std.proofs.Common.{◌≡◌, length, take}
use Rattle.scroll.specs.Arrays.{OverwritesAll}
use Rattle.scroll.proofs.ctx.arrays.ArrayIntoCtx.into_ctx.Given as goal

abbrev pub invariant-loop-i : goal.invariant-loop-i
invariant-loop-i g l = record {
  put : OverwritesAll (g.T.SizeWith.size l.ctx) (g.T.IntoCtx.overwrites l.ctx) l.fn.dst 0
      (take l.i l.self) l.dst;
  len : length l.dst ≡ length l.fn.dst;
}
