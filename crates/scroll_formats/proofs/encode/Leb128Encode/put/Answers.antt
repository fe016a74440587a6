use Rattle.std.proofs.Common.{arith}
use Rattle.scroll.specs.lemmas.Frames.{length-encoding}
use Rattle.std.proofs.lemmas.Grind.{common_steps}
use Rattle.scroll_formats.proofs.encode.Leb128Encode.put.Goals as goal

pub unreachable-requires : goal.unreachable-requires
unreachable-requires g c =
    omega (
      arith,
      c.in-Err.ensures.refused.short,
      c.requires,
      length-encoding (g.V.LebNumber.form c.args.self.value c.args.self.count) c.args.self.count,
    )

pub returns : goal.returns
returns g c = grind (arith, common_steps)
