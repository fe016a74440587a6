use Rattle.std.proofs.Common.{rules, arith}
use Rattle.scroll.specs.lemmas.Frames.{length-encoding}
use Rattle.scroll_formats.proofs.encode.Leb128Encode.size.Goals as goal

pub returns : goal.returns
returns g c =
    rw (length-encoding (g.V.LebNumber.form c.args.self.value c.args.self.count) c.args.self.count)
    (search (rules, arith))
