use Rattle.std.proofs.Common.{rules, ◌*◌, arith}
use Rattle.std.specs.List.{flat_map}
use Rattle.scroll.specs.lemmas.FixedLemmas.{length-exactly}
use Rattle.scroll_formats.proofs.encode.ArrayEncode.size.Goals as goal

pub returns : goal.returns
returns g c =
    rw (length-exactly (g.P.Fixed.width * g.row.N)
    (flat_map (g.P.Fixed.bytes c.args._order) c.args.self)) (search (rules, arith))
