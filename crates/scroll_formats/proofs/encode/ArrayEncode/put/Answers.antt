use Rattle.std.proofs.Common.{◌*◌, arith}
use Rattle.std.specs.List.{flat_map}
use Rattle.scroll.specs.lemmas.FixedLemmas.{length-exactly}
use Rattle.scroll_formats.proofs.encode.ArrayEncode.put.Goals as goal

pub write_prefix-requires : goal.write_prefix-requires
write_prefix-requires g c =
    omega (
      arith,
      c.requires,
      length-exactly (g.P.Fixed.width * g.row.N)
          (flat_map (g.P.Fixed.bytes c.args.order) c.args.self),
    )

pub returns : goal.returns
returns g c =
    rw (length-exactly (g.P.Fixed.width * g.row.N)
    (flat_map (g.P.Fixed.bytes c.args.order) c.args.self)) c.write_prefix.ensures
