-- The second value of a pair comes after the first.
use Rattle.scroll.proofs.lemmas.Buffers.{Begins, grow}
use Rattle.scroll.proofs.ctx.tuples.Tuple2Fixed.write_prefix.Goals as goal

pub returns : goal.returns
returns g c =
    let order = c.args.order in
    let x = c.args.self in
    let first : Begins g.A.Fixed.width (g.A.Fixed.bytes order x.0) c.args.dst.now
    c.write_prefix.new.dst =
    record {
      len = g.met.A.Fixed.bytes_len order x.0;
      is = c.write_prefix.ensures;
    } in
    let both =
    grow (g.B.Fixed.bytes order x.1) first (g.met.B.Fixed.bytes_len order x.1)
    (rw c.width.ensures at c.write_behind.ensures.before)
    (rw c.width.ensures at c.write_behind.ensures.after) in
    both.is
