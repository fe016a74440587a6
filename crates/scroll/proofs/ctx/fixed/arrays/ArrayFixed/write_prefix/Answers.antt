-- The elements have as many bytes as an array has.
use Rattle.std.proofs.Common.{◌≡◌, ◌*◌, ◌++◌, length, drop, sym, ap, ◌∙◌, arith}
use Rattle.std.specs.List.{flat_map}
use Rattle.scroll.specs.Fixed.{exactly}
use Rattle.scroll.specs.lemmas.FixedLemmas.{exactly-elements, length-exactly}
use Rattle.scroll.proofs.ctx.fixed.arrays.ArrayFixed.write_prefix.Goals as goal

pub put_bytes-requires : goal.put_bytes-requires
put_bytes-requires g c =
    let w = g.T.Fixed.width in
    let bytes = g.T.Fixed.bytes c.args.order in
    let size : length c.args.self ≡ g.row.N = omega arith in
    let whole =
    exactly-elements w g.row.N bytes (g.met.T.Fixed.bytes_len c.args.order) c.args.self size in
    let long = ap length (c.in-Some.ensures ∙ sym whole)
    ∙ length-exactly (w * g.row.N) (flat_map bytes c.args.self) in
    omega (arith, long)

pub returns-in-Some : goal.returns-in-Some
returns-in-Some g c =
    let w = g.T.Fixed.width in
    let bytes = g.T.Fixed.bytes c.args.order in
    let size : length c.args.self ≡ g.row.N = omega arith in
    let whole =
    exactly-elements w g.row.N bytes (g.met.T.Fixed.bytes_len c.args.order) c.args.self size in
    let same : c.in-Some.bytes.now ≡ exactly (w * g.row.N) (flat_map bytes c.args.self) =
    c.in-Some.ensures ∙ sym whole in
    rw (same, length-exactly (w * g.row.N) (flat_map bytes c.args.self)) at c.put_bytes.ensures

pub returns-in-None : goal.returns-in-None
returns-in-None g c =
    let w = g.T.Fixed.width in
    let size : length c.args.self ≡ g.row.N = omega arith in
    let whole =
    exactly-elements w g.row.N (g.T.Fixed.bytes c.args.order)
    (g.met.T.Fixed.bytes_len c.args.order) c.args.self size in
    c.put_elements.ensures ∙ ap (λ l. l ++ drop (w * g.row.N) c.args.dst.now) (sym whole)
