use Rattle.std.proofs.Common.{rules, ◌≡◌, ◌+◌, ◌*◌, ◌<◌, ◌++◌, length, take, drop, get_or, ap, subst, ◌∙◌, arith}
use Rattle.std.proofs.Math.Nat.{mul-add}
use Rattle.std.proofs.lemmas.List.{take_all}
use Rattle.std.specs.List.{flat_map}
use Rattle.scroll.proofs.lemmas.Buffers.{Begins}
use Rattle.scroll.proofs.lemmas.Buffers.{grow-next}
use Rattle.scroll.proofs.ctx.fixed.arrays.put_elements.Goals as goal

pub loop-i-preserved : goal.loop-i-preserved
loop-i-preserved g c =
    let w = g.T.Fixed.width in
    let i = c.loop-i.i in
    let xs = c.args.values in
    let d = c.index-values-i.result in
    let bytes = g.T.Fixed.bytes c.args.order in
    let offset : c.width.result * i ≡ w * i = ap (λ n. n * i) c.width.ensures in
    let next : w * i + w ≡ w * (i + 1) = omega (arith, mul-add w i 1) in
    let before : take (w * i) c.write_behind.new.dst ≡ take (w * i) c.loop-i.dst =
    subst (λ p. take p c.write_behind.new.dst ≡ take p c.loop-i.dst) offset
    c.write_behind.ensures.before in
    let after : drop (w * i) c.write_behind.new.dst
    ≡ bytes (get_or xs i d) ++ drop w (drop (w * i) c.loop-i.dst) =
    subst (λ p. drop p c.write_behind.new.dst
    ≡ bytes (get_or xs i d) ++ drop w (drop p c.loop-i.dst)) offset
    c.write_behind.ensures.after in
    let inside : i < length xs = omega arith in
    record {
      put = subst (λ p. Begins p (flat_map bytes (take (i + 1) xs)) c.args.dst.now
          c.write_behind.new.dst) next
          (grow-next bytes xs i d c.loop-i.invariant.put inside
          (g.met.T.Fixed.bytes_len c.args.order (get_or xs i d)) before after);
      len = search rules;
    }

pub returns : goal.returns
returns g c =
    let w = g.T.Fixed.width in
    let xs = c.args.values in
    let old = c.args.dst.now in
    let bytes = g.T.Fixed.bytes c.args.order in
    let end : c.loop-i.i ≡ g.row.N = omega arith in
    c.loop-i.invariant.put.is
    ∙ ap (λ l. flat_map bytes l ++ drop (w * c.loop-i.i) old) (take_all c.loop-i.i xs (omega arith))
    ∙ ap (λ n. flat_map bytes xs ++ drop (w * n) old) end
