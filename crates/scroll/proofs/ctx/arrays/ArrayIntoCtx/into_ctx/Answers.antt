use Rattle.std.proofs.Common.{◌≡◌, ◌+◌, ◌++◌, [], ◌∷◌, length, take, get_or, rules, arith}
use Rattle.std.proofs.lemmas.Grind.{take_at_read, common_steps}
use Rattle.std.proofs.lemmas.List.{length-take-le}
use Rattle.scroll.proofs.lemmas.ArrayLemmas.{OverwritesAll-next}
use Rattle.scroll.proofs.ctx.arrays.ArrayIntoCtx.into_ctx.Goals as goal

pub loop-i-preserved : goal.loop-i-preserved
loop-i-preserved g c =
    let w = g.T.SizeWith.size c.args.ctx in
    let i = c.loop-i.i in
    let xs = c.args.self in
    let x = get_or xs i c.index-self-i.result in
    let more : take (i + 1) xs ≡ take i xs ++ x ∷ [] =
    (take_at_read xs i c.index-self-i.result (omega arith)).1 in
    let len : length (take i xs) ≡ i = length-take-le i xs (omega arith) in
    record {
      put = rw more (OverwritesAll-next w (g.T.IntoCtx.overwrites c.args.ctx) _ (take i xs) _ x _ i
          len c.loop-i.invariant.put c.put_element.ensures);
      len = search rules;
    }

pub returns : goal.returns
returns g c = grind (arith, common_steps)
