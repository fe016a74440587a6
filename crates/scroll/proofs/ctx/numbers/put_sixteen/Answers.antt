use Rattle.std.proofs.Common.{◌++◌, drop, ap, ◌∙◌}
use Rattle.scroll.proofs.lemmas.NumberLemmas.{big_halves}
use Rattle.scroll.proofs.ctx.numbers.put_sixteen.Goals as goal

pub returns-in-Big : goal.returns-in-Big
returns-in-Big c =
    rw c.in-Big.is (c.put_halves-in-Big.ensures
    ∙ ap (λ l. l ++ drop 16 c.args.dst.now)
    (big_halves c.args.number _ _ c.swap_bytes.ensures c.swap_bytes-in-Big.ensures))
