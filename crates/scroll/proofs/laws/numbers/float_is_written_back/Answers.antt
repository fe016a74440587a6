use Rattle.std.proofs.Common.{◌≡◌, ◌++◌, drop, take, sym, ap, subst, ◌∙◌, arith}
use Rattle.std.specs.Float.{NotNan}
use Rattle.scroll.specs.lemmas.NumberLemmas.{bytes-fit}
use Rattle.scroll.proofs.lemmas.NumberLemmas.{float-back}
use Rattle.scroll.specs.Numbers.{float_bytes}
use Rattle.scroll.proofs.laws.numbers.float_is_written_back.Goals as goal

pub returns : goal.returns
returns c f order source old new x m n bytes read real wrote =
    let there : float_bytes f order x ≡ take n source =
    ap (float_bytes f order) read.value
    ∙ float-back f order 0 source (bytes-fit source bytes) (omega (arith, read.room))
    (subst NotNan read.value real)
    ∙ ap (λ k. take k source) (sym read.size) in (
      wrote.size ∙ sym read.size,
      wrote.after ∙ ap (λ k. float_bytes f order x ++ drop k old) (sym read.size)
          ∙ ap (λ l. l ++ drop n old) there,
    )
