use Rattle.std.proofs.Common.{◌≡◌, ◌++◌, take, drop, sym, ap, ◌∙◌, arith}
use Rattle.scroll.proofs.laws.fixed.fixed_size_is_written_back.Goals as goal

pub returns-clause-back : goal.returns-clause-back
returns-clause-back g c order source old new x m n bytes read wrote =
    let w = g.F.Fixed.width in
    let there : g.F.Fixed.bytes order x ≡ take w source =
    g.met.F.RoundTrip.kept order source 0 x bytes (omega (arith, read.room)) read.value in (
      wrote.size ∙ sym read.size,
      wrote.after ∙ ap (λ l. l ++ drop w old) there
          ∙ ap (λ k. take k source ++ drop k old) (sym read.size),
    )

pub returns-clause-only : goal.returns-clause-only
returns-clause-only g c order source x n bytes read =
    ap (λ k. take k source) read.size
    ∙ sym (g.met.F.RoundTrip.kept order source 0 x bytes (omega (arith, read.room)) read.value)
