use Rattle.std.proofs.Common.{[], length, drop, sym, ap, subst, ◌∙◌, arith, length-append}
use Rattle.scroll.proofs.lemmas.Leaves.{prefix-leaf}
use Rattle.scroll.proofs.lemmas.OneAnswer.{one-made, reader-within}
use Rattle.scroll.proofs.lemmas.NumberLemmas.{local-made}
use Rattle.scroll.specs.Bytes.{ReadsFixed, RefusesShort}
use Rattle.scroll.specs.lemmas.Frames.{drop-prefix}
use Rattle.scroll.proofs.laws.fixed.fixed_size_is_kept.Goals as goal

pub returns-clause-again : goal.returns-clause-again
returns-clause-again g c order x old new n fits h =
    let bytes = g.F.Fixed.bytes order x in
    let rest = drop g.F.Fixed.width old in
    let whole = ap length h.after ∙ length-append bytes rest in
    record {
      room = omega (arith, whole, g.met.F.Fixed.bytes_len order x);
      value =
          subst (λ s. g.F.Fixed.makes order s 0 x) (sym h.after)
          (g.met.F.Fixed.back order x [] rest fits);
      size = h.size;
    }

pub returns-clause-fits : goal.returns-clause-fits
returns-clause-fits g c order source x n all h =
    g.met.F.Fixed.made_fits order source 0 x all h.value

pub returns-clause-others : goal.returns-clause-others
returns-clause-others g c order x old new n h =
    drop-prefix g.F.Fixed.width (g.F.Fixed.bytes order x) old new (g.met.F.Fixed.bytes_len order x)
    h.after

pub returns-clause-reader : goal.returns-clause-reader
returns-clause-reader g c order =
    let w = g.F.Fixed.width in
    reader-within (ReadsFixed w (λ s. g.F.Fixed.makes order s 0)) (RefusesShort w)
    (local-made w (λ s. g.F.Fixed.makes order s 0)
    (λ s t x same. g.met.F.Fixed.local order s 0 t 0 x same))
    (λ s v n r. omega (arith, r.room, r.size))
    (λ s. one-made w (λ s. g.F.Fixed.makes order s 0) s (g.met.F.Fixed.one order s 0))

pub returns-clause-leaf : goal.returns-clause-leaf
returns-clause-leaf g c order =
    prefix-leaf g.F.Fixed.width (g.F.Fixed.bytes order) (g.met.F.Fixed.bytes_len order)
