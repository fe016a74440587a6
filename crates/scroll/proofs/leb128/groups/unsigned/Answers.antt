use Rattle.std.proofs.Common.{inr}
use Rattle.scroll.proofs.lemmas.LebReadLemmas.{tenth_reads, tenth_is_truncated, tenth_refused}
use Rattle.scroll.proofs.leb128.groups.unsigned.Goals as goal

pub returns-in-Ten-clause-read : goal.returns-in-Ten-clause-read
returns-in-Ten-clause-read c = λ source found.
    let has = rw (c.in-Some.is, c.in-Ten.is) at found in
    rw c.from.ensures (tenth_reads source c.in-Ten.groups c.in-Ten.tenth has.0 has.1 has.2
    c.if-tenth-le1.true)

pub returns-in-Ten-2-clause-refused : goal.returns-in-Ten-2-clause-refused
returns-in-Ten-2-clause-refused c = λ source found _ len.
    let has = rw (c.in-Some.is, c.in-Ten.is) at found in
    inr (record {
      whole = tenth_is_truncated source c.in-Ten.tenth has.1;
      unfit =
          tenth_refused source c.in-Ten.groups c.in-Ten.tenth has.0 has.1 has.2
          c.if-tenth-le1.false;
      error = rw len c.unfit.ensures;
    })
