use Rattle.std.proofs.Common.{◌*◌, ◌%◌, ◌^◌, ◌∙◌, inr, bit_or, to_z, ap, rules, FitsSigned}
use Rattle.std.specs.Int.{w64}
use Rattle.std.proofs.lemmas.Int.{to_z-of_z}
use Rattle.scroll.proofs.lemmas.LebReadLemmas.{groups_below, word_read_signed, tenth_reads_signed, tenth_is_truncated, tenth_refused_signed}
use Rattle.scroll.proofs.leb128.groups.signed.Goals as goal

pub sign_extend-requires-clause-low : goal.sign_extend-requires-clause-low
sign_extend-requires-clause-low c =
    let has = rw (c.in-Some.is, c.in-UpToNine.is) at c.requires.1 in
    groups_below c.requires.0 c.in-UpToNine.groups c.in-UpToNine.count has.0

pub returns-in-UpToNine-clause-read : goal.returns-in-UpToNine-clause-read
returns-in-UpToNine-clause-read c = λ source found.
    let has = rw (c.in-Some.is, c.in-UpToNine.is) at found in
    word_read_signed source c.in-UpToNine.groups c.in-UpToNine.count c.sign_extend.result has.0
    (search rules) c.sign_extend.ensures

pub returns-in-Ten-clause-read : goal.returns-in-Ten-clause-read
returns-in-Ten-clause-read c = λ source found.
    let has = rw (c.in-Some.is, c.in-Ten.is) at found in
    let fits : FitsSigned w64 c.cast_signed.result = search rules in
    let word = c.cast_signed.ensures
    ∙ ap (λ x. to_z w64 (bit_or c.in-Ten.groups (x * 2 ^ 63 % 2 ^ 64))) c.from.ensures in
    rw (to_z-of_z w64 c.cast_signed.result fits ∙ word)
    (tenth_reads_signed source c.in-Ten.groups c.in-Ten.tenth has.0 has.1 has.2 (search rules)
    c.if-tenth.true (rw word at fits))

pub returns-in-Ten-2-clause-refused : goal.returns-in-Ten-2-clause-refused
returns-in-Ten-2-clause-refused c = λ source found _ len.
    let has = rw (c.in-Some.is, c.in-Ten.is) at found in
    inr (record {
      whole = tenth_is_truncated source c.in-Ten.tenth has.1;
      unfit =
          tenth_refused_signed source c.in-Ten.groups c.in-Ten.tenth has.0 has.1 has.2
          c.if-tenth.false;
      error = rw len c.unfit.ensures;
    })
