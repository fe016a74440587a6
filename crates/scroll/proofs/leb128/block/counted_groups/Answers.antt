use Rattle.std.proofs.Common.{arith}
use Rattle.scroll.proofs.lemmas.BlockLemmas.{word_none, word_some, word_carries, word_count, word_groups}
use Rattle.scroll.proofs.leb128.block.counted_groups.Goals as goal

pub returns-then-filled : goal.returns-then-filled
returns-then-filled c = word_none c.args.word c.ranges.word.fits c.if-filled.true

pub overflow_add-carried : goal.overflow_add-carried
overflow_add-carried c =
    record { fits = word_carries c.args.word c.ranges.word.fits c.if-filled.false }

pub returns : goal.returns
returns c =
    let within = word_some c.args.word c.ranges.word.fits c.if-filled.false in
    record {
      complete = (within, omega (arith, within));
      fits = tt;
      value = word_groups c.args.word _ c.ranges.word.fits within c.gathered.ensures;
      size = word_count c.args.word c.ranges.word.fits within;
    }
