use Rattle.std.proofs.Common.{rules}
use Rattle.std.specs.Int.{w64, to_le_bytes}
use Rattle.scroll.proofs.lemmas.ShortBlockLemmas.{one_byte, two_bytes}
use Rattle.scroll.proofs.lemmas.LebReadLemmas.{groups_below, word_read_signed}
use Rattle.scroll.proofs.leb128.block.signed_in.Goals as goal

pub returns-then-word-eq0 : goal.returns-then-word-eq0
returns-then-word-eq0 c =
    let one = one_byte c.args.word c.ranges.word.fits c.if-word-eq0.true in
    word_read_signed (to_le_bytes w64 c.args.word) _ 1 c.sign_extend.result one (search rules)
    c.sign_extend.ensures

pub sign_extend-requires-then-word-eq0-2-clause-low
    : goal.sign_extend-requires-then-word-eq0-2-clause-low
sign_extend-requires-then-word-eq0-2-clause-low c =
    groups_below (to_le_bytes w64 c.args.word) _ 2
    (two_bytes c.args.word c.ranges.word.fits c.if-word-eq0.false c.if-word-eq0-2.true)

pub returns-then-word-eq0-2 : goal.returns-then-word-eq0-2
returns-then-word-eq0-2 c =
    let two = two_bytes c.args.word c.ranges.word.fits c.if-word-eq0.false c.if-word-eq0-2.true in
    word_read_signed (to_le_bytes w64 c.args.word) _ 2 c.sign_extend-then-word-eq0-2.result two
    (search rules) c.sign_extend-then-word-eq0-2.ensures

pub sign_extend-requires-2-clause-low : goal.sign_extend-requires-2-clause-low
sign_extend-requires-2-clause-low c =
    groups_below (to_le_bytes w64 c.args.word) _ _ c.in_ok-groups.ensures

pub returns : goal.returns
returns c =
    word_read_signed (to_le_bytes w64 c.args.word) _ c.in_ok-groups.count c.sign_extend-2.result
    c.in_ok-groups.ensures (search rules) c.sign_extend-2.ensures
