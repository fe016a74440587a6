use Rattle.std.proofs.Common.{arith}
use Rattle.scroll.proofs.lemmas.LebWordLemmas.{words_written}
use Rattle.scroll.proofs.leb128.write.put_words.Goals as goal

pub returns : goal.returns
returns c =
    let a = c.args in
    let one = c.put_four.ensures in
    let two = c.put_four-2.ensures in
    words_written a.low a.tenth a.count a.dst.now c.put_four.new.dst c.put_four-2.new.dst _ _
    c.requires.some c.requires.few (omega arith)
    c.open_groups.ensures c.last_groups.ensures.open c.last_groups.ensures.last
    (record { put = one.put; before = one.before; after = one.after })
    (record { put = two.put; before = two.before; after = two.after })
