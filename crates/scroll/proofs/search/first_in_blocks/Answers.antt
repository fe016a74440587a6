use Rattle.std.proofs.Common.{◌/◌, ◌<◌, length, arith}
use Rattle.std.proofs.Math.Nat.{add-mul}
use Rattle.scroll.proofs.lemmas.SearchLemmas.{position_or_len-block, none_marked, first_marked}
use Rattle.scroll.proofs.search.first_in_blocks.Goals as goal

pub returns-then-marks-ne0-clause-index : goal.returns-then-marks-ne0-clause-index
returns-then-marks-ne0-clause-index g c =
    let s = c.args.source.now in
    let p = g.S.Stops.stops c.args.at in
    let block = c.index-blocks-k.result in
    let inside : c.loop-k.k < length s / g.row.N =
    omega (arith, c.loop-k-test.true, c.as_chunks.ensures.front_len) in
    let at =
    position_or_len-block p g.row.N c.loop-k.k s block block _ c.as_chunks.ensures.front inside
    c.index-blocks-k.is c.loop-k.invariant in
    let found =
    first_marked p block _ (omega (arith, at.0, c.requires.width.1)) c.marks-marks.ensures
    c.if-marks-ne0.true in
    omega (arith, at.0, at.1, found.0, found.1)

pub loop-k-preserved : goal.loop-k-preserved
loop-k-preserved g c =
    let s = c.args.source.now in
    let p = g.S.Stops.stops c.args.at in
    let block = c.index-blocks-k.result in
    let inside : c.loop-k.k < length s / g.row.N =
    omega (arith, c.loop-k-test.true, c.as_chunks.ensures.front_len) in
    let at =
    position_or_len-block p g.row.N c.loop-k.k s block block _ c.as_chunks.ensures.front inside
    c.index-blocks-k.is c.loop-k.invariant in
    let none = none_marked p block _ c.marks-marks.ensures c.if-marks-ne0.false in
    omega (arith, at.0, at.1, none, add-mul c.loop-k.k 1 g.row.N)
