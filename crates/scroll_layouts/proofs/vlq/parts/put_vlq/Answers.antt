-- One more group is written, in front of those behind it.
use Rattle.std.proofs.Common.{◌≡◌, arith}
use Rattle.scroll_layouts.specs.lemmas.VlqLemmas.{all-put, last-put, group-put}
use Rattle.scroll_layouts.specs.Varints.{vlq_bytes}
use Rattle.scroll_layouts.proofs.vlq.parts.put_vlq.Goals as goal

pub loop-at-init : goal.loop-at-init
loop-at-init c =
    last-put c.args.dst.now c.args.value c.args.count c.requires.some c.requires.room

pub loop-at-preserved : goal.loop-at-preserved
loop-at-preserved c =
    let h = c.loop-at.invariant in
    group-put (vlq_bytes c.args.value c.args.count) _ c.loop-at.dst c.loop-at.left c.loop-at.at h.0
    c.loop-at-test.true h.1 h.2 h.3

pub returns : goal.returns
returns c =
    let h = c.loop-at.invariant in
    let end : c.loop-at.at ≡ 0 = omega (arith, c.loop-at-test.false) in
    all-put (vlq_bytes c.args.value c.args.count) c.args.dst.now c.loop-at.dst _ c.loop-at.left
    c.args.count c.loop-at.at h.0 end c.requires.some h.1 h.2
