-- There is room for one more value, and it is written after those before it.
use Rattle.std.proofs.Common.{◌≡◌, ◌+◌, ◌++◌, [], length, take, get_or, arith, ap, sym, refl, ◌∙◌}
use Rattle.std.proofs.lemmas.Grind.{take_at_read, common_steps}
use Rattle.std.proofs.lemmas.List.{flat_map_more}
use Rattle.std.proofs.lemmas.List.Folds.{length-flat_map-take}
use Rattle.std.specs.List.{flat_map}
use Rattle.scroll.proofs.lemmas.callers.Cursors.{grow}
use Rattle.scroll_layouts.specs.Formats.{bytes}
use Rattle.scroll_layouts.proofs.each.put_each.Goals as goal

pub put_behind-requires-clause-room : goal.put_behind-requires-clause-room
put_behind-requires-clause-room g c =
    let f = bytes (g.L.Part.format c.args.ctx.now) c.args.order in
    let long = ap (λ y. length (f y)) c.index-values-i.is in
    omega (
      arith,
      long,
      c.loop-i.invariant.len,
      c.loop-i.auto.dst,
      c.requires.room,
      length-flat_map-take f c.args.values.now c.loop-i.i c.index-values-i.result
          c.loop-i-test.true,
    )

pub loop-i-preserved : goal.loop-i-preserved
loop-i-preserved g c =
    let f = bytes (g.L.Part.format c.args.ctx.now) c.args.order in
    let xs = c.args.values.now in
    let before = take c.loop-i.i xs in
    let x = c.index-values-i.result in
    let is : get_or xs c.loop-i.i x ≡ x = sym c.index-values-i.is in
    let size : c.size-offset.result ≡ length (f x) = grind (arith, common_steps) in
    let more : flat_map f (take (c.loop-i.i + 1) xs) ≡ flat_map f before ++ f x =
    ap (flat_map f) (take_at_read xs c.loop-i.i c.index-values-i.result c.loop-i-test.true).1
    ∙ sym (flat_map_more f [] before (get_or xs c.loop-i.i x))
    ∙ ap (λ y. flat_map f before ++ f y) is in
    rw (size, more) (grow {prefix = flat_map f before} (f x) c.loop-i.invariant refl
    c.put_behind.ensures.before c.put_behind.ensures.after)

pub overflow_add-offset : goal.overflow_add-offset
overflow_add-offset g c = grind (arith, common_steps)

pub returns : goal.returns
returns g c = grind (arith, common_steps)
