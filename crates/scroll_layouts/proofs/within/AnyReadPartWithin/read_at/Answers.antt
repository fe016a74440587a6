-- What was read from the bytes of a length stands in the source.
use Rattle.std.proofs.Common.{◌≡◌, ◌≤◌, ◌+◌, ◌-◌, length, take, drop, subst, arith, rules}
use Rattle.scroll_layouts.specs.Formats.{reads, len}
use Rattle.scroll_layouts.specs.lemmas.FormatLaws.{outer}
use Rattle.scroll_layouts.specs.lemmas.WholeLemmas.{bytes-below}
use Rattle.scroll_layouts.proofs.within.AnyReadPartWithin.read_at.Goals as goal

pub returns-clause-read : goal.returns-clause-read
returns-clause-read g c =
    let f = g.A.ReadPart.format c.args.ctx.now.1 in
    let s = c.args.from.now in
    let n = c.args.ctx.now.0 in
    let room : c.args.offset + n ≤ length s = search rules in
    let size : len f c.in_ok-value.value ≡ n = search rules in
    let width : (c.args.offset + n) - c.args.offset ≡ n = omega arith in (
      room,
      outer f c.args.order s c.args.offset n c.in_ok-value.value (bytes-below s c.type_inv.from)
          room size
          (subst (λ k. reads f c.args.order (take k (drop c.args.offset s)) 0 c.in_ok-value.value)
          width c.in_ok-value.ensures.read),
      size,
    )
