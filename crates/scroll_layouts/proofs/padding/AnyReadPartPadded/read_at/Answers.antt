use Rattle.std.proofs.Common.{inr}
use Rattle.scroll_layouts.specs.Formats.{len}
use Rattle.scroll_layouts.specs.lemmas.LeafLemmas.{gap-refused}
use Rattle.scroll_layouts.proofs.padding.AnyReadPartPadded.read_at.Goals as goal

pub returns-in-Err-clause-refused : goal.returns-in-Err-clause-refused
returns-in-Err-clause-refused g c = inr (
  c.in_ok-value.value,
  c.in_ok-value.ensures.read,
  gap-refused g.E.From.from_gives c.args.ctx.now.0 c.args.offset
      (len (g.A.ReadPart.format c.args.ctx.now.1) c.in_ok-value.value) c.in_ok-value.end
      c.padding-gap.result c.args.from.now c.in-Err.error c.in_ok-value.ensures.moves
      c.padding-gap.ensures.value c.in-Err.ensures.refused,
)
