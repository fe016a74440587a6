-- What was appended reads back.
use Rattle.std.proofs.Common.{arith}
use Rattle.std.proofs.lemmas.Grind.{common_steps}
use Rattle.scroll_layouts.specs.lemmas.WholeLemmas.{whole-appended}
use Rattle.scroll_layouts.proofs.append.append_whole.Goals as goal

pub returns-clause-appended : goal.returns-clause-appended
returns-clause-appended g c =
    whole-appended (g.L.Part.format c.args.ctx.now) c.args.order c.args.value.now
    c.args.target.now.items _ c.in_ok-check.ensures.agrees (grind (arith, common_steps))
