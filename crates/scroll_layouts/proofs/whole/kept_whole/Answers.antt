-- What stands at the start of bytes is read.
use Rattle.scroll_layouts.specs.lemmas.WholeLemmas.{whole-returned}
use Rattle.scroll_layouts.proofs.whole.kept_whole.Goals as goal

pub returns : goal.returns
returns g c = λ order s n all h.
    whole-returned (g.L.ReadPart.format c.args.ctx.now) order s c.args.value.now n
    c.requires all h
