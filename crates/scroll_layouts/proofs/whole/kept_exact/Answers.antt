-- What stands at the start of bytes is read.
use Rattle.scroll_layouts.specs.lemmas.WholeLemmas.{exact-returned}
use Rattle.scroll_layouts.proofs.whole.kept_exact.Goals as goal

pub returns : goal.returns
returns g c = λ order s n all h.
    exact-returned (g.L.ReadPart.format c.args.ctx.now) order s c.args.value.now n
    c.requires.exact c.requires.told all h
