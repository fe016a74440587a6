-- Each is a byte.
use Rattle.scroll_layouts.specs.lemmas.WholeLemmas.{bytes-below}
use Rattle.dns.proofs.below.Goals as goal

pub returns : goal.returns
returns c = bytes-below c.args.bytes.now c.type_inv.bytes
