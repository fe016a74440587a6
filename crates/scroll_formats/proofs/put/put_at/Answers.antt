-- The bytes are written between the two offsets.
use Rattle.std.proofs.Common.{◌≡◌, length, refl, arith}
use Rattle.std.proofs.lemmas.Grind.{common_steps}
use Rattle.scroll_formats.proofs.lemmas.SpanLemmas.{puts-at}
use Rattle.scroll_formats.proofs.put.put_at.Goals as goal

pub returns-clause-wrote : goal.returns-clause-wrote
returns-clause-wrote g c =
    let text = g.A.Encode.bytes c.args.order c.args.value in
    let size : c.size-size.result ≡ length text = grind (arith, common_steps) in
    rw size (puts-at text refl (grind (arith, common_steps)) c.put_behind.ensures.before
    c.put_behind.ensures.after)
