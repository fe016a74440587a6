use Rattle.std.proofs.lemmas.Result.{IfOk-weaker}
use Rattle.scroll.proofs.lemmas.EncodingLemmas.{signed-form, gives_encoding}
use Rattle.scroll.proofs.leb128.signed.I64LebNumber.read.Goals as goal

pub returns-clause-spelled : goal.returns-clause-spelled
returns-clause-spelled c =
    IfOk-weaker c.sleb_loads.result _ _
    (λ read r. gives_encoding signed-form c.args.src.now.bytes read.0 read.1 r)
    c.sleb_loads.ensures.read
