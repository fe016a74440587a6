use Rattle.std.proofs.lemmas.List.{take_rest}
use Rattle.scroll.proofs.lemmas.TextLetterLemmas.{behind_ascii, with_ascii}
use Rattle.scroll.proofs.ctx.text.text_from.Goals as goal

pub returns-then-not-is_text-clause-none : goal.returns-then-not-is_text-clause-none
returns-then-not-is_text-clause-none c u =
    let s = c.args.bytes.now in
    c.if-not-is_text.ensures
    (behind_ascii s _ c.args.ascii c.requires.ascii (take_rest s c.args.ascii) u)

pub from_utf8_unchecked-requires : goal.from_utf8_unchecked-requires
from_utf8_unchecked-requires c =
    let s = c.args.bytes.now in
    with_ascii s _ c.args.ascii c.requires.ascii (take_rest s c.args.ascii) c.if-not-is_text.ensures
