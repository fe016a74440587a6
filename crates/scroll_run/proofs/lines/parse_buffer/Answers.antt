use Rattle.std.proofs.Common.{codes}
use Rattle.std.proofs.lemmas.Bool.Decides.{Decides-eqb}
use Rattle.std.proofs.lemmas.Slice.Eq.{strip_prefix_is}
use Rattle.scroll_run.proofs.LineLemmas.{buffer_by_word}
use Rattle.scroll_run.proofs.lines.parse_buffer.Goals as goal

pub returns-in-Some : goal.returns-in-Some
returns-in-Some g c =
    let stripped =
    strip_prefix_is Decides-eqb c.args.line.now (codes "buffer ") c.strip_prefix.result
    c.strip_prefix.ensures.cases in
    let word = rw c.in-Some.is at stripped in
    buffer_by_word (g.M.Memory.refuses c.args.memory) (λ v. v.items) c.args.line.now
    c.in-Some.word.now c.parse_bytes.result word c.parse_bytes.ensures
