use Rattle.std.proofs.Common.{arith, rules}
use Rattle.std.proofs.lemmas.Grind.{common_steps}
use Rattle.scroll_run.proofs.CommandLemmas.{by_index}
use Rattle.scroll_run.proofs.PutLemmas.{put_counted}
use Rattle.scroll_run.proofs.puts.parse_put_of.Goals as goal

pub returns-in-Number-len2 : goal.returns-in-Number-len2
returns-in-Number-len2 g c =
    rw c.in-Number-len2.is-0 (rw (by_index c.args.words.now 2 (search rules))
    c.parse_number_put.ensures)

pub returns-in-Uleb-len1 : goal.returns-in-Uleb-len1
returns-in-Uleb-len1 g c =
    rw c.in-Uleb-len1.is-0 (rw (by_index c.args.words.now 1 (search rules)) c.parse_uleb.ensures)

pub returns-in-Sleb-len1 : goal.returns-in-Sleb-len1
returns-in-Sleb-len1 g c =
    rw c.in-Sleb-len1.is-0 (rw (by_index c.args.words.now 1 (search rules)) c.parse_sleb.ensures)

pub returns-in-U16x3-len4 : goal.returns-in-U16x3-len4
returns-in-U16x3-len4 g c =
    rw c.in-U16x3-len4.is-0 (rw (by_index c.args.words.now 4 (search rules)) c.parse_three.ensures)

pub returns-in_default : goal.returns-in_default
returns-in_default g c =
    λ p s.
    let count = put_counted c.args.name c.args.words.now p s in
    grind (arith, common_steps, count)
