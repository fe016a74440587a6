use Rattle.std.proofs.Common.{rules}
use Rattle.scroll_run.proofs.CommandLemmas.{by_index, no_end}
use Rattle.scroll_run.proofs.kinds.parse_end.Goals as goal

pub returns-in-len2 : goal.returns-in-len2
returns-in-len2 c = rw (by_index c.args.words.now 2 (search rules)) c.parse_end_of_two.ensures

pub returns-in-len3 : goal.returns-in-len3
returns-in-len3 c = rw (by_index c.args.words.now 3 (search rules)) c.parse_end_of_three.ensures

pub returns-in_default : goal.returns-in_default
returns-in_default c = no_end c.args.words.now (search rules) (search rules)
