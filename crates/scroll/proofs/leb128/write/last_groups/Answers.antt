use Rattle.scroll.proofs.lemmas.LebWordLemmas.{last_bytes}
use Rattle.scroll.proofs.leb128.write.last_groups.Goals as goal

pub returns-clause-open : goal.returns-clause-open
returns-clause-open c = (last_bytes c.args.low _ _ c.spread.ensures c.to_le_bytes.ensures).0

pub returns-clause-last : goal.returns-clause-last
returns-clause-last c = (last_bytes c.args.low _ _ c.spread.ensures c.to_le_bytes.ensures).1
