-- The four bytes stand where they were put, and the others are unchanged.
use Rattle.std.proofs.Common.{rules}
use Rattle.std.proofs.lemmas.List.{places}
use Rattle.std.proofs.lemmas.Slice.{overwrites}
use Rattle.scroll.proofs.leb128.write.put_four.Goals as goal

pub returns-clause-put : goal.returns-clause-put
returns-clause-put c = λ k h. search (rules, places, c.fill_four.ensures)

pub returns-clause-before : goal.returns-clause-before
returns-clause-before c = λ k h. search (rules, places)

pub returns-clause-after : goal.returns-clause-after
returns-clause-after c = search (rules, overwrites)
