use Rattle.scroll.proofs.lemmas.TextLemmas.{no-zero, taken, written-back}
use Rattle.scroll.proofs.laws.texts.c_string_has_one_zero.Goals as goal

pub returns-clause-no_zero : goal.returns-clause-no_zero
returns-clause-no_zero c = no-zero

pub returns-clause-taken : goal.returns-clause-taken
returns-clause-taken c = taken

pub returns-clause-written_back : goal.returns-clause-written_back
returns-clause-written_back c = written-back
