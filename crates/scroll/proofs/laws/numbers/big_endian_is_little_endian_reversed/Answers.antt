use Rattle.scroll.proofs.lemmas.NumberLemmas.{number-reverse}
use Rattle.scroll.proofs.laws.numbers.big_endian_is_little_endian_reversed.Goals as goal

pub returns : goal.returns
returns c = number-reverse
