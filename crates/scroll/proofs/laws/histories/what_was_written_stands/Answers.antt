use Rattle.std.proofs.Common.{arith, ◌++◌, [], ◌∷◌}
use Rattle.scroll.proofs.lemmas.TextLemmas.{begins-c_string, begins-slice, begins-text}
use Rattle.scroll.proofs.lemmas.NumberLemmas.{begins-number, begins-signed}
use Rattle.scroll.proofs.lemmas.HistoryLemmas.{length-seen}
use Rattle.scroll.proofs.lemmas.StandLemmas.{stands, pieces-apart}
use Rattle.scroll.specs.Numbers.{number_bytes, signed_bytes}
use Rattle.scroll.proofs.laws.histories.what_was_written_stands.Goals as goal

pub returns-clause-bytes : goal.returns-clause-bytes
returns-clause-bytes c first commands history run o t last =
    stands first commands history o t run last

pub returns-clause-number : goal.returns-clause-number
returns-clause-number c first commands history run o w x order fits last =
    let here = stands first commands history o (number_bytes order w x) run last in
    record {
      inside = omega (arith, here.0, length-seen first history);
      value = begins-number order w x _ fits here.1;
    }

pub returns-clause-signed : goal.returns-clause-signed
returns-clause-signed c first commands history run o w x order low high last =
    let here = stands first commands history o (signed_bytes order w x) run last in
    record {
      inside = omega (arith, here.0, length-seen first history);
      value = begins-signed order w x _ low high here.1;
    }

pub returns-clause-leaves : goal.returns-clause-leaves
returns-clause-leaves c = pieces-apart

pub returns-clause-slice : goal.returns-clause-slice
returns-clause-slice c first commands history run o t last =
    let here = stands first commands history o t run last in
    record {
      inside = omega (arith, here.0, length-seen first history);
      value = begins-slice _ t here.1;
    }

pub returns-clause-text : goal.returns-clause-text
returns-clause-text c first commands history run o t utf8 last =
    let here = stands first commands history o t run last in
    record {
      inside = omega (arith, here.0, length-seen first history);
      value = begins-text _ t utf8 here.1;
    }

pub returns-clause-c_string : goal.returns-clause-c_string
returns-clause-c_string c first commands history run o t no_zero last =
    let here = stands first commands history o (t ++ 0 ∷ []) run last in
    record {
      inside = omega (arith, here.0, length-seen first history);
      value = begins-c_string _ t no_zero here.1;
    }
