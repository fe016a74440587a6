use Rattle.std.proofs.Common.{rules, ℕ, List, MatchOption, ◌≤◌, subst}
use Rattle.std.proofs.lemmas.Nat.{le_bytes_8}
use Rattle.scroll.specs.Leb128.{end_of, ReadsSleb}
use Rattle.scroll.proofs.lemmas.BlockLemmas.{by_clauses}
use Rattle.scroll.proofs.leb128.block.sleb_block.Goals as goal

pub returns : goal.returns
returns c =
    let back = le_bytes_8 c.args.b _ (search rules) (search rules) c.from_le_bytes.ensures in
    let both =
    by_clauses (8 ≤ end_of c.args.b) (λ read. ReadsSleb c.args.b read.0 read.1)
    (λ read. ReadsSleb c.args.b read.0 read.1) c.signed_in.result (λ read g. g)
    (subst (λ (s : List ℕ). MatchOption c.signed_in.result (8 ≤ end_of s)
    (λ read. ReadsSleb s read.0 read.1)) back c.signed_in.ensures) in
    record { read = both.0; none = both.1 }
