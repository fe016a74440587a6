use Rattle.std.proofs.Common.{rules, arith, ℕ, List, MatchOption, ◌≤◌, subst}
use Rattle.std.proofs.lemmas.Nat.{le_bytes_8}
use Rattle.scroll.specs.Leb128.{end_of, ReadsGroups, ReadsUleb}
use Rattle.scroll.proofs.lemmas.BlockLemmas.{by_clauses}
use Rattle.scroll.proofs.lemmas.LebReadLemmas.{groups_read}
use Rattle.scroll.proofs.leb128.block.uleb_block.Goals as goal

pub returns : goal.returns
returns c =
    let back = le_bytes_8 c.args.b _ (search rules) (search rules) c.from_le_bytes.ensures in
    let both =
    by_clauses (8 ≤ end_of c.args.b) (λ read. ReadsGroups c.args.b read.0 read.1)
    (λ read. ReadsUleb c.args.b read.0 read.1) c.groups_in.result
    (λ read g. groups_read c.args.b read.0 read.1 (omega (arith, g.size, g.complete.1)) g)
    (subst (λ (s : List ℕ). MatchOption c.groups_in.result (8 ≤ end_of s)
    (λ read. ReadsGroups s read.0 read.1)) back c.groups_in.ensures) in
    record { read = both.0; none = both.1 }
