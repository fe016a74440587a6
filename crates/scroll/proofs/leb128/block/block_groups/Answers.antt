use Rattle.std.proofs.Common.{ap, ◌∙◌, rules}
use Rattle.std.proofs.lemmas.Nat.{le_bytes_8}
use Rattle.scroll.specs.Leb128.{groups_value}
use Rattle.scroll.proofs.leb128.block.block_groups.Goals as goal

pub returns : goal.returns
returns c = c.gathered.ensures
    ∙ ap (λ s. groups_value s 8)
    (le_bytes_8 c.args.b _ (search rules) (search rules) c.from_le_bytes.ensures)
