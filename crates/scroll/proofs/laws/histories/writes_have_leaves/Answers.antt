use Rattle.std.proofs.Common.{◌++◌, [], ◌∷◌}
use Rattle.scroll.proofs.lemmas.Leaves.{bytes-leaves, uleb-leaves, sleb-leaves}
use Rattle.scroll.proofs.laws.histories.writes_have_leaves.Goals as goal

pub returns-clause-bytes : goal.returns-clause-bytes
returns-clause-bytes c = bytes-leaves (λ t. t)

pub returns-clause-c_string : goal.returns-clause-c_string
returns-clause-c_string c = bytes-leaves (λ t. t ++ 0 ∷ [])

pub returns-clause-uleb : goal.returns-clause-uleb
returns-clause-uleb c = uleb-leaves

pub returns-clause-sleb : goal.returns-clause-sleb
returns-clause-sleb c = sleb-leaves
