use Rattle.std.proofs.Common.{rules, [], ◌∷◌}
use Rattle.scroll.proofs.lemmas.Leaves.{bytes-leaf, uleb-leaf, sleb-leaf, numbers-leaves, slices-leaves}
use Rattle.scroll.proofs.lemmas.StepLemmas.{write-weaker}
use Rattle.scroll.proofs.runner.write.write.Goals as goal

pub returns-in-Text-clause-wrote : goal.returns-in-Text-clause-wrote
returns-in-Text-clause-wrote c =
    rw c.in-Text.is (write-weaker _ _ (λ r h. bytes-leaf _ _ _ _ r h) _ _ _ _ _
    c.write_at.ensures.wrote)

pub returns-in-Bytes-clause-wrote : goal.returns-in-Bytes-clause-wrote
returns-in-Bytes-clause-wrote c =
    rw c.in-Bytes.is (write-weaker _ _ (λ r h. bytes-leaf _ _ _ _ r h) _ _ _ _ _
    c.write_at-in-Bytes.ensures.wrote)

pub returns-in-CStr-clause-wrote : goal.returns-in-CStr-clause-wrote
returns-in-CStr-clause-wrote c =
    rw c.in-CStr.is (write-weaker _ _ (λ r h. bytes-leaf _ _ _ _ r h) _ _ _ _ _
    c.write_at-in-CStr.ensures.wrote)

pub returns-in-Uleb-clause-wrote : goal.returns-in-Uleb-clause-wrote
returns-in-Uleb-clause-wrote c =
    rw c.in-Uleb.is (write-weaker _ _ (λ r h. uleb-leaf c.in-Uleb.number _ _ _ r h) _ _ _ _ _
    c.write_at-in-Uleb.ensures.wrote)

pub returns-in-Sleb-clause-wrote : goal.returns-in-Sleb-clause-wrote
returns-in-Sleb-clause-wrote c =
    rw c.in-Sleb.is (write-weaker _ _ (λ r h. sleb-leaf c.in-Sleb.number _ _ _ r h) _ _ _ _ _
    c.write_at-in-Sleb.ensures.wrote)

pub returns-in-U16x3-clause-wrote : goal.returns-in-U16x3-clause-wrote
returns-in-U16x3-clause-wrote c =
    rw c.in-U16x3.is (write-weaker _ _ (λ r h. numbers-leaves 2 _ _ _ _ _ r h (search rules)) _ _ _
    _ _ c.write_at-in-U16x3.ensures.wrote)

pub returns-in-Bytesx2-clause-wrote : goal.returns-in-Bytesx2-clause-wrote
returns-in-Bytesx2-clause-wrote c =
    rw c.in-Bytesx2.is (write-weaker _ _
    (λ r h. slices-leaves (c.in-Bytesx2.first ∷ c.in-Bytesx2.second ∷ []) _ _ _ r h
    (search rules)) _ _ _ _ _ c.write_at-in-Bytesx2.ensures.wrote)
