use Rattle.std.proofs.Common.{rules}
use Rattle.std.specs.Int.{w8, w16, w32, w64, w128}
use Rattle.scroll.proofs.lemmas.Leaves.{number-leaf, signed-leaf}
use Rattle.scroll.proofs.lemmas.StepLemmas.{write-weaker}
use Rattle.scroll.proofs.runner.write.write_number.Goals as goal

pub returns-in-U8-clause-wrote : goal.returns-in-U8-clause-wrote
returns-in-U8-clause-wrote c =
    rw c.in-U8.is (write-weaker _ _ (λ r h. number-leaf 1 _ _ _ _ _ r h) _ _ _ _ _
    c.write_at.ensures.wrote)

pub returns-in-I8-clause-wrote : goal.returns-in-I8-clause-wrote
returns-in-I8-clause-wrote c =
    rw c.in-I8.is (write-weaker _ _ (λ r h. signed-leaf 1 w8 _ c.in-I8.x _ _ _ r (search rules) h) _
    _ _ _ _ c.write_at-in-I8.ensures.wrote)

pub returns-in-U16-clause-wrote : goal.returns-in-U16-clause-wrote
returns-in-U16-clause-wrote c =
    rw c.in-U16.is (write-weaker _ _ (λ r h. number-leaf 2 _ _ _ _ _ r h) _ _ _ _ _
    c.write_at-in-U16.ensures.wrote)

pub returns-in-I16-clause-wrote : goal.returns-in-I16-clause-wrote
returns-in-I16-clause-wrote c =
    rw c.in-I16.is (write-weaker _ _
    (λ r h. signed-leaf 2 w16 _ c.in-I16.x _ _ _ r (search rules) h) _ _ _ _ _
    c.write_at-in-I16.ensures.wrote)

pub returns-in-U32-clause-wrote : goal.returns-in-U32-clause-wrote
returns-in-U32-clause-wrote c =
    rw c.in-U32.is (write-weaker _ _ (λ r h. number-leaf 4 _ _ _ _ _ r h) _ _ _ _ _
    c.write_at-in-U32.ensures.wrote)

pub returns-in-I32-clause-wrote : goal.returns-in-I32-clause-wrote
returns-in-I32-clause-wrote c =
    rw c.in-I32.is (write-weaker _ _
    (λ r h. signed-leaf 4 w32 _ c.in-I32.x _ _ _ r (search rules) h) _ _ _ _ _
    c.write_at-in-I32.ensures.wrote)

pub returns-in-U64-clause-wrote : goal.returns-in-U64-clause-wrote
returns-in-U64-clause-wrote c =
    rw c.in-U64.is (write-weaker _ _ (λ r h. number-leaf 8 _ _ _ _ _ r h) _ _ _ _ _
    c.write_at-in-U64.ensures.wrote)

pub returns-in-I64-clause-wrote : goal.returns-in-I64-clause-wrote
returns-in-I64-clause-wrote c =
    rw c.in-I64.is (write-weaker _ _
    (λ r h. signed-leaf 8 w64 _ c.in-I64.x _ _ _ r (search rules) h) _ _ _ _ _
    c.write_at-in-I64.ensures.wrote)

pub returns-in-U128-clause-wrote : goal.returns-in-U128-clause-wrote
returns-in-U128-clause-wrote c =
    rw c.in-U128.is (write-weaker _ _ (λ r h. number-leaf 16 _ _ _ _ _ r h) _ _ _ _ _
    c.write_at-in-U128.ensures.wrote)

pub returns-in-I128-clause-wrote : goal.returns-in-I128-clause-wrote
returns-in-I128-clause-wrote c =
    rw c.in-I128.is (write-weaker _ _
    (λ r h. signed-leaf 16 w128 _ c.in-I128.x _ _ _ r (search rules) h) _ _ _ _ _
    c.write_at-in-I128.ensures.wrote)
