-- The vector has the bytes of its slice, as many as before.
use Rattle.std.proofs.Common.{ℕ, ◌≡◌, ◌++◌, List, length, take, drop, ap, ◌∙◌, arith}
use Rattle.std.proofs.lemmas.List.{take_all, take-append-le}
use Rattle.scroll.proofs.pwrite.owned.VecU8Pwrite.gwrite_with.Goals as goal

whole : (n : ℕ) (new rest : List ℕ) → length new ≡ n → take n (new ++ rest) ≡ new
whole n new rest len = take-append-le n new rest (omega arith) ∙ take_all n new (omega arith)

pub returns-clause-wrote : goal.returns-clause-wrote
returns-clause-wrote g c =
    let new = c.gwrite_with.new.dst in
    let same =
    whole c.args.self.now.len new (drop (length new) c.args.self.now.items)
    (c.gwrite_with.auto.dst ∙ c.as_mut_slice.ensures.len) in
    rw same (rw c.as_mut_slice.ensures.value at c.gwrite_with.ensures.wrote)

pub returns-clause-refused : goal.returns-clause-refused
returns-clause-refused g c =
    let new = c.gwrite_with.new.dst in
    let same =
    whole c.args.self.now.len new (drop (length new) c.args.self.now.items)
    (c.gwrite_with.auto.dst ∙ c.as_mut_slice.ensures.len) in
    rw same (rw c.as_mut_slice.ensures.value at c.gwrite_with.ensures.refused)

pub returns-clause-len : goal.returns-clause-len
returns-clause-len g c =
    let new = c.gwrite_with.new.dst in
    let same =
    whole c.args.self.now.len new (drop (length new) c.args.self.now.items)
    (c.gwrite_with.auto.dst ∙ c.as_mut_slice.ensures.len) in
    ap length same ∙ c.gwrite_with.auto.dst ∙ ap length c.as_mut_slice.ensures.value
