-- The four calls are writes of leaves: those of the size do not overlap those of the names.
use Rattle.std.proofs.Common.{rules, arith, ◌≡◌, ◌∷◌, [], ℕ, List}
use Rattle.std.specs.Borrow.{Bor}
use Rattle.scroll.proofs.lemmas.callers.OwnTypes.{apart-behind, array-leaves, bytes-leaves, call-leaves, either-order, leaves-where, number-leaves}
use Rattle.scroll.specs.Numbers.{number_bytes}
use Rattle.scroll.specs.declared.endian.Endian.TheVariants.{Little}
use Rattle.scroll.specs.declared.error.Error.TheVariants.{NoMemory}
use Rattle.examples.proofs.either_order.write_both_ways.Goals as goal

pub returns : goal.returns
returns c =
    let size = call-leaves _ _ _ (number-leaves 4 Little) c.args.size in
    let names =
    call-leaves _ _ _ (leaves-where _ _ _ (λ _ old new e. (e ≡ NoMemory) × (new ≡ old)) _
    (search rules) (array-leaves _ _ _ (bytes-leaves (λ (t : Bor (List ℕ)). t.now))))
    c.args.names in
    let apart =
    apart-behind _ c.args.size_at c.args.names_at (number_bytes Little 4 c.args.size ∷ []) _
    (omega (arith, c.requires.apart)) in
    record {
      same = (either-order apart
          (size _ _ _ _ c.pwrite_with.ensures.wrote c.pwrite_with.ensures.refused)
          (names _ _ _ _ c.pwrite_with-2.ensures.wrote c.pwrite_with-2.ensures.refused)
          (rw (← c.requires.same) at
          (names _ _ _ _ c.pwrite_with-3.ensures.wrote c.pwrite_with-3.ensures.refused))
          (size _ _ _ _ c.pwrite_with-4.ensures.wrote c.pwrite_with-4.ensures.refused)).0;
    }
