use Rattle.std.proofs.Common.{◌≡◌, ◌≤◌, ◌<◌, ◌∙◌, ◌++◌, length, take, drop, arith, inl, inr, subst}
use Rattle.std.proofs.Math.ListN.{get_or-append}
use Rattle.std.proofs.lemmas.List.{get_or-take, length-take-le}
use Rattle.std.proofs.lemmas.Grind.{common_steps}
use Rattle.std.proofs.lemmas.Result.{err_from_is_err_and}
use Rattle.scroll_ffi.specs.Refusals.{FailsAfter, RefusesNext}
use Rattle.scroll_ffi.proofs.Filled.{all_filled, past_none}
use Rattle.scroll_ffi.proofs.elf_table.read_all.Goals as goal

-- the vector is as long as the table, and so many were stored
pub returns-clause-all : goal.returns-clause-all
returns-clause-all c =
    let n = c.in_ok-filled.filled in
    let new = c.fill.new.filled in
    let rest = drop (length new) c.resize.new.self.items in
    let fills = c.in_ok-filled.ensures.filled in
    let len : c.resize.new.self.len ≡ n = grind (arith, common_steps, fills.fits, fills.left) in
    let there : n ≤ length new = grind (arith, common_steps, fills.fits) in
    let size : length (take c.resize.new.self.len (new ++ rest)) ≡ n =
    grind (arith, common_steps, len, length-take-le, there) in
    rw size (all_filled c.args.file.now n c.in_ok-left.left _ _ _
    (take c.resize.new.self.len (new ++ rest)) c.in_ok-left.ensures.opened fills
    (grind (arith, common_steps, len, fills.left))
    (λ k d less. get_or-take c.resize.new.self.len (new ++ rest) k d (omega (arith, less, len))
    ∙ get_or-append new rest d k (omega (arith, less, there))))

pub next-requires : goal.next-requires
next-requires c = rw c.in_ok-filled.ensures.filled.iterator (omega (arith, c.if-filled-count.true))

pub returns-in_err-left-clause-refused : goal.returns-in_err-left-clause-refused
returns-in_err-left-clause-refused c =
    let (_, is, made) = err_from_is_err_and c.from_residual.result c.from_residual.ensures.1 in
    rw is (rw made (inl c.in_err-left.ensures.refused))

-- the first section can't be read
pub returns-in_err-filled-clause-refused : goal.returns-in_err-filled-clause-refused
returns-in_err-filled-clause-refused c =
    let (_, is, made) =
    err_from_is_err_and c.from_residual-in_err-filled.result
    c.from_residual-in_err-filled.ensures.1 in
    let fails = c.in_err-filled.ensures in
    let first : FailsAfter c.args.file.now c.in_ok-left.left _ = record {
      k = 0;
      below = omega (arith, fails.ends);
      before = λ j less. absurd (omega (arith, less));
      left = c.fill.new.sections;
      why = rw past_none fails.refused;
    } in
    rw is (rw made (inr (c.in_ok-left.left, c.in_ok-left.ensures.opened, inr first)))

-- those before this one are stored
pub returns-in_err-next-clause-refused : goal.returns-in_err-next-clause-refused
returns-in_err-next-clause-refused c =
    let (_, is, made) =
    err_from_is_err_and c.from_residual-in_err-next.result
    c.from_residual-in_err-next.ensures.1 in
    let fills = c.in_ok-filled.ensures.filled in
    let why : RefusesNext c.args.file.now c.fill.new.sections c.next.new.sections
    c.in_err-next.field-0.0 =
    elim c.in_err-next.ensures.refused [ inl stops ↦ inl stops.0 | inr skips ↦ inr skips.0 ]
    in
    let later : FailsAfter c.args.file.now c.in_ok-left.left _ = record {
      k = c.in_ok-filled.filled;
      below = omega (arith, c.if-filled-count.true);
      before = λ j less. (_, fills.each j c.next.new.section less);
      left = c.next.new.sections;
      why = subst (λ x. RefusesNext c.args.file.now x c.next.new.sections c.in_err-next.field-0.0)
          fills.iterator why;
    } in
    rw is (rw made (inr (c.in_ok-left.left, c.in_ok-left.ensures.opened, inr later)))
