use Rattle.std.proofs.Common.{inl, inr, refl}
use Rattle.scroll.proofs.lemmas.callers.Cursors.{handed-on}
use Rattle.scroll_formats.proofs.many.write_entered.Goals as goal

pub returns-in_err-entry-clause-refused : goal.returns-in_err-entry-clause-refused
returns-in_err-entry-clause-refused g c =
    handed-on _ c.from_residual.result c.from_residual.ensures.1
    (inr (refl, inl c.in_err-entry.ensures.misplaced))

pub returns-then-is_err-clause-refused : goal.returns-then-is_err-clause-refused
returns-then-is_err-clause-refused g c =
    let entry = c.in_ok-entry.ensures in
    inr (
      refl,
      inr (record {
        entry = _;
        there = entry.place;
        is = entry.describes;
        error = c.from.ensures;
      }),
    )

pub returns-in_err-write_kept-clause-refused : goal.returns-in_err-write_kept-clause-refused
returns-in_err-write_kept-clause-refused g c =
    let residual = c.from_residual-in_err-write_kept in
    handed-on _ residual.result residual.ensures.1 (inl c.in_err-write_kept.ensures.refused)

pub returns-clause-wrote : goal.returns-clause-wrote
returns-clause-wrote g c =
    let wrote = c.in_ok-write_kept in
    (wrote.field-0, wrote.ensures.moves, wrote.ensures.wrote)

pub returns-clause-kept : goal.returns-clause-kept
returns-clause-kept g c = c.in_ok-write_kept.ensures.kept

pub returns-clause-others : goal.returns-clause-others
returns-clause-others g c = c.in_ok-write_kept.ensures.others
