use Rattle.std.proofs.Common.{inl}
use Rattle.scroll.proofs.lemmas.callers.Cursors.{handed-on}
use Rattle.scroll_formats.proofs.many.read_some.Goals as goal

pub returns-in_err-value-clause-refused : goal.returns-in_err-value-clause-refused
returns-in_err-value-clause-refused g c =
    handed-on _ c.from_residual.result c.from_residual.ensures.1
    (inl c.in_err-value.ensures.refused)
