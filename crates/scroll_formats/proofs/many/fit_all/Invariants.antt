-- The values so far fit.
use Rattle.std.proofs.Common.{ℕ, ◌<◌, get_or}
use Rattle.scroll_formats.proofs.many.fit_all.Given as goal

abbrev pub invariant-loop-value : goal.invariant-loop-value
invariant-loop-value g l =
    (k : ℕ) → (d : g.row.T.Denot) → k < l.value-index → g.T.Kept.fits (get_or l.values k d)
