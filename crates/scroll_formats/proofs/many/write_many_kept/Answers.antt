-- The values read back by their type's law.
use Rattle.std.proofs.Common.{refl, rules}
use Rattle.scroll_formats.proofs.lemmas.ManyLemmas.{WritesAll-inside, WritesAll-kept, kept-whole, changes-many}
use Rattle.scroll_formats.proofs.many.write_many_kept.Goals as goal

pub returns-clause-kept : goal.returns-clause-kept
returns-clause-kept g c =
    WritesAll-kept _ _ g.T.Kept.fits ((g.met.T.Kept c.lifetimes (search rules)).back c.args.ctx)
    c.args.values.now _ _ _ _ c.fit_all.ensures c.in_ok-write_many.ensures.wrote

pub returns-clause-again : goal.returns-clause-again
returns-clause-again g c = returns-clause-kept g c _ refl

pub returns-clause-others : goal.returns-clause-others
returns-clause-others g c =
    changes-many _ (g.met.T.TryIntoCtx.writes_keeps c.args.ctx) c.args.values.now _ _ _ _
    c.in_ok-write_many.ensures.wrote

pub returns-clause-whole : goal.returns-clause-whole
returns-clause-whole g c inside =
    kept-whole _ c.args.values.now _ _ _
    (WritesAll-inside _ (g.met.T.TryIntoCtx.writes_bounded c.args.ctx) c.args.values.now _ _ _ _
    inside c.in_ok-write_many.ensures.wrote)
    (returns-clause-kept g c)
