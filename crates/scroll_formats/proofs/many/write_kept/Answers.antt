-- The value reads back by its type's law.
use Rattle.std.proofs.Common.{refl, rules}
use Rattle.scroll_formats.proofs.lemmas.ManyLemmas.{kept-one, changes-one}
use Rattle.scroll_formats.proofs.many.write_kept.Goals as goal

pub returns-clause-kept : goal.returns-clause-kept
returns-clause-kept g c =
    let w = c.in_ok-size.ensures in
    kept-one _ _ c.args.value
    (λ old new rest n h. (g.met.T.Kept c.lifetimes (search rules)).back c.args.ctx c.args.value
    old new rest n c.fit.ensures h) _ _ _ _ _ w.wrote w.moves

pub returns-clause-again : goal.returns-clause-again
returns-clause-again g c = returns-clause-kept g c _ refl

pub returns-clause-others : goal.returns-clause-others
returns-clause-others g c =
    let w = c.in_ok-size.ensures in
    changes-one (g.met.T.TryIntoCtx.writes_keeps c.args.ctx c.args.value) _ _ _ _ _ w.wrote w.moves
