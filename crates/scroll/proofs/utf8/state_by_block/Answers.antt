use Rattle.std.proofs.Common.{◌∙◌, refl, sym, ap}
use Rattle.scroll.specs.TextStates.{last_state}
use Rattle.scroll.proofs.lemmas.TextStateLemmas.{ascii_at_0}
use Rattle.scroll.proofs.utf8.state_by_block.Goals as goal

pub returns-then-is_ascii-clause-state : goal.returns-then-is_ascii-clause-state
returns-then-is_ascii-clause-state c =
    sym (ap (λ s. last_state s c.args.block.now) c.if-start-eq0.true
    ∙ ascii_at_0 c.args.block.now (c.if-is_ascii.ensures refl))
