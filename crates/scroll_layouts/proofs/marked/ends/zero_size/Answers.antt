-- The first two bytes mostly say that a number isn't zero.
use Rattle.std.proofs.Common.{◌<◌, get_or, arith}
use Rattle.scroll_layouts.specs.lemmas.ZeroMarks.{bits-there, padding-there}
use Rattle.scroll_layouts.proofs.marked.ends.zero_size.Goals as goal

pub returns-then-first-ne0-clause-size : goal.returns-then-first-ne0-clause-size
returns-then-first-ne0-clause-size c =
    let look = c.in_ok-first.ensures.item in
    bits-there c.args.from.now 0 _ look.0 look.1 (λ k l. absurd (omega (arith, l)))
    c.if-first-ne0.true

pub returns-then-second-ne0-clause-size : goal.returns-then-second-ne0-clause-size
returns-then-second-ne0-clause-size c =
    let look = c.in_ok-second.ensures.lookup in
    let first = c.in_ok-first.ensures.item in
    let small : get_or c.args.from.now 0 0 < 256 = omega (arith, (c.type_inv.from 0).fits) in
    let padding = padding-there c.args.from.now _ first.0 first.1 small c.if-first-ne0.false
    c.if-first-eq0.false in
    bits-there c.args.from.now 1 _ look.0 look.1 padding c.if-second-ne0.true
