use Rattle.std.proofs.Common.{drop, ◌∙◌, ap, arith}
use Rattle.std.specs.Int.{w128, from_le_bytes, from_be_bytes}
use Rattle.scroll.proofs.lemmas.Buffers.{number-take}
use Rattle.scroll.specs.Numbers.{number}
use Rattle.scroll.specs.declared.endian.Endian.TheVariants.{Little, Big}
use Rattle.scroll.proofs.ctx.numbers.unsigned.U128Fixed.read_at.Goals as goal

pub returns-in-Little : goal.returns-in-Little
unfolding number
returns-in-Little c =
    rw c.in-Little.is (c.from_le_bytes.ensures ∙ ap (from_le_bytes w128) c.bytes_at.ensures
    ∙ omega (arith, number-take Little 16 16 (drop c.args.offset c.args.from.now)))

pub returns-in-Big : goal.returns-in-Big
unfolding number
returns-in-Big c =
    rw c.in-Big.is (c.from_be_bytes.ensures ∙ ap (from_be_bytes w128) c.bytes_at-in-Big.ensures
    ∙ omega (arith, number-take Big 16 16 (drop c.args.offset c.args.from.now)))
