use Rattle.std.proofs.Common.{ℕ, OnOk, replicate, arith, take}
use Rattle.std.proofs.lemmas.Grind.{common_steps}
use Rattle.std.proofs.lemmas.List.{take-replicate}
use Rattle.scroll.specs.Streams.{AppendsValue}
use Rattle.scroll.proofs.lesser.IOwrite.iowrite_with.Goals as goal

pub returns-then-size-le-SMALL : goal.returns-then-size-le-SMALL
returns-then-size-le-SMALL g c =
    let size = g.N.SizeWith.size c.args.ctx in
    let zeros = take-replicate {X = ℕ} size 16 0 (omega arith) in
    let told : OnOk c.write_value.result
    (AppendsValue (g.Self.Write.contents c.args.self.now)
    (g.Self.Write.contents c.write_value.new.writer)
    size (g.N.IntoCtx.overwrites c.args.ctx c.args.n (take size (replicate 16 0)))) =
    grind (arith, common_steps, c.write_value.ensures) in
    record { appended = rw zeros at told }
