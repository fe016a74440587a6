use Rattle.std.proofs.Common.{ℕ, OnOk, replicate, arith, take}
use Rattle.std.proofs.lemmas.Grind.{common_steps}
use Rattle.std.proofs.lemmas.List.{take-replicate}
use Rattle.scroll.specs.Streams.{AppendsValue}
use Rattle.scroll.proofs.lesser.write_large.Goals as goal

pub returns : goal.returns
returns g c =
    let size = g.N.SizeWith.size c.args.ctx in
    let zeros = take-replicate {X = ℕ} size 256 0 c.requires.size in
    let told : OnOk c.write_value.result
    (AppendsValue (g.W.Write.contents c.args.writer.now)
    (g.W.Write.contents c.write_value.new.writer)
    size (g.N.IntoCtx.overwrites c.args.ctx c.args.n (take size (replicate 256 0)))) =
    grind (arith, common_steps, c.write_value.ensures) in
    record { appended = rw zeros at told }
