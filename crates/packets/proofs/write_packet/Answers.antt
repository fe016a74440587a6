-- An offset of zero isn't past the end.
use Rattle.std.proofs.Common.{arith, inl, inr}
use Rattle.scroll.proofs.lemmas.callers.Cursors.{handed-on}
use Rattle.packets.proofs.write_packet.Goals as goal

pub returns-in_err-size-clause-refused : goal.returns-in_err-size-clause-refused
returns-in_err-size-clause-refused c =
    handed-on _ c.from_residual.result c.from_residual.ensures.1
    (elim c.in_err-size.ensures.refused
    [ inl past ↦ absurd (omega (arith, past.past)) | inr at ↦ at.after ])
