-- The bytes from the offset on are read.
use Rattle.std.proofs.Common.{◌-◌, length, drop, refl, subst, inr, arith, length-drop}
use Rattle.std.proofs.lemmas.List.{take_all}
use Rattle.std.proofs.lemmas.Result.{err_from_is_err_and}
use Rattle.scroll.proofs.pread.RefSliceU8Pread.gread_with.Goals as goal

pub returns-in_err-value-clause-refused : goal.returns-in_err-value-clause-refused
returns-in_err-value-clause-refused g c =
    let s = c.args.self.now in
    let o = c.args.offset.now in
    let rest = take_all (length s - o) (drop o s) (omega (arith, length-drop o s)) in
    let refused =
    subst (λ t. g.N.ReadFrom.refuses c.args.ctx t c.in_err-value.field-0.0) rest
    c.in_err-value.ensures.refused in
    let p = err_from_is_err_and c.from_residual.result c.from_residual.ensures.1 in
    rw (p.1, p.2) (inr (c.if-start-self.false, refused))

pub returns-clause-read : goal.returns-clause-read
returns-clause-read g c =
    let s = c.args.self.now in
    let o = c.args.offset.now in
    let rest = take_all (length s - o) (drop o s) (omega (arith, length-drop o s)) in
    let value =
    subst (λ t. g.N.ReadFrom.reads c.args.ctx t c.in_ok-value.value c.in_ok-value.size) rest
    c.in_ok-value.ensures.read in
    (c.in_ok-value.size, refl, record { inside = c.if-start-self.false; value = value })
