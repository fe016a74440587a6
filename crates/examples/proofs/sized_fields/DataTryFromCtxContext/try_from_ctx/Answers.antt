use Rattle.std.proofs.Common.{inl, inr}
use Rattle.std.proofs.lemmas.Result.{err_from_is_err_and}
use Rattle.examples.proofs.sized_fields.DataTryFromCtxContext.try_from_ctx.Goals as goal

pub returns-in_err-name-clause-refused : goal.returns-in_err-name-clause-refused
returns-in_err-name-clause-refused c =
    let room = c.in_ok-fields.ensures.room in
    let error = c.in_err-name.field-0.0 in
    let (y, is, made) =
    err_from_is_err_and c.from_residual-in_err-name.result
    c.from_residual-in_err-name.ensures.1 in
    elim (rw room.1 at c.in_err-name.ensures.refused) [
      | inl short ↦ rw is (inl (error, made, inr (inr (inr (inl (room.0, short))))))
      | inr name ↦ rw is (inl (error, made, inr (inr (inr (inr (inl name))))))
    ]
