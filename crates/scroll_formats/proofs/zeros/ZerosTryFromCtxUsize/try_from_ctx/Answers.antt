-- What holds of the bytes up to the size holds of the source.
use Rattle.std.proofs.Common.{◌<◌, refl, sym, ◌∙◌, arith, inr}
use Rattle.std.proofs.lemmas.List.{length-take-le, get_or-take}
use Rattle.scroll_formats.proofs.zeros.ZerosTryFromCtxUsize.try_from_ctx.Goals as goal

pub returns-in-None-clause-read : goal.returns-in-None-clause-read
returns-in-None-clause-read c =
    let n = c.args.ctx in
    let s = c.args.from.now in
    let room = c.in_ok-check_room.ensures.enough in
    let len = length-take-le n s room in
    record {
      room = room;
      zero = λ i h. sym (get_or-take n s i 0 h) ∙ c.in-None.ensures.none i (omega (arith, len));
      size = refl;
    }

pub returns-in-Some-clause-refused : goal.returns-in-Some-clause-refused
returns-in-Some-clause-refused c =
    let n = c.args.ctx in
    let s = c.args.from.now in
    let k = c.in-Some.size in
    let room = c.in_ok-check_room.ensures.enough in
    let found = c.in-Some.ensures.found in
    let inside : k < n = omega (arith, length-take-le n s room, found.0) in
    inr record {
      index = k;
      room = room;
      inside = inside;
      before = λ i h. sym (get_or-take n s i 0 (omega arith)) ∙ found.2 i h;
      nonzero = λ e. found.1 (get_or-take n s k 0 inside ∙ e);
      error = (refl, refl);
    }
