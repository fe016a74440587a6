use Rattle.std.proofs.Common.{◌==◌, arith}
use Rattle.std.proofs.lemmas.List.Splits.{length-slice_split}
use Rattle.scroll_run.proofs.words.split.Goals as goal

pub returns-in_err-push_parts : goal.returns-in_err-push_parts
returns-in_err-push_parts g c =
    let count = length-slice_split (λ b. b == c.args.separator) c.args.text.now in
    absurd (omega (
      arith,
      c.in_err-push_parts.ensures.full,
      c.in_ok-reserve.ensures.room,
      c.count_parts.ensures,
    ))
