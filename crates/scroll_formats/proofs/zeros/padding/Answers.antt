use Rattle.std.proofs.Math.Nat.{add-mod-mod, mod-add-mod, add-sub_of_le, le_of_lt, mod-lt, mod_self}
use Rattle.std.proofs.Common.{◌%◌, ◌-◌, ◌∙◌, ap, sym}
use Rattle.scroll_formats.proofs.zeros.padding.Goals as goal

pub returns-clause-next : goal.returns-clause-next
returns-clause-next c h =
    let o = c.args.offset in
    let k = c.args.multiple in
    add-mod-mod o (k - o % k) k ∙ sym (mod-add-mod o k (k - o % k))
    ∙ ap (λ x. x % k) (add-sub_of_le (le_of_lt (mod-lt o h))) ∙ mod_self k
