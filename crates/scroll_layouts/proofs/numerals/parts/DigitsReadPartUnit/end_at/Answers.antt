-- A field of digits is a number.
use Rattle.std.proofs.Common.{◌≡◌, ◌-◌, ◌≤◌, length, drop, take, refl, subst, arith, length-drop}
use Rattle.std.proofs.lemmas.List.{take_all}
use Rattle.scroll_layouts.specs.Numerals.{IsNumeral, numeral_value}
use Rattle.scroll_layouts.proofs.numerals.parts.DigitsReadPartUnit.end_at.Goals as goal

pub returns-clause-ends : goal.returns-clause-ends
returns-clause-ends g c =
    let n = g.row.N in
    let from = c.args.from.now in
    let s = drop c.args.offset from in
    let size = length-drop c.args.offset from in
    let all : take (length from - c.args.offset) s ≡ s =
    take_all (length from - c.args.offset) s (omega (arith, size)) in
    let number = subst (λ t. (n ≤ length t) × IsNumeral g.row.BASE (take n t)) all
    c.in-Ok.ensures.number in record {
      value = record {
        bytes = take n s;
        value = numeral_value g.row.BASE (take n s);
        numeral = number.1;
        is = refl;
      };
      there = (number.0, refl, number.1, refl, refl);
      moves = refl;
    }
