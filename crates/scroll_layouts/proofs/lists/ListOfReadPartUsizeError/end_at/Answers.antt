-- The bytes of a length are a list of the source where they are one of their own.
use Rattle.std.proofs.Common.{◌≡◌, ◌≤◌, ◌+◌, ◌-◌, length, drop, take, inr, sym, ap, subst, ◌∙◌, arith, rules, length-drop}
use Rattle.std.proofs.lemmas.List.{length-take-le}
use Rattle.std.specs.Prelude.{IfNone}
use Rattle.scroll_layouts.specs.Lists.{CountedItems, RefusesItems}
use Rattle.scroll_layouts.specs.lemmas.EndLemmas.{none-map}
use Rattle.scroll_layouts.specs.lemmas.ListLemmas.{list-has}
use Rattle.scroll_layouts.proofs.lists.ListOfReadPartUsizeError.end_at.Goals as goal

pub returns-in_err-found-clause-none : goal.returns-in_err-found-clause-none
returns-in_err-found-clause-none g c =
    let s = c.args.from.now in
    let o = c.args.offset in
    let n = c.args.ctx.now in
    let f = g.K.Listed.item in
    let gives = g.K.Error.From.from_gives in
    let room : n ≤ length s - o = search rules in
    let width : (o + n) - o ≡ n = omega arith in
    let refused : IfNone c.from_residual.result ((e : _)
    × RefusesItems gives f c.args.order (take ((o + n) - o) (drop o s)) e) = search rules in
    none-map c.from_residual.result
    (λ h. record {
      error = h.0;
      refused = inr (
        omega (arith, room, length-drop o s),
        subst (λ k. RefusesItems gives f c.args.order (take k (drop o s)) h.0) width h.1,
      );
    })
    refused

pub returns-clause-ends : goal.returns-clause-ends
returns-clause-ends g c =
    let s = c.args.from.now in
    let o = c.args.offset in
    let n = c.args.ctx.now in
    let f = g.K.Listed.item in
    let order = c.args.order in
    let room : n ≤ length s - o = search rules in
    let width : (o + n) - o ≡ n = omega arith in
    let list = g.L.ListPart.seen c.of.result in
    let made = c.of.ensures in
    let is : list.bytes ≡ take n (drop o s) =
    made.bytes ∙ ap (λ k. take k (drop o s)) width in
    let long : length list.bytes ≡ n =
    ap length is ∙ length-take-le n (drop o s) (omega (arith, room, length-drop o s)) in
    record {
      value = record { 0 = c.of.result; 1 = record {} };
      there = (
        omega (arith, long, room, c.requires),
        is ∙ ap (λ k. take k (drop o s)) (sym long),
        made.order,
        (
          sym long,
          list-has (λ l n. ∥ CountedItems f order l 0 (length l) n ∥₁) made.bytes made.count
              ∣ c.in_ok-found.ensures.read ∣₁,
        ),
      );
      moves = omega (arith, long);
    }
