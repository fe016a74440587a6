-- The values are values of their own bytes.
use Rattle.std.proofs.Common.{◌-◌, length, drop, take, sym, subst, rules}
use Rattle.scroll_layouts.specs.Marks.{CountedMarked}
use Rattle.scroll_layouts.specs.lemmas.Parts.{bytes-taken, cut-there}
use Rattle.scroll_layouts.specs.lemmas.WholeLemmas.{bytes-below}
use Rattle.scroll_layouts.specs.lemmas.MarkLemmas.{marked-cut}
use Rattle.scroll_layouts.specs.lemmas.ListLemmas.{list-has}
use Rattle.scroll_layouts.proofs.marked.ListOfReadPartToMarkError.read_at.Goals as goal

pub of-list-requires : goal.of-list-requires
of-list-requires g c =
    let s = c.args.from.now in
    let o = c.args.offset in
    let end = c.in_ok-end.end in
    let rest = take (length s - o) (drop o s) in
    let f = g.K.Listed.item in
    let mark = g.K.End.EndMark.mark in
    let n = c.in_ok-end.count in
    let lists : CountedMarked mark f c.args.order (take end rest) (length (take end rest)) n
    → g.K.IsList.is_list c.args.order (take end rest) n = λ h. search rules in
    λ k. (
      search rules,
      ∣ lists (marked-cut mark f c.args.order rest end n
          (bytes-taken (length s - o) o s (bytes-below s c.type_inv.from))
          c.in_ok-end.ensures.inside c.in_ok-end.ensures.read) ∣₁,
    )

pub returns-clause-read : goal.returns-clause-read
returns-clause-read g c =
    let s = c.args.from.now in
    let o = c.args.offset in
    let end = c.in_ok-end.end in
    let rest = take (length s - o) (drop o s) in
    let f = g.K.Listed.item in
    let mark = g.K.End.EndMark.mark in
    let inside = c.in_ok-end.ensures.inside in
    let list = g.L.ListPart.seen c.of-list.result in
    let made = c.of-list.ensures in
    let there = cut-there s o end list.bytes c.requires inside made.bytes in (
      there.1,
      there.2,
      made.order,
      list-has (λ l n. ∥ CountedMarked mark f c.args.order l (length l) n ∥₁) made.bytes
          made.count ∣ marked-cut mark f c.args.order rest end c.in_ok-end.count
          (bytes-taken (length s - o) o s (bytes-below s c.type_inv.from)) inside
          c.in_ok-end.ensures.read ∣₁,
    )
