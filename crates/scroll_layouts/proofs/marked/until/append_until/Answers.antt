-- One more value was read and appended.
use Rattle.std.proofs.Common.{◌-◌, ◌≤◌, ◌⊎◌, length-append, ◌++◌, ◌∷◌, [], length, take, drop, refl, sym, ap, subst, ◌∙◌, arith, inl, inr, rules, append-nil, append_assoc, length-drop}
use Rattle.std.proofs.lemmas.List.{take_all}
use Rattle.scroll_formats.proofs.lemmas.callers.Written.{prefix-stands}
use Rattle.std.specs.Prelude.{vec_capacity}
use Rattle.scroll_layouts.specs.Marks.{ItemsBefore, CountedMarked, AppendsList, StopsList}
use Rattle.scroll_layouts.specs.lemmas.MarkLemmas.{list-cut, push}
use Rattle.scroll_layouts.specs.lemmas.Parts.{bytes-taken}
use Rattle.scroll_layouts.specs.lemmas.WholeLemmas.{bytes-below}
use Rattle.scroll_layouts.proofs.marked.until.append_until.Goals as goal

-- there is no memory only where a vector is full
or_full : {P X : Type 0} {Q M : X → Type 0} {F G : Type 0} → (F → G)
    → P ⊎ ((x : X) × Q x × F × M x) → P ⊎ ((x : X) × Q x × G × M x)
or_full full (inl p) = inl p
or_full full (inr h) = inr (h.0, h.1, full h.2, h.3)

pub of-requires : goal.of-requires
of-requires g c =
    let s = c.args.from.now in
    let o = c.args.offset.now in
    let h = c.loop-end.invariant in
    let end = c.in-Some.end in
    let mark = g.K.End.EndMark.mark in
    let f = g.K.Listed.item in
    let rest = take (length s - o) (drop o s) in
    let old = c.args.values.now.items in
    let count = c.len.result - c.len-before.result in
    let lists : CountedMarked mark f c.args.order (take end rest) (length (take end rest)) count
    → g.K.IsList.is_list c.args.order (take end rest) count = λ h. search rules in
    ∣ lists (
      h.0,
      list-cut mark f c.args.order rest h.0 end
          (bytes-taken (length s - o) o s (bytes-below s c.type_inv.from)) c.in-Some.ensures.inside
          record { stop = c.loop-end.at; each = h.1; ends = c.in-Some.ensures.found },
      omega (arith, ap length h.2, length-append old h.0, c.len.ensures, c.len-before.ensures),
    ) ∣₁

pub returns-in-Some-clause-values : goal.returns-in-Some-clause-values
returns-in-Some-clause-values g c =
    let s = c.args.from.now in
    let o = c.args.offset.now in
    let h = c.loop-end.invariant in
    let mark = g.K.End.EndMark.mark in
    let f = g.K.Listed.item in
    subst (λ l. AppendsList mark f c.args.order l c.args.values.now.items c.loop-end.values.items)
    (sym c.of.ensures.bytes) (
      h.0,
      list-cut mark f c.args.order (take (length s - o) (drop o s)) h.0 c.in-Some.end
          (bytes-taken (length s - o) o s (bytes-below s c.type_inv.from)) c.in-Some.ensures.inside
          record { stop = c.loop-end.at; each = h.1; ends = c.in-Some.ensures.found },
      h.2,
    )

pub returns-in-Some-clause-there : goal.returns-in-Some-clause-there
returns-in-Some-clause-there g c =
    let s = c.args.from.now in
    let o = c.args.offset.now in
    let end = c.in-Some.end in
    let whole = take_all (length s - o) (drop o s) (omega (arith, length-drop o s)) in
    let room : end ≤ length (drop o s) = omega (arith, ap length whole, c.in-Some.ensures.inside) in
    prefix-stands end (omega (arith, c.if-start-from.false)) room
    (ap (take end) (sym whole) ∙ sym c.of.ensures.bytes) refl

pub loop-end-preserved : goal.loop-end-preserved
loop-end-preserved g c =
    let s = c.args.from.now in
    let o = c.args.offset.now in
    let h = c.loop-end.invariant in
    let next = c.in-Ok.ensures.read in
    let mark = g.K.End.EndMark.mark in
    let f = g.K.Listed.item in
    let rest = take (length s - o) (drop o s) in (
      h.0 ++ next.0 ∷ [],
      subst (λ k. ItemsBefore mark f c.args.order rest 0 (h.0 ++ next.0 ∷ []) k) (sym next.2)
          (push mark f c.args.order rest 0 h.0 c.loop-end.at next.0 h.1 c.in_default.ensures.none
          next.1 next.3),
      next.4 ∙ ap (λ l. l ++ next.0 ∷ []) h.2
          ∙ append_assoc c.args.values.now.items h.0 (next.0 ∷ []),
      c.in-Ok.ensures.forward.1,
      omega (arith, h.4, c.in-Ok.ensures.capacity),
    )

pub returns-in-Err-clause-refused : goal.returns-in-Err-clause-refused
returns-in-Err-clause-refused g c =
    let s = c.args.from.now in
    let o = c.args.offset.now in
    let h = c.loop-end.invariant in
    let whole = take_all (length s - o) (drop o s) (omega (arith, length-drop o s)) in
    let at = c.loop-end.at in
    let room = vec_capacity c.args.values.now - length c.args.values.now.items in
    let filled : vec_capacity c.loop-end.values ≤ length c.loop-end.values.items
    → room ≤ length h.0 =
    λ full. omega (arith, full, h.4, ap length h.2, length-append c.args.values.now.items h.0) in
    let stops : StopsList g.K.Error.From.from_gives room g.K.End.EndMark.mark
    g.K.Listed.item c.args.order (take (length s - o) (drop o s)) h.0 at
    c.in-Err.error = record {
      each = h.1;
      other = c.in_default.ensures.none;
      error = or_full filled c.in-Err.ensures.refused;
    } in (
      h.0,
      c.in-Err.ensures.same ∙ h.2,
      record {
        why = inr (
          at,
          refl,
          subst (λ l. StopsList g.K.Error.From.from_gives room g.K.End.EndMark.mark
              g.K.Listed.item c.args.order l h.0 at c.in-Err.error) whole stops,
        );
      },
    )

pub returns-then-start-from-clause-refused : goal.returns-then-start-from-clause-refused
returns-then-start-from-clause-refused g c = (
  [],
  sym (append-nil c.args.values.now.items),
  record { why = inl (c.if-start-from.true, refl, refl, search rules) },
)
