use Rattle.std.proofs.Common.{◌≡◌, length, sym, ap, ◌∙◌, arith, below_more}
use Rattle.std.proofs.lemmas.Option.{get_or_from_slice_get, slice_get_within}
use Rattle.scroll.proofs.lemmas.LebLemmas.{gives_at, or_group, no_end, none_past}
use Rattle.scroll.proofs.leb128.by_loads.short_groups.Goals as goal

pub unreachable-requires : goal.unreachable-requires
unreachable-requires c =
    let past =
    none_past c.loop-i.src.bytes c.loop-i.i (sym c.in_default.is ∙ c.byte.ensures.value) in
    c.if-i-len.false (omega (arith, past, c.loop-i.invariant.within, c.len.ensures))

pub returns-then-i-len-clause-truncated : goal.returns-then-i-len-clause-truncated
returns-then-i-len-clause-truncated c =
    let i = c.loop-i.invariant in
    let whole : c.loop-i.i ≡ length c.loop-i.src.bytes = c.if-i-len.true ∙ c.len.ensures in
    let e = no_end c.loop-i.src.bytes (rw whole at i.open_so_far) in
    rw (← i.same) (omega arith, omega (arith, ap length i.same))

pub returns-then-byte-lt128-clause-read : goal.returns-then-byte-lt128-clause-read
returns-then-byte-lt128-clause-read c =
    let s = c.loop-i.src.bytes in
    let i = c.loop-i.invariant in
    let byte = get_or_from_slice_get s c.loop-i.i _ 0 (sym c.in-Some.ensures.value) in
    let inside = slice_get_within s c.loop-i.i _ (sym c.in-Some.ensures.value) in (
      rw (← i.same) (gives_at s c.loop-i.i c.loop-i.groups c.from.result _ inside (omega arith)
          i.open_so_far byte c.if-byte-lt128.true i.value c.from.ensures),
      omega arith,
    )

pub loop-i-preserved : goal.loop-i-preserved
loop-i-preserved c =
    let s = c.loop-i.src.bytes in
    let i = c.loop-i.invariant in
    let byte = get_or_from_slice_get s c.loop-i.i _ 0 (sym c.in-Some.ensures.value) in
    let inside = slice_get_within s c.loop-i.i _ (sym c.in-Some.ensures.value) in
    rw c.byte.ensures.counted (record {
      same = i.same;
      counted = omega (arith, i.counted);
      within = omega (arith, inside);
      open_so_far = below_more _ _ i.open_so_far (omega arith);
      value =
          or_group s c.loop-i.i c.loop-i.groups c.from.result (omega arith) i.value
          (rw byte c.from.ensures);
    })

pub returns-clause-truncated : goal.returns-clause-truncated
returns-clause-truncated c =
    let i = c.loop-i.invariant in
    let whole : c.loop-i.i ≡ length c.loop-i.src.bytes =
    omega (arith, ap length i.same, i.within) in
    let e = no_end c.loop-i.src.bytes (rw whole at i.open_so_far) in
    rw (← i.same) (omega arith, omega (arith, ap length i.same))
