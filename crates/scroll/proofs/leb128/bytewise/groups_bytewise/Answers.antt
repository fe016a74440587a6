use Rattle.std.proofs.Common.{◌≡◌, length, arith, below_more}
use Rattle.scroll.proofs.lemmas.LebLemmas.{late_end, no_end, or_group, gives_at, byte_there, not_there, tenth_there}
use Rattle.scroll.proofs.leb128.bytewise.groups_bytewise.Goals as goal

pub returns-in_default-clause-truncated : goal.returns-in_default-clause-truncated
returns-in_default-clause-truncated c =
    let past = not_there c.args.src.now c.loop-i.i c.in_default.ensures.lookup.0 in
    let whole : c.loop-i.i ≡ length c.args.src.now =
    omega (arith, past, c.loop-i.invariant.within) in
    let end = no_end c.args.src.now (rw whole at c.loop-i.invariant.open_so_far) in
    (omega arith, omega arith)

pub returns-then-byte-lt128-clause-read : goal.returns-then-byte-lt128-clause-read
returns-then-byte-lt128-clause-read c =
    let s = c.args.src.now in
    let look = c.in-Some.ensures.lookup in
    let there = byte_there s c.loop-i.i _ look.0 look.1 in (
      gives_at s c.loop-i.i c.loop-i.groups c.from.result _ there.0 (omega arith)
          c.loop-i.invariant.open_so_far there.2 c.if-byte-lt128.true c.loop-i.invariant.value
          c.from.ensures,
      omega arith,
    )

pub loop-i-preserved : goal.loop-i-preserved
loop-i-preserved c =
    let s = c.args.src.now in
    let look = c.in-Some.ensures.lookup in
    let there = byte_there s c.loop-i.i _ look.0 look.1 in
    record {
      within = omega (arith, there.0);
      open_so_far = below_more _ _ c.loop-i.invariant.open_so_far (omega (arith, there.2));
      value =
          or_group s c.loop-i.i c.loop-i.groups c.from.result (omega arith) c.loop-i.invariant.value
          (rw there.2 c.from.ensures);
    }

pub returns-in-Some-get-clause-read : goal.returns-in-Some-get-clause-read
returns-in-Some-get-clause-read c =
    let look = c.in-Some-get.ensures.lookup in
    tenth_there c.args.src.now c.loop-i.i c.loop-i.groups _ look.0 look.1 (omega arith)
    c.loop-i.invariant.open_so_far c.loop-i.invariant.value

pub returns-in-None-clause-truncated : goal.returns-in-None-clause-truncated
returns-in-None-clause-truncated c =
    let s = c.args.src.now in
    let past = not_there s 9 c.in-None.ensures.lookup.0 in
    let nine : c.loop-i.i ≡ 9 = omega arith in
    let late =
    late_end s 9 (omega (arith, c.loop-i.invariant.within))
    (rw nine at c.loop-i.invariant.open_so_far) in
    (omega arith, omega arith)
