use Rattle.std.proofs.Common.{ℕ, ◌*◌, ◌<◌, ◌^◌, length, None, Fits, w64, arith}
use Rattle.std.proofs.lemmas.List.{get_or_default}
use Rattle.scroll.proofs.lemmas.ArrayLemmas.{is_there}
use Rattle.std.proofs.lemmas.Grind.{common_steps}
use Rattle.scroll.proofs.ctx.arrays.take_slot.Goals as goal

offset_fits : (i n size : ℕ) → i < n → n * size < 2 ^ 63 → Fits w64 (i * size)
offset_fits i n size h room = grind arith

pub bounds-as_mut_slice-index : goal.bounds-as_mut_slice-index
bounds-as_mut_slice-index g c =
    rw c.as_mut_slice.ensures.value
    (is_there c.args.slots.now.items c.args.index c.requires.0 c.requires.1)

pub unreachable-requires : goal.unreachable-requires
unreachable-requires g c =
    let there : c.args.index < length c.args.slots.now.items =
    is_there c.args.slots.now.items c.args.index c.requires.0 c.requires.1 in
    let same =
    get_or_default c.args.slots.now.items c.args.index c.index-as_mut_slice-index.result None
    there in
    let found = rw c.as_mut_slice.ensures.value at c.in-None.ensures.value in
    absurd (cc (same, found, c.requires.1))

pub returns-clause-value : goal.returns-clause-value
returns-clause-value g c =
    let there : c.args.index < length c.args.slots.now.items =
    is_there c.args.slots.now.items c.args.index c.requires.0 c.requires.1 in
    let same =
    get_or_default c.args.slots.now.items c.args.index c.index-as_mut_slice-index.result None
    there in
    let found = rw c.as_mut_slice.ensures.value at c.in-Some.ensures.value in
    cc (same, found)

pub offset_bounds-as_mut_slice-index : goal.offset_bounds-as_mut_slice-index
offset_bounds-as_mut_slice-index g c =
    let there : c.args.index < length c.as_mut_slice.result.now =
    rw c.as_mut_slice.ensures.value
    (is_there c.args.slots.now.items c.args.index c.requires.0 c.requires.1) in
    offset_fits c.args.index _ _ there c.as_mut_slice.type_inv.1

pub returns-clause-after : goal.returns-clause-after
returns-clause-after g c = grind (arith, common_steps)
