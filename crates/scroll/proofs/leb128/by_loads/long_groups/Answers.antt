use Rattle.std.proofs.Common.{Some, ◌≡◌, ℕ, ◌<◌, ◌≤◌, length, get_or, sym, ap, ◌∙◌, arith, below_more}
use Rattle.std.proofs.lemmas.Option.{get_or_from_slice_get, slice_get_within}
use Rattle.std.specs.List.{slice_get}
use Rattle.scroll.specs.Reads.{Loading}
use Rattle.scroll.proofs.lemmas.LebLemmas.{gives_at, or_group, late_end, open_before, none_past}
use Rattle.scroll.proofs.lemmas.LebReadLemmas.{block_open}
use Rattle.scroll.proofs.leb128.by_loads.long_groups.Goals as goal

pub returns-in_default-clause-truncated : goal.returns-in_default-clause-truncated
returns-in_default-clause-truncated c =
    let s = c.args.src.now.bytes in
    let late = (block_open s c.args.block c.requires.first c.requires.open).0 in
    let past : length s ≤ 8 = none_past s 8 (sym c.in_default.is ∙ c.byte.ensures.value) in
    (omega arith, omega arith)

pub returns-then-ninth-lt128-clause-read : goal.returns-then-ninth-lt128-clause-read
returns-then-ninth-lt128-clause-read c =
    let s = c.args.src.now.bytes in
    let eight = block_open s c.args.block c.requires.first c.requires.open in
    let at = sym c.in-Some.ensures.value in (
      gives_at s 8 c.block_groups-low.result c.from.result _ (slice_get_within s 8 _ at)
          (omega arith) (λ k h. open_before s k (omega (arith, h, eight.0)))
          (get_or_from_slice_get s 8 _ 0 at) c.if-ninth-lt128.true
          (c.block_groups-low.ensures ∙ eight.1) c.from.ensures,
      omega arith,
    )

pub returns-in-Some-byte-clause-read : goal.returns-in-Some-byte-clause-read
returns-in-Some-byte-clause-read c =
    let s = c.args.src.now.bytes in
    let block = block_open s c.args.block c.requires.first c.requires.open in
    let ninth = get_or_from_slice_get s 8 _ 0 (sym c.in-Some.ensures.value) in
    let at : slice_get s 9 ≡ Some c.in-Some-byte.tenth =
    sym (c.in-Some-byte.ensures.value
    ∙ ap (λ (l : Loading). slice_get l.bytes 9) c.byte.ensures.counted) in
    let within = slice_get_within s 9 _ at in
    let eight : (k : ℕ) → k < 8 → 128 ≤ get_or s k 0 =
    λ k h. open_before s k (omega (arith, h, block.0)) in
    let nine : (k : ℕ) → k < 9 → 128 ≤ get_or s k 0 =
    below_more (λ k. 128 ≤ get_or s k 0) 8 eight (omega arith) in (
      late_end s 9 (omega (arith, within)) nine,
      at,
      or_group s 8 c.block_groups-low.result c.from.result (omega arith)
          (c.block_groups-low.ensures ∙ block.1) (rw ninth c.from.ensures),
    )

pub returns-in-None-clause-truncated : goal.returns-in-None-clause-truncated
returns-in-None-clause-truncated c =
    let s = c.args.src.now.bytes in
    let block = block_open s c.args.block c.requires.first c.requires.open in
    let ninth = get_or_from_slice_get s 8 _ 0 (sym c.in-Some.ensures.value) in
    let within = slice_get_within s 8 _ (sym c.in-Some.ensures.value) in
    let past : length s ≤ 9 =
    none_past s 9 (sym c.in-None.is ∙ c.byte-2.ensures.value
    ∙ ap (λ (l : Loading). slice_get l.bytes 9) c.byte.ensures.counted) in
    let eight : (k : ℕ) → k < 8 → 128 ≤ get_or s k 0 =
    λ k h. open_before s k (omega (arith, h, block.0)) in
    let nine : (k : ℕ) → k < 9 → 128 ≤ get_or s k 0 =
    below_more (λ k. 128 ≤ get_or s k 0) 8 eight (omega arith) in
    let late = late_end s 9 (omega arith) nine in
    (omega arith, omega arith)
