use Rattle.std.proofs.Common.{◌≡◌, ℕ, ◌+◌, ◌-◌, ◌≤◌, Bool, List, length, take, drop, ap, ◌∙◌, arith}
use Rattle.std.specs.List.{position_or_len}
use Rattle.scroll.proofs.lemmas.SearchLemmas.{position_or_len-le, position_or_len-rest}
use Rattle.scroll.proofs.search.first.Goals as goal

-- a stop in the rest of a source
in_rest : (p : ℕ → Bool) (k : ℕ) (s : List ℕ) (n : ℕ) → k ≤ position_or_len p s
    → n ≡ position_or_len p (take (length s - k) (drop k s)) → k + n ≡ position_or_len p s
in_rest p k s n none found = ap (λ m. k + m) found ∙ position_or_len-rest p k s none

-- a stop in the rest of the rest
in_last : (p : ℕ → Bool) (k m : ℕ) (s : List ℕ) (n : ℕ) → k ≤ position_or_len p s
    → m ≤ position_or_len p (take (length s - k) (drop k s))
    → n ≡ position_or_len p (take (length (take (length s - k) (drop k s)) - m)
    (drop m (take (length s - k) (drop k s)))) → k + m + n ≡ position_or_len p s
in_last p k m s n none none_after found =
    let rest =
    in_rest p k s (m + n) none
    (in_rest p m (take (length s - k) (drop k s)) n none_after found) in
    omega (arith, rest)

pub returns-in-Some-clause-within : goal.returns-in-Some-clause-within
returns-in-Some-clause-within g c =
    rw c.in-Some.ensures.index (position_or_len-le (g.S.Stops.stops c.args.at) c.args.source.now)

pub overflow_add-result : goal.overflow_add-result
overflow_add-result g c =
    let p = g.S.Stops.stops c.args.at in
    let s = c.args.source.now in
    let at = in_rest p _ s _ c.in_default.ensures.none c.in-Some-first_in_blocks.ensures.index in
    omega (arith, at, position_or_len-le p s)

pub returns-in-Some-first_in_blocks-clause-index : goal.returns-in-Some-first_in_blocks-clause-index
returns-in-Some-first_in_blocks-clause-index g c =
    in_rest (g.S.Stops.stops c.args.at) _ c.args.source.now _ c.in_default.ensures.none
    c.in-Some-first_in_blocks.ensures.index

pub returns-in-Some-first_in_blocks-clause-within
    : goal.returns-in-Some-first_in_blocks-clause-within
returns-in-Some-first_in_blocks-clause-within g c =
    rw (returns-in-Some-first_in_blocks-clause-index g c)
    (position_or_len-le (g.S.Stops.stops c.args.at) c.args.source.now)

pub overflow_add-result-in-Some-first_in_blocks-2-2
    : goal.overflow_add-result-in-Some-first_in_blocks-2-2
overflow_add-result-in-Some-first_in_blocks-2-2 g c =
    let p = g.S.Stops.stops c.args.at in
    let s = c.args.source.now in
    let at =
    in_last p _ _ s _ c.in_default.ensures.none c.in_default-first_in_blocks.ensures.none
    c.in-Some-first_in_blocks-2.ensures.index in
    omega (arith, at, position_or_len-le p s)

pub returns-in-Some-first_in_blocks-2-clause-index
    : goal.returns-in-Some-first_in_blocks-2-clause-index
returns-in-Some-first_in_blocks-2-clause-index g c =
    in_last (g.S.Stops.stops c.args.at) _ _ c.args.source.now _ c.in_default.ensures.none
    c.in_default-first_in_blocks.ensures.none c.in-Some-first_in_blocks-2.ensures.index

pub returns-in-Some-first_in_blocks-2-clause-within
    : goal.returns-in-Some-first_in_blocks-2-clause-within
returns-in-Some-first_in_blocks-2-clause-within g c =
    rw (returns-in-Some-first_in_blocks-2-clause-index g c)
    (position_or_len-le (g.S.Stops.stops c.args.at) c.args.source.now)
