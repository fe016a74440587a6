use Rattle.std.proofs.Common.{◌≤◌, ◌++◌, ℕ, List, [], length, take, arith, append-nil, subst, Option}
use Rattle.std.proofs.KnownBytes.{Consumes-kept, Consumes-trans}
use Rattle.std.proofs.Math.Seq.{take-append-le}
use Rattle.std.proofs.lemmas.Grind.{common_steps}
use Rattle.std.specs.Io.KnownBytes.{Consumes}
use Rattle.scroll_run.proofs.input.read_input.Goals.{in-Ok+in_ok-append-in-Ok+else-len-eq-MAX_READ, in-Err}
use Rattle.scroll_run.proofs.input.read_input.Goals as goal

-- a call that gave nothing took nothing
nothing_more : (a b c : Option (List ℕ)) (bytes : List ℕ) → Consumes a b bytes → Consumes b c []
    → Consumes a c bytes
nothing_more a b c bytes taken none =
    subst (Consumes a c) (append-nil bytes) (Consumes-trans a b c bytes [] taken none)

-- the bytes that a call gave, at the front of its buffer, follow those before
joined : (a b c : Option (List ℕ)) (bytes front rest : List ℕ) (n : ℕ) → n ≤ length front
    → Consumes a b bytes → Consumes b c (take n front)
    → Consumes a c (bytes ++ take n (front ++ rest))
joined a b c bytes front rest n le taken more =
    rw (take-append-le n front rest le) (Consumes-trans a b c bytes (take n front) taken more)

pub returns-in-Ok-eq0-clause-bound : goal.returns-in-Ok-eq0-clause-bound
returns-in-Ok-eq0-clause-bound g c = omega (arith, c.loop.invariant.short)

pub returns-in-Ok-eq0-clause-taken : goal.returns-in-Ok-eq0-clause-taken
returns-in-Ok-eq0-clause-taken g c =
    let read = rw (c.in-Ok-eq0.is, c.in-Ok-eq0.field-0-test) at c.read.ensures.bytes in
    nothing_more _ _ _ _ c.loop.invariant.taken read.0

pub returns-in-Ok-eq0-clause-whole : goal.returns-in-Ok-eq0-clause-whole
returns-in-Ok-eq0-clause-whole g c =
    let read = rw c.in-Ok-eq0.is at c.read.ensures.bytes in
    λ short. read.1 c.in-Ok-eq0.field-0-test (grind (arith, common_steps))

pub returns-then-len-eq-MAX_READ-clause-taken : goal.returns-then-len-eq-MAX_READ-clause-taken
returns-then-len-eq-MAX_READ-clause-taken g c =
    rw c.in_ok-append-in-Ok.ensures.items
    (joined _ _ _ _ _ _ _ c.in-Ok.ensures.bound.0 c.loop.invariant.taken
    c.in-Ok.ensures.bytes.0)

pub returns-then-len-eq-MAX_READ-clause-bound : goal.returns-then-len-eq-MAX_READ-clause-bound
returns-then-len-eq-MAX_READ-clause-bound g c =
    omega (arith, c.len-in-Ok.ensures, c.if-len-eq-MAX_READ.true)

pub loop-preserved : goal.loop-preserved
loop-preserved g c =
    elim c.match-read.branch [
      | in-Ok+in_ok-append-in-Ok+else-len-eq-MAX_READ w ↦ record {
        short = grind (arith, common_steps);
        taken =
            rw (w.bytes-is, w.in_ok-append-in-Ok.ensures.items)
            (joined _ _ _ _ _ _ _ w.in-Ok.ensures.bound.0 c.loop.invariant.taken
            w.in-Ok.ensures.bytes.0);
      }
      | in-Err w ↦ rw w.bytes-is record {
        short = c.loop.invariant.short;
        taken = Consumes-kept _ _ _ _ c.loop.invariant.taken w.in-Err.ensures.bytes;
      }
    ]
