-- The numbers so far follow one another, and each has at least one byte.
use Rattle.std.proofs.Common.{◌-◌, ℕ, List, length}
use Rattle.scroll.specs.Leb128.{Counted, ReadsCountedUleb}
use Rattle.scroll.specs.Reads.{ReadsAll}
use Rattle.examples.proofs.loops.end_of_numbers.Given as goal

abbrev pub invariant-loop-number : goal.invariant-loop-number
invariant-loop-number l =
    (numbers : List (Counted ℕ)) × ReadsAll ReadsCountedUleb l.file 0 numbers l.offset

abbrev pub decreases-loop-number : goal.decreases-loop-number
decreases-loop-number l = length l.file - l.offset
