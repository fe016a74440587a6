use Rattle.std.proofs.Common.{◌≡◌, ◌+◌, ◌++◌, ◌≤◌, length, vec_len, vec_capacity}
use Rattle.scroll_run.proofs.words.push_parts.Given as goal

abbrev pub invariant-loop-part : goal.invariant-loop-part
invariant-loop-part l = record {
  items : l.parts.items ≡ l.initial.parts.items ++ l.yielded;
  len : vec_len l.parts ≡ vec_len l.initial.parts + length l.yielded;
  capacity : vec_capacity l.initial.parts ≤ vec_capacity l.parts;
}
