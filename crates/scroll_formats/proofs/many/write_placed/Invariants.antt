-- The values so far are written, each where its entry says.
use Rattle.std.proofs.Common.{◌≡◌, length, take}
use Rattle.scroll.specs.Arrays.{WritesAll}
use Rattle.scroll_formats.specs.Many.{ChangesBetween, KeepsPlaced, WritesPlaced}
use Rattle.scroll_formats.proofs.many.write_placed.Given as goal

abbrev pub invariant-loop-k : goal.invariant-loop-k
invariant-loop-k g l = record {
  wrote : WritesAll (g.T.TryIntoCtx.writes l.ctx) l.initial.dst l.initial.offset (take l.k l.values)
      l.dst l.offset;
  places : WritesPlaced (g.T.TryIntoCtx.writes l.ctx) g.P.EntryOf.place l.initial.dst
      l.initial.offset l.entries.items (take l.k l.values) l.dst l.offset;
  others : ChangesBetween l.initial.offset l.offset l.initial.dst l.dst;
  kept : KeepsPlaced (g.T.Kept.reads l.ctx) g.P.EntryOf.place g.P.EntryOf.describes l.dst
      l.entries.items (take l.k l.values) l.offset;
  count : length l.entries.items ≡ l.k;
}
