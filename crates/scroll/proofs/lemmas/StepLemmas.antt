-- What the parts of a run append: from the relations of a type to those of a command.
use Rattle.std.proofs.Common.{◌≡◌, ℕ, List, [], Result, Ok, Err, OnOk, length, refl, sym}
use Rattle.scroll.specs.History.{pieces, WritesLeaves}
use Rattle.scroll.specs.Runs.{ReadStep, WriteStep, IsStep, leaves_of, offset_of}
use Rattle.scroll.specs.Steps.{AppendsAnswer, AppendsWrite, answer_of, after_write}
use Rattle.scroll.proofs.lemmas.HistoryLemmas.{seen-nil}
use Rattle.scroll.specs.declared.error.Error.{Error}
use Rattle.scroll.specs.declared.runner.Answer.{Answer}
use Rattle.scroll.specs.declared.runner.Command.TheVariants as command
use Rattle.scroll.specs.declared.runner.Kind.{Kind}
use Rattle.scroll.specs.declared.runner.Place.{Place}
use Rattle.scroll.specs.declared.runner.Put.{Put}

-- what is known of the result of a write implies more
pub write-weaker : (says says' : Result ℕ Error → Type 0)
    → ((r : Result ℕ Error) → says r → says' r) → (at : Place) (from to : ℕ) (old new : List Answer)
    → AppendsWrite says at from to old new → AppendsWrite says' at from to old new
write-weaker says says' more at from to old new h = record {
  result = h.result;
  wrote = more h.result h.wrote;
  items = h.items;
  cursor = h.cursor;
}

-- a successful read is a step that leaves the buffer unchanged
pub read-appends : {X E : Type 0} (r : Result X E) (buffer : List ℕ) (cursor : ℕ) (at : Place)
    (what : Kind) (after : ℕ) (old new : List Answer)
    → OnOk r (AppendsAnswer old new (λ a. ReadStep buffer cursor at what a after))
    → OnOk r (AppendsAnswer old new
    (λ a. IsStep buffer buffer cursor (command.Read at what) a after))
read-appends (Ok x) buffer cursor at what after old new h = record {
  answer = h.answer;
  items = h.items;
  said = record {
    written = [];
    step = (h.said, refl);
    bytes = sym (seen-nil buffer);
  };
}
read-appends (Err e) buffer cursor at what after old new h = tt

write-step : (buffer buffer' : List ℕ) (cursor : ℕ) (at : Place) (leaves : List (List ℕ))
    (r : Result ℕ Error) (after : ℕ) → WritesLeaves buffer (offset_of at cursor) leaves buffer' r
    → after ≡ after_write at cursor r → WriteStep buffer cursor at leaves (answer_of r) after
write-step buffer buffer' cursor at leaves (Ok n) after h moved = (h.answer, moved)
write-step buffer buffer' cursor at leaves (Err e) after h stays = (h.answer, stays)

-- a write of the leaves of a value is a step
pub write-appends : (buffer buffer' : List ℕ) (cursor : ℕ) (at : Place) (x : Put) (after : ℕ)
    (old new : List Answer) → AppendsWrite
    (WritesLeaves buffer (offset_of at cursor) (leaves_of x) buffer') at cursor after old new
    → AppendsAnswer old new (λ a. IsStep buffer buffer' cursor (command.Write at x) a after)
write-appends buffer buffer' cursor at x after old new h = record {
  answer = answer_of h.result;
  items = h.items;
  said = record {
    written = pieces (length buffer) (offset_of at cursor) (leaves_of x);
    step =
        (write-step buffer buffer' cursor at (leaves_of x) h.result after h.wrote h.cursor, refl);
    bytes = h.wrote.after;
  };
}
