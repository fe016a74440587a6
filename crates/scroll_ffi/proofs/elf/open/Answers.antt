-- What the header says, and what the entry of the names does.
use Rattle.std.proofs.Common.{rules, arith, refl, inl, inr, length-drop}
use Rattle.std.proofs.lemmas.Result.{err_from_is_err_and}
use Rattle.scroll_ffi.proofs.elf.open.Goals as goal

pub returns-then-header-eq0-clause-opened : goal.returns-then-header-eq0-clause-opened
returns-then-header-eq0-clause-opened c =
    record {
      header = c.in-Ok.header;
      read = search rules;
      order = c.order_number.ensures;
      left = c.from.ensures;
      next = refl;
      size = λ some. absurd (some c.if-header-eq0.true);
      names = λ some. absurd (some c.if-header-eq0.true);
      none = λ _. search rules;
      unnamed = λ _.
          (refl, refl);
    }

pub returns-clause-opened : goal.returns-clause-opened
returns-clause-opened c =
    let entry = c.in-Ok-read_entry.entry in
    let room = c.in_ok-check_part.ensures.room in
    record {
      header = c.in-Ok.header;
      read = search rules;
      order = c.order_number.ensures;
      left = c.from.ensures;
      next = refl;
      size = λ _. search rules;
      none = λ none. absurd
          (c.if-header-eq0.false none);
      unnamed = λ none. absurd (c.if-header-eq0.false none);
      names = λ _. record {
        inside = search rules;
        entry = entry;
        entry-is = rw c.from-2.ensures at c.in-Ok-read_entry.ensures.entry;
        offset = refl;
        size = refl;
        bytes = record {
          inside = omega (arith, room);
          value = record {
            room = omega (arith, room, length-drop entry.offset c.args.file.now);
            value = refl;
            size = refl;
          };
        };
      };
    }

-- the entry of the names isn't there
pub returns-in-Err-read_entry-clause-refused : goal.returns-in-Err-read_entry-clause-refused
returns-in-Err-read_entry-clause-refused c =
    let why = rw c.from-2.ensures at c.in-Err-read_entry.ensures.refused in
    inr (
      c.in-Ok.header,
      search rules,
      inr (c.if-header-eq0.false, inr (inr (search rules, search rules, inl why))),
    )

-- nor are the names
pub returns-in_err-check_part-clause-refused : goal.returns-in_err-check_part-clause-refused
returns-in_err-check_part-clause-refused c =
    let (_, is, made) = err_from_is_err_and c.from_residual.result c.from_residual.ensures.1 in
    let entry = rw c.from-2.ensures at c.in-Ok-read_entry.ensures.entry in
    let names = inr (c.in-Ok-read_entry.entry, entry, c.in_err-check_part.ensures.refused) in
    rw is (rw made (inr (
      c.in-Ok.header,
      search rules,
      inr (c.if-header-eq0.false, inr (inr (search rules, search rules, names))),
    )))
