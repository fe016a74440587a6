-- Lemmas on lines that spell a script, and on the first bad line.
use Rattle.std.proofs.Common.{◌≡◌, ◌<◌, ◌+◌, ◌-◌, ◌++◌, ℕ, zero, suc, List, [], ◌∷◌, length, map, take, get_or, codes, string_bytes, arith, refl, sym, Bor, Option, Some, None, Result, Ok, Err}
use Rattle.std.proofs.lemmas.Grind.{common_steps}
use Rattle.std.proofs.lemmas.List.{take_more, get_or-take, length-take-le, get_or-map, length-map}
use Rattle.std.proofs.lemmas.Slice.Zip.{all_zipped_more, AllZip-long}
use Rattle.std.specs.Option.{MatchOption}
use Rattle.std.specs.Result.{MatchResult}
use Rattle.scroll.specs.declared.cstr.CStr.{CStr}
use Rattle.scroll.specs.declared.runner.Command.{Command}
use Rattle.scroll_run.specs.Commands.{AreCommandsOf, IsCommandOf, SpellsCommand}
use Rattle.scroll_run.specs.Lines.{SpellsBuffer, SpellsCursor, SpellsAllCommands, SpellsHeld, SpellsAllHeld, IsCommand, HasGoodLine, IsFirstBadLine, Stops, StopsCommands}
use Rattle.scroll_run.specs.Words.{SpellsBytes, words_of}
use Rattle.scroll_run.specs.declared.commands.CommandLine.{CommandLine}
use Rattle.scroll.specs.declared.runner.Command.TheVariants as command
use Rattle.scroll.specs.declared.runner.Put.TheVariants as put
use Rattle.scroll_run.specs.declared.commands.CommandLine.TheVariants as line
use Rattle.scroll_run.specs.declared.puts.OwnedPut.TheVariants as owned
use Rattle.scroll_run.specs.declared.lines.Stop.{Stop}
use Rattle.scroll_run.specs.declared.lines.Stop.TheVariants.{BadLine, NoMemory}

-- a buffer line by its second word
pub buffer_by_word : {V E : Type 0} (refused : Type 0) (items : V → List ℕ) (line word : List ℕ)
    (r : Result (Option V) E) → line ≡ codes "buffer " ++ word
    → MatchResult r (λ found. MatchOption found ((bytes : List ℕ) → ¬ (SpellsBytes word bytes))
    (λ v. SpellsBytes word (items v))) (λ _. refused)
    → MatchResult r (λ found. MatchOption found ((bytes : List ℕ) → ¬ (SpellsBuffer line bytes))
    (λ v. SpellsBuffer line (items v))) (λ _. refused)
buffer_by_word refused items line word (Ok (Some v)) e h = (word, e, h)
buffer_by_word refused items line word (Ok None) e h = λ bytes s. let f = h bytes in
    grind (arith, common_steps)
buffer_by_word refused items line word (Err x) e h = h

-- a command that borrows from a line
lent : (x : CommandLine) → (c : Command) × IsCommandOf x c
lent (line.Read at what) = (command.Read at what, refl)
lent (line.Write at (owned.Plain p)) = (command.Write at p, (p, refl, refl))
lent (line.Write at (owned.Text s)) =
    let text : Bor (List ℕ) = record { ref_ptr = (0, 0); now = string_bytes s } in
    (command.Write at (put.Text text), (put.Text text, refl, (text, refl, refl)))
lent (line.Write at (owned.Bytes v)) =
    let bytes : Bor (List ℕ) = record { ref_ptr = (0, 0); now = v.items } in
    (command.Write at (put.Bytes bytes), (put.Bytes bytes, refl, (bytes, refl, refl)))
lent (line.Write at (owned.CStr s)) =
    let text : CStr =
    record {
      bytes = record { ref_ptr = (0, 0); now = s.bytes.items };
      one_zero = s.one_zero;
    } in
    (command.Write at (put.CStr text), (put.CStr text, refl, (text, refl, refl)))
lent (line.Write at (owned.Bytesx2 v w)) =
    let x : Bor (List ℕ) = record { ref_ptr = (0, 0); now = v.items } in
    let y : Bor (List ℕ) = record { ref_ptr = (0, 0); now = w.items } in
    (command.Write at (put.Bytesx2 x y), (put.Bytesx2 x y, refl, (x, y, refl, refl, refl)))

-- the commands that borrow from lines are those that are spelled
pub SpellsAllHeld-commands : (lines : List (List ℕ)) (xs : List CommandLine) (cs : List Command)
    → SpellsAllHeld lines xs → AreCommandsOf xs cs → SpellsAllCommands lines cs
SpellsAllHeld-commands [] [] [] h a = tt
SpellsAllHeld-commands [] [] (c ∷ cs) h a = absurd a
SpellsAllHeld-commands [] (x ∷ xs) cs h a = absurd h
SpellsAllHeld-commands (l ∷ ls) [] cs h a = absurd h
SpellsAllHeld-commands (l ∷ ls) (x ∷ xs) [] h a = absurd a
SpellsAllHeld-commands (l ∷ ls) (x ∷ xs) (c ∷ cs) h a =
    (h.0 c a.0, SpellsAllHeld-commands ls xs cs h.1 a.1)

-- each of the lines spells a command
each_command : (lines : List (List ℕ)) (xs : List CommandLine) → SpellsAllHeld lines xs → (j : ℕ)
    → j < length lines → IsCommand (get_or lines j [])
each_command (l ∷ ls) (x ∷ xs) h zero lt = let c = lent x in (c.0, h.0 c.0 c.1)
each_command (l ∷ ls) (x ∷ xs) h (suc j) lt = each_command ls xs h.1 j (omega arith)
each_command [] xs h j lt = absurd (omega arith)
each_command (l ∷ ls) [] h j lt = absurd h

-- the line at i is held too
pub held_next : (lines : List (Bor (List ℕ))) (d : Bor (List ℕ)) (xs : List CommandLine) (i : ℕ)
    (x : CommandLine) → SpellsAllHeld (take i (map (λ l. l.now) lines)) xs → i < length lines
    → ((c : Command) → IsCommandOf x c → SpellsCommand (words_of (get_or lines i d).now) c)
    → SpellsAllHeld (take (i + 1) (map (λ l. l.now) lines)) (xs ++ x ∷ [])
held_next lines d xs i x h lt s =
    let texts = map (λ (l : Bor (List ℕ)). l.now) lines in
    let count = length-map lines (λ (l : Bor (List ℕ)). l.now) in
    let more = take_more texts i [] (omega arith) in
    let line = get_or-map (λ (l : Bor (List ℕ)). l.now) lines i d [] lt in
    rw more (rw line (all_zipped_more SpellsHeld (take i texts) xs (get_or lines i d).now x h s))

-- the line at i is the first that spells no command
pub stops_here : (refused : Type 0) (lines : List (Bor (List ℕ))) (d : Bor (List ℕ))
    (xs : List CommandLine) (i k : ℕ) → SpellsAllHeld (take i (map (λ l. l.now) lines)) xs
    → i < length lines → k ≡ length xs + 3
    → ((c : Command) → ¬ (SpellsCommand (words_of (get_or lines i d).now) c))
    → StopsCommands refused (map (λ l. l.now) lines) (BadLine k)
stops_here refused lines d xs i k h lt e bad =
    let texts = map (λ (l : Bor (List ℕ)). l.now) lines in
    let count = length-map lines (λ (l : Bor (List ℕ)). l.now) in
    let prefix = length-take-le i texts (omega arith) in
    let spelled = AllZip-long SpellsHeld (take i texts) xs h in
    let line = get_or-map (λ (l : Bor (List ℕ)). l.now) lines i d [] lt in (
      i,
      omega arith,
      omega arith,
      λ j less. rw (sym (get_or-take i texts j [] less))
          (each_command (take i texts) xs h j (omega arith)),
      λ s. let t = rw line at s in bad t.0 t.1,
    )

-- the first line is missing
pub no_lines : (lines : List (List ℕ)) → length lines ≡ 0 → IsFirstBadLine lines 1
no_lines lines e = record {
  counted = omega arith;
  needed = omega arith;
  good = λ i lt. absurd (omega arith);
  bad = λ s. omega (arith, e, s.0);
}

-- the second line is missing
pub one_line : (lines : List (List ℕ)) (first : List ℕ) (rest : List (List ℕ)) (bytes : List ℕ)
    → lines ≡ first ∷ rest → length rest ≡ 0 → SpellsBuffer first bytes → IsFirstBadLine lines 2
one_line lines first rest bytes e none b = record {
  counted = omega arith;
  needed = omega arith;
  good = λ i lt. rw e (good i lt);
  bad = λ s. let t = rw e at s in omega (arith, none, t.0);
}
  where
    good : (i : ℕ) → i + 1 < 2 → HasGoodLine (first ∷ rest) i
    good zero lt = (omega arith, (bytes, b))
    good (suc i) lt = absurd (omega arith)

pub first_bad : (lines : List (List ℕ)) (first : List ℕ) (rest : List (List ℕ))
    → lines ≡ first ∷ rest → ((bytes : List ℕ) → ¬ (SpellsBuffer first bytes))
    → IsFirstBadLine lines 1
first_bad lines first rest e h = record {
  counted = omega arith;
  needed = omega arith;
  good = λ i lt. absurd (omega arith);
  bad = λ s. let t = rw e at s in h t.1.0 t.1.1;
}

pub second_bad : (lines : List (List ℕ)) (first second : List ℕ) (rest : List (List ℕ))
    (bytes : List ℕ) → lines ≡ first ∷ second ∷ rest → SpellsBuffer first bytes
    → ((n : ℕ) → ¬ (SpellsCursor second n)) → IsFirstBadLine lines 2
second_bad lines first second rest bytes e b h = record {
  counted = omega arith;
  needed = omega arith;
  good = λ i lt. rw e (good i lt);
  bad = λ s. let t = rw e at s in h t.1.0 t.1.1;
}
  where
    good : (i : ℕ) → i + 1 < 2 → HasGoodLine (first ∷ second ∷ rest) i
    good zero lt = (omega arith, (bytes, b))
    good (suc i) lt = absurd (omega arith)

-- where the commands stop, the lines stop
pub stops_lines : (refused : Type 0) (lines : List (List ℕ)) (first second : List ℕ)
    (rest : List (List ℕ)) (bytes : List ℕ) (n : ℕ) (stop : Stop) → lines ≡ first ∷ second ∷ rest
    → SpellsBuffer first bytes → SpellsCursor second n → StopsCommands refused rest stop
    → Stops refused lines stop
stops_lines refused lines first second rest bytes n NoMemory e b c h = h
stops_lines refused lines first second rest bytes n (BadLine k) e b c h = record {
  counted = let q = h.1 in omega arith;
  needed = rw e (let q = h.1 in let short = h.2 in omega arith);
  good = λ i lt. rw e (good i (let q = h.1 in omega arith));
  bad = λ s. let t = rw e at s in bad h.0 h.1 h.4 t;
}
  where
    good : (i : ℕ) → i < h.0 + 2 → HasGoodLine (first ∷ second ∷ rest) i
    good zero lt = (omega arith, (bytes, b))
    good (suc zero) lt = (omega arith, (n, c))
    good (suc (suc i)) lt = (let q = h.2 in omega arith, h.3 i (omega arith))

    bad : (i : ℕ) → k ≡ i + 3 → ¬ (IsCommand (get_or rest i []))
        → ¬ (HasGoodLine (first ∷ second ∷ rest) (k - 1))
    bad i q f = λ s. let p : k - 1 ≡ suc (suc i) = omega arith in f ((rw p at s).1)
