-- Commands. Each is one line: a verb, an offset where the verb takes one, and what is read or
-- written.
use Rattle.std.specs.Prelude.{◌≡◌, ◌^◌, ℕ, List, ◌∷◌, codes}
use Rattle.std.specs.List.{AllZip}
use Rattle.scroll.specs.declared.runner.Command.{Command}
use Rattle.scroll.specs.declared.runner.Command.TheVariants as command
use Rattle.scroll.specs.declared.runner.Kind.{Kind}
use Rattle.scroll.specs.declared.runner.Place.TheVariants as place
use Rattle.scroll.specs.declared.runner.Put.{Put}
use Rattle.scroll_run.specs.Kinds.{SpellsKind}
use Rattle.scroll_run.specs.Puts.{SpellsPut, IsPutOf}
use Rattle.scroll_run.specs.Words.{SpellsNumber}
use Rattle.scroll_run.specs.declared.commands.CommandLine.{CommandLine}
use Rattle.scroll_run.specs.declared.commands.CommandLine.TheVariants as line
use Rattle.scroll_run.specs.declared.commands.Verb.{Verb}
use Rattle.scroll_run.specs.declared.commands.Verb.TheVariants as verb

-- the word of a verb
abbrev pub verb_word : Verb → List ℕ
verb_word verb.Pread = codes "pread"
verb_word verb.Gread = codes "gread"
verb_word verb.Pwrite = codes "pwrite"
verb_word verb.Gwrite = codes "gwrite"

-- `SpellsCommandOf v words c`: the words spell a command after the verb `v`: the offset of one that
-- doesn't act at the cursor, and what is read or written:
abbrev pub SpellsCommandOf : Verb → List (List ℕ) → Command → Type 0
SpellsCommandOf verb.Pread words c =
    (word : List ℕ) × (rest : List (List ℕ)) × (offset : ℕ) × (what : Kind)
    × (words ≡ word ∷ rest) × SpellsNumber (2 ^ 64) word offset × SpellsKind rest what
    × (c ≡ command.Read (place.At offset) what)
SpellsCommandOf verb.Gread words c =
    (what : Kind) × SpellsKind words what × (c ≡ command.Read place.Cursor what)
SpellsCommandOf verb.Pwrite words c =
    (word : List ℕ) × (rest : List (List ℕ)) × (offset : ℕ) × (x : Put)
    × (words ≡ word ∷ rest) × SpellsNumber (2 ^ 64) word offset × SpellsPut rest x
    × (c ≡ command.Write (place.At offset) x)
SpellsCommandOf verb.Gwrite words c =
    (x : Put) × SpellsPut words x × (c ≡ command.Write place.Cursor x)

-- the words spell a command: its verb, and what stands after that
abbrev pub SpellsCommand : List (List ℕ) → Command → Type 0
SpellsCommand words c =
    (v : Verb) × (rest : List (List ℕ)) × (words ≡ verb_word v ∷ rest) × SpellsCommandOf v rest c

-- `IsCommandOf x c`: `c` is the command that borrows from `x`, which holds what a line spells
abbrev pub IsCommandOf : CommandLine → Command → Type 0
IsCommandOf (line.Read at what) c = c ≡ command.Read at what
IsCommandOf (line.Write at x) c = (p : Put) × (c ≡ command.Write at p) × IsPutOf x p

-- each of the commands borrows from the line at its index
abbrev pub AreCommandsOf : List CommandLine → List Command → Type 0
AreCommandsOf lines commands = AllZip IsCommandOf lines commands
