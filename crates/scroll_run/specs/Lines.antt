-- Lines. The first line of an input spells the buffer, the second the cursor, and each further line
-- a command.
use Rattle.std.specs.Prelude.{◌≡◌, ◌<◌, ◌≤◌, ◌+◌, ◌-◌, ◌^◌, ◌++◌, ◌==◌, ℕ, zero, suc, List, [], ◌∷◌, length, max, slice_index, slice_index_or, take, codes, if◌then◌else◌}
use Rattle.std.specs.List.{slice_split, AllZip}
use Rattle.scroll.specs.declared.runner.Command.{Command}
use Rattle.scroll_run.specs.Commands.{AreCommandsOf, IsCommandOf, SpellsCommand}
use Rattle.scroll_run.specs.Words.{SpellsBytes, SpellsNumber, words_of}
use Rattle.scroll_run.specs.declared.commands.CommandLine.{CommandLine}
use Rattle.scroll_run.specs.declared.lines.Script.{Script}
use Rattle.scroll_run.specs.declared.lines.Stop.{Stop}
use Rattle.scroll_run.specs.declared.lines.Stop.TheVariants.{BadLine, NoMemory}

-- the input without a line feed at its end
abbrev pub without_feed : List ℕ → List ℕ
without_feed input =
    if slice_index input (length input - 1) == 10 then take (length input - 1) input else input

-- what is before, between and after the line feeds of an input, of which the last one counts only
-- where something follows it
abbrev pub lines_of : List ℕ → List (List ℕ)
lines_of input = slice_split (λ b. b == 10) (without_feed input)

-- the line is `buffer ` and a word that spells the bytes
abbrev pub SpellsBuffer : List ℕ → List ℕ → Type 0
SpellsBuffer line bytes =
    (word : List ℕ) × (line ≡ codes "buffer " ++ word) × SpellsBytes word bytes

-- the line is `cursor ` and a word that spells a number of 64 bits
abbrev pub SpellsCursor : List ℕ → ℕ → Type 0
SpellsCursor line n =
    (word : List ℕ) × (line ≡ codes "cursor " ++ word) × SpellsNumber (2 ^ 64) word n

-- the lines spell the commands, one each
abbrev pub SpellsAllCommands : List (List ℕ) → List Command → Type 0
SpellsAllCommands lines commands = AllZip (λ line c. SpellsCommand (words_of line) c) lines commands

-- every command that borrows from `x` is spelled by the line
abbrev pub SpellsHeld : List ℕ → CommandLine → Type 0
SpellsHeld line x = (c : Command) → IsCommandOf x c → SpellsCommand (words_of line) c

-- `SpellsAllHeld lines held`: each line spells every command that borrows from what is held of it
abbrev pub SpellsAllHeld : List (List ℕ) → List CommandLine → Type 0
SpellsAllHeld lines held = AllZip SpellsHeld lines held

-- the lines spell the buffer, the cursor and the commands
pub record SpellsScript (lines : List (List ℕ)) (buffer : List ℕ) (cursor : ℕ)
    (commands : List Command) : Type 0 where
  pub first : List ℕ
  pub second : List ℕ
  pub rest : List (List ℕ)
  pub lines_are : lines ≡ first ∷ second ∷ rest
  pub buffer_is : SpellsBuffer first buffer
  pub cursor_is : SpellsCursor second cursor
  pub commands_are : SpellsAllCommands rest commands

-- every list of commands that borrows from the script is spelled, with the script's buffer and
-- cursor
abbrev pub HoldsScript : List (List ℕ) → Script → Type 0
HoldsScript lines script =
    (commands : List Command) → AreCommandsOf script.commands.items commands
    → SpellsScript lines script.buffer.items script.cursor commands

-- the line spells some command
abbrev pub IsCommand : List ℕ → Type 0
IsCommand line = (c : Command) × SpellsCommand (words_of line) c

-- `IsGoodLine i line`: as line `i`, counted from 0, the line spells something: a buffer, a cursor,
-- or a command
abbrev pub IsGoodLine : ℕ → List ℕ → Type 0
IsGoodLine zero line = (bytes : List ℕ) × SpellsBuffer line bytes
IsGoodLine (suc zero) line = (n : ℕ) × SpellsCursor line n
IsGoodLine (suc (suc i)) line = IsCommand line

-- there is a line `i`, counted from 0, and it spells something
abbrev pub HasGoodLine : List (List ℕ) → ℕ → Type 0
HasGoodLine lines i = (i < length lines) × IsGoodLine i (slice_index_or lines i [])

-- line `k`, counted from 1, is the first bad one: it spells nothing, or it is one of the first two
-- lines and missing
pub record IsFirstBadLine (lines : List (List ℕ)) (k : ℕ) : Type 0 where
  pub counted : 0 < k
  pub needed : k ≤ max 2 (length lines)
  pub good : (i : ℕ) → i + 1 < k → HasGoodLine lines i
  pub bad : ¬ (HasGoodLine lines (k - 1))

-- `Stops refused lines stop`: why the lines are not run: the first bad line, or out of memory, and
-- then some was `refused`
abbrev pub Stops : Type 0 → List (List ℕ) → Stop → Type 0
Stops refused lines (BadLine k) = IsFirstBadLine lines k
Stops refused lines NoMemory = refused

-- `StopsCommands refused lines stop`: why the lines of the commands, which begin at line 3, are not
-- run: the first of them that is no command, or out of memory, and then some was `refused`
abbrev pub StopsCommands : Type 0 → List (List ℕ) → Stop → Type 0
StopsCommands refused lines (BadLine k) =
    (i : ℕ) × (k ≡ i + 3) × (i < length lines)
    × ((j : ℕ) → j < i → IsCommand (slice_index_or lines j []))
    × (¬ (IsCommand (slice_index_or lines i [])))
StopsCommands refused lines NoMemory = refused
