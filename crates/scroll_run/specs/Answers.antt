-- What a session prints. It has a line for each command, then the buffer and the cursor; or one
-- line that says why nothing was run.
use Rattle.std.specs.Prelude.{◌≡◌, ◌<◌, ◌≤◌, ◌++◌, ◌==◌, ◌⊎◌, ℕ, List, [], ◌∷◌, length, codes, slice_index, string_bytes, if◌then◌else◌, Option, IfSome}
use Rattle.std.specs.Fmt.{decimal, signed_decimal}
use Rattle.std.specs.Io.KnownBytes.{Consumes, IsAtEnd, Keeps}
use Rattle.hex.specs.Hex.{encode_lower}
use Rattle.scroll.specs.Errors.{line_of}
use Rattle.scroll.specs.Runs.{IsRun}
use Rattle.scroll.specs.declared.error.Error.{Error}
use Rattle.scroll.specs.declared.runner.Answer.{Answer}
use Rattle.scroll.specs.declared.runner.Answer.TheVariants as answer
use Rattle.scroll.specs.declared.runner.Command.{Command}
use Rattle.scroll.specs.declared.runner.Value.{Value}
use Rattle.scroll.specs.declared.runner.Value.TheVariants as value
use Rattle.scroll_run.specs.Commands.{AreCommandsOf}
use Rattle.scroll_run.specs.Lines.{lines_of, SpellsScript, IsFirstBadLine}
use Rattle.scroll_run.specs.Output.{AppendsPrefix}
use Rattle.scroll_run.specs.declared.lines.Script.{Script}

-- how bytes are printed: `-` for none, and else two lower-case hexadecimal digits for each
abbrev pub hex_text : List ℕ → List ℕ
hex_text bytes = if length bytes == 0 then codes "-" else encode_lower bytes

-- the text is `line_of e`. The line of a stream's error, which no command returns, is not
-- specified.
abbrev pub Says : Error → List ℕ → Type 0
Says e text = IfSome (line_of e) (λ line. text ≡ line)

-- `value_line x`: the printed line of a value:
abbrev pub value_line : Value → List ℕ
value_line (value.Unsigned x) = codes "number " ++ decimal x ++ codes "\n"
value_line (value.Signed x) = codes "number " ++ signed_decimal x ++ codes "\n"
value_line (value.Text text) = codes "text " ++ hex_text (string_bytes text) ++ codes "\n"
value_line (value.Bytes bytes) = codes "bytes " ++ hex_text bytes.items ++ codes "\n"
value_line (value.CStr text) = codes "cstr " ++ hex_text text.items ++ codes "\n"
value_line (value.Uleb x) =
    codes "uleb " ++ decimal x.value ++ codes " " ++ decimal x.count ++ codes "\n"
value_line (value.Sleb x) =
    codes "sleb " ++ signed_decimal x.value ++ codes " " ++ decimal x.count ++ codes "\n"
value_line value.U8x0 = codes "numbers\n"
value_line (value.U16x3 xs) =
    codes "numbers " ++ decimal (slice_index xs 0) ++ codes " " ++ decimal (slice_index xs 1)
    ++ codes " "
    ++ decimal (slice_index xs 2) ++ codes "\n"
value_line (value.Textx2 first second) =
    codes "texts " ++ hex_text (string_bytes first) ++ codes " " ++ hex_text (string_bytes second)
    ++ codes "\n"

-- `IsAnswerLine answer line`: the printed line of a command's result:
abbrev pub IsAnswerLine : Answer → List ℕ → Type 0
IsAnswerLine (answer.Read x) line = line ≡ value_line x
IsAnswerLine (answer.Wrote n) line = line ≡ codes "wrote " ++ decimal n ++ codes "\n"
IsAnswerLine (answer.Refused e) line =
    (text : List ℕ) × Says e text × (line ≡ codes "error " ++ text ++ codes "\n")

-- `AreAnswerLines answers text`: the text is a line for each result, in order
abbrev pub AreAnswerLines : List Answer → List ℕ → Type 0
AreAnswerLines [] text = text ≡ []
AreAnswerLines (a ∷ more) text =
    (line rest : List ℕ) × (text ≡ line ++ rest) × IsAnswerLine a line × AreAnswerLines more rest

-- the text is the lines of the results, and then those of the buffer and of the cursor
pub record Prints (answers : List Answer) (buffer : List ℕ) (cursor : ℕ)
    (text : List ℕ) : Type 0 where
  pub prefix : List ℕ
  pub lines : AreAnswerLines answers prefix
  pub whole : text ≡ prefix ++ codes "buffer " ++ hex_text buffer ++ codes "\n" ++ codes "cursor "
      ++ decimal cursor ++ codes "\n"

-- the commands are run over the buffer `first` from the cursor `from`, and `text` is what is
-- printed for them
pub record RunsCommands (first : List ℕ) (from : ℕ) (commands : List Command)
    (text : List ℕ) : Type 0 where
  pub answers : List Answer
  pub buffer : List ℕ
  pub cursor : ℕ
  pub ran : IsRun first buffer from cursor commands [] answers
  pub prints : Prints answers buffer cursor text

-- the commands of a script are run over its buffer from its cursor, and `text` is what is printed
-- for them
pub record RunsScript (script : Script) (text : List ℕ) : Type 0 where
  pub commands : List Command
  pub held : AreCommandsOf script.commands.items commands
  pub runs : RunsCommands script.buffer.items script.cursor commands text

-- the input has more than 65,536 bytes, the text is `input too long`, and the status is 2
pub record IsTooLong (input text : List ℕ) (status : ℕ) : Type 0 where
  pub long : 65536 < length input
  pub says : text ≡ codes "input too long\n"
  pub status_is : status ≡ 2

-- the input has at most that many bytes, the text names its first bad line, and the status is 2
pub record HasBadLine (input text : List ℕ) (status : ℕ) : Type 0 where
  pub short : length input ≤ 65536
  pub line : ℕ
  pub first : IsFirstBadLine (lines_of input) line
  pub says : text ≡ codes "bad line " ++ decimal line ++ codes "\n"
  pub status_is : status ≡ 2

-- the input has at most that many bytes, its lines spell a script, the text is what is printed for
-- its run, and the status is 0
pub record IsAnswered (input text : List ℕ) (status : ℕ) : Type 0 where
  pub short : length input ≤ 65536
  pub buffer : List ℕ
  pub cursor : ℕ
  pub commands : List Command
  pub spelled : SpellsScript (lines_of input) buffer cursor commands
  pub runs : RunsCommands buffer cursor commands text
  pub status_is : status ≡ 0

-- what is printed for an input where no memory is refused, and the status: one of these three
abbrev pub AnswersInput : List ℕ → List ℕ → ℕ → Type 0
AnswersInput input text status =
    IsTooLong input text status ⊎ (HasBadLine input text status ⊎ IsAnswered input text status)

-- what a reader gave: all that it had, or the first 65,537 bytes of it, one more than an input may
-- have
pub record IsInput (old new : Option (List ℕ)) (input : List ℕ) : Type 0 where
  pub bound : length input ≤ 65537
  pub taken : Consumes old new input
  pub whole : length input < 65537 → IsAtEnd new

-- what is printed by a session whose reader had `old` before and has `new` after it, and the
-- status: one of these three for what the reader gave, or `out of memory` and 3, and then memory
-- was `refused`
abbrev pub AnswersSession : Type 0 → Option (List ℕ) → Option (List ℕ) → List ℕ → ℕ → Type 0
AnswersSession refused old new text status =
    (refused × (text ≡ codes "out of memory\n") × (status ≡ 3))
    ⊎ ((input : List ℕ) × IsInput old new input × AnswersInput input text status)

-- a session ends with a stream's error: its output is unchanged from `before` to `after`, or has
-- grown by a prefix of the text of such a session
abbrev pub BreaksOff : Type 0 → Option (List ℕ) → Option (List ℕ) → Option (List ℕ)
    → Option (List ℕ) → Type 0
BreaksOff refused old new before after =
    Keeps before after
    ⊎ ((text : List ℕ) × (status : ℕ) × AnswersSession refused old new text status
    × AppendsPrefix before after text)
