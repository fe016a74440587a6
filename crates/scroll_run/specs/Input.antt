-- Failed input. A call of the reader that was interrupted is retried.
use Rattle.std.specs.Prelude.{◌≢◌}
use Rattle.std.specs.IoError.{error_kind}
use Rattle.std.specs.declared.io.ErrorKind.TheVariants as kind
use Rattle.scroll_run.specs.declared.input.ReadError.{ReadError}
use Rattle.scroll_run.specs.declared.input.ReadError.TheVariants.{NoMemory, Io}

-- `EndsReading refused e`: the error is out of memory, and then some was `refused`, or an error of
-- the reader other than that of an interrupted call
abbrev pub EndsReading : Type 0 → ReadError → Type 0
EndsReading refused NoMemory = refused
EndsReading refused (Io e) = error_kind e ≢ kind.Interrupted
