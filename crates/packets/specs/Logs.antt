-- A log of records, one after another from the first byte to the last. The relations take the
-- format of a record.
use Rattle.std.specs.Prelude.{◌≡◌, ◌+◌, ◌-◌, ℕ, List, length, take, drop}
use Rattle.std.specs.List.{flat_map}
use Rattle.scroll.specs.Arrays.{WritesAll}
use Rattle.scroll_formats.specs.Many.{RefusesToEnd, FailsMany}
use Rattle.scroll.specs.Numbers.{number}
use Rattle.scroll.specs.Reads.{ReadsAll}
use Rattle.scroll.specs.Texts.{ReadsText}
use Rattle.scroll.specs.declared.ctx.str_ctx.StrCtx.TheVariants.{Required}
use Rattle.scroll.specs.declared.endian.Endian.{Endian}
use Rattle.scroll.specs.declared.error.Error.{Error}
use Rattle.scroll_formats.specs.declared.located.At.{At}
use Rattle.scroll_layouts.specs.Formats.{Format, bytes, refuses}
use Rattle.scroll_layouts.specs.Wholes.{ReadsBack, ReadsExact, WritesWhole, KeepsWhole}
use Rattle.packets.specs.declared.log.Record.{Record}

-- the whole log is these records
abbrev pub IsLog : Format Error Record → Endian → List ℕ → List Record → Type 0
IsLog format order log records = ReadsAll (ReadsBack format order) log 0 records (length log)

-- a record at the start of a source, in `n` bytes, field by field
pub record ReadsRecord (order : Endian) (s : List ℕ) (x : Record) (n : ℕ) : Type 0 where
  pub len : x.len ≡ number order 2 s
  pub name : ReadsText (Required 0) (drop 2 s) x.name.now (length x.name.now + 1)
  pub body : x.body.now ≡ take (x.len - length x.name.now - 1) (drop (3 + length x.name.now) s)
  pub whole : n ≡ 2 + x.len

-- the error of reading a log: that of a record after those before it, or out of memory
abbrev pub RefusesLog : Format Error Record → Endian → List ℕ → At Error → Type 0
RefusesLog format order log e =
    RefusesToEnd (ReadsExact format order) (λ s. refuses format order s 0) (λ error e. e ≡ error)
    log 0 e.offset e.error

-- the bytes of a log
abbrev pub log_bytes : Format Error Record → Endian → List Record → List ℕ
log_bytes format order records = flat_map (bytes format order) records

-- records are written one after another, in `n` bytes
abbrev pub WritesLog : Format Error Record → Endian → List Record → List ℕ → List ℕ → ℕ → Type 0
WritesLog format order records old new n = WritesAll (WritesWhole format order) old 0 records new n

-- one of the records isn't written, and those before it are
abbrev pub FailsLog : Format Error Record → Endian → List Record → List ℕ → List ℕ → At Error →
    Type 0
FailsLog format order records old new e = FailsMany (WritesWhole format order)
    (KeepsWhole (λ error e. e ≡ error) format order)
    (λ error e. e ≡ error) old 0 records new e.offset e.error
