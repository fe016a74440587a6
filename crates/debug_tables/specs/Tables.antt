-- Tables of abbreviations, as in section 7.5.3 of DWARF 5: declarations up to a code of zero, each
-- with its attributes up to a pair of zeros. The relations take the format of a declaration.
use Rattle.std.specs.Prelude.{◌≡◌, ◌<◌, ◌-◌, ◌⊎◌, ℕ, List, length}
use Rattle.scroll.specs.declared.endian.Endian.TheVariants.{Little}
use Rattle.scroll.specs.declared.error.Error.{Error}
use Rattle.scroll.specs.declared.error.Error.TheVariants.{TooBig, BadOffset}
use Rattle.scroll_formats.specs.Spans.{Stands}
use Rattle.scroll_layouts.specs.Formats.{Format}
use Rattle.scroll_layouts.specs.ListEnds.{zero_mark}
use Rattle.scroll_layouts.specs.Marks.{MarkedList, MarkedItems, RefusesList}
use Rattle.debug_tables.specs.declared.declaration.Declaration.{Declaration}
use Rattle.debug_tables.specs.declared.declaration.TableError.{TableError}
use Rattle.debug_tables.specs.declared.declaration.TableError.TheVariants.{Read}

-- bytes are a table: declarations up to a code of zero, and nothing behind it
abbrev pub IsTable : Format TableError Declaration → List ℕ → Type 0
IsTable format bytes = MarkedItems zero_mark format Little bytes (length bytes)

-- a table: its declarations, and its bytes, with the code of zero
pub record TableParts : Type 0 where
  pub declarations : List Declaration
  pub bytes : List ℕ

-- a table is read between two offsets: its bytes stand there, and its declarations in its bytes
pub record ReadsTable (format : Format TableError Declaration) (buffer : List ℕ) (from to : ℕ)
    (t : TableParts) : Type 0 where
  pub there : Stands t.bytes buffer from to
  pub table : MarkedList zero_mark format Little t.bytes t.declarations (length t.bytes)

-- a table with these bytes is read there
abbrev pub ReadsTableBytes : Format TableError Declaration → List ℕ → ℕ → ℕ → List ℕ → Type 0
ReadsTableBytes format buffer from to bytes =
    (found : List Declaration)
    × ReadsTable format buffer from to (record { declarations = found; bytes = bytes })

-- the read of a table fails: after some declarations, the next one, at the offset `stop`, is
-- refused, or there is no memory for it (a new vector has no room)
abbrev pub RefusesTable : Format TableError Declaration → List ℕ → ℕ → TableError → Type 0
RefusesTable format buffer from e =
    (found : List Declaration) × (stop : ℕ) × (room : ℕ)
    × RefusesList (λ error e. e ≡ Read error) room zero_mark format Little buffer from found stop e

-- the offset is past the end, or there is no room for the bytes
abbrev pub FailsPut : List ℕ → List ℕ → ℕ → Error → Type 0
FailsPut bytes target offset e =
    ((length target < offset) × (e ≡ BadOffset offset))
    ⊎ ((length target - offset < length bytes)
    × (e ≡ TooBig (length bytes) (length target - offset)))
