-- The table of sections of an ELF file: entries of 64 bytes with the fields of `Elf64_Shdr`, one
-- after another.
use Rattle.std.specs.Prelude.{◌≡◌, ◌≢◌, ◌≤◌, ◌+◌, ◌*◌, ℕ, List, length, drop, nat_lt, if◌then◌else◌, Option, Some, None}
use Rattle.scroll.specs.Bytes.{RefusesShort}
use Rattle.scroll.specs.Numbers.{number}
use Rattle.scroll.specs.Reads.{RefusesAt}
use Rattle.scroll.specs.declared.endian.Endian.{Endian}
use Rattle.scroll.specs.declared.error.Error.TheVariants.{BadOffset}
use Rattle.object_files.specs.declared.error.ElfError.{ElfError}
use Rattle.object_files.specs.declared.error.ElfError.TheVariants.{BadEntrySize, LongTable, Refused}
use Rattle.object_files.specs.declared.header.Header.{Header}
use Rattle.object_files.specs.declared.sections.Section.{Section}

-- the entry in the first 64 bytes of a source
abbrev pub section_of : Endian → List ℕ → Section
section_of order source = record {
  name = number order 4 source;
  kind = number order 4 (drop 4 source);
  flags = number order 8 (drop 8 source);
  address = number order 8 (drop 16 source);
  offset = number order 8 (drop 24 source);
  size = number order 8 (drop 32 source);
  link = number order 4 (drop 40 source);
  info = number order 4 (drop 44 source);
  alignment = number order 8 (drop 48 source);
  entry_size = number order 8 (drop 56 source);
}

-- the entries of a file: as many as there are, from an offset on
pub record Entries : Type 0 where
  pub file : List ℕ
  pub start : ℕ
  pub count : ℕ
  pub order : Endian

-- the entry with an index, 64 bytes after the one before it
abbrev pub section_get : Entries → ℕ → Option Section
section_get t i =
    if nat_lt i t.count then Some (section_of t.order (drop (t.start + 64 * i) t.file)) else None

-- the table of a file: as many entries as the header says, from the offset that it says, all of
-- them in the file; without entries, that offset is 0
pub record IsTable (file : List ℕ) (h : Header) (t : Entries) : Type 0 where
  pub entries : t ≡ record {
    file = file;
    start = h.sections_offset;
    count =
        h.section_count;
    order = h.order;
  }
  pub inside : h.sections_offset + 64 * h.section_count ≤ length file
  pub size : h.section_count ≢ 0 → h.section_size ≡ 64
  pub none : h.section_count ≡ 0 → h.sections_offset ≡ 0

-- the errors of reading a table: the header doesn't count its entries, they have another size, or
-- the file is truncated
abbrev pub RefusesTable : List ℕ → Header → ElfError → Type 0
RefusesTable file h LongTable = (h.section_count ≡ 0) × (h.sections_offset ≢ 0)
RefusesTable file h (BadEntrySize size) =
    (h.section_count ≢ 0) × (size ≡ h.section_size) × (size ≢ 64)
RefusesTable file h (Refused error) =
    RefusesAt (RefusesShort (64 * h.section_count))
    (λ offset e. e ≡ BadOffset offset) file h.sections_offset error
RefusesTable file h _ = ⊥
