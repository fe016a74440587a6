-- Which errors the functions store that read ELF files.
use Rattle.std.specs.Prelude.{◌≡◌, ◌≢◌, ◌≤◌, ◌<◌, ◌+◌, ◌*◌, ◌^◌, ◌⊎◌, ℕ, pos, neg_ℤ, List, length, take, drop}
use Rattle.object_files.specs.Headers.{IsOrder, ReadsHeader, RefusesHeader}
use Rattle.object_files.specs.Names.{IsName}
use Rattle.object_files.specs.Sections.{section_of}
use Rattle.object_files.specs.declared.error.ElfError.{ElfError}
use Rattle.object_files.specs.declared.error.ElfError.TheVariants.{BadMagic, BadClass, BadOrder, BadVersion, BadEntrySize, LongTable, BadNames, Refused}
use Rattle.object_files.specs.declared.header.Header.{Header}
use Rattle.object_files.specs.declared.sections.Section.{Section}
use Rattle.scroll.specs.Numbers.{number}
use Rattle.scroll.specs.declared.endian.Endian.{Endian}
use Rattle.scroll_ffi.specs.Interface.{AreAll, IsEntry, IsOpened, IsSection, fault_of, faulted, past}
use Rattle.scroll_ffi.specs.declared.ScrollError.{ScrollError}
use Rattle.scroll_ffi.specs.declared.elf.ScrollElfSection.{ScrollElfSection}
use Rattle.scroll_ffi.specs.declared.elf.ScrollElfSections.{ScrollElfSections}

-- what is stored of an error of ELF: the field's offset in the header, and its number; or what is
-- stored of a read's error
abbrev pub elf_fault_of : ElfError → ℕ → ScrollError
elf_fault_of (BadMagic magic) at = faulted (neg_ℤ (pos 6)) 0 magic
elf_fault_of (BadClass class) at = faulted (neg_ℤ (pos 7)) 4 class
elf_fault_of (BadOrder order) at = faulted (neg_ℤ (pos 8)) 5 order
elf_fault_of (BadVersion version) at = faulted (neg_ℤ (pos 13)) 6 version
elf_fault_of (BadEntrySize size) at = faulted (neg_ℤ (pos 9)) 58 size
elf_fault_of LongTable at = faulted (neg_ℤ (pos 10)) 60 0
elf_fault_of (BadNames index) at = faulted (neg_ℤ (pos 11)) 62 index
elf_fault_of (Refused error) at = fault_of error at

-- a part of a file isn't there: it would begin, or end, past the end
abbrev pub RefusesPart : List ℕ → ℕ → ℕ → ScrollError → Type 0
RefusesPart file offset size e =
    ((length file < offset) × (e ≡ faulted (neg_ℤ (pos 3)) offset 0))
    ⊎ ((offset ≤ length file) × (length file < offset + size)
    × (e ≡ faulted (neg_ℤ (pos 2)) offset 0))

-- an entry of a table isn't there; where its offset has no number, the error has the table's
abbrev pub RefusesEntryOf : List ℕ → ℕ → ℕ → ScrollError → Type 0
RefusesEntryOf file table index e =
    ((2 ^ 64 ≤ table + 64 * index) × (e ≡ faulted (neg_ℤ (pos 3)) table 0))
    ⊎ RefusesPart file (table + 64 * index) 64 e

-- the names aren't there: the entry of their section, or its bytes
abbrev pub RefusesNames : List ℕ → Header → ScrollError → Type 0
RefusesNames file h e =
    RefusesEntryOf file h.sections_offset h.names_index e
    ⊎ ((entry : Section) × (entry
    ≡ section_of h.order (drop (h.sections_offset + 64 * h.names_index) file))
    × RefusesPart file entry.offset entry.size e)

-- the table of a header with sections: its entries have another size, it has none for the names, or
-- these aren't there
abbrev pub RefusesSections : List ℕ → Header → ScrollError → Type 0
RefusesSections file h e =
    ((h.section_size ≢ 64) × (e ≡ elf_fault_of (BadEntrySize h.section_size) 0))
    ⊎ ((h.section_size ≡ 64) × (h.section_count ≤ h.names_index)
    × (e ≡ elf_fault_of (BadNames h.names_index) 0))
    ⊎ ((h.section_size ≡ 64) × (h.names_index < h.section_count) × RefusesNames file h e)

-- the errors of `scroll_elf_open`: the header isn't read, it doesn't count its sections, or their
-- table is bad
abbrev pub RefusesOpen : List ℕ → ScrollError → Type 0
RefusesOpen file e =
    ((why : ElfError) × RefusesHeader file why × (e ≡ elf_fault_of why 0))
    ⊎ ((h : Header) × ReadsHeader file h 64
    × (((h.section_count ≡ 0) × (h.sections_offset ≢ 0) × (e ≡ elf_fault_of LongTable 0))
    ⊎ ((h.section_count ≢ 0) × RefusesSections file h e)))

-- a byte order's number is none
abbrev pub RefusesOrder : ℕ → ScrollError → Type 0
RefusesOrder order e = (order ≢ 1) × (order ≢ 2) × (e ≡ faulted (neg_ℤ (pos 8)) 0 order)

-- the next entry can't be read: the byte order is none, or the names or the entry aren't there
abbrev pub RefusesEntry : List ℕ → ScrollElfSections → ScrollError → Type 0
RefusesEntry file x e =
    RefusesOrder x.order e
    ⊎ (((order : Endian) × IsOrder order x.order)
    × (RefusesPart file x.names_offset x.names_size e
    ⊎ ((x.names_offset + x.names_size ≤ length file) × RefusesPart file x.next 64 e)))

-- a name can't be read: its offset is past the names, or no zero ends it; the error has the offset
-- of the names
abbrev pub RefusesLen : List ℕ → ℕ → ℕ → ScrollError → Type 0
RefusesLen names offset at e =
    ((length names < offset) × (e ≡ faulted (neg_ℤ (pos 3)) at 0))
    ⊎ ((offset ≤ length names) × ((text : List ℕ) → ¬ IsName names offset text)
    × (e ≡ faulted (neg_ℤ (pos 4)) at 0))

-- the iterator when no section is left
abbrev pub ended : ScrollElfSections → ScrollElfSections
ended x = record {
  order = x.order;
  left = 0;
  next = x.next;
  names_offset = x.names_offset;
  names_size = x.names_size;
}

-- the next entry can't be read, and no section is left
pub record StopsNext (file : List ℕ) (x y : ScrollElfSections) (e : ScrollError) : Type 0 where
  pub why : RefusesEntry file x e
  pub left : y ≡ ended x

-- the next entry's name can't be read, and the section is passed
pub record SkipsNext (file : List ℕ) (x y : ScrollElfSections) (e : ScrollError) : Type 0 where
  pub order : Endian
  pub order-is : IsOrder order x.order
  pub names : x.names_offset + x.names_size ≤ length file
  pub room : x.next + 64 ≤ length file
  pub why : RefusesLen (take x.names_size (drop x.names_offset file))
      (number order 4 (drop x.next file)) x.names_offset e
  pub left : y ≡ past 1 x

-- the errors of the next section
abbrev pub RefusesNext : List ℕ → ScrollElfSections → ScrollElfSections → ScrollError → Type 0
RefusesNext file x y e = StopsNext file x y e ⊎ SkipsNext file x y e

-- the entry of the next section, and no name
pub record IsUnnamed (file : List ℕ) (x : ScrollElfSections) (s : ScrollElfSection) : Type 0 where
  pub entry : IsEntry file x s
  pub start : s.name_offset ≡ 0
  pub len : s.name_len ≡ 0

-- the first of the sections that are left which can't be read
pub record FailsAfter (file : List ℕ) (x : ScrollElfSections) (e : ScrollError) : Type 0 where
  pub k : ℕ
  pub below : k < x.left
  pub before : (j : ℕ) → j < k → (s : ScrollElfSection) × IsSection file (past j x) s
  pub left : ScrollElfSections
  pub why : RefusesNext file (past k x) left e

-- the errors of reading all sections: the file isn't opened, memory is refused, or a section can't
-- be read
abbrev pub RefusesAll : List ℕ → ScrollError → Type 0
RefusesAll file e =
    RefusesOpen file e
    ⊎ ((x : ScrollElfSections) × IsOpened file x
    × ((e ≡ faulted (neg_ℤ (pos 5)) x.next 0) ⊎ FailsAfter file x e))

-- there are more sections than there is room for; the error has their number
pub record LacksRoom (file : List ℕ) (room count : ℕ) (e : ScrollError) : Type 0 where
  pub table : List ScrollElfSection
  pub all : AreAll file count table
  pub more : room < count
  pub stored : e ≡ faulted (neg_ℤ (pos 12)) 0 count
