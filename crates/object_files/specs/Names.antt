-- The bytes of a section, and names: those of sections and of symbols are in the bytes of a section
-- of their own, each followed by a zero.
use Rattle.std.specs.Prelude.{◌≡◌, ◌≤◌, ◌<◌, ℕ, List, length, take, drop, IsSomeAnd}
use Rattle.scroll.specs.CStrings.{RefusesCString}
use Rattle.scroll.specs.Reads.{ReadsAt, RefusesAt}
use Rattle.scroll.specs.Bytes.{RefusesShort}
use Rattle.scroll.specs.Texts.{index_of, ReadsSlice}
use Rattle.scroll.specs.declared.error.Error.TheVariants.{BadOffset}
use Rattle.object_files.specs.declared.error.ElfError.{ElfError}
use Rattle.object_files.specs.declared.error.ElfError.TheVariants.{BadNames, Refused}
use Rattle.object_files.specs.declared.header.Header.{Header}
use Rattle.object_files.specs.declared.sections.Section.{Section}
use Rattle.object_files.specs.Sections.{Entries, section_get}

-- the bytes of a section: those at the offset and of the size that its entry says
abbrev pub HasBytes : List ℕ → Section → List ℕ → Type 0
HasBytes file s bytes = ReadsAt (ReadsSlice s.size) file s.offset bytes s.size

-- its errors: the bytes are out of bounds
abbrev pub RefusesBytes : List ℕ → Section → ElfError → Type 0
RefusesBytes file s (Refused error) =
    RefusesAt (RefusesShort s.size) (λ offset e. e ≡ BadOffset offset) file s.offset error
RefusesBytes file s _ = ⊥

-- the table of names: the bytes of the section that the header names
abbrev pub IsNameTable : List ℕ → Header → Entries → List ℕ → Type 0
IsNameTable file h sections names =
    IsSomeAnd (section_get sections h.names_index) (λ s. HasBytes file s names)

-- its errors: there is no section with that index, or its bytes are out of bounds
abbrev pub RefusesNameTable : List ℕ → Header → Entries → ElfError → Type 0
RefusesNameTable file h sections (BadNames number) =
    (number ≡ h.names_index) × (sections.count ≤ number)
RefusesNameTable file h sections e =
    IsSomeAnd (section_get sections h.names_index) (λ s. RefusesBytes file s e)

-- a name in the table: the bytes at its offset, up to the first zero
pub record IsName (names : List ℕ) (offset : ℕ) (name : List ℕ) : Type 0 where
  pub inside : offset ≤ length names
  pub found : index_of 0 (drop offset names) < length (drop offset names)
  pub prefix : name ≡ take (index_of 0 (drop offset names)) (drop offset names)

-- its errors: its offset is past the end of the table, or no zero ends it
abbrev pub RefusesName : List ℕ → ℕ → ElfError → Type 0
RefusesName names offset (Refused error) =
    RefusesAt RefusesCString (λ past e. e ≡ BadOffset past) names offset error
RefusesName names offset _ = ⊥
