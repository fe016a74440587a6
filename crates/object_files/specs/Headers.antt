-- The header of a 64-bit ELF file, as the System V ABI has it in its chapter on object files: the
-- fields of `Elf64_Ehdr`, one after another, of which the first is `e_ident`, 16 bytes that
-- identify the file.
use Rattle.std.specs.Prelude.{◌≡◌, ◌≢◌, ◌≤◌, ℕ, List, length, drop, slice_index}
use Rattle.scroll.specs.Bytes.{RefusesShort}
use Rattle.scroll.specs.Numbers.{number}
use Rattle.scroll.specs.declared.endian.Endian.{Endian}
use Rattle.scroll.specs.declared.endian.Endian.TheVariants.{Little, Big}
use Rattle.object_files.specs.declared.error.ElfError.{ElfError}
use Rattle.object_files.specs.declared.error.ElfError.TheVariants.{BadMagic, BadClass, BadOrder, BadVersion, Refused}
use Rattle.object_files.specs.declared.header.Header.{Header}

-- the byte that names a byte order, `e_ident[EI_DATA]`
abbrev pub IsOrder : Endian → ℕ → Type 0
IsOrder Little byte = byte ≡ 1
IsOrder Big byte = byte ≡ 2

-- the header in the first 64 bytes of a file, in a byte order
abbrev pub header_of : Endian → List ℕ → Header
header_of order file = record {
  order = order;
  system = number order 1 (drop 7 file);
  kind = number order 2 (drop 16 file);
  machine = number order 2 (drop 18 file);
  version = number order 4 (drop 20 file);
  entry = number order 8 (drop 24 file);
  segments_offset = number order 8 (drop 32 file);
  sections_offset = number order 8 (drop 40 file);
  flags = number order 4 (drop 48 file);
  header_size = number order 2 (drop 52 file);
  segment_size = number order 2 (drop 54 file);
  segment_count = number order 2 (drop 56 file);
  section_size = number order 2 (drop 58 file);
  section_count = number order 2 (drop 60 file);
  names_index = number order 2 (drop 62 file);
}

-- a file of at least 64 bytes that begins with the bytes 7f 45 4c 46
pub record HasMagic (file : List ℕ) : Type 0 where
  pub room : 64 ≤ length file
  pub magic : number Big 4 file ≡ 0x7f45_4c46

-- a header that is read from the start of a 64-bit file, in the byte order that the file names; the
-- version of the identification, `e_ident[EI_VERSION]`, is the current one
pub record ReadsHeader (file : List ℕ) (h : Header) (n : ℕ) : Type 0 where
  pub magic : HasMagic file
  pub class : slice_index file 4 ≡ 2
  pub order : IsOrder h.order (slice_index file 5)
  pub version : slice_index file 6 ≡ 1
  pub fields : h ≡ header_of h.order file
  pub size : n ≡ 64

-- the errors of reading a header, in the order of the tests: the file is too short, isn't ELF,
-- isn't 64-bit, names no byte order, or has another version than the current one
abbrev pub RefusesHeader : List ℕ → ElfError → Type 0
RefusesHeader file (Refused error) = RefusesShort 64 file error
RefusesHeader file (BadMagic magic) =
    (64 ≤ length file) × (magic ≡ number Big 4 file) × (magic ≢ 0x7f45_4c46)
RefusesHeader file (BadClass class) = HasMagic file × (class ≡ slice_index file 4) × (class ≢ 2)
RefusesHeader file (BadOrder byte) =
    HasMagic file × (slice_index file 4 ≡ 2) × (byte ≡ slice_index file 5) × (byte ≢ 1) × (byte ≢ 2)
RefusesHeader file (BadVersion byte) =
    HasMagic file × (slice_index file 4 ≡ 2)
    × ((order : Endian) × IsOrder order (slice_index file 5))
    × (byte ≡ slice_index file 6) × (byte ≢ 1)
RefusesHeader file _ = ⊥
