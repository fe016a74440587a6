-- An index of version 2: a header of 12 bytes, which are the signature `DIRC`, the version and the
-- number of entries, and then the entries, one after another. Extensions and a checksum follow. The
-- relations take the format of an entry.
use Rattle.std.specs.Prelude.{◌≡◌, ◌≢◌, ◌≤◌, ℕ, List, length, drop, ◌++◌, ◌-◌, ◌^◌, min}
use Rattle.std.specs.List.{flat_map}
use Rattle.scroll.specs.Bytes.{RefusesShort, FailsShort}
use Rattle.scroll_formats.specs.Many.{RefusesMany}
use Rattle.scroll.specs.Numbers.{number, number_bytes}
use Rattle.scroll.specs.Reads.{ReadsAll}
use Rattle.scroll.specs.declared.endian.Endian.TheVariants.{Big}
use Rattle.scroll.specs.declared.error.Error.{Error}
use Rattle.scroll_layouts.specs.Formats.{Format, bytes, refuses}
use Rattle.scroll_layouts.specs.Wholes.{ReadsBack, ReadsExact}
use Rattle.git_index.specs.declared.entry.Entry.{Entry}
use Rattle.git_index.specs.declared.IndexError.{IndexError}
use Rattle.git_index.specs.declared.IndexError.TheVariants.{Short, BadSignature, BadVersion, Refused}
use Rattle.git_index.specs.declared.write.WriteError.{WriteError}
use Rattle.git_index.specs.declared.write.WriteError.TheVariants.{TooMany, Short as WriteShort}

abbrev pub entry_count : List ℕ → ℕ
entry_count file = number Big 4 (drop 8 file)

-- the header is one of version 2
pub record HasHeader (file : List ℕ) : Type 0 where
  pub room : 12 ≤ length file
  pub signature : number Big 4 file ≡ 1145655875
  pub version : number Big 4 (drop 4 file) ≡ 2

-- the entries of a file
pub record IsIndex (format : Format Error Entry) (file : List ℕ)
    (entries : List Entry) : Type 0 where
  pub header : HasHeader file
  pub count : length entries ≡ entry_count file
  pub to : ℕ
  pub each : ReadsAll (ReadsBack format Big) file 12 entries to

-- the error of reading a header
abbrev pub RefusesHeader : List ℕ → IndexError → Type 0
RefusesHeader file (BadSignature found) =
    (12 ≤ length file) × (found ≡ number Big 4 file) × (found ≢ 1145655875)
RefusesHeader file (BadVersion found) =
    (12 ≤ length file) × (number Big 4 file ≡ 1145655875) × (found ≡ number Big 4 (drop 4 file))
    × (found ≢ 2)
RefusesHeader file (Short e) = RefusesShort 12 file e
RefusesHeader file (Refused at) = ⊥

-- the error of reading a file: that of its header, or of an entry
abbrev pub RefusesIndex : Format Error Entry → List ℕ → IndexError → Type 0
RefusesIndex format file (Refused at) =
    HasHeader file × RefusesMany (ReadsExact format Big) (λ s. refuses format Big s 0)
    (λ e d. d ≡ e)
    file 12 (entry_count file) at.offset at.error
RefusesIndex format file e = RefusesHeader file e

-- the signature `DIRC`, the version and the number of entries
abbrev pub header_bytes : ℕ → List ℕ
header_bytes count =
    number_bytes Big 4 1145655875 ++ (number_bytes Big 4 2 ++ number_bytes Big 4 count)

abbrev pub index_bytes : Format Error Entry → List Entry → List ℕ
index_bytes format entries = header_bytes (length entries) ++ flat_map (bytes format Big) entries

-- the error of writing an index, which leaves the target as it was
abbrev pub RefusesWrite : Format Error Entry → List Entry → List ℕ → List ℕ → WriteError → Type 0
RefusesWrite format entries old new (TooMany count) =
    (count ≡ length entries) × (4294967296 ≤ count) × (new ≡ old)
RefusesWrite format entries old new (WriteShort e) =
    FailsShort (min (length (index_bytes format entries)) (2 ^ 64 - 1)) old new e
