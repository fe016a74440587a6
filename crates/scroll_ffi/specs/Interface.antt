-- What the functions store in their callers' structs, and in archives.
use Rattle.std.specs.Prelude.{◌≡◌, ◌+◌, ℕ, ℤ, pos, neg_ℤ, List, length, ◌≢◌, ◌≤◌, ◌<◌, ◌*◌, ◌-◌, take, drop, slice_index_or}
use Rattle.object_files.specs.Headers.{IsOrder, ReadsHeader}
use Rattle.object_files.specs.Names.{IsName}
use Rattle.object_files.specs.Sections.{section_of}
use Rattle.object_files.specs.declared.header.Header.{Header}
use Rattle.object_files.specs.declared.sections.Section.{Section}
use Rattle.scroll.specs.Numbers.{number}
use Rattle.scroll.specs.Errors.{IsBadOffset}
use Rattle.scroll.specs.Reads.{ReadsAt, RefusesAt}
use Rattle.scroll.specs.Writes.{WritesAt, RefusesWriteAt}
use Rattle.scroll.specs.declared.error.Error.{Error}
use Rattle.scroll.specs.declared.error.Error.TheVariants.{TooBig, BadOffset, BadInput, Custom, IO, NoMemory}
use Rattle.scroll_ffi.specs.declared.ScrollError.{ScrollError}
use Rattle.scroll_formats.specs.Many.{ChangesBetween}
use Rattle.scroll_layouts.specs.Formats.{refuses}
use Rattle.scroll.specs.Texts.{ReadsSlice}
use Rattle.scroll.specs.declared.endian.Endian.TheVariants.{Little}
use Rattle.scroll.specs.declared.endian.Endian.{Endian}
use Rattle.scroll_ffi.specs.declared.elf.ScrollElfSection.{ScrollElfSection}
use Rattle.scroll_ffi.specs.declared.elf.ScrollElfSections.{ScrollElfSections}
use Rattle.scroll_ffi.specs.declared.zip_files.ScrollZipEnd.{ScrollZipEnd}
use Rattle.scroll_ffi.specs.declared.zip_files.ScrollZipFile.{ScrollZipFile}
use Rattle.scroll_layouts.specs.Wholes.{ReadsBack, ReadsExact, WritesWhole, KeepsWhole}
use Rattle.zip.specs.Archives as Zip
use Rattle.zip.specs.Archives.{Formats, EndsWith}
use Rattle.zip.specs.declared.end.EndRecord.{EndRecord}
use Rattle.zip.specs.declared.file.StoredFile.{StoredFile}

-- the names of a file's sections: the bytes of the section that the header names, at its entry's
-- offset and of its size
pub record AreNames (file : List ℕ) (h : Header) (x : ScrollElfSections) : Type 0 where
  pub inside : h.names_index < h.section_count
  pub entry : Section
  pub entry-is : entry ≡ section_of h.order (drop (h.sections_offset + 64 * h.names_index) file)
  pub offset : x.names_offset ≡ entry.offset
  pub size : x.names_size ≡ entry.size
  pub bytes : ReadsAt (ReadsSlice entry.size) file entry.offset
      (take entry.size (drop entry.offset file)) entry.size

-- what `scroll_elf_open` stores: all of the file's sections are left, and the first is next. A file
-- without sections has no table
pub record IsOpened (file : List ℕ) (x : ScrollElfSections) : Type 0 where
  pub header : Header
  pub read : ReadsHeader file header 64
  pub order : IsOrder header.order x.order
  pub left : x.left ≡ header.section_count
  pub next : x.next ≡ header.sections_offset
  pub size : header.section_count ≢ 0 → header.section_size ≡ 64
  pub names : header.section_count ≢ 0 → AreNames file header x
  pub none : header.section_count ≡ 0 → header.sections_offset ≡ 0
  pub unnamed : header.section_count ≡ 0 → (x.names_offset ≡ 0) × (x.names_size ≡ 0)

-- the numbers of the entry at an offset, as `section_of` has them
pub record AreFields (order : Endian) (file : List ℕ) (at : ℕ) (s : ScrollElfSection) : Type 0 where
  pub name : s.name ≡ number order 4 (drop at file)
  pub kind : s.kind ≡ number order 4 (drop (at + 4) file)
  pub flags : s.flags ≡ number order 8 (drop (at + 8) file)
  pub address : s.address ≡ number order 8 (drop (at + 16) file)
  pub offset : s.offset ≡ number order 8 (drop (at + 24) file)
  pub size : s.size ≡ number order 8 (drop (at + 32) file)
  pub link : s.link ≡ number order 4 (drop (at + 40) file)
  pub info : s.info ≡ number order 4 (drop (at + 44) file)
  pub alignment : s.alignment ≡ number order 8 (drop (at + 48) file)
  pub entry_size : s.entry_size ≡ number order 8 (drop (at + 56) file)

-- the entry of the next section, in the byte order that the iterator has
pub record IsEntry (file : List ℕ) (x : ScrollElfSections) (s : ScrollElfSection) : Type 0 where
  pub order : Endian
  pub order-is : IsOrder order x.order
  pub room : x.next + 64 ≤ length file
  pub fields : AreFields order file x.next s

-- the name at an offset of the names has this length: up to the first zero
abbrev pub HasLen : List ℕ → ℕ → ℕ → Type 0
HasLen names offset len = (text : List ℕ) × IsName names offset text × (len ≡ length text)

-- its name: where it is in the file, and its length
pub record HasName (file : List ℕ) (x : ScrollElfSections) (s : ScrollElfSection) : Type 0 where
  pub len : HasLen (take x.names_size (drop x.names_offset file)) s.name s.name_len
  pub start : s.name_offset ≡ x.names_offset + s.name
  pub inside : x.names_offset + x.names_size ≤ length file

-- the iterator when it has passed so many sections
abbrev pub past : ℕ → ScrollElfSections → ScrollElfSections
past n x = record {
  order = x.order;
  left = x.left - n;
  next = x.next + 64 * n;
  names_offset = x.names_offset;
  names_size = x.names_size;
}

-- the next section: its entry and its name
pub record IsSection (file : List ℕ) (x : ScrollElfSections) (s : ScrollElfSection) : Type 0 where
  pub entry : IsEntry file x s
  pub name : HasName file x s

-- there is no next section: its entry or its name is not in the file, or its name has no end, or
-- the byte order is none
abbrev pub IsNoSection : List ℕ → ScrollElfSections → Type 0
IsNoSection file x = (s : ScrollElfSection) → ¬ IsSection file x s

-- the next `n` sections are at the start of a table
abbrev pub AreSections : List ℕ → ScrollElfSections → ℕ → List ScrollElfSection → Type 0
AreSections file x n table =
    (k : ℕ) (s : ScrollElfSection) → k < n → IsSection file (past k x) (slice_index_or table k s)

-- the `n` sections of a file, all of them, are at the start of a table
pub record AreAll (file : List ℕ) (n : ℕ) (table : List ScrollElfSection) : Type 0 where
  pub opened : ScrollElfSections
  pub is : IsOpened file opened
  pub count : n ≡ opened.left
  pub each : AreSections file opened n table

-- the next `n` sections are stored at the start of a table, as many as there is room for and as are
-- there; and the iterator has passed them
pub record Fills (file : List ℕ) (n : ℕ) (x y : ScrollElfSections) (old new : List ScrollElfSection)
    : Type 0 where
  pub fits : n ≤ length old
  pub left : n ≤ x.left
  pub each : AreSections file x n new
  pub rest : drop n new ≡ drop n old
  pub most : n < length old → n < x.left → IsNoSection file (past n x)
  pub iterator : y ≡ past n x

-- the numbers of an end record at an offset, and where its comment is
pub record IsPlainEnd (record-there : EndRecord) (offset : ℕ) (x : ScrollZipEnd) : Type 0 where
  pub offset-is : x.offset ≡ offset
  pub comment_offset : x.comment_offset ≡ offset + 22
  pub comment_len : x.comment_len ≡ length record-there.comment.now
  pub disk : x.disk ≡ record-there.disk
  pub directory_disk : x.directory_disk ≡ record-there.directory_disk
  pub entries_here : x.entries_here ≡ record-there.entries_here
  pub entries : x.entries ≡ record-there.entries
  pub directory_size : x.directory_size ≡ record-there.directory_size
  pub directory_place : x.directory_place ≡ record-there.directory_place

-- an end record of the archive, whose comment ends where the archive does
pub record IsEnd (formats : Formats) (archive : List ℕ) (x : ScrollZipEnd) : Type 0 where
  pub there : EndRecord
  pub size : ℕ
  pub read : ReadsAt (ReadsExact formats.end Little) archive x.offset there size
  pub numbers : IsPlainEnd there x.offset x
  pub whole : x.offset + 22 + x.comment_len ≡ length archive

-- the numbers of a stored file at an offset, and where its parts are
pub record IsPlainFile (file : StoredFile) (start : ℕ) (x : ScrollZipFile) : Type 0 where
  pub name_offset : x.name_offset ≡ start + 30
  pub name_len : x.name_len ≡ file.name_len
  pub extra_offset : x.extra_offset ≡ start + 30 + file.name_len
  pub extra_len : x.extra_len ≡ file.extra_len
  pub contents_offset : x.contents_offset ≡ start + 30 + file.name_len + file.extra_len
  pub contents_len : x.contents_len ≡ file.packed
  pub size : x.size ≡ file.size
  pub crc : x.crc ≡ file.crc
  pub version : x.version ≡ file.version
  pub flags : x.flags ≡ file.flags
  pub time : x.time ≡ file.time
  pub date : x.date ≡ file.date

-- a stored file that is read between two offsets
pub record IsStored (formats : Formats) (archive : List ℕ) (from to : ℕ) (x : ScrollZipFile) : Type
    0 where
  pub there : StoredFile
  pub size : ℕ
  pub read : ReadsAt (ReadsExact formats.file Little) archive from there size
  pub numbers : IsPlainFile there from x
  pub end : to ≡ from + size

-- the file that is written of the numbers of `x` and of its parts
pub record IsFileOf (x : ScrollZipFile) (name extra contents : List ℕ) (file : StoredFile)
    : Type 0 where
  pub signature : file.signature ≡ 0x04034b50
  pub version : file.version ≡ x.version
  pub flags : file.flags ≡ x.flags
  pub method : file.method ≡ 0
  pub time : file.time ≡ x.time
  pub date : file.date ≡ x.date
  pub crc : file.crc ≡ x.crc
  pub packed : file.packed ≡ length contents
  pub size : file.size ≡ x.size
  pub lens : (file.name_len ≡ length name) × (file.extra_len ≡ length extra)
  pub name-is : file.name.now ≡ name
  pub extra-is : file.extra.now ≡ extra
  pub contents-is : file.contents.now ≡ contents

-- the archive reads as that file between two offsets, and its other bytes are as they were
pub record IsPut (formats : Formats) (x : ScrollZipFile) (name extra contents old new : List ℕ)
    (from to : ℕ) : Type 0 where
  pub there : StoredFile
  pub is : IsFileOf x name extra contents there
  pub size : ℕ
  pub read : ReadsAt (ReadsBack formats.file Little) new from there size
  pub others : ChangesBetween from to old new
  pub end : to ≡ from + size

-- the end record that is written of the numbers of `x` and of the comment
pub record IsEndOf (x : ScrollZipEnd) (comment : List ℕ) (end : EndRecord) : Type 0 where
  pub signature : end.signature ≡ 0x06054b50
  pub disk : end.disk ≡ x.disk
  pub directory_disk : end.directory_disk ≡ x.directory_disk
  pub entries_here : end.entries_here ≡ x.entries_here
  pub entries : end.entries ≡ x.entries
  pub directory_size : end.directory_size ≡ x.directory_size
  pub directory_place : end.directory_place ≡ x.directory_place
  pub len : end.comment_len ≡ length comment
  pub comment-is : end.comment.now ≡ comment

-- that record is written between two offsets
pub record IsPutEnd (formats : Formats) (x : ScrollZipEnd) (comment old new : List ℕ)
    (from to : ℕ) : Type 0 where
  pub there : EndRecord
  pub is : IsEndOf x comment there
  pub size : ℕ
  pub wrote : WritesAt (WritesWhole formats.end Little there) old from new size
  pub end : to ≡ from + size

-- an error as it is stored
abbrev pub faulted : ℤ → ℕ → ℕ → ScrollError
faulted code at value = record { code = code; reserved = 0; offset = at; value = value }

-- what is stored of an error, of a value that starts at an offset
abbrev pub fault_of : Error → ℕ → ScrollError
fault_of (TooBig size len) at = faulted (neg_ℤ (pos 2)) at 0
fault_of (BadOffset offset) at = faulted (neg_ℤ (pos 3)) at 0
fault_of (BadInput size msg) at = faulted (neg_ℤ (pos 4)) at size
fault_of (Custom text) at = faulted (neg_ℤ (pos 4)) at 0
fault_of (IO fault) at = faulted (neg_ℤ (pos 4)) at 0
fault_of NoMemory at = faulted (neg_ℤ (pos 5)) at 0

-- no end record has a comment that ends the archive
abbrev pub HasNoEnd : List ℕ → ScrollError → Type 0
HasNoEnd archive e =
    ((len : ℕ) → ¬ EndsWith archive len) × (e ≡ faulted (neg_ℤ (pos 2)) (length archive) 0)

-- the read of the end record fails
pub record RefusesEndAt (formats : Formats) (archive : List ℕ) (e : ScrollError) : Type 0 where
  pub place : ℕ
  pub last : Zip.IsEnd archive place
  pub why : Error
  pub refused : RefusesAt (λ s. refuses formats.end Little s 0) IsBadOffset archive place why
  pub is : e ≡ fault_of why place

-- the read of a file fails
pub record RefusesStored (formats : Formats) (archive : List ℕ) (from : ℕ) (e : ScrollError)
    : Type 0 where
  pub why : Error
  pub refused : RefusesAt (λ s. refuses formats.file Little s 0) IsBadOffset archive from why
  pub is : e ≡ fault_of why from

-- a part has no number for its length
abbrev pub IsLong : List ℕ → ℕ → Type 0
IsLong part most = most < length part

-- the parts of a file have numbers for their lengths, and the archive has room for it
pub record HasRoom (name extra contents archive : List ℕ) (from : ℕ) : Type 0 where
  pub name-short : length name ≤ 65535
  pub extra-short : length extra ≤ 65535
  pub contents-short : length contents ≤ 4294967295
  pub room : from + (30 + length name + length extra + length contents) ≤ length archive

-- and those of an end record
pub record HasRoomForEnd (comment archive : List ℕ) (from : ℕ) : Type 0 where
  pub comment-short : length comment ≤ 65535
  pub room : from + (22 + length comment) ≤ length archive

-- the write of a file fails, and the archive is as it was
pub record FailsPut (formats : Formats) (x : ScrollZipFile) (name extra contents old new : List ℕ)
    (from : ℕ) (e : ScrollError) : Type 0 where
  pub why : Error
  pub there : StoredFile
  pub is : IsFileOf x name extra contents there
  pub failed : RefusesWriteAt (KeepsWhole (λ e d. d ≡ e) formats.file Little there) IsBadOffset old
      from new why
  pub stored : e ≡ fault_of why from

-- the write of an end record fails, and the archive is as it was
pub record FailsPutEnd (formats : Formats) (x : ScrollZipEnd) (comment old new : List ℕ) (from : ℕ)
    (e : ScrollError) : Type 0 where
  pub why : Error
  pub there : EndRecord
  pub is : IsEndOf x comment there
  pub failed : RefusesWriteAt (KeepsWhole (λ e d. d ≡ e) formats.end Little there) IsBadOffset old
      from new why
  pub stored : e ≡ fault_of why from
