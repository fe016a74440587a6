-- The entries of an index, field by field (gitformat-index, version 2).
use Rattle.std.specs.CStr.{c_str_bytes}
use Rattle.std.specs.Prelude.{◌≡◌, ◌+◌, ℕ, List, length, drop}
use Rattle.scroll.specs.Arrays.{MakesArray}
use Rattle.scroll.specs.CStrings.{ReadsCString}
use Rattle.scroll.specs.Numbers.{number}
use Rattle.scroll.specs.Reads.{ReadsAll}
use Rattle.scroll.specs.declared.endian.Endian.TheVariants.{Big}
use Rattle.scroll_formats.specs.Zeros.{padding_len}
use Rattle.git_index.specs.declared.entry.Entry.{Entry}

-- how many bytes an entry has before its padding
abbrev pub size_before_pad : Entry → ℕ
size_before_pad x = 63 + length (c_str_bytes x.path)

-- an entry at the start of a source, in `n` bytes
pub record ReadsEntry (s : List ℕ) (x : Entry) (n : ℕ) : Type 0 where
  pub changed : x.stat.changed ≡ number Big 4 s
  pub changed_nanos : x.stat.changed_nanos ≡ number Big 4 (drop 4 s)
  pub modified : x.stat.modified ≡ number Big 4 (drop 8 s)
  pub modified_nanos : x.stat.modified_nanos ≡ number Big 4 (drop 12 s)
  pub device : x.stat.device ≡ number Big 4 (drop 16 s)
  pub inode : x.stat.inode ≡ number Big 4 (drop 20 s)
  pub mode : x.stat.mode ≡ number Big 4 (drop 24 s)
  pub user : x.stat.user ≡ number Big 4 (drop 28 s)
  pub group : x.stat.group ≡ number Big 4 (drop 32 s)
  pub size : x.stat.size ≡ number Big 4 (drop 36 s)
  pub id : MakesArray 1 (λ t b. b ≡ number Big 1 t) 20 (drop 40 s) x.stat.id
  pub flags : x.stat.flags ≡ number Big 2 (drop 60 s)
  pub path : ReadsCString (drop 62 s) (c_str_bytes x.path) (length (c_str_bytes x.path) + 1)
  pub whole : n ≡ size_before_pad x + padding_len (size_before_pad x) 8

-- the entries of a file stand one after another behind its header
abbrev pub HasEntries : List ℕ → List Entry → Type 0
HasEntries file entries = (to : ℕ) × ReadsAll ReadsEntry file 12 entries to
