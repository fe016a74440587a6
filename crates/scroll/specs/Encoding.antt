-- LEB128 by division. These are the same encodings, made as section 7.6 of DWARF 5 makes them; no
-- reader uses this. The laws are the same for unsigned and for signed numbers: in them, `Has v n`
-- says that `v` has an encoding of `n` bytes, which is that of the unsigned number `form v n`.
use Rattle.std.specs.Prelude.{◌≡◌, ℕ, suc, ◌+◌, ◌-◌, ◌*◌, ◌/◌, ◌%◌, ◌^◌, ◌<◌, ◌≤◌, nat_lt, ⊤, List, take, if◌then◌else◌, ℤ, pos, negsuc, ◌≤ℤ◌, ◌<ℤ◌, neg_ℤ, FitsSigned, ◌++◌, ◌↔◌, drop}
use Rattle.std.specs.Int.{w64}
use Rattle.scroll.specs.Bytes.{list_below, WritesPrefix}
use Rattle.scroll.specs.Leb128.{Counted, ReadsCounted}
use Rattle.std.specs.List.{All}

-- byte `i` of the encoding of `v` in `n` bytes: `128 + v / 128^i mod 128`, and for the last byte
-- `v / 128^i`
abbrev pub encoded_byte : ℕ → ℕ → ℕ → ℕ
encoded_byte v n i = if nat_lt (i + 1) n then 128 + v / 128 ^ i % 128 else v / 128 ^ i

-- the encoding of `v` in `n` bytes: byte `i` is `128 + v / 128^i mod 128`, and the last one `v /
-- 128^i`
abbrev pub encoding : ℕ → ℕ → List ℕ
encoding v n = list_below (encoded_byte v n) n

-- `unsigned_form v n`: what is encoded for a signed number: `v`, or `v + 128^n` where `v` is
-- negative
abbrev pub unsigned_form : ℤ → ℕ → ℕ
unsigned_form (pos v) n = v
unsigned_form (negsuc v) n = 128 ^ n - suc v

-- `n` groups have room for `v`: `v` is below `128^n`; signed, `v` is from `-64 * 128^(n - 1)` to
-- below `64 * 128^(n - 1)`
abbrev pub Room : ℕ → ℕ → Type 0
Room v n = v < 128 ^ n

abbrev pub SignedRoom : ℤ → ℕ → Type 0
SignedRoom v n = (neg_ℤ (pos (64 * 128 ^ (n - 1))) ≤ℤ v) × (v <ℤ pos (64 * 128 ^ (n - 1)))

-- `v` has an encoding of `n` bytes: `n` is from 1 to 10, `v` fits, and `n` groups have room for it:
-- it is below `128^n`, signed from `-64 * 128^(n - 1)` to below `64 * 128^(n - 1)`
pub record HasLeb {V : Type 0} (HasRoom : V → ℕ → Type 0) (Fits : V → Type 0) (v : V)
    (n : ℕ) : Type 0 where
  pub some : 1 ≤ n
  pub few : n ≤ 10
  pub room : HasRoom v n
  pub fits : Fits v

-- `HasLeb` of an unsigned number of 64 bits, of a signed one of 64 bits, and of an unsigned one of
-- any size
abbrev pub HasEncoding : ℕ → ℕ → Type 0
HasEncoding = HasLeb Room (λ v. v < 2 ^ 64)

abbrev pub HasSignedEncoding : ℤ → ℕ → Type 0
HasSignedEncoding = HasLeb SignedRoom (FitsSigned w64)

abbrev pub HoldsGroups : ℕ → ℕ → Type 0
HoldsGroups = HasLeb Room (λ v. ⊤)

-- `Has v n` holds, and `s` begins with the encoding of the unsigned number `form v n` in `n` bytes
pub record BeginsWithLeb {V : Type 0} (Has : V → ℕ → Type 0) (form : V → ℕ → ℕ) (s : List ℕ) (v : V)
    (n : ℕ) : Type 0 where
  pub has : Has v n
  pub prefix : take n s ≡ encoding (form v n) n

-- `leb_text form x`, `uleb_text`, `sleb_text`: the encoding of a `Counted` in as many bytes as it
-- says: its one leaf
abbrev pub leb_text : {V : Type 0} → (V → ℕ → ℕ) → Counted V → List ℕ
leb_text form x = encoding (form x.value x.count) x.count

abbrev pub uleb_text : Counted ℕ → List ℕ
uleb_text = leb_text (λ v n. v)

abbrev pub sleb_text : Counted ℤ → List ℕ
sleb_text = leb_text unsigned_form

-- `WritesLeb form x`, `WritesUleb`, `WritesSleb`: `WritesPrefix` with that encoding
abbrev pub WritesLeb : {V : Type 0} → (V → ℕ → ℕ) → Counted V → List ℕ → List ℕ → ℕ → Type 0
WritesLeb form x = WritesPrefix x.count (leb_text form x)

abbrev pub WritesUleb : Counted ℕ → List ℕ → List ℕ → ℕ → Type 0
WritesUleb = WritesLeb (λ v n. v)

abbrev pub WritesSleb : Counted ℤ → List ℕ → List ℕ → ℕ → Type 0
WritesSleb = WritesLeb unsigned_form

-- `spelled` holds of `n`, and of no number below it
pub record IsLeast (spelled : ℕ → Type 0) (n : ℕ) : Type 0 where
  pub has : spelled n
  pub least : (m : ℕ) → spelled m → n ≤ m

-- `magnitude_bits v`: a signed number without its sign: `v`, or `-1 - v` where `v` is negative
abbrev pub magnitude_bits : ℤ → ℕ
magnitude_bits (pos v) = v
magnitude_bits (negsuc v) = v

-- the number whose first nine groups are those of `low`, and whose tenth group is `tenth`
abbrev pub ten_groups : ℕ → ℕ → ℕ
ten_groups low tenth = tenth * 2 ^ 63 + low % 2 ^ 63

-- a source reads as a value with a size exactly where it begins with the encoding of that value in
-- that many bytes; a value has one encoding of each length from its shortest to ten; and none is a
-- prefix of another
pub record ReadsEncodings {V : Type 0} (reads_as : List ℕ → V → ℕ → Type 0) (Has : V → ℕ → Type 0)
    (form : V → ℕ → ℕ) : Type 0 where
  pub reads : (source : List ℕ) (x : V) (n : ℕ) → All (λ b. b < 256) source
      → reads_as source x n ↔ BeginsWithLeb Has form source x n
  pub longer : (x : V) (m n : ℕ) → Has x m → m ≤ n → n ≤ 10 → Has x n
  pub one : (x y : V) (m n : ℕ) (after_x after_y : List ℕ) → Has x m → Has y n
      → encoding (form x m) m ++ after_x ≡ encoding (form y n) n ++ after_y → (x ≡ y) × (m ≡ n)

-- what was read is written back byte for byte; what was written reads back with the same value and
-- size, whatever bytes follow; and every source that reads as it begins with the bytes that were
-- written
pub record KeepsTexts {V : Type 0} (reads_as : List ℕ → V → ℕ → Type 0) (Has : V → ℕ → Type 0)
    (form : V → ℕ → ℕ) : Type 0 where
  pub back : (source old new : List ℕ) (x : Counted V) (m n : ℕ) → All (λ b. b < 256) source
      → ReadsCounted reads_as source x n
      → WritesLeb form x old new m → (m ≡ n) × (new ≡ take n source ++ drop n old)
  pub again : (old new after : List ℕ) (x : Counted V) (n : ℕ) → Has x.value x.count
      → WritesLeb form x old new n
      → ReadsCounted reads_as (take n new ++ after) x n
  pub begins : (source old new : List ℕ) (x : Counted V) (m n : ℕ) → All (λ b. b < 256) source
      → ReadsCounted reads_as source x n
      → WritesLeb form x old new m → take m source ≡ take m new
