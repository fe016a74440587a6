-- Numbers in LEB128. The encoding is that of section 7.6 of DWARF 5: each byte has seven bits of
-- the number, the lowest first, and a byte below 128 ends it. It is complete if it ends within ten
-- bytes.
use Rattle.std.specs.Prelude.{◌≡◌, ℕ, ◌+◌, ◌*◌, ◌%◌, ◌^◌, ◌<◌, ◌≤◌, ◌==◌, nat_lt, ⊤, Bool, List, length, slice_index, ℤ, pos, ◌-ℤ◌, if◌then◌else◌, FitsSigned, Some, ◌⊎◌, codes}
use Rattle.std.specs.Int.{w64}
use Rattle.std.specs.List.{position_or_len, slice_get}
use Rattle.std.specs.Ordering.{on, eq_of_both}
use Rattle.scroll.specs.Bytes.{sum_below}
use Rattle.scroll.specs.declared.leb128.groups.Groups.{Groups}
use Rattle.scroll.specs.declared.leb128.groups.Groups.TheVariants.{UpToNine, Ten}
use Rattle.scroll.specs.declared.error.Error.{Error}
use Rattle.scroll.specs.declared.error.Error.TheVariants.{TooBig}
use Rattle.scroll.specs.Errors.{IsBadInput}

-- the index of the first byte below 128, or the length of `s`
abbrev pub end_of : List ℕ → ℕ
end_of s = position_or_len (λ b. nat_lt b 128) s

-- the encoding ends at one of the first ten bytes of `s`
abbrev pub IsComplete : List ℕ → Type 0
IsComplete s = (end_of s < length s) × (end_of s < 10)

-- `s` is truncated: it has fewer than ten bytes, and none of them is below 128
abbrev pub IsTruncated : List ℕ → Type 0
IsTruncated s = (length s ≤ end_of s) × (length s < 10)

-- the length of the encoding in bytes: one more than `end_of s`
abbrev pub count_of : List ℕ → ℕ
count_of s = end_of s + 1

-- the seven bits of byte `i`: `s[i] mod 128`
abbrev pub group : List ℕ → ℕ → ℕ
group s i = slice_index s i % 128

-- the sum of `group s i * 128^i` over the `i` below `n`
abbrev pub groups_value : List ℕ → ℕ → ℕ
groups_value s n = sum_below (λ i. group s i * 128 ^ i) n

-- `groups_value s n`, with `n` the length of the encoding
abbrev pub unsigned_of : List ℕ → ℕ
unsigned_of s = groups_value s (count_of s)

-- the same sign-extended: less `128^n` where the last of the `n` groups is at least 64
abbrev pub signed_of : List ℕ → ℤ
signed_of s = if nat_lt (group s (end_of s)) 64 then pos (unsigned_of s)
    else pos (unsigned_of s) -ℤ pos (128 ^ count_of s)

-- the encoding is complete, its number `value_of source` fits and is `x`, and the size `n` is the
-- length of the encoding
pub record ReadsLeb {V : Type 0} (value_of : List ℕ → V) (Fits : V → Type 0) (source : List ℕ)
    (x : V) (n : ℕ) : Type 0 where
  pub complete : IsComplete source
  pub fits : Fits (value_of source)
  pub value : x ≡ value_of source
  pub size : n ≡ count_of source

-- `ReadsLeb` of an unsigned number of 64 bits, of a signed one of 64 bits, and of an unsigned one
-- of any size
abbrev pub ReadsUleb : List ℕ → ℕ → ℕ → Type 0
ReadsUleb = ReadsLeb unsigned_of (λ v. v < 2 ^ 64)

abbrev pub ReadsSleb : List ℕ → ℤ → ℕ → Type 0
ReadsSleb = ReadsLeb signed_of (FitsSigned w64)

abbrev pub ReadsGroups : List ℕ → ℕ → ℕ → Type 0
ReadsGroups = ReadsLeb unsigned_of (λ v. ⊤)

-- a number, and the length of its encoding: what a contract sees of a `Uleb128` or a `Sleb128`
pub record Counted (V : Type 0) : Type 0 where
  pub value : V
  pub count : ℕ

-- whether the numbers are equal by `value_eq`, and the lengths
abbrev pub counted_eq : {V : Type 0} → (V → V → Bool) → Counted V → Counted V → Bool
counted_eq value_eq = eq_of_both (on (λ x. x.value) value_eq) (on (λ x. x.count) ◌==◌)

-- `reads` of the number of `x`, whose length is the size `n`; with `ReadsUleb`, and with
-- `ReadsSleb`
abbrev pub ReadsCounted : {V : Type 0} → (List ℕ → V → ℕ → Type 0) → List ℕ → Counted V → ℕ → Type 0
ReadsCounted reads source x n = reads source x.value n × (x.count ≡ n)

abbrev pub ReadsCountedUleb : List ℕ → Counted ℕ → ℕ → Type 0
ReadsCountedUleb = ReadsCounted ReadsUleb

abbrev pub ReadsCountedSleb : List ℕ → Counted ℤ → ℕ → Type 0
ReadsCountedSleb = ReadsCounted ReadsSleb

-- `HasGroups source groups`: these are the groups of the encoding at the start of a source: the
-- number of all groups and how many there are, at most nine; or the number of the first nine, none
-- of which ends the encoding, and the tenth byte
abbrev pub HasGroups : List ℕ → Groups → Type 0
HasGroups source (UpToNine groups count) = ReadsGroups source groups count × (count ≤ 9)
HasGroups source (Ten groups tenth) =
    (9 ≤ end_of source) × (slice_get source 9 ≡ Some tenth) × (groups ≡ groups_value source 9)

-- the source is truncated, and the error is `TooBig` with the size 1 and the length 0
pub record RefusesTruncated (source : List ℕ) (e : Error) : Type 0 where
  pub cut : IsTruncated source
  pub error : e ≡ TooBig 1 0

-- the source is not truncated, but the encoding is not complete or its number does not fit. The
-- error is `BadInput` with the length of the source and the message `failed to parse`.
pub record RefusesUnfit {V : Type 0} (value_of : List ℕ → V) (Fits : V → Type 0) (source : List ℕ)
    (e : Error) : Type 0 where
  pub whole : ¬ IsTruncated source
  pub unfit : IsComplete source → ¬ Fits (value_of source)
  pub error : IsBadInput e (length source) (codes "failed to parse")

-- the read of a number fails: fewer than ten bytes and none below 128 are `TooBig` with 1 and 0; an
-- encoding that is not complete or whose number does not fit is `BadInput` with the length of the
-- source and the message `failed to parse`
abbrev pub RefusesLeb : {V : Type 0} → (List ℕ → V) → (V → Type 0) → List ℕ → Error → Type 0
RefusesLeb value_of Fits source e = RefusesTruncated source e ⊎ RefusesUnfit value_of Fits source e

-- `RefusesLeb` of an unsigned number of 64 bits, and of a signed one
abbrev pub RefusesUleb : List ℕ → Error → Type 0
RefusesUleb = RefusesLeb unsigned_of (λ v. v < 2 ^ 64)

abbrev pub RefusesSleb : List ℕ → Error → Type 0
RefusesSleb = RefusesLeb signed_of (FitsSigned w64)
