-- Numbers of any length besides those in LEB128. Signed ones are in zigzag, as Protocol Buffers has
-- them. Those with their high groups first, as *Standard MIDI Files 1.0* has them, have seven bits
-- in each byte, the highest first, and a byte below 128 ends them.
use Rattle.std.proofs.Common.{map}
use Rattle.std.specs.Int.Digits.{number_from_digits}
use Rattle.std.specs.Prelude.{ℕ, zero, suc, ◌+◌, ◌*◌, ◌/◌, ◌%◌, ◌^◌, ◌<◌, ◌++◌, List, [], ◌∷◌, take, ℤ, pos, negsuc}
use Rattle.scroll.specs.Leb128.{Counted, ReadsCounted, ReadsLeb, RefusesLeb, count_of}
use Rattle.scroll.specs.declared.error.Error.{Error}

-- `zigzag v`: a signed number as an unsigned one, with its sign in the lowest bit: `2v`, and
-- `-2v - 1` where it is negative
abbrev pub zigzag : ℤ → ℕ
zigzag (pos v) = 2 * v
zigzag (negsuc v) = 2 * v + 1

-- the number whose digits in base 128, the highest first, are the low seven bits of the bytes
abbrev pub groups_number : List ℕ → ℕ
groups_number s = number_from_digits 128 (map (λ b. b % 128) s)

-- the number at the start of `s`, with its high groups first
abbrev pub vlq_of : List ℕ → ℕ
vlq_of s = groups_number (take (count_of s) s)

-- `high_groups v n`: the `n` low groups of `v`, the highest first, each with 128 added
abbrev pub high_groups : ℕ → ℕ → List ℕ
high_groups v zero = []
high_groups v (suc n) = high_groups (v / 128) n ++ (128 + v % 128) ∷ []

-- `vlq_bytes v n`: the encoding of `v` in `n` bytes
abbrev pub vlq_bytes : ℕ → ℕ → List ℕ
vlq_bytes v zero = []
vlq_bytes v (suc n) = high_groups (v / 128) n ++ (v % 128) ∷ []

-- a read gives such a number of 64 bits and the length of its encoding, or is refused as one of a
-- number in LEB128 is
abbrev pub ReadsVlq : List ℕ → Counted ℕ → ℕ → Type 0
ReadsVlq = ReadsCounted (ReadsLeb vlq_of (λ v. v < 2 ^ 64))

abbrev pub RefusesVlq : List ℕ → Error → Type 0
RefusesVlq = RefusesLeb vlq_of (λ v. v < 2 ^ 64)
