-- Numbers as bytes. The byte order is `Little`, with the lowest byte first, or `Big`, with the
-- highest first. The laws `laws::fixed_size_is_kept` and `laws::fixed_size_is_written_back` say
-- that no other bytes read as the number. Floats are `binary32` and `binary64` of IEEE 754-2019;
-- std's `from_bits` returns the float that has given bits, and `to_bits` its bits. There is one
-- NaN: the bits of every NaN give it, and its own are those of the quiet NaN with no sign and no
-- payload, `7fc00000` and `7ff8000000000000`.
use Rattle.std.specs.Prelude.{ℕ, ◌*◌, ◌^◌, ◌-◌, ◌/◌, ◌%◌, List, slice_index, ℤ, pos, ◌-ℤ◌, ◌+ℤ◌, nat_abs, int_lt, nat_lt, if◌then◌else◌, to_bits, from_bits}
use Rattle.scroll.specs.Bytes.{sum_below, list_below, ReadsPrefix, WritesPrefix}
use Rattle.scroll.specs.declared.endian.Endian.{Endian}
use Rattle.scroll.specs.declared.endian.Endian.TheVariants.{Little, Big}
use Rattle.std.specs.Float.{Float, Format, binary32, binary64}

-- `number order w s`: the number in the first `w` bytes of `s`: the sum of `s[i] * 256^i` over the
-- `i` below `w` in the order `Little`, and of `s[i] * 256^(w - 1 - i)` in the order `Big`
unfoldable pub number : Endian → ℕ → List ℕ → ℕ
number Little w s = sum_below (λ i. slice_index s i * 256 ^ i) w
number Big w s = sum_below (λ i. slice_index s i * 256 ^ (w - 1 - i)) w

-- the same in two's complement: `number order w s`, less `256^w` where it is at least half of that
unfoldable pub signed_number : Endian → ℕ → List ℕ → ℤ
signed_number order w s =
    if nat_lt (2 * number order w s) (256 ^ w) then pos (number order w s)
    else pos (number order w s) -ℤ pos (256 ^ w)

-- `number_bytes order w x`: the `w` lowest digits of `x` to the base 256, `x / 256^i mod 256`, in
-- the byte order
abbrev pub number_bytes : Endian → ℕ → ℕ → List ℕ
number_bytes Little w x = list_below (λ i. x / 256 ^ i % 256) w
number_bytes Big w x = list_below (λ i. x / 256 ^ (w - 1 - i) % 256) w

-- `x` in two's complement of `w` bytes, as an unsigned number: `x`, or `x + 256^w` where `x` is
-- negative
abbrev pub twos_complement : ℕ → ℤ → ℕ
twos_complement w x = if int_lt x (pos 0) then nat_abs (pos (256 ^ w) +ℤ x) else nat_abs x

-- the `w` bytes of `x` in two's complement: those of `x`, or of `x + 256^w` where `x` is negative
abbrev pub signed_bytes : Endian → ℕ → ℤ → List ℕ
signed_bytes order w x = number_bytes order w (twos_complement w x)

-- `ReadsNumber w order`, `ReadsSigned w order`: `ReadsPrefix w` with `number order w`, with
-- `signed_number order w`
abbrev pub ReadsNumber : ℕ → Endian → List ℕ → ℕ → ℕ → Type 0
ReadsNumber w order = ReadsPrefix w (number order w)

abbrev pub ReadsSigned : ℕ → Endian → List ℕ → ℤ → ℕ → Type 0
ReadsSigned w order = ReadsPrefix w (signed_number order w)

-- `WritesNumber w order x`, `WritesSigned w order x`: `WritesPrefix w` with `number_bytes order w
-- x`, with `signed_bytes order w x`
abbrev pub WritesNumber : ℕ → Endian → ℕ → List ℕ → List ℕ → ℕ → Type 0
WritesNumber w order x = WritesPrefix w (number_bytes order w x)

abbrev pub WritesSigned : ℕ → Endian → ℤ → List ℕ → List ℕ → ℕ → Type 0
WritesSigned w order x = WritesPrefix w (signed_bytes order w x)

-- `float_width f`: how many bytes a float has, 4 in `binary32` and 8 in `binary64`
abbrev pub float_width : Format → ℕ
float_width binary32 = 4
float_width binary64 = 8

-- the float whose bits are `number order w s`, with `w` the width of the format
abbrev pub float : Format → Endian → List ℕ → Float
float f order s = from_bits f (number order (float_width f) s)

-- the bytes of the number `to_bits f x`, as many as the width of the format
abbrev pub float_bytes : Format → Endian → Float → List ℕ
float_bytes f order x = number_bytes order (float_width f) (to_bits f x)

-- `ReadsPrefix` with `float f order`
abbrev pub ReadsFloat : Format → Endian → List ℕ → Float → ℕ → Type 0
ReadsFloat f order = ReadsPrefix (float_width f) (float f order)

-- `WritesPrefix` with `float_bytes f order x`
abbrev pub WritesFloat : Format → Endian → Float → List ℕ → List ℕ → ℕ → Type 0
WritesFloat f order x = WritesPrefix (float_width f) (float_bytes f order x)
