-- Words. A line is split at its spaces, and each word spells a number, some bytes or a name.
use Rattle.std.specs.Prelude.{◌≡◌, ◌<◌, ◌+◌, ◌++◌, ◌⊎◌, ℕ, ℤ, pos, neg_ℤ, List, [], ◌∷◌, length, map, Ok, codes, ◌==◌, Option, MatchOption}
use Rattle.std.specs.Borrow.{Bor}
use Rattle.std.specs.List.{slice_split}
use Rattle.std.specs.Str.Parse.{IsNumeral, digits_value}
use Rattle.hex.specs.Hex.{decode_of, decode_sized}
use Rattle.scroll.specs.declared.endian.Endian.{Endian}
use Rattle.scroll.specs.declared.endian.Endian.TheVariants.{Little, Big}
use Rattle.scroll.specs.declared.runner.Width.{Width}
use Rattle.scroll.specs.declared.runner.Width.TheVariants as width

-- what is before, between and after the spaces of a line
abbrev pub words_of : List ℕ → List (List ℕ)
words_of line = slice_split (λ b. b == 32) line

-- the bytes of each word
abbrev pub texts_of : List (Bor (List ℕ)) → List (List ℕ)
texts_of words = map (λ word. word.now) words

-- `ParsesAs value IsSpelled found`: the value of what was found is spelled, or nothing was found
-- and nothing is spelled
abbrev pub ParsesAs : {X Y : Type 0} → (X → Y) → (Y → Type 0) → Option X → Type 0
ParsesAs {X} {Y} value IsSpelled found =
    MatchOption found ((y : Y) → ¬ (IsSpelled y)) (λ x. IsSpelled (value x))

-- `Parses IsSpelled found`: what was found is spelled, or nothing was found and nothing is spelled
abbrev pub Parses : {X : Type 0} → (X → Type 0) → Option X → Type 0
Parses IsSpelled found = ParsesAs (λ x. x) IsSpelled found

-- `Finds Borrows IsSpelled found`: all that borrows from what was found is spelled, or nothing was
-- found and nothing is spelled
abbrev pub Finds : {X Y : Type 0} → (X → Y → Type 0) → (Y → Type 0) → Option X → Type 0
Finds {X} {Y} Borrows IsSpelled found =
    MatchOption found ((y : Y) → ¬ (IsSpelled y)) (λ x. (y : Y) → Borrows x y → IsSpelled y)

-- the word is one decimal digit or more, with the value `x`, which is below the limit
abbrev pub SpellsNumber : ℕ → List ℕ → ℕ → Type 0
SpellsNumber limit word x =
    IsNumeral 10 word × (digits_value 10 word < limit) × (x ≡ digits_value 10 word)

-- the word spells the signed number `x`: digits with a value below `half` spell that value, and `-`
-- before digits with a value of at most `half` spells its negative
abbrev pub SpellsSigned : ℕ → List ℕ → ℤ → Type 0
SpellsSigned half word x =
    ((n : ℕ) × SpellsNumber half word n × (x ≡ pos n))
    ⊎ ((digits : List ℕ) × (n : ℕ) × (word ≡ codes "-" ++ digits) × SpellsNumber (half + 1) digits n
    × (x ≡ neg_ℤ (pos n)))

-- `-` spells no bytes, and an even number of hexadecimal digits of either case, two or more, spells
-- a byte for each two
abbrev pub SpellsBytes : List ℕ → List ℕ → Type 0
SpellsBytes word bytes =
    ((word ≡ codes "-") × (bytes ≡ [])) ⊎ ((0 < length word) × (decode_of word ≡ Ok bytes))

-- two hexadecimal digits of either case spell one byte
abbrev pub SpellsByte : List ℕ → ℕ → Type 0
SpellsByte word byte = decode_sized word 1 ≡ Ok (byte ∷ [])

-- `width_word w`: the word of a number type, such as `u16`
abbrev pub width_word : Width → List ℕ
width_word width.U8 = codes "u8"
width_word width.I8 = codes "i8"
width_word width.U16 = codes "u16"
width_word width.I16 = codes "i16"
width_word width.U32 = codes "u32"
width_word width.I32 = codes "i32"
width_word width.U64 = codes "u64"
width_word width.I64 = codes "i64"
width_word width.U128 = codes "u128"
width_word width.I128 = codes "i128"

-- `order_word order`: the word of a byte order: `le` for `Little`, and `be` for `Big`
abbrev pub order_word : Endian → List ℕ
order_word Little = codes "le"
order_word Big = codes "be"
