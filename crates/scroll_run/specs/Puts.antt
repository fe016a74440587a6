-- What is written. The words of a command name it, after the offset where there is one, and spell
-- its value.
use Rattle.std.specs.Prelude.{◌≡◌, ◌^◌, ℕ, ℤ, List, [], ◌∷◌, length, string_bytes, IsUtf8}
use Rattle.std.specs.Borrow.{Bor}
use Rattle.std.specs.List.{AllZip}
use Rattle.scroll.specs.CStringTexts.{c_str_text, c_string_text}
use Rattle.scroll.specs.Leb128.{Counted}
use Rattle.scroll.specs.Encoding.{IsLeast, HasEncoding, HasSignedEncoding}
use Rattle.scroll.specs.Texts.{index_of}
use Rattle.scroll.specs.declared.cstr.CStr.{CStr}
use Rattle.scroll.specs.declared.endian.Endian.{Endian}
use Rattle.scroll.specs.declared.runner.Number.{Number}
use Rattle.scroll.specs.declared.runner.Number.TheVariants as number
use Rattle.scroll.specs.declared.runner.Put.{Put}
use Rattle.scroll.specs.declared.runner.Put.TheVariants as put
use Rattle.scroll.specs.declared.runner.Width.{Width}
use Rattle.scroll.specs.declared.runner.Width.TheVariants as width
use Rattle.scroll_run.specs.Names.{Named, OneWord}
use Rattle.scroll_run.specs.Words.{SpellsBytes, SpellsNumber, SpellsSigned, order_word}
use Rattle.scroll_run.specs.declared.names.Name.{Name}
use Rattle.scroll_run.specs.declared.names.Name.TheVariants as name
use Rattle.scroll_run.specs.declared.puts.OwnedPut.{OwnedPut}
use Rattle.scroll_run.specs.declared.puts.OwnedPut.TheVariants as owned

-- `SpellsValue w word n`: the word spells a number of the type, in its range
abbrev pub SpellsValue : Width → List ℕ → Number → Type 0
SpellsValue width.U8 word n = (x : ℕ) × SpellsNumber (2 ^ 8) word x × (n ≡ number.U8 x)
SpellsValue width.I8 word n = (x : ℤ) × SpellsSigned (2 ^ 7) word x × (n ≡ number.I8 x)
SpellsValue width.U16 word n = (x : ℕ) × SpellsNumber (2 ^ 16) word x × (n ≡ number.U16 x)
SpellsValue width.I16 word n = (x : ℤ) × SpellsSigned (2 ^ 15) word x × (n ≡ number.I16 x)
SpellsValue width.U32 word n = (x : ℕ) × SpellsNumber (2 ^ 32) word x × (n ≡ number.U32 x)
SpellsValue width.I32 word n = (x : ℤ) × SpellsSigned (2 ^ 31) word x × (n ≡ number.I32 x)
SpellsValue width.U64 word n = (x : ℕ) × SpellsNumber (2 ^ 64) word x × (n ≡ number.U64 x)
SpellsValue width.I64 word n = (x : ℤ) × SpellsSigned (2 ^ 63) word x × (n ≡ number.I64 x)
SpellsValue width.U128 word n = (x : ℕ) × SpellsNumber (2 ^ 128) word x × (n ≡ number.U128 x)
SpellsValue width.I128 word n = (x : ℤ) × SpellsSigned (2 ^ 127) word x × (n ≡ number.I128 x)

-- the word spells the bytes of a text in UTF-8
abbrev pub SpellsText : List ℕ → List ℕ → Type 0
SpellsText word text = SpellsBytes word text × IsUtf8 text

-- the word spells the bytes of a text without a zero; the zero after it is not spelled
abbrev pub SpellsCString : List ℕ → List ℕ → Type 0
SpellsCString word text = SpellsBytes word text × (index_of 0 text ≡ length text)

-- the word spells the number of `x`, unsigned or signed, and `x.count` is the length of the
-- shortest encoding
abbrev pub SpellsUleb : List ℕ → Counted ℕ → Type 0
SpellsUleb word x = SpellsNumber (2 ^ 64) word x.value × IsLeast (HasEncoding x.value) x.count

abbrev pub SpellsSleb : List ℕ → Counted ℤ → Type 0
SpellsSleb word x = SpellsSigned (2 ^ 63) word x.value × IsLeast (HasSignedEncoding x.value) x.count

-- `SpellsPutOf n words p`: the words spell what is written after the name `n`:
abbrev pub SpellsPutOf : Name → List (List ℕ) → Put → Type 0
SpellsPutOf (name.Number w) words p =
    (order : Endian) × (word : List ℕ) × (x : Number) × (words ≡ order_word order ∷ word ∷ [])
    × SpellsValue w word x × (p ≡ put.Number x order)
SpellsPutOf name.Str words p =
    (text : Bor (List ℕ)) × OneWord (λ word. SpellsText word text.now) words × (p ≡ put.Text text)
SpellsPutOf name.Bytes words p =
    (bytes : Bor (List ℕ)) × OneWord (λ word. SpellsBytes word bytes.now) words
    × (p ≡ put.Bytes bytes)
SpellsPutOf name.CStr words p =
    (text : CStr) × OneWord (λ word. SpellsCString word (c_str_text text)) words
    × (p ≡ put.CStr text)
SpellsPutOf name.Uleb words p =
    (x : Counted ℕ) × OneWord (λ word. SpellsUleb word x) words × (p ≡ put.Uleb x)
SpellsPutOf name.Sleb words p =
    (x : Counted ℤ) × OneWord (λ word. SpellsSleb word x) words × (p ≡ put.Sleb x)
SpellsPutOf name.U16x3 words p =
    (order : Endian) × (first second third xs : List ℕ)
    × (words ≡ order_word order ∷ first ∷ second ∷ third ∷ [])
    × AllZip (SpellsNumber (2 ^ 16)) (first ∷ second ∷ third ∷ []) xs × (p ≡ put.U16x3 xs order)
SpellsPutOf name.Bytesx2 words p =
    (first second : List ℕ) × (x y : Bor (List ℕ)) × (words ≡ first ∷ second ∷ [])
    × SpellsBytes first x.now × SpellsBytes second y.now × (p ≡ put.Bytesx2 x y)
SpellsPutOf name.CString words p = ⊥
SpellsPutOf name.U8x0 words p = ⊥
SpellsPutOf name.Strx2 words p = ⊥

-- the words spell what is written
abbrev pub SpellsPut : List (List ℕ) → Put → Type 0
SpellsPut words p = Named SpellsPutOf words p

-- `IsPutOf x p`: `p` is the value to write that borrows from `x`, which holds what a line spells
abbrev pub IsPutOf : OwnedPut → Put → Type 0
IsPutOf (owned.Plain q) p = p ≡ q
IsPutOf (owned.Text s) p = (text : Bor (List ℕ)) × (p ≡ put.Text text) × (text.now ≡ string_bytes s)
IsPutOf (owned.Bytes v) p = (bytes : Bor (List ℕ)) × (p ≡ put.Bytes bytes) × (bytes.now ≡ v.items)
IsPutOf (owned.CStr s) p = (text : CStr) × (p ≡ put.CStr text) × (c_str_text text ≡ c_string_text s)
IsPutOf (owned.Bytesx2 v w) p =
    (x y : Bor (List ℕ)) × (p ≡ put.Bytesx2 x y) × (x.now ≡ v.items) × (y.now ≡ w.items)
