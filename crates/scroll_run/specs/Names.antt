-- The names of the kinds of values, the first of the words that spell what is read or written.
use Rattle.std.specs.Prelude.{◌≡◌, ℕ, List, [], ◌∷◌, codes}
use Rattle.scroll_run.specs.Words.{width_word}
use Rattle.scroll_run.specs.declared.names.Name.{Name}
use Rattle.scroll_run.specs.declared.names.Name.TheVariants as name

-- `name_word n`: the word of a name
abbrev pub name_word : Name → List ℕ
name_word (name.Number w) = width_word w
name_word name.Str = codes "str"
name_word name.Bytes = codes "bytes"
name_word name.CStr = codes "cstr"
name_word name.CString = codes "cstring"
name_word name.Uleb = codes "uleb"
name_word name.Sleb = codes "sleb"
name_word name.U8x0 = codes "u8x0"
name_word name.U16x3 = codes "u16x3"
name_word name.Strx2 = codes "strx2"
name_word name.Bytesx2 = codes "bytesx2"

-- `OneWord P words`: it is one word, of which `P` holds
abbrev pub OneWord : (List ℕ → Type 0) → List (List ℕ) → Type 0
OneWord P words = (word : List ℕ) × (words ≡ word ∷ []) × P word

-- `Named Spells words x`: the words are a name, and those that spell `x` after this name
abbrev pub Named : {X : Type 0} → (Name → List (List ℕ) → X → Type 0) → List (List ℕ) → X → Type 0
Named Spells words x =
    (n : Name) × (rest : List (List ℕ)) × (words ≡ name_word n ∷ rest) × Spells n rest x
