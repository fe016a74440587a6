-- What is read. The words of a command name it, after the offset where there is one.
use Rattle.std.specs.Prelude.{◌≡◌, ◌^◌, ℕ, List, [], ◌∷◌, codes}
use Rattle.scroll.specs.declared.ctx.str_ctx.StrCtx.{StrCtx}
use Rattle.scroll.specs.declared.ctx.str_ctx.StrCtx.TheVariants as context
use Rattle.scroll.specs.declared.endian.Endian.{Endian}
use Rattle.scroll.specs.declared.runner.Kind.{Kind}
use Rattle.scroll.specs.declared.runner.Kind.TheVariants as kind
use Rattle.scroll_run.specs.Names.{Named, OneWord}
use Rattle.scroll_run.specs.Words.{SpellsByte, SpellsNumber, order_word}
use Rattle.scroll_run.specs.declared.names.Name.{Name}
use Rattle.scroll_run.specs.declared.names.Name.TheVariants as name

-- `SpellsEnd words ctx`: the words spell where a text ends: by a delimiter, by a delimiter and a
-- limit, by a length, or by a delimiter that must be there:
abbrev pub SpellsEnd : List (List ℕ) → StrCtx → Type 0
SpellsEnd words (context.Delimiter d) =
    (word : List ℕ) × (words ≡ codes "delim" ∷ word ∷ []) × SpellsByte word d
SpellsEnd words (context.DelimiterUntil d limit) =
    (first second : List ℕ) × (words ≡ codes "until" ∷ first ∷ second ∷ []) × SpellsByte first d
    × SpellsNumber (2 ^ 64) second limit
SpellsEnd words (context.Length n) =
    (word : List ℕ) × (words ≡ codes "len" ∷ word ∷ []) × SpellsNumber (2 ^ 64) word n
SpellsEnd words (context.Required d) =
    (word : List ℕ) × (words ≡ codes "required" ∷ word ∷ []) × SpellsByte word d

-- `SpellsKindOf n words what`: the words spell what is read after the name `n`:
abbrev pub SpellsKindOf : Name → List (List ℕ) → Kind → Type 0
SpellsKindOf (name.Number w) words what =
    (order : Endian) × (words ≡ order_word order ∷ []) × (what ≡ kind.Number w order)
SpellsKindOf name.Str words what = (ctx : StrCtx) × SpellsEnd words ctx × (what ≡ kind.Text ctx)
SpellsKindOf name.Bytes words what =
    (len : ℕ) × OneWord (λ word. SpellsNumber (2 ^ 64) word len) words × (what ≡ kind.Bytes len)
SpellsKindOf name.CStr words what = (words ≡ []) × (what ≡ kind.CStr)
SpellsKindOf name.CString words what = (words ≡ []) × (what ≡ kind.CString)
SpellsKindOf name.Uleb words what = (words ≡ []) × (what ≡ kind.Uleb)
SpellsKindOf name.Sleb words what = (words ≡ []) × (what ≡ kind.Sleb)
SpellsKindOf name.U8x0 words what =
    (order : Endian) × (words ≡ order_word order ∷ []) × (what ≡ kind.U8x0 order)
SpellsKindOf name.U16x3 words what =
    (order : Endian) × (words ≡ order_word order ∷ []) × (what ≡ kind.U16x3 order)
SpellsKindOf name.Strx2 words what =
    (ctx : StrCtx) × SpellsEnd words ctx × (what ≡ kind.Textx2 ctx)
SpellsKindOf name.Bytesx2 words what = ⊥

-- the words spell what is read
abbrev pub SpellsKind : List (List ℕ) → Kind → Type 0
SpellsKind words what = Named SpellsKindOf words what
