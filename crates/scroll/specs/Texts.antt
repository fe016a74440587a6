-- Texts and byte slices. A text is UTF-8, by std's `IsUtf8`: encodings of Unicode scalar values,
-- each of one to four bytes, as in ISO/IEC 10646 and in chapter 3 of the Unicode Standard
-- (definition D92 and table 3-6). So it has no overlong form, no surrogate, and no value above
-- 0x10FFFF. Its context, a `StrCtx`, says where it ends: within a limit, which is that of
-- `DelimiterUntil` and the length of `Length`; before the first stop, which is the delimiter of all
-- but `Length`; and whether the source must have the stop, as `Required` says.
use Rattle.std.specs.Prelude.{◌≡◌, ◌≤◌, ◌<◌, ◌==◌, ◌||◌, ◌+◌, ℕ, nat_le, Bool, List, length, take, codes, ◌⊎◌, IsUtf8, Option, Some, None, IfSome, unwrap_or, option_to_list}
use Rattle.std.specs.List.{position_or_len}
use Rattle.scroll.specs.Bytes.{ReadsPrefix, RefusesShort}
use Rattle.scroll.specs.Errors.{IsBadInput}
use Rattle.scroll.specs.declared.ctx.str_ctx.StrCtx.{StrCtx}
use Rattle.scroll.specs.declared.ctx.str_ctx.StrCtx.TheVariants.{Delimiter, DelimiterUntil, Length, Required}
use Rattle.scroll.specs.declared.error.Error.{Error}

-- the least index at which `s` has the byte `d`, or the length of `s` where it has none
abbrev pub index_of : ℕ → List ℕ → ℕ
index_of d s = position_or_len (λ b. b == d) s

-- the search for the delimiter `d` stops at the byte `b`: at `d`, and at what is not ASCII
abbrev pub is_stop : ℕ → ℕ → Bool
is_stop d b = (b == d) || nat_le 128 b

-- what a context says of a text: how many bytes it is within, which the source must have; the byte
-- that it stops before; and the byte that the source must have; each if there is one
pub record Ending : Type 0 where
  pub limit : Option ℕ
  pub stop : Option ℕ
  pub required : Option ℕ

-- `ending ctx`: what the context says:
abbrev pub ending : StrCtx → Ending
ending (Delimiter d) = record { limit = None; stop = Some d; required = None }
ending (DelimiterUntil d limit) = record { limit = Some limit; stop = Some d; required = None }
ending (Length n) = record { limit = Some n; stop = None; required = None }
ending (Required d) = record { limit = None; stop = Some d; required = Some d }

-- `wanted_len ctx`: how many bytes the context needs of a source: its limit, else 0
abbrev pub wanted_len : StrCtx → ℕ
wanted_len ctx = unwrap_or (ending ctx).limit 0

-- `within limit source`: the bytes within a limit; all of them without one
abbrev pub within : Option ℕ → List ℕ → List ℕ
within None source = source
within (Some limit) source = take limit source

-- `before stop source`: the bytes before the first stop; all of them without one
abbrev pub before : Option ℕ → List ℕ → List ℕ
before None source = source
before (Some stop) source = take (index_of stop source) source

-- `text_in ctx source`: the bytes that are the text: those within the limit, up to the first stop
abbrev pub text_in : StrCtx → List ℕ → List ℕ
text_in ctx source = before (ending ctx).stop (within (ending ctx).limit source)

-- `delimiter_len ctx`: how many bytes the size counts after the text: 1 with a stop, also where the
-- source has none, else 0
abbrev pub delimiter_len : StrCtx → ℕ
delimiter_len ctx = length (option_to_list (ending ctx).stop)

-- `HasDelimiter ctx source`: the source has the byte that it must have
abbrev pub HasDelimiter : StrCtx → List ℕ → Type 0
HasDelimiter ctx source = IfSome (ending ctx).required (λ d. index_of d source < length source)

-- the source has `wanted_len ctx` bytes, `text` is `text_in ctx source` and is UTF-8, the size `n`
-- is its length and `delimiter_len ctx`, and `HasDelimiter` holds
pub record ReadsText (ctx : StrCtx) (source text : List ℕ) (n : ℕ) : Type 0 where
  pub room : wanted_len ctx ≤ length source
  pub prefix : text ≡ text_in ctx source
  pub utf8 : IsUtf8 text
  pub size : n ≡ length text + delimiter_len ctx
  pub there : HasDelimiter ctx source

-- the source has as many bytes as the context needs and `HasDelimiter` holds, but `text_in ctx
-- source` is not UTF-8. The error is `BadInput` with the length of the source and the message
-- `invalid utf8`.
pub record RefusesInvalid (ctx : StrCtx) (source : List ℕ) (e : Error) : Type 0 where
  pub room : wanted_len ctx ≤ length source
  pub invalid : ¬ IsUtf8 (text_in ctx source)
  pub error : IsBadInput e (length source) (codes "invalid utf8")
  pub there : HasDelimiter ctx source

-- the source has as many bytes as the context needs, but `HasDelimiter` does not hold. The error is
-- `BadInput` with the length of the source and the message `missing delimiter`; whether the bytes
-- are UTF-8 is not tested.
pub record RefusesMissing (ctx : StrCtx) (source : List ℕ) (e : Error) : Type 0 where
  pub room : wanted_len ctx ≤ length source
  pub missing : ¬ HasDelimiter ctx source
  pub error : IsBadInput e (length source) (codes "missing delimiter")

-- the read of a text fails: the source is shorter than `wanted_len ctx`, which is `RefusesShort`;
-- else a required delimiter is missing, or the text is not UTF-8. The error is then `BadInput` with
-- the length of the source and the message `missing delimiter`, or `invalid utf8`
abbrev pub RefusesText : StrCtx → List ℕ → Error → Type 0
RefusesText ctx source e = RefusesShort (wanted_len ctx) source e ⊎ RefusesInvalid ctx source e
    ⊎ RefusesMissing ctx source e

-- `ReadsPrefix n (take n)`
abbrev pub ReadsSlice : ℕ → List ℕ → List ℕ → ℕ → Type 0
ReadsSlice n = ReadsPrefix n (take n)
