-- Strings, byte slices and C strings depend only on the bytes that they take, and a read of one has
-- exactly one result. The index of the first byte of a value, and what comes before it. The
-- C strings of std and those of the crate are the same lists of bytes.
use Rattle.std.proofs.Common.{◌≡◌, ℕ, ◌≤◌, ◌==◌, List, length, take, min, ap, ◌∙◌, arith, ◌+◌, ◌<◌, refl, sym, subst, inl, inr, ◌⊎◌, IsUtf8, codes, true≢false, ◌-◌, [], ◌∷◌, ◌++◌, get_or, ◌≢◌, true, false, drop, length-append, append_assoc, length-take, not, Option, None, Some, IfSome}
use Rattle.std.proofs.lemmas.List.{length-take-le, get_or-take, take_at, take_more}
use Rattle.scroll.specs.declared.ctx.str_ctx.StrCtx.{StrCtx}
use Rattle.scroll.specs.declared.ctx.str_ctx.StrCtx.TheVariants.{Delimiter, DelimiterUntil, Length, Required}
use Rattle.scroll.specs.lemmas.Frames.{index_of-le}
use Rattle.scroll.specs.Texts.{ending, index_of, within, before, text_in, wanted_len, delimiter_len, HasDelimiter, ReadsText, RefusesInvalid, RefusesMissing, RefusesText, ReadsSlice}
use Rattle.scroll.proofs.lemmas.SearchLemmas.{position_or_len-take}
use Rattle.std.proofs.lemmas.Bool.{cases_lt, cases_Bool}
use Rattle.std.proofs.lemmas.Str.{IsUtf8-from_is_utf8, is_utf8-from_IsUtf8, IsUtf8-from_ascii}
use Rattle.std.specs.Str.{is_utf8}
use Rattle.scroll.proofs.lemmas.NumberLemmas.{begins-length, begins-split, take-same}
use Rattle.scroll.proofs.lemmas.OneAnswer.{one-Ok, one-Err, same-too_big}
use Rattle.scroll.specs.Errors.{IsBadInput}
use Rattle.scroll.specs.Laws.{IsLocal, IsWithin, SameError, AllowsOne}
use Rattle.scroll.specs.declared.error.Error.{Error}
use Rattle.scroll.specs.declared.error.Error.TheVariants.{TooBig, BadOffset, BadInput, Custom, IO, NoMemory}
use Rattle.std.proofs.lemmas.Grind.{common_steps}
use Rattle.std.proofs.lemmas.List.Sums.{position_or_len_is, fails_before_first, passes_at_first, prefix_len_passes, prefix_len_stops}
use Rattle.scroll.specs.CStrings.{IsCString, ReadsCString, RefusesCString}
use Rattle.std.specs.Ffi.{IsNulTerminated}
use Rattle.std.proofs.lemmas.List.Elements.{All-from_get_or, All-head, All-tail}
use Rattle.std.specs.List.{All}
use Rattle.scroll.specs.Bytes.{WritesPrefix}

-- where the first delimiter is, after bytes that are not the delimiter
pub offset-behind : (d : ℕ) (t rest : List ℕ) → All (λ b. b ≢ d) t
    → index_of d (t ++ d ∷ rest) ≡ length t
offset-behind d [] rest h = grind arith
offset-behind d (b ∷ bs) rest h =
    let hb = All-head (λ x. x ≢ d) b bs h in
    let ih = offset-behind d bs rest (All-tail (λ x. x ≢ d) b bs h) in
    grind (arith, ih, hb)

-- in the first k bytes of a list it is the same, or k if it is k or more
pub index_of-take : (d k : ℕ) (s : List ℕ) → index_of d (take k s) ≡ min k (index_of d s)
index_of-take d k s = position_or_len-take (λ b. b == d) k s

pub ruleset index_ofs = (index_of-le, index_of-take)

pub ruleset ascii = (IsUtf8-from_ascii)

-- the index of the first byte of a value in lists with equal prefixes
pub index_of-prefixes : (d n : ℕ) (s t : List ℕ) → take n t ≡ take n s
    → min n (index_of d t) ≡ min n (index_of d s)
index_of-prefixes d n s t e = sym (index_of-take d n t) ∙ ap (index_of d) e ∙ index_of-take d n s

pub local-slice : (c : ℕ) → IsLocal (ReadsSlice c)
local-slice c s t v n r h long e = record {
  room = omega (arith, r.room, long);
  value = r.value ∙ sym (take-same c n s t (omega (arith, r.size)) e);
  size = r.size;
}

-- the bytes within a limit of lists with equal prefixes
within-take : (limit : Option ℕ) (n : ℕ) (s : List ℕ)
    → take n (within limit s) ≡ within limit (take n s)
within-take None n s = refl
within-take (Some k) n s = grind (arith, common_steps)

-- the first stop, and what stands before it, in lists that have the same bytes up to it
stop-same : (d n : ℕ) (s t : List ℕ) → n ≡ length (before (Some d) s) + 1 → take n t ≡ take n s
    → index_of d t ≡ index_of d s
stop-same d n s t size e =
    let long = length-take-le (index_of d s) s (index_of-le d s) in
    let same = index_of-prefixes d n s t e in
    omega (arith, size, long, same)

before-same : (d n : ℕ) (s t : List ℕ) → n ≡ length (before (Some d) s) + 1 → take n t ≡ take n s
    → before (Some d) t ≡ before (Some d) s
before-same d n s t size e =
    let long = length-take-le (index_of d s) s (index_of-le d s) in
    ap (λ k. take k t) (stop-same d n s t size e)
    ∙ take-same (index_of d s) n s t (omega (arith, size, long)) e

-- a source that begins with the same bytes as another, as many as a read takes, has the same text,
-- and the same delimiter
same-text : (ctx : StrCtx) (n : ℕ) (s t : List ℕ) → wanted_len ctx ≤ length s
    → n ≡ length (text_in ctx s) + delimiter_len ctx → length s ≤ length t → take n t ≡ take n s
    → HasDelimiter ctx s → (text_in ctx t ≡ text_in ctx s) × HasDelimiter ctx t
same-text (Delimiter d) n s t room size long e there = (before-same d n s t size e, tt)
same-text (DelimiterUntil d k) n s t room size long e there = (
  before-same d n (take k s) (take k t) size
      (within-take (Some k) n t ∙ ap (take k) e ∙ sym (within-take (Some k) n s)),
  tt,
)
same-text (Length k) n s t room size long e there =
    let is : n ≡ k = size ∙ ap (λ m. m + 0) (length-take-le k s room) ∙ omega arith in
    (ap (λ m. take m t) (sym is) ∙ e ∙ ap (λ m. take m s) is, tt)
same-text (Required d) n s t room size long e there =
    let same = stop-same d n s t size e in
    (before-same d n s t size e, omega (arith, same, long, there))

pub local-text : (ctx : StrCtx) → IsLocal (ReadsText ctx)
local-text ctx s t v n r h long e =
    let size : n ≡ length (text_in ctx s) + delimiter_len ctx =
    r.size ∙ ap (λ text. length text + delimiter_len ctx) r.prefix in
    let same = same-text ctx n s t r.room size long e r.there in
    record {
      room = omega (arith, r.room, long);
      prefix = r.prefix ∙ sym same.0;
      utf8 = r.utf8;
      size = r.size;
      there = same.1;
    }

-- a string of a given length is within its source
pub within-length : (k : ℕ) → IsWithin (ReadsText (Length k))
within-length k s v n r =
    let inside = length-take k s in omega (arith, r.size, ap length r.prefix, inside)

pub same-bad_input : (d : Error) (n : ℕ) (text : List ℕ) → IsBadInput d n text
    → SameError d (BadInput n (record { ref_ptr = (0, 0); now = text }))
same-bad_input (BadInput size msg) n text h = (h.0, h.1)
same-bad_input (TooBig size len) n text h = absurd h
same-bad_input (BadOffset index) n text h = absurd h
same-bad_input (Custom s) n text h = absurd h
same-bad_input (IO fault) n text h = absurd h
same-bad_input NoMemory n text h = absurd h

utf8-cases : (s : List ℕ) → IsUtf8 s ⊎ ¬ (IsUtf8 s)
utf8-cases s = elim (cases_Bool (is_utf8 s)) as (λ _. IsUtf8 s ⊎ ¬ (IsUtf8 s)) [
  | inl holds ↦ inl (IsUtf8-from_is_utf8 s holds)
  | inr fails ↦ inr (λ u. true≢false (sym (is_utf8-from_IsUtf8 s u) ∙ fails))
]

has-cases : (required : Option ℕ) (s : List ℕ)
    → IfSome required (λ d. index_of d s < length s)
    ⊎ ¬ (IfSome required (λ d. index_of d s < length s))
has-cases None s = inl tt
has-cases (Some d) s =
    elim (cases_lt (index_of d s) (length s)) [
      | inl inside ↦ inl inside
      | inr past ↦ inr (λ inside. absurd (omega (arith, inside, past)))
    ]

refuses-long : (ctx : StrCtx) (s : List ℕ) (d : Error) → wanted_len ctx ≤ length s
    → HasDelimiter ctx s → RefusesText ctx s d → RefusesInvalid ctx s d
refuses-long ctx s d long there (inl r) = absurd (omega (arith, long, r.short))
refuses-long ctx s d long there (inr (inl r)) = r
refuses-long ctx s d long there (inr (inr r)) = absurd (r.missing there)

refuses-missing : (ctx : StrCtx) (s : List ℕ) (d : Error) → wanted_len ctx ≤ length s
    → ¬ (HasDelimiter ctx s) → RefusesText ctx s d → RefusesMissing ctx s d
refuses-missing ctx s d long missing (inl r) = absurd (omega (arith, long, r.short))
refuses-missing ctx s d long missing (inr (inl r)) = absurd (missing r.there)
refuses-missing ctx s d long missing (inr (inr r)) = r

refuses-short : (ctx : StrCtx) (s : List ℕ) (d : Error) → length s < wanted_len ctx
    → RefusesText ctx s d → d ≡ TooBig (wanted_len ctx) (length s)
refuses-short ctx s d short (inl r) = r.error
refuses-short ctx s d short (inr (inl r)) = absurd (omega (arith, short, r.room))
refuses-short ctx s d short (inr (inr r)) = absurd (omega (arith, short, r.room))

one-there : (ctx : StrCtx) (s : List ℕ) → wanted_len ctx ≤ length s → HasDelimiter ctx s
    → AllowsOne (ReadsText ctx s) (RefusesText ctx s)
one-there ctx s long there =
    elim (utf8-cases (text_in ctx s))
    as (λ _. AllowsOne (ReadsText ctx s) (RefusesText ctx s)) [
      | inl holds ↦
          one-Ok (ReadsText ctx s) (RefusesText ctx s) (text_in ctx s)
          (length (text_in ctx s) + delimiter_len ctx)
          (record { room = long; prefix = refl; utf8 = holds; size = refl; there = there })
          (λ v m r. (
            r.prefix,
            r.size ∙ ap (λ text. length text + delimiter_len ctx) r.prefix,
          )) (λ e r. (refuses-long ctx s e long there r).invalid holds)
      | inr fails ↦
          one-Err (ReadsText ctx s) (RefusesText ctx s)
          (BadInput (length s) (record { ref_ptr = (0, 0); now = codes "invalid utf8" }))
          (inr (inl (record { room = long; invalid = fails; error = (refl, refl); there = there })))
          (λ v m r. fails (subst IsUtf8 r.prefix r.utf8))
          (λ d r. same-bad_input d (length s) (codes "invalid utf8")
          (refuses-long ctx s d long there r).error)
    ]

one-missing : (ctx : StrCtx) (s : List ℕ) → wanted_len ctx ≤ length s → ¬ (HasDelimiter ctx s)
    → AllowsOne (ReadsText ctx s) (RefusesText ctx s)
one-missing ctx s long missing =
    one-Err (ReadsText ctx s) (RefusesText ctx s)
    (BadInput (length s) (record { ref_ptr = (0, 0); now = codes "missing delimiter" }))
    (inr (inr (record { room = long; missing = missing; error = (refl, refl) })))
    (λ v m r. missing r.there)
    (λ d r. same-bad_input d (length s) (codes "missing delimiter")
    (refuses-missing ctx s d long missing r).error)

pub one-text : (ctx : StrCtx) (s : List ℕ) → AllowsOne (ReadsText ctx s) (RefusesText ctx s)
one-text ctx s =
    elim (cases_lt (length s) (wanted_len ctx))
    as (λ _. AllowsOne (ReadsText ctx s) (RefusesText ctx s)) [
      | inl short ↦
          one-Err (ReadsText ctx s) (RefusesText ctx s) (TooBig (wanted_len ctx) (length s))
          (inl (record { short = short; error = refl }))
          (λ v m r. absurd (omega (arith, short, r.room)))
          (λ d r. same-too_big d (wanted_len ctx) (length s) (refuses-short ctx s d short r))
      | inr long ↦
          elim (has-cases (ending ctx).required s)
          as (λ _. AllowsOne (ReadsText ctx s) (RefusesText ctx s)) [
            | inl there ↦ one-there ctx s long there
            | inr missing ↦ one-missing ctx s long missing
          ]
    ]

-- a string whose delimiter the source must contain is within it
pub within-required : (d : ℕ) → IsWithin (ReadsText (Required d))
within-required d s v n r =
    let text = length-take (index_of d s) s in
    omega (arith, r.there, r.size, ap length r.prefix, text)

-- reads of what begins with a value's bytes
pub begins-slice : (s t : List ℕ) → take (length t) s ≡ t → ReadsSlice (length t) s t (length t)
begins-slice s t e = record { room = begins-length s t e; value = sym e; size = refl }

pub begins-text : (s t : List ℕ) → IsUtf8 t → take (length t) s ≡ t
    → ReadsText (Length (length t)) s t (length t)
begins-text s t u e =
    record { room = begins-length s t e; prefix = sym e; utf8 = u; size = omega arith; there = tt }

-- a prefix that ends before the first such byte doesn't contain one
pub index_of-prefix : (d : ℕ) (s : List ℕ) (n : ℕ) → n ≤ index_of d s → index_of d (take n s) ≡ n
index_of-prefix d s n h =
    let within = index_of-le d s in
    let len : length (take n s) ≡ n = grind (arith, common_steps) in
    position_or_len_is (λ b. b == d) (take n s) n 0 (omega arith)
    (λ k l. let fails = fails_before_first (λ b. b == d) s k 0 (omega arith) in let same : get_or
    (take n s) k 0 ≡ get_or s k 0 = grind (arith, common_steps) in rw same fails)
    (λ l. absurd (omega arith))

-- a prefix that ends with the first such byte contains it there
pub index_of-with : (d : ℕ) (s : List ℕ) → index_of d s < length s
    → index_of d (take (index_of d s + 1) s) ≡ index_of d s
index_of-with d s h =
    let n : ℕ = index_of d s in
    let len : length (take (n + 1) s) ≡ n + 1 = grind (arith, common_steps) in
    position_or_len_is (λ b. b == d) (take (n + 1) s) n 0 (omega arith)
    (λ k l. let fails = fails_before_first (λ b. b == d) s k 0 (omega arith) in let same : get_or
    (take (n + 1) s) k 0 ≡ get_or s k 0 = grind (arith, common_steps) in rw same fails)
    (λ l. let passes = passes_at_first (λ b. b == d) s 0 h in let same : get_or (take (n + 1) s) n 0
    ≡ get_or s n 0 = grind (arith, common_steps) in rw same passes)

-- the bytes up to and including the first zero are a C string
pub IsCString-prefix : (s : List ℕ) → index_of 0 s < length s
    → IsCString (take (index_of 0 s + 1) s)
IsCString-prefix s h =
    let first = index_of-with 0 s h in
    let len : length (take (index_of 0 s + 1) s) ≡ index_of 0 s + 1 = grind (arith, common_steps) in
    omega arith

-- a text without a zero, followed by a zero, is a C string
pub IsCString-push : (text : List ℕ) → index_of 0 text ≡ length text → IsCString (text ++ 0 ∷ [])
IsCString-push text h = grind (arith, common_steps)

-- a C string is its text followed by a zero
pub with_zero_again : (bytes : List ℕ) → IsCString bytes
    → bytes ≡ take (length bytes - 1) bytes ++ 0 ∷ []
with_zero_again bytes h =
    let zero_there = passes_at_first (λ b. b == 0) bytes 0 (omega arith) in
    grind (arith, common_steps)

-- the text of a C string contains no zero
pub text_without_zero : (bytes : List ℕ) → IsCString bytes
    → index_of 0 (take (length bytes - 1) bytes) ≡ length (take (length bytes - 1) bytes)
text_without_zero bytes h =
    let none = index_of-prefix 0 bytes (length bytes - 1) (omega arith) in
    let len : length (take (length bytes - 1) bytes) ≡ length bytes - 1 =
    grind (arith, common_steps) in
    omega arith

not-nul : (b : ℕ) → b ≢ 0 → (b == 0) ≡ false
not-nul b h = grind (arith, h)

is-nul : (b : ℕ) → b ≡ 0 → (b == 0) ≡ true
is-nul b h = grind (arith, h)

fails-zero : (b : ℕ) → (b == 0) ≡ false → b ≢ 0
fails-zero b h = grind (arith, h)

passes-zero : (b : ℕ) → (b == 0) ≡ true → b ≡ 0
passes-zero b h = grind (arith, h)

-- std's is the crate's
pub IsCString-of_std : (bytes : List ℕ) → IsNulTerminated bytes → IsCString bytes
IsCString-of_std bytes h =
    let some = h.nonempty in
    let len : length (take (length bytes - 1) bytes) ≡ length bytes - 1 =
    length-take-le (length bytes - 1) bytes (omega arith) in
    let at : index_of 0 bytes ≡ length bytes - 1 =
    position_or_len_is (λ b. b == 0) bytes (length bytes - 1) 0 (omega arith)
    (λ k l. not-nul (get_or bytes k 0)
    (rw (get_or-take (length bytes - 1) bytes k 0 l) at (h.no_nul k (omega (arith, l, len)))))
    (λ l. is-nul (get_or bytes (length bytes - 1) 0) h.last) in
    omega (arith, at, some)

-- the crate's is std's
pub IsCString-to_std : (bytes : List ℕ) → IsCString bytes → IsNulTerminated bytes
IsCString-to_std bytes h =
    let len : length (take (length bytes - 1) bytes) ≡ length bytes - 1 =
    length-take-le (length bytes - 1) bytes (omega arith) in
    let last : index_of 0 bytes ≡ length bytes - 1 = omega (arith, h) in
    record {
      nonempty = omega (arith, h);
      last =
          rw (← last) (passes-zero (get_or bytes (index_of 0 bytes) 0)
          (passes_at_first (λ b. b == 0) bytes 0 (omega (arith, h))));
      no_nul =
          λ k l. rw (get_or-take (length bytes - 1) bytes k 0 (omega (arith, l, len)))
          (fails-zero (get_or bytes k 0)
          (fails_before_first (λ b. b == 0) bytes k 0 (omega (arith, l, len, last))));
    }

pub local-c_string : IsLocal ReadsCString
local-c_string s t v n r h long e =
    let f = index_of-prefixes 0 n s t e in
    let same : index_of 0 t ≡ index_of 0 s = omega (arith, r.size, f) in
    record {
      found = omega (arith, same, r.found, long);
      value = r.value ∙ sym (take-same (index_of 0 s) n s t (omega (arith, r.size)) e)
          ∙ ap (λ m. take m t) (sym same);
      size = r.size ∙ ap (λ m. m + 1) (sym same);
    }

pub within-c_string : IsWithin ReadsCString
within-c_string s v n r = omega (arith, r.found, r.size)

pub one-c_string : (s : List ℕ) → AllowsOne (ReadsCString s) (RefusesCString s)
one-c_string s =
    let within = index_of-le 0 s in
    elim (cases_lt (index_of 0 s) (length s))
    as (λ _. AllowsOne (ReadsCString s) (RefusesCString s)) [
      | inl found ↦
          one-Ok (ReadsCString s) (RefusesCString s) (take (index_of 0 s) s) (index_of 0 s + 1)
          (record { found = found; value = refl; size = refl })
          (λ v m r. (r.value, r.size)) (λ e r. absurd (omega (arith, found, r.none)))
      | inr none ↦
          one-Err (ReadsCString s) (RefusesCString s)
          (BadInput 0 (record {
            ref_ptr = (0, 0);
            now = codes "The input doesn't contain a null byte";
          }))
          (record { none = omega (arith, within, none); error = (refl, refl) })
          (λ v m r. absurd (omega (arith, none, r.found)))
          (λ d r. same-bad_input d 0 (codes "The input doesn't contain a null byte") r.error)
    ]

pub begins-c_string : (s t : List ℕ) → All (λ b. b ≢ 0) t
    → take (length (t ++ 0 ∷ [])) s ≡ t ++ 0 ∷ [] → ReadsCString s t (length t + 1)
begins-c_string s t h e =
    let long = begins-length s (t ++ 0 ∷ []) e in
    let whole = length-append t (0 ∷ []) in
    let split : s ≡ t ++ 0 ∷ drop (length (t ++ 0 ∷ [])) s =
    begins-split s (t ++ 0 ∷ []) e ∙ append_assoc t (0 ∷ []) (drop (length (t ++ 0 ∷ [])) s) in
    let index : index_of 0 s ≡ length t =
    ap (index_of 0) split ∙ offset-behind 0 t (drop (length (t ++ 0 ∷ [])) s) h in
    let text : take (length t) s ≡ t = ap (take (length t)) split
    ∙ take_at t (0 ∷ drop (length (t ++ 0 ∷ [])) s) (length t) refl in
    record {
      found = omega (arith, long, whole, index);
      value = sym (ap (λ n. take n s) index ∙ text);
      size = omega (arith, index);
    }

not-zero : (b : ℕ) → not (b == 0) ≡ true → b ≢ 0
not-zero b e = λ h. let f : not (b == 0) ≡ false = rw h refl in true≢false (sym e ∙ f)

-- the bytes before the first zero are not zero
before-zero : (s : List ℕ) → All (λ b. b ≢ 0) (take (index_of 0 s) s)
before-zero s = All-from_get_or (λ b. b ≢ 0) (take (index_of 0 s) s) 0 (λ i l.
    let inside : i < index_of 0 s = omega (arith, l, length-take (index_of 0 s) s) in
    let passes = prefix_len_passes (λ b. not (b == 0)) s i 0 inside in
    rw (get_or-take (index_of 0 s) s i 0 inside) (not-zero (get_or s i 0) passes))

is-zero : (b : ℕ) → not (b == 0) ≡ false → b ≡ 0
is-zero b e = grind (arith, e)

-- the bytes that a C string takes: its text, and the zero
pub taken : (s text : List ℕ) (n : ℕ) → ReadsCString s text n → take n s ≡ text ++ 0 ∷ []
taken s text n r =
    let zero : get_or s (index_of 0 s) 0 ≡ 0 =
    is-zero (get_or s (index_of 0 s) 0) (prefix_len_stops (λ b. not (b == 0)) s 0 r.found) in
    ap (λ m. take m s) r.size ∙ take_more s (index_of 0 s) 0 r.found
    ∙ ap (λ b. take (index_of 0 s) s ++ b ∷ []) zero ∙ ap (λ t. t ++ 0 ∷ []) (sym r.value)

-- the text contains no zero
pub no-zero : (s text : List ℕ) (n : ℕ) → ReadsCString s text n → All (λ b. b ≢ 0) text
no-zero s text n r = subst (All (λ b. b ≢ 0)) (sym r.value) (before-zero s)

-- a C string that was read, and written where it fits
pub written-back : (s text old new : List ℕ) (n m : ℕ) → ReadsCString s text n
    → WritesPrefix (length (text ++ 0 ∷ [])) (text ++ 0 ∷ []) old new m
    → (m ≡ n) × (take m new ≡ take n s)
written-back s text old new n m r w =
    let whole = taken s text n r in
    let inside : n ≤ length s = omega (arith, r.found, r.size) in
    let long : length (take n s) ≡ n = length-take-le n s inside in
    let size : m ≡ n = w.size ∙ ap length (sym whole) ∙ long in (
      size,
      ap (λ k. take k new) w.size ∙ ap (take (length (text ++ 0 ∷ []))) w.after
          ∙ take_at (text ++ 0 ∷ []) (drop (length (text ++ 0 ∷ [])) old) (length (text ++ 0 ∷ []))
          refl ∙ sym whole,
    )
