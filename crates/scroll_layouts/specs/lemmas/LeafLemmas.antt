-- What the leaves cite for their laws. The lemmas are proved, and promise nothing.
use Rattle.std.proofs.Common.{◌≡◌, ◌≢◌, ℕ, ◌+◌, ◌<◌, ◌≤◌, ◌++◌, ◌==◌, true, false, List, [], ◌∷◌, length, take, drop, get_or, sym, ap, subst, ◌∙◌, inl, inr, IsUtf8, arith, length-append, append_assoc}
use Rattle.std.proofs.lemmas.List.{length-take-le, get_or-take, take_at, take_more, drop-drop, take-append-drop}
use Rattle.std.proofs.lemmas.List.Elements.{All-from_get_or}
use Rattle.std.proofs.lemmas.List.Sums.{fails_before_first, passes_at_first, position_or_len_is}
use Rattle.std.proofs.Math.Seq.{drop-append_seam}
use Rattle.std.specs.List.{All}
use Rattle.std.specs.Prelude.{slice_index, replicate, ◌-◌, ℤ, pos, negsuc}
use Rattle.scroll.specs.CStrings.{ReadsCString}
use Rattle.scroll.specs.Leb128.{ReadsLeb, RefusesLeb}
use Rattle.scroll.specs.Texts.{index_of, ReadsText, RefusesText}
use Rattle.scroll.specs.declared.ctx.str_ctx.StrCtx.{StrCtx}
use Rattle.scroll.specs.declared.error.Error.{Error}
use Rattle.scroll.specs.lemmas.Frames.{length-encoding}
use Rattle.scroll_formats.specs.Zeros.{RefusesZeros, padding_len}
use Rattle.scroll_layouts.specs.Varints.{zigzag}

-- a byte that a search for `d` passes is another one
other-byte : (b d : ℕ) → (b == d) ≡ false → b ≢ d
other-byte b d e h = grind (arith, h, e)

same-byte : (b d : ℕ) → (b == d) ≡ true → b ≡ d
same-byte b d e = grind (arith, e)

-- a text in which `d` isn't found doesn't have it
pub delimited : (d : ℕ) (text : List ℕ) → index_of d text ≡ length text → (i : ℕ)
    → i < length text → slice_index text i ≢ d
delimited d text h i l = other-byte (get_or text i 0) d
    (fails_before_first (λ b. b == d) text i 0 (omega (arith, h, l)))

pub without : (d : ℕ) (text : List ℕ) → index_of d text ≡ length text → All (λ b. b ≢ d) text
without d text h = All-from_get_or (λ b. b ≢ d) text 0 (delimited d text h)

-- the text before the first `d` doesn't have it
pub without-before : (d : ℕ) (s text : List ℕ) → index_of d s ≤ length s
    → text ≡ take (index_of d s) s → index_of d text ≡ length text
without-before d s text le is =
    let n : ℕ = index_of d s in
    let long : length (take n s) ≡ n = length-take-le n s le in
    let found : index_of d (take n s) ≡ n =
    position_or_len_is (λ b. b == d) (take n s) n 0 (omega (arith, long))
    (λ k l. rw (get_or-take n s k 0 l) (fails_before_first (λ b. b == d) s k 0 l))
    (λ l. absurd (omega (arith, l, long))) in
    omega (arith, ap (index_of d) is, found, ap length is, long)

-- the bytes of a C string are its text and a zero
pub zero-there : (s text : List ℕ) (n : ℕ) → ReadsCString s text n → take n s ≡ text ++ 0 ∷ []
zero-there s text n r =
    let zero : get_or s (index_of 0 s) 0 ≡ 0 =
    same-byte (get_or s (index_of 0 s) 0) 0 (passes_at_first (λ b. b == 0) s 0 r.found) in
    ap (λ m. take m s) r.size ∙ take_more s (index_of 0 s) 0 r.found
    ∙ ap (λ b. take (index_of 0 s) s ++ b ∷ []) zero ∙ ap (λ t. t ++ 0 ∷ []) (sym r.value)

pub ruleset leb_sizes = (length-encoding)

-- what is said of the zeros that stand where a value ends is said of those behind its length
gap-moved : (P : ℕ → ℕ → Type 0) (m at l end n : ℕ) → end ≡ at + l → n ≡ padding_len (end - at) m
    → P n end → P (padding_len l m) (at + l)
gap-moved P m at l end n is gap h =
    let size : end - at ≡ l = omega (arith, is) in
    subst (P (padding_len l m)) is (subst (λ k. P (padding_len k m) end) size
    (subst (λ k. P k end) gap h))

pub gap-refused : {E : Type 0} (gives : Error → E → Type 0) (m at l end n : ℕ) (s : List ℕ) (e : E)
    → end ≡ at + l → n ≡ padding_len (end - at) m
    → ((inner : Error) × RefusesZeros n (drop end s) inner × gives inner e)
    → (inner : Error) × RefusesZeros (padding_len l m) (drop (at + l) s) inner × gives inner e
gap-refused gives m at l end n s e is gap h =
    gap-moved (λ k o. (inner : Error) × RefusesZeros k (drop o s) inner × gives inner e)
    m at l end n is gap h

pub gap-read : (m at l end n : ℕ) (s : List ℕ) → end ≡ at + l → n ≡ padding_len (end - at) m
    → (end + n ≤ length s) × (take n (drop end s) ≡ replicate n 0)
    → (at + l + padding_len l m ≤ length s)
    × (take (padding_len l m) (drop (at + l) s) ≡ replicate (padding_len l m) 0)
gap-read m at l end n s is gap h =
    gap-moved (λ k o. (o + k ≤ length s) × (take k (drop o s) ≡ replicate k 0))
    m at l end n is gap h

pub gap-moves : (m at l end n next : ℕ) → end ≡ at + l → n ≡ padding_len (end - at) m
    → next ≡ end + n → next ≡ at + (l + padding_len l m)
gap-moves m at l end n next is gap h =
    let behind : next ≡ at + l + padding_len l m =
    gap-moved (λ k o. next ≡ o + k) m at l end n is gap h in omega (arith, behind)

-- bytes are written, and others behind them
pub gap-put : (b z old mid new : List ℕ) (size : ℕ) → size ≡ length b
    → mid ≡ b ++ drop (length b) old → take size new ≡ take size mid
    → drop size new ≡ z ++ drop (length z) (drop size mid)
    → new ≡ (b ++ z) ++ drop (length (b ++ z)) old
gap-put b z old mid new size is written before after =
    let front : take size mid ≡ b =
    ap (take size) written ∙ take_at b (drop (length b) old) size (sym is) in
    let behind : drop size mid ≡ drop (length b) old =
    ap (drop size) written ∙ ap (λ k. drop k (b ++ drop (length b) old)) is
    ∙ drop-append_seam b (drop (length b) old) in
    let rest : drop (length z) (drop size mid) ≡ drop (length (b ++ z)) old =
    ap (drop (length z)) behind ∙ drop-drop (length z) (length b) old
    ∙ ap (λ k. drop k old) (sym (length-append b z)) in
    sym (take-append-drop size new) ∙ ap (λ k. k ++ drop size new) (before ∙ front)
    ∙ ap (λ k. b ++ k) (after ∙ ap (λ k. z ++ k) rest)
    ∙ sym (append_assoc b z (drop (length (b ++ z)) old))

pub ruleset gaps = (gap-refused, gap-read, gap-moves)

-- a number in LEB128 isn't read and refused
pub leb-clash : {V : Type 0} (value_of : List ℕ → V) (Fits : V → Type 0) (s : List ℕ) (x : V)
    (n : ℕ) (e : Error) → ReadsLeb value_of Fits s x n → RefusesLeb value_of Fits s e → ⊥
leb-clash value_of Fits s x n e h (inl r) = omega (arith, h.complete.0, r.cut.0)
leb-clash value_of Fits s x n e h (inr r) = r.unfit h.complete h.fits

-- nor is a text
pub text-clash : (ctx : StrCtx) (s text : List ℕ) (n : ℕ) (e : Error) → ReadsText ctx s text n
    → RefusesText ctx s e → ⊥
text-clash ctx s text n e h (inl r) = omega (arith, h.room, r.short)
text-clash ctx s text n e h (inr (inl r)) = r.invalid (subst IsUtf8 h.prefix h.utf8)
text-clash ctx s text n e h (inr (inr r)) = r.missing h.there

-- two numbers that are one in zigzag are one
pub zigzag-one : (v w : ℤ) → zigzag v ≡ zigzag w → v ≡ w
zigzag-one (pos v) (pos w) h = ap pos (omega (arith, h))
zigzag-one (pos v) (negsuc w) h = absurd (omega (arith, h))
zigzag-one (negsuc v) (pos w) h = absurd (omega (arith, h))
zigzag-one (negsuc v) (negsuc w) h = ap negsuc (omega (arith, h))
