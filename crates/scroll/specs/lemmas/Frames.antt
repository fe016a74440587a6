-- Sizes, and the bytes that a write leaves unchanged: a read ends at most one byte past the end of
-- its source, a write ends within its target, and the bytes after those that it wrote stay. The
-- implementations cite these lemmas for the laws of their traits. They are proved, and promise
-- nothing.
use Rattle.std.proofs.Common.{ℕ, ◌+◌, ◌≤◌, ◌==◌, not, List, [], ◌∷◌, length, drop, arith, length-drop, ◌≡◌, ℤ, max, ◌*◌, ◌-◌, ◌/◌, ◌%◌, ◌^◌, ◌++◌, take, length-take, refl, sym, ap, ◌∙◌, Option, None, Some, option_to_list}
use Rattle.std.proofs.lemmas.List.Sums.{prefix_len-le-length}
use Rattle.scroll.specs.Arrays.{ReadsArray, WritesAll, WritesArray, OverwritesAll, FillsArray}
use Rattle.scroll.specs.CStrings.{ReadsCString}
use Rattle.scroll.specs.Reads.{IsBounded, ReadsAll}
use Rattle.scroll.specs.Texts.{index_of, ReadsText, text_in, ending, within, before}
use Rattle.scroll.specs.declared.ctx.str_ctx.StrCtx.{StrCtx}
use Rattle.std.proofs.Math.Nat.{mul-suc}
use Rattle.std.proofs.lemmas.Grind.{common_steps}
use Rattle.std.proofs.lemmas.List.{drop-drop, take_at}
use Rattle.std.proofs.lemmas.List.FromFn.{length-map-range_with_len}
use Rattle.scroll.specs.Bytes.{WritesPrefix}
use Rattle.scroll.specs.Numbers.{number_bytes, signed_bytes}
use Rattle.scroll.specs.Encoding.{encoded_byte, encoding}
use Rattle.scroll.specs.declared.endian.Endian.{Endian}
use Rattle.scroll.specs.declared.endian.Endian.TheVariants.{Little, Big}

-- the index of the first byte of a value is at most the length
pub index_of-le : (d : ℕ) (s : List ℕ) → index_of d s ≤ length s
index_of-le d s = prefix_len-le-length (λ b. not (b == d)) s

-- a text is at most as long as its source
within-le : (limit : Option ℕ) (s : List ℕ) → length (within limit s) ≤ length s
within-le None s = omega arith
within-le (Some n) s = omega (arith, length-take n s)

before-le : (stop : Option ℕ) (s : List ℕ) → length (before stop s) ≤ length s
before-le None s = omega arith
before-le (Some d) s = omega (arith, length-take (index_of d s) s)

text_in-le : (ctx : StrCtx) (s : List ℕ) → length (text_in ctx s) ≤ length s
text_in-le ctx s =
    let inner = within-le (ending ctx).limit s in
    let text = before-le (ending ctx).stop (within (ending ctx).limit s) in
    omega (arith, inner, text)

stop-le : (stop : Option ℕ) → length (option_to_list stop) ≤ 1
stop-le None = omega arith
stop-le (Some d) = omega arith

-- the size of a text is at most one more than the length of the source
pub ReadsText-bounded : (ctx : StrCtx) → IsBounded (ReadsText ctx)
ReadsText-bounded ctx source text n h =
    let inside = text_in-le ctx source in
    let stop = stop-le (ending ctx).stop in
    omega (arith, h.size, inside, stop, ap length h.prefix)

-- so is the size of a C string
pub ReadsCString-bounded : IsBounded ReadsCString
ReadsCString-bounded source text n h = omega (arith, h.found, h.size)

-- reads one after another end at most one byte past the end
ReadsAll-bounded : {V : Type 0} (reads : List ℕ → V → ℕ → Type 0) → IsBounded reads
    → (s : List ℕ) (from : ℕ) (vs : List V) (to : ℕ) → from ≤ length s + 1
    → ReadsAll reads s from vs to → to ≤ length s + 1
ReadsAll-bounded reads bound s from [] to le h = omega (arith, le, h)
ReadsAll-bounded reads bound s from (v ∷ vs) to le h =
    let size = bound (drop from s) v h.0 h.1.value in
    let left = length-drop from s in
    ReadsAll-bounded reads bound s (from + h.0) vs to (omega (arith, size, left, h.1.inside)) h.2

pub ReadsArray-bounded : {V : Type 0} (reads : List ℕ → V → ℕ → Type 0) → IsBounded reads
    → (count : ℕ) → IsBounded (ReadsArray reads count)
ReadsArray-bounded reads bound count s vs n h =
    ReadsAll-bounded reads bound s 0 vs n (omega arith) h.each

-- writes one after another end within the target
WritesAll-bounded : {V : Type 0} (writes : V → List ℕ → List ℕ → ℕ → Type 0)
    → ((x : V) (old new : List ℕ) (n : ℕ) → writes x old new n → n ≤ length old)
    → (old : List ℕ) (from : ℕ) (vs : List V) (new : List ℕ) (to : ℕ) → from ≤ length old
    → WritesAll writes old from vs new to → to ≤ length old
WritesAll-bounded writes bound old from [] new to le h = omega (arith, le, h.1)
WritesAll-bounded writes bound old from (v ∷ vs) new to le h =
    let size = bound v (drop from old) (drop from h.0) h.1 h.2.after in
    let left = length-drop from old in
    let len = h.2.len in
    let rest = WritesAll-bounded writes bound h.0 (from + h.1) vs new to
    (omega (arith, size, left, len, le)) h.3 in
    omega (arith, rest, len)

pub WritesArray-bounded : {V : Type 0} (writes : V → List ℕ → List ℕ → ℕ → Type 0)
    → ((x : V) (old new : List ℕ) (n : ℕ) → writes x old new n → n ≤ length old)
    → (vs : List V) (old new : List ℕ) (n : ℕ) → WritesArray writes vs old new n → n ≤ length old
WritesArray-bounded writes bound vs old new n h =
    WritesAll-bounded writes bound old 0 vs new n (omega arith) h

-- there are `w` bytes
pub length-number_bytes : (order : Endian) (w x : ℕ) → length (number_bytes order w x) ≡ w
length-number_bytes Little w x = length-map-range_with_len (λ i. x / 256 ^ i % 256) 0 w
length-number_bytes Big w x = length-map-range_with_len (λ i. x / 256 ^ (w - 1 - i) % 256) 0 w

pub length-signed_bytes : (order : Endian) (w : ℕ) (x : ℤ) → length (signed_bytes order w x) ≡ w
length-signed_bytes order w x = length-number_bytes order w _

-- bytes that are written at the start leave the bytes after them unchanged
pub drop-prefix : (w : ℕ) (bytes old new : List ℕ) → length bytes ≡ w → new ≡ bytes ++ drop w old
    → drop w new ≡ drop w old
drop-prefix w bytes old new len is = grind (arith, common_steps)

-- so does a write of them
pub drop-written : {w : ℕ} {bytes old new : List ℕ} {n : ℕ} → length bytes ≡ w
    → WritesPrefix w bytes old new n → drop n new ≡ drop n old
drop-written {w} {bytes} {old} {new} len h = rw h.size (drop-prefix w bytes old new len h.after)

pub WritesPrefix-keeps : (bytes old new : List ℕ) (n : ℕ)
    → WritesPrefix (length bytes) bytes old new n → drop n new ≡ drop n old
WritesPrefix-keeps bytes old new n h = drop-written refl h

-- bytes that read as a value, whatever follows them, do so where they were written
pub WritesPrefix-back : {V : Type 0} (reads : List ℕ → V → ℕ → Type 0) (v : V)
    (bytes old new rest : List ℕ) (n : ℕ) → reads (bytes ++ rest) v (length bytes)
    → WritesPrefix (length bytes) bytes old new n → reads (take n new ++ rest) v n
WritesPrefix-back reads v bytes old new rest n back h =
    rw (h.after, h.size, take_at bytes (drop (length bytes) old) (length bytes) refl) back

-- lists that are equal from an index on are equal from every later index on
pub drop-same : {X : Type 0} (n k : ℕ) (xs ys : List X) → n ≤ k → drop n xs ≡ drop n ys
    → drop k xs ≡ drop k ys
drop-same n k xs ys le e =
    let at : n + (k - n) ≡ k = omega (arith, le) in
    rw (← at, ← drop-drop (k - n) n xs, ← drop-drop (k - n) n ys, e) refl

-- writes one after another leave the bytes after the last of them unchanged
WritesAll-keeps : {V : Type 0} (writes : V → List ℕ → List ℕ → ℕ → Type 0)
    → ((x : V) (old new : List ℕ) (n : ℕ) → writes x old new n → drop n new ≡ drop n old)
    → (old : List ℕ) (from : ℕ) (vs : List V) (new : List ℕ) (to : ℕ)
    → WritesAll writes old from vs new to → (from ≤ to) × (drop to new ≡ drop to old)
WritesAll-keeps writes keeps old from [] new to h = (omega (arith, h.1), ap (drop to) h.0)
WritesAll-keeps writes keeps old from (v ∷ vs) new to h =
    let first = keeps v (drop from old) (drop from h.0) h.1 h.2.after in
    let here : drop (from + h.1) h.0 ≡ drop (from + h.1) old =
    sym (drop-drop h.1 from h.0) ∙ first ∙ drop-drop h.1 from old in
    let rest = WritesAll-keeps writes keeps h.0 (from + h.1) vs new to h.3 in
    (omega (arith, rest.0), rest.1 ∙ drop-same (from + h.1) to h.0 old rest.0 here)

pub WritesArray-keeps : {V : Type 0} (writes : V → List ℕ → List ℕ → ℕ → Type 0)
    → ((x : V) (old new : List ℕ) (n : ℕ) → writes x old new n → drop n new ≡ drop n old)
    → (vs : List V) (old new : List ℕ) (n : ℕ) → WritesArray writes vs old new n
    → drop n new ≡ drop n old
WritesArray-keeps writes keeps vs old new n h = (WritesAll-keeps writes keeps old 0 vs new n h).1

-- an encoding in `n` bytes has `n` bytes
pub length-encoding : (v n : ℕ) → length (encoding v n) ≡ n
length-encoding v n = length-map-range_with_len (encoded_byte v n) 0 n

-- values that are put one after another leave the bytes after the last of them unchanged
OverwritesAll-keeps : {V : Type 0} (width need : ℕ) (overwrites : V → List ℕ → List ℕ → Type 0)
    → ((x : V) (old new : List ℕ) → overwrites x old new → drop need new ≡ drop need old)
    → (end : ℕ) (old : List ℕ) (from : ℕ) (vs : List V) (new : List ℕ)
    → from + max width need * length vs ≤ end → OverwritesAll width overwrites old from vs new
    → drop end new ≡ drop end old
OverwritesAll-keeps width need overwrites keeps end old from [] new le h = ap (drop end) h
OverwritesAll-keeps width need overwrites keeps end old from (v ∷ vs) new le h =
    let more : max width need * length (v ∷ vs) ≡ max width need + max width need * length vs =
    mul-suc (max width need) (length vs) ∙ omega arith in
    let first = keeps v (drop from old) (drop from h.0) h.1.after in
    let here : drop (from + need) h.0 ≡ drop (from + need) old =
    sym (drop-drop need from h.0) ∙ first ∙ drop-drop need from old in
    OverwritesAll-keeps width need overwrites keeps end h.0 (from + width) vs new
    (omega (arith, le, more)) h.2
    ∙ drop-same (from + need) end h.0 old (omega (arith, le, more)) here

pub FillsArray-keeps : {V : Type 0} (width need : ℕ) (overwrites : V → List ℕ → List ℕ → Type 0)
    → ((x : V) (old new : List ℕ) → overwrites x old new → drop need new ≡ drop need old)
    → (count : ℕ) (vs : List V) (old new : List ℕ) → FillsArray width overwrites count vs old new
    → drop (max width need * count) new ≡ drop (max width need * count) old
FillsArray-keeps width need overwrites keeps count vs old new h =
    OverwritesAll-keeps width need overwrites keeps (max width need * count) old 0 vs new
    (rw h.len (omega arith)) h.each

-- the first `n` bytes of a slice, or all of a shorter one
pub slice-keeps : (n : ℕ) (slice old new : List ℕ)
    → new ≡ take n slice ++ drop (length (take n slice)) old → drop n new ≡ drop n old
slice-keeps n slice old new is =
    drop-same (length (take n slice)) n new old (omega (arith, length-take n slice))
    (drop-prefix (length (take n slice)) (take n slice) old new refl is)
