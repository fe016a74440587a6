-- Buffers: lists of reads, bytes that are written one after another, and the bytes of a number.
use Rattle.std.proofs.Common.{◌≡◌, ℕ, ◌+◌, ◌<◌, ◌≤◌, ◌++◌, List, [], ◌∷◌, length, take, drop, get_or, sym, ap, subst, ◌∙◌, arith, append_assoc}
use Rattle.std.proofs.lemmas.Grind.{flat_map-append}
use Rattle.std.proofs.lemmas.List.{append-nil, take-append-drop, drop_at, take_at, take_more, drop-drop, length-append, get_or-take}
use Rattle.std.specs.List.{flat_map}
use Rattle.scroll.specs.Numbers.{number}
use Rattle.scroll.specs.Reads.{ReadsAt, ReadsAll}
use Rattle.scroll.specs.declared.endian.Endian.{Endian}
use Rattle.scroll.specs.lemmas.NumberLemmas.{number-prefix}

-- a list of reads grows by one value
pub ReadsAll-push : {V : Type 0} (reads : List ℕ → V → ℕ → Type 0) (buffer : List ℕ) (from : ℕ)
    (vs : List V) (mid to n : ℕ) (v : V) → ReadsAll reads buffer from vs mid → to ≡ mid + n
    → ReadsAt reads buffer mid v n → ReadsAll reads buffer from (vs ++ v ∷ []) to
ReadsAll-push {V} reads buffer from [] mid to n v h is r = (n, rw (h) at r, rw (h) at is)
ReadsAll-push {V} reads buffer from (w ∷ ws) mid to n v h is r =
    (h.0, h.1, ReadsAll-push reads buffer (from + h.0) ws mid to n v h.2 is r)

-- a buffer that was `first` at the start, with `prefix` over its first `offset` bytes
pub record Begins (offset : ℕ) (prefix first now : List ℕ) : Type 0 where
  pub len : length prefix ≡ offset
  pub is : now ≡ prefix ++ drop offset first

-- bytes that are written after those before
pub grow : {offset w : ℕ} {prefix : List ℕ} (bytes : List ℕ) {first a b : List ℕ}
    → Begins offset prefix first a → length bytes ≡ w → take offset b ≡ take offset a
    → drop offset b ≡ bytes ++ drop w (drop offset a)
    → Begins (offset + w) (prefix ++ bytes) first b
grow {offset} {w} {prefix} bytes {first} {a} {b} h size before after =
    let head : take offset b ≡ prefix =
    rw h.is at before ∙ take_at prefix (drop offset first) offset h.len in
    let rest : drop offset a ≡ drop offset first =
    rw h.is (drop_at prefix (drop offset first) offset h.len) in
    let tail : drop offset b ≡ bytes ++ drop (offset + w) first =
    rw (← drop-drop w offset first) (rw rest at after) in
    record {
      len = omega (arith, h.len, size, length-append prefix bytes);
      is = sym (take-append-drop offset b)
          ∙ rw (head, tail) (sym (append_assoc prefix bytes (drop (offset + w) first)));
    }

-- the first w bytes alone determine the number
pub number-take : (order : Endian) (w n : ℕ) (s : List ℕ) → w ≤ n
    → number order w (take n s) ≡ number order w s
number-take order w n s h =
    number-prefix order w (take n s) s (λ i l. get_or-take n s i 0 (omega (arith, l, h)))

-- values that are written one after another: one more
pub grow-next : {V : Type 0} (bytes : V → List ℕ) (vs : List V) (i : ℕ) (d : V) {offset w : ℕ}
    {first a b : List ℕ} → Begins offset (flat_map bytes (take i vs)) first a → i < length vs
    → length (bytes (get_or vs i d)) ≡ w → take offset b ≡ take offset a
    → drop offset b ≡ bytes (get_or vs i d) ++ drop w (drop offset a)
    → Begins (offset + w) (flat_map bytes (take (i + 1) vs)) first b
grow-next bytes vs i d {offset} {w} {first} {a} {b} h inside size before after =
    let more : flat_map bytes (take (i + 1) vs)
    ≡ flat_map bytes (take i vs) ++ bytes (get_or vs i d) =
    ap (flat_map bytes) (take_more vs i d inside)
    ∙ flat_map-append bytes (take i vs) (get_or vs i d ∷ [])
    ∙ ap (λ l. flat_map bytes (take i vs) ++ l) (append-nil (bytes (get_or vs i d))) in
    subst (λ l. Begins (offset + w) l first b) (sym more)
    (grow (bytes (get_or vs i d)) h size before after)
