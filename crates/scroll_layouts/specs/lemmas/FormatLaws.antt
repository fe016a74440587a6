-- The laws of formats, by recursion: a line or two for each form. They are proved, and promise
-- nothing.
use Rattle.std.proofs.Common.{◌≡◌, ℕ, ◌+◌, ◌-◌, ◌<◌, ◌≤◌, ◌++◌, List, length, ◌∙◌, refl, take, drop, arith, subst, sym, ap, length-drop}
use Rattle.std.proofs.lemmas.List.{length-replicate, length-take-le, take-append-drop, take-take}
use Rattle.std.specs.List.{All}
use Rattle.std.specs.Prelude.{Some, None, replicate}
use Rattle.scroll.specs.Fixed.{SameAt}
use Rattle.scroll.specs.lemmas.FixedLemmas.{both-len, both-back, both-kept, same-first, same-second}
use Rattle.scroll.specs.declared.endian.Endian.{Endian}
use Rattle.scroll_layouts.specs.Formats.{Leaf, Format, run, counted, zeros, last, shape, pair, headed, padded, within, behind, ordered, leaf, choice, when, len, bytes, reads, agrees, exact}
use Rattle.scroll_formats.specs.Zeros.{padding_len}
use Rattle.scroll_layouts.specs.Layouts.{width, laid_bytes}
use Rattle.scroll_layouts.specs.lemmas.LayoutLaws.{layout-len, layout-back, layout-fits, layout-moved, layout-kept}
use Rattle.scroll_layouts.specs.lemmas.Parts.{part-within, slice-agrees, slice-back, bytes-taken, pair-within, first-within, second-within}
use Rattle.scroll_layouts.specs.declared.choice.Choice.TheVariants.{First, Second}

-- a value that was read is within its source
pub inside : {E X : Type 0} (f : Format E X) (order : Endian) (s : List ℕ) (at : ℕ) (x : X)
    → at ≤ length s → reads f order s at x → at + len f x ≤ length s
inside (run gives p) order s at x here h = h.0
inside (counted gives n) order s at x here h = h.0
inside (zeros gives n unique) order s at x here h = h.0
inside (last f get) order s at x here h = inside f order s at (get x) here h
inside (shape f get unique) order s at x here h = inside f order s at (get x) here h
inside (pair f g) order s at x here h =
    pair-within at (len f x.0) (len g x.1) s
    (inside g order s (at + len f x.0) x.1 (inside f order s at x.0 here h.0) h.1)
inside (headed f holds fails next rest) order s at x here h =
    pair-within at (len f x.0) (len (rest (next x.0)) x.1) s
    (inside (rest (next x.0)) order s (at + len f x.0) x.1
    (inside f order s at x.0 here h.0) h.1.1)
inside (padded gives m f) order s at x here h =
    pair-within at (len f x) (padding_len (len f x) m) s h.1.0
inside (within gives n f) order s at x here h = h.0
inside (behind gives n f rest) order s at x here h =
    pair-within at (len f x.0) (len (rest (n - len f x.0)) x.1) s
    (inside (rest (n - len f x.0)) order s (at + len f x.0) x.1
    (inside f order s at x.0 here h.0) h.1.1)
inside (ordered o f) order s at x here h = inside f o s at x here h
inside (leaf l) order s at x here h = l.leaf_inside order s at x here h
inside (choice gives b f g) order s at (First x) here h = inside f order s at x here h.1
inside (choice gives b f g) order s at (Second x) here h = inside g order s at x here h.1
inside (when gives b f) order s at (Some x) here h = inside f order s at x here h.1
inside (when gives b f) order s at None here h = omega (arith, here)

-- a value that was read agrees
pub made-agrees : {E X : Type 0} (f : Format E X) (order : Endian) (s : List ℕ) (at : ℕ) (x : X)
    → All (λ b. b < 256) s → reads f order s at x → agrees f order x
made-agrees (run gives p) order s at x all h = layout-fits p order s at x all h.1
made-agrees (counted gives n) order s at x all h = slice-agrees n s at x h.0 h.1
made-agrees (zeros gives n unique) order s at x all h = tt
made-agrees (last f get) order s at x all h = made-agrees f order s at (get x) all h
made-agrees (shape f get unique) order s at x all h = made-agrees f order s at (get x) all h
made-agrees (pair f g) order s at x all h = (
  made-agrees f order s at x.0 all h.0,
  made-agrees g order s (at + len f x.0) x.1 all h.1,
)
made-agrees (headed f holds fails next rest) order s at x all h = (
  made-agrees f order s at x.0 all h.0,
  (h.1.0, made-agrees (rest (next x.0)) order s (at + len f x.0) x.1 all h.1.1),
)
made-agrees (padded gives m f) order s at x all h = made-agrees f order s at x all h.0
made-agrees (within gives n f) order s at x all h =
    (made-agrees f order s at x all h.1, h.2)
made-agrees (behind gives n f rest) order s at x all h = (
  made-agrees f order s at x.0 all h.0,
  (h.1.0, made-agrees (rest (n - len f x.0)) order s (at + len f x.0) x.1 all h.1.1),
)
made-agrees (ordered o f) order s at x all h = made-agrees f o s at x all h
made-agrees (leaf l) order s at x all h = l.leaf_made order s at x all h
made-agrees (choice gives b f g) order s at (First x) all h =
    (h.0, made-agrees f order s at x all h.1)
made-agrees (choice gives b f g) order s at (Second x) all h =
    (h.0, made-agrees g order s at x all h.1)
made-agrees (when gives b f) order s at (Some x) all h =
    (h.0, made-agrees f order s at x all h.1)
made-agrees (when gives b f) order s at None all h = h

-- a value that agrees has as many bytes as its length says
pub bytes-len : {E X : Type 0} (f : Format E X) (order : Endian) (x : X) → agrees f order x
    → length (bytes f order x) ≡ len f x
bytes-len (run gives p) order x h = layout-len p order x
bytes-len (counted gives n) order x h = sym h
bytes-len (zeros gives n unique) order x h = length-replicate n 0
bytes-len (last f get) order x h = bytes-len f order (get x) h
bytes-len (shape f get unique) order x h = bytes-len f order (get x) h
bytes-len (pair f g) order x h =
    both-len (bytes f order x.0) (bytes g order x.1) (bytes-len f order x.0 h.0)
    (bytes-len g order x.1 h.1)
bytes-len (headed f holds fails next rest) order x h =
    both-len (bytes f order x.0) (bytes (rest (next x.0)) order x.1)
    (bytes-len f order x.0 h.0) (bytes-len (rest (next x.0)) order x.1 h.1.1)
bytes-len (padded gives m f) order x h =
    both-len (bytes f order x) (replicate (padding_len (len f x) m) 0) (bytes-len f order x h)
    (length-replicate (padding_len (len f x) m) 0)
bytes-len (within gives n f) order x h = bytes-len f order x h.0 ∙ h.1
bytes-len (behind gives n f rest) order x h =
    both-len (bytes f order x.0) (bytes (rest (n - len f x.0)) order x.1)
    (bytes-len f order x.0 h.0) (bytes-len (rest (n - len f x.0)) order x.1 h.1.1)
bytes-len (ordered o f) order x h = bytes-len f o x h
bytes-len (leaf l) order x h = l.leaf_bytes-len order x h
bytes-len (choice gives b f g) order (First x) h = bytes-len f order x h.1
bytes-len (choice gives b f g) order (Second x) h = bytes-len g order x h.1
bytes-len (when gives b f) order (Some x) h = bytes-len f order x h.1
bytes-len (when gives b f) order None h = refl

-- zeros that were written are there
abbrev zeros-at : ℕ → List ℕ → ℕ → Type 0
zeros-at n s at = (at + n ≤ length s) × (take n (drop at s) ≡ replicate n 0)

zeros-back : (n : ℕ) (prefix rest : List ℕ)
    → zeros-at n (prefix ++ (replicate n 0 ++ rest)) (length prefix)
zeros-back n prefix rest = (
  part-within n (replicate n 0) prefix rest (length-replicate n 0),
  sym (slice-back n (replicate n 0) prefix rest (sym (length-replicate n 0))),
)

-- what was written reads back, whatever stands before and after it
pub back : {E X : Type 0} (f : Format E X) (order : Endian) (x : X) (prefix rest : List ℕ)
    → agrees f order x → reads f order (prefix ++ (bytes f order x ++ rest)) (length prefix) x
back (run gives p) order x prefix rest h = (
  part-within (width p) (laid_bytes p order x) prefix rest (layout-len p order x),
  layout-back p order x prefix rest h,
)
back (counted gives n) order x prefix rest h =
    (part-within n x prefix rest (sym h), slice-back n x prefix rest h)
back (zeros gives n unique) order x prefix rest h = zeros-back n prefix rest
back (last f get) order x prefix rest h = back f order (get x) prefix rest h
back (shape f get unique) order x prefix rest h = back f order (get x) prefix rest h
back (pair f g) order x prefix rest h =
    both-back (len f x.0) (bytes f order x.0) (bytes g order x.1) prefix rest
    (bytes-len f order x.0 h.0)
    (λ s at. reads f order s at x.0) (λ s at. reads g order s at x.1)
    (λ l t. back f order x.0 l t h.0) (λ l t. back g order x.1 l t h.1)
back (headed f holds fails next others) order x prefix rest h =
    both-back (len f x.0) (bytes f order x.0) (bytes (others (next x.0)) order x.1) prefix rest
    (bytes-len f order x.0 h.0) (λ s at. reads f order s at x.0)
    (λ s at. holds x.0 × reads (others (next x.0)) order s at x.1)
    (λ l t. back f order x.0 l t h.0)
    (λ l t. (h.1.0, back (others (next x.0)) order x.1 l t h.1.1))
back (padded gives m f) order x prefix rest h =
    let n : ℕ = padding_len (len f x) m in
    both-back (len f x) (bytes f order x) (replicate n 0) prefix rest (bytes-len f order x h)
    (λ s at. reads f order s at x) (λ s at. zeros-at n s at)
    (λ l t. back f order x l t h) (λ l t. zeros-back n l t)
back (within gives n f) order x prefix rest h =
    let size = bytes-len f order x h.0 ∙ h.1 in (
      part-within n (bytes f order x) prefix rest size,
      back f order x prefix rest h.0,
      h.1,
    )
back (behind gives n f others) order x prefix rest h =
    both-back (len f x.0) (bytes f order x.0) (bytes (others (n - len f x.0)) order x.1) prefix
    rest (bytes-len f order x.0 h.0) (λ s at. reads f order s at x.0)
    (λ s at. (len f x.0 ≤ n) × reads (others (n - len f x.0)) order s at x.1)
    (λ l t. back f order x.0 l t h.0)
    (λ l t. (h.1.0, back (others (n - len f x.0)) order x.1 l t h.1.1))
back (ordered o f) order x prefix rest h = back f o x prefix rest h
back (leaf l) order x prefix rest h = l.leaf_back order x prefix rest h
back (choice gives b f g) order (First x) prefix rest h =
    (h.0, back f order x prefix rest h.1)
back (choice gives b f g) order (Second x) prefix rest h =
    (h.0, back g order x prefix rest h.1)
back (when gives b f) order (Some x) prefix rest h = (h.0, back f order x prefix rest h.1)
back (when gives b f) order None prefix rest h = h

-- the bytes of a value are those of which it was read
pub kept : {E X : Type 0} (f : Format E X) (order : Endian) (s : List ℕ) (at : ℕ) (x : X)
    → exact f → All (λ b. b < 256) s → reads f order s at x
    → bytes f order x ≡ take (len f x) (drop at s)
kept (run gives p) order s at x e all h = layout-kept p order s at x e all h.0 h.1
kept (counted gives n) order s at x e all h = h.1
kept (zeros gives n unique) order s at x e all h = sym h.1
kept (last f get) order s at x e all h = kept f order s at (get x) e all h
kept (shape f get unique) order s at x e all h = kept f order s at (get x) e all h
kept (pair f g) order s at x e all h =
    both-kept (len f x.0) (len g x.1) s at (kept f order s at x.0 e.0 all h.0)
    (kept g order s (at + len f x.0) x.1 e.1 all h.1)
kept (headed f holds fails next rest) order s at x e all h =
    both-kept (len f x.0) (len (rest (next x.0)) x.1) s at (kept f order s at x.0 e.0 all h.0)
    (kept (rest (next x.0)) order s (at + len f x.0) x.1 (e.1 (next x.0)) all h.1.1)
kept (padded gives m f) order s at x e all h =
    both-kept (len f x) (padding_len (len f x) m) s at (kept f order s at x e all h.0)
    (sym h.1.1)
kept (within gives n f) order s at x e all h =
    kept f order s at x e all h.1 ∙ ap (λ k. take k (drop at s)) h.2
kept (behind gives n f rest) order s at x e all h =
    both-kept (len f x.0) (len (rest (n - len f x.0)) x.1) s at
    (kept f order s at x.0 e.0 all h.0)
    (kept (rest (n - len f x.0)) order s (at + len f x.0) x.1 (e.1 (n - len f x.0)) all h.1.1)
kept (ordered o f) order s at x e all h = kept f o s at x e all h
kept (leaf l) order s at x e all h = l.leaf_kept order s at x all h
kept (choice gives b f g) order s at (First x) e all h = kept f order s at x e.0 all h.1
kept (choice gives b f g) order s at (Second x) e all h = kept g order s at x e.1 all h.1
kept (when gives b f) order s at (Some x) e all h = kept f order s at x e all h.1
kept (when gives b f) order s at None e all h = refl

-- a leaf is read wherever its bytes stand, since it is written back as it was read
leaf-moved : {E X : Type 0} (l : Leaf E X) (order : Endian) (s : List ℕ) (at : ℕ) (t : List ℕ)
    (to : ℕ) (x : X) → All (λ b. b < 256) s → to + l.leaf_len x ≤ length t
    → SameAt (l.leaf_len x) s at t to → l.leaf_reads order s at x → l.leaf_reads order t to x
leaf-moved l order s at t to x all there same h =
    let n : ℕ = l.leaf_len x in
    let rest : List ℕ = drop n (drop to t) in
    let front : length (take to t) ≡ to = length-take-le to t (omega (arith, there)) in
    let here : l.leaf_bytes order x ≡ take n (drop to t) =
    l.leaf_kept order s at x all h ∙ same in
    let whole : take to t ++ (l.leaf_bytes order x ++ rest) ≡ t =
    ap (λ b. take to t ++ (b ++ rest)) here
    ∙ ap (λ b. take to t ++ b) (take-append-drop n (drop to t)) ∙ take-append-drop to t in
    subst (λ k. l.leaf_reads order t k x) front
    (subst (λ b. l.leaf_reads order b (length (take to t)) x) whole
    (l.leaf_back order x (take to t) rest (l.leaf_made order s at x all h)))

-- a value is read wherever its bytes stand
pub moved : {E X : Type 0} (f : Format E X) (order : Endian) (s : List ℕ) (at : ℕ) (t : List ℕ)
    (to : ℕ) (x : X) → All (λ b. b < 256) s → to + len f x ≤ length t
    → SameAt (len f x) s at t to → reads f order s at x → reads f order t to x
moved (run gives p) order s at t to x all there same h =
    (there, layout-moved p order s at t to x same h.1)
moved (counted gives n) order s at t to x all there same h = (there, h.1 ∙ same)
moved (zeros gives n unique) order s at t to x all there same h = (there, sym same ∙ h.1)
moved (last f get) order s at t to x all there same h =
    moved f order s at t to (get x) all there same h
moved (shape f get unique) order s at t to x all there same h =
    moved f order s at t to (get x) all there same h
moved (pair f g) order s at t to x all there same h =
    let a = len f x.0 in let b = len g x.1 in (
      moved f order s at t to x.0 all (first-within to a b t there)
          (same-first a b s at t to same) h.0,
      moved g order s (at + a) t (to + a) x.1 all (second-within to a b t there)
          (same-second a b s at t to same) h.1,
    )
moved (headed f holds fails next rest) order s at t to x all there same h =
    let a = len f x.0 in let b = len (rest (next x.0)) x.1 in (
      moved f order s at t to x.0 all (first-within to a b t there)
          (same-first a b s at t to same) h.0,
      (
        h.1.0,
        moved (rest (next x.0)) order s (at + a) t (to + a) x.1 all
            (second-within to a b t there) (same-second a b s at t to same) h.1.1,
      ),
    )
moved (padded gives m f) order s at t to x all there same h =
    let a = len f x in let b = padding_len (len f x) m in (
      moved f order s at t to x all (first-within to a b t there)
          (same-first a b s at t to same) h.0,
      (second-within to a b t there, sym (same-second a b s at t to same) ∙ h.1.1),
    )
moved (within gives n f) order s at t to x all there same h = (
  there,
  moved f order s at t to x all (omega (arith, there, h.2))
      (subst (λ k. SameAt k s at t to) (sym h.2) same) h.1,
  h.2,
)
moved (behind gives n f rest) order s at t to x all there same h =
    let a = len f x.0 in let b = len (rest (n - len f x.0)) x.1 in (
      moved f order s at t to x.0 all (first-within to a b t there)
          (same-first a b s at t to same) h.0,
      (
        h.1.0,
        moved (rest (n - len f x.0)) order s (at + a) t (to + a) x.1 all
            (second-within to a b t there) (same-second a b s at t to same) h.1.1,
      ),
    )
moved (ordered o f) order s at t to x all there same h = moved f o s at t to x all there same h
moved (leaf l) order s at t to x all there same h =
    leaf-moved l order s at t to x all there same h
moved (choice gives b f g) order s at t to (First x) all there same h =
    (h.0, moved f order s at t to x all there same h.1)
moved (choice gives b f g) order s at t to (Second x) all there same h =
    (h.0, moved g order s at t to x all there same h.1)
moved (when gives b f) order s at t to (Some x) all there same h =
    (h.0, moved f order s at t to x all there same h.1)
moved (when gives b f) order s at t to None all there same h = h

-- a value of `n` bytes is read from these alone
pub alone : {E X : Type 0} (f : Format E X) (order : Endian) (s : List ℕ) (at n : ℕ) (x : X)
    → All (λ b. b < 256) s → at + n ≤ length s → len f x ≡ n → reads f order s at x
    → reads f order (take n (drop at s)) 0 x
alone f order s at n x all room size h =
    let long : length (take n (drop at s)) ≡ n = length-take-le n (drop at s)
    (omega (arith, room, length-drop at s)) in
    moved f order s at (take n (drop at s)) 0 x all (omega (arith, size, long))
    (sym (take-take (len f x) n (drop at s) (omega (arith, size)))) h

-- and one that was read from these alone stands there
pub outer : {E X : Type 0} (f : Format E X) (order : Endian) (s : List ℕ) (at n : ℕ) (x : X)
    → All (λ b. b < 256) s → at + n ≤ length s → len f x ≡ n
    → reads f order (take n (drop at s)) 0 x → reads f order s at x
outer f order s at n x all room size h =
    moved f order (take n (drop at s)) 0 s at x (bytes-taken n at s all)
    (omega (arith, room, size)) (take-take (len f x) n (drop at s) (omega (arith, size))) h
