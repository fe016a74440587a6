-- The laws of layouts, by recursion: a line for each form. They are proved, and promise nothing.
use Rattle.std.proofs.Common.{◌≡◌, ℕ, ◌+◌, ◌*◌, ◌<◌, ◌≤◌, ◌++◌, ◌^◌, List, length, take, drop, subst, sym, arith, ◌∙◌}
use Rattle.std.proofs.lemmas.List.{same_lists}
use Rattle.std.specs.List.{All, flat_map}
use Rattle.std.specs.Prelude.{slice_index_or}
use Rattle.scroll.specs.Fixed.{SameAt}
use Rattle.scroll.specs.Numbers.{float_width}
use Rattle.scroll.specs.lemmas.FixedLemmas.{both-len, both-back, both-kept, number-back-at, number-kept, number-bound, number-local, signed-back-at, signed-fits, signed-kept, signed-local, float-back-at, float-fits, float-local, array-back, array-fits, array-kept-at, array-local, length-exactly, same-first, same-second}
use Rattle.scroll.specs.lemmas.Frames.{length-number_bytes, length-signed_bytes}
use Rattle.scroll.specs.lemmas.NumberLemmas.{bytes-fit}
use Rattle.scroll.specs.declared.endian.Endian.{Endian}
use Rattle.scroll_layouts.specs.lemmas.EqualLemmas.{pair-is}
use Rattle.scroll_layouts.specs.Layouts.{Layout, unsigned, signed, floating, array, both, shaped, width, laid_bytes, makes, fits, exact_layout, same_fields}

-- there are as many bytes as the width says
pub layout-len : {X : Type 0} (p : Layout X) (order : Endian) (x : X)
    → length (laid_bytes p order x) ≡ width p
layout-len (unsigned w) order x = length-number_bytes order w x
layout-len (signed w) order x = length-signed_bytes order w x
layout-len (floating form) order x = length-number_bytes order (float_width form) _
layout-len (array n p) order xs =
    length-exactly (width p * n) (flat_map (laid_bytes p order) xs)
layout-len (both p q) order x =
    both-len (laid_bytes p order x.0) (laid_bytes q order x.1) (layout-len p order x.0)
    (layout-len q order x.1)
layout-len (shaped p get unique) order x = layout-len p order (get x)

-- what was written reads back, whatever stands before and after it
pub layout-back : {X : Type 0} (p : Layout X) (order : Endian) (x : X) (prefix rest : List ℕ)
    → fits p x → makes p order (prefix ++ (laid_bytes p order x ++ rest)) (length prefix) x
layout-back (unsigned w) order x prefix rest h = number-back-at order w x prefix rest h
layout-back (signed w) order x prefix rest h = signed-back-at order w x prefix rest h
layout-back (floating form) order x prefix rest h = float-back-at form order x prefix rest h
layout-back (array n p) order xs prefix rest h =
    array-back (width p) n (laid_bytes p order) (makes p order) (fits p) (layout-len p order)
    (λ x l t k. layout-back p order x l t k) xs prefix rest h.0 h.1
layout-back (both p q) order x prefix rest h =
    both-back (width p) (laid_bytes p order x.0) (laid_bytes q order x.1) prefix rest
    (layout-len p order x.0)
    (λ s at. makes p order s at x.0) (λ s at. makes q order s at x.1)
    (λ l t. layout-back p order x.0 l t h.0) (λ l t. layout-back q order x.1 l t h.1)
layout-back (shaped p get unique) order x prefix rest h =
    layout-back p order (get x) prefix rest h

-- each value that bytes make fits
pub layout-fits : {X : Type 0} (p : Layout X) (order : Endian) (s : List ℕ) (at : ℕ) (x : X)
    → All (λ b. b < 256) s → makes p order s at x → fits p x
layout-fits (unsigned w) order s at x all h =
    subst (λ y. y < 256 ^ w) (sym h) (number-bound order w at s (bytes-fit s all))
layout-fits (signed w) order s at x all h = signed-fits order w s at x all h
layout-fits (floating form) order s at x all h = float-fits form order s at x h
layout-fits (array n p) order s at xs all h =
    array-fits (width p) n (makes p order) (fits p) (layout-fits p order) s at xs all h
layout-fits (both p q) order s at x all h =
    (layout-fits p order s at x.0 all h.0, layout-fits q order s (at + width p) x.1 all h.1)
layout-fits (shaped p get unique) order s at x all h = layout-fits p order s at (get x) all h

-- the value depends on its own bytes alone, wherever they are
pub layout-moved : {X : Type 0} (p : Layout X) (order : Endian) (s : List ℕ) (at : ℕ)
    (t : List ℕ) (to : ℕ) (x : X) → SameAt (width p) s at t to → makes p order s at x
    → makes p order t to x
layout-moved (unsigned w) order s at t to x same h = number-local order w s at t to x same h
layout-moved (signed w) order s at t to x same h = signed-local order w s at t to x same h
layout-moved (floating form) order s at t to x same h =
    float-local form order s at t to x same h
layout-moved (array n p) order s at t to xs same h =
    array-local (width p) n (makes p order) (layout-moved p order) s at t to xs same h
layout-moved (both p q) order s at t to x same h = (
  layout-moved p order s at t to x.0 (same-first (width p) (width q) s at t to same) h.0,
  layout-moved q order s (at + width p) t (to + width p) x.1
      (same-second (width p) (width q) s at t to same) h.1,
)
layout-moved (shaped p get unique) order s at t to x same h =
    layout-moved p order s at t to (get x) same h

-- the bytes of a value are those of which it was made
pub layout-kept : {X : Type 0} (p : Layout X) (order : Endian) (s : List ℕ) (at : ℕ) (x : X)
    → exact_layout p → All (λ b. b < 256) s → at + width p ≤ length s → makes p order s at x
    → laid_bytes p order x ≡ take (width p) (drop at s)
layout-kept (unsigned w) order s at x exact all room h = number-kept order w s at x all room h
layout-kept (signed w) order s at x exact all room h = signed-kept order w s at x all room h
layout-kept (floating form) order s at x exact all room h = absurd exact
layout-kept (array n p) order s at xs exact all room h =
    array-kept-at (width p) n (laid_bytes p order) (makes p order) (layout-len p order)
    (λ s at x. layout-kept p order s at x exact) s at xs all room h
layout-kept (both p q) order s at x exact all room h =
    both-kept (width p) (width q) s at
    (layout-kept p order s at x.0 exact.0 all (omega (arith, room)) h.0)
    (layout-kept q order s (at + width p) x.1 exact.1 all (omega (arith, room)) h.1)
layout-kept (shaped p get unique) order s at x exact all room h =
    layout-kept p order s at (get x) exact all room h

-- values whose fields are the same are equal
pub fields-is : {X : Type 0} (p : Layout X) (x y : X) → same_fields p x y → x ≡ y
fields-is (unsigned w) x y h = h
fields-is (signed w) x y h = h
fields-is (floating form) x y h = h
fields-is (array n p) xs ys h = h
fields-is (both p q) x y h = pair-is x y (fields-is p x.0 y.0 h.0) (fields-is q x.1 y.1 h.1)
fields-is (shaped p get unique) x y h = unique x y (fields-is p (get x) (get y) h)

-- bytes make one value
pub layout-one : {X : Type 0} (p : Layout X) (order : Endian) (s : List ℕ) (at : ℕ) (x y : X)
    → makes p order s at x → makes p order s at y → same_fields p x y
layout-one (unsigned w) order s at x y h k = h ∙ sym k
layout-one (signed w) order s at x y h k = h ∙ sym k
layout-one (floating form) order s at x y h k = h ∙ sym k
layout-one (array n p) order s at xs ys h k =
    same_lists xs ys (h.len ∙ sym k.len) (λ i d l.
    let inside : i < n = omega (arith, l, h.len) in
    fields-is p (slice_index_or xs i d) (slice_index_or ys i d)
    (layout-one p order (drop (width p * i) (drop at s)) 0 (slice_index_or xs i d)
    (slice_index_or ys i d) (h.each i d inside) (k.each i d inside)))
layout-one (both p q) order s at x y h k = (
  layout-one p order s at x.0 y.0 h.0 k.0,
  layout-one q order s (at + width p) x.1 y.1 h.1 k.1,
)
layout-one (shaped p get unique) order s at x y h k =
    layout-one p order s at (get x) (get y) h k
