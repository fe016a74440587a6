-- Bytes that are read or written between two offsets.
use Rattle.std.proofs.Common.{◌≡◌, ℕ, ◌+◌, ◌≤◌, ◌++◌, List, length, take, drop, refl, sym, ap, ◌∙◌, arith, append_assoc, length-append, length-drop}
use Rattle.std.proofs.lemmas.List.{take-append-drop, length-take-le, take_at, drop_at, drop-drop}
use Rattle.scroll_formats.specs.Spans.{Stands, Puts}

-- the first n bytes at an offset
pub prefix-stands : {t buffer : List ℕ} {a b : ℕ} (n : ℕ) → a ≤ length buffer
    → n ≤ length (drop a buffer) → take n (drop a buffer) ≡ t → b ≡ a + n → Stands t buffer a b
prefix-stands {t} {buffer} {a} {b} n inside room is to =
    let len : length t ≡ n = sym (ap length is) ∙ length-take-le n (drop a buffer) room in
    let rest : drop n (drop a buffer) ≡ drop b buffer =
    drop-drop n a buffer ∙ ap (λ k. drop k buffer) (sym to) in
    record {
      inside = omega (arith, inside, room, to, length-drop a buffer);
      size = omega (arith, len, to);
      is = sym (take-append-drop n (drop a buffer)) ∙ rw (is, rest) refl;
    }

-- what is there up to the end of the bytes, and after it
puts-parts : {t a b : List ℕ} {p q : ℕ} → Puts t a b p q
    → (take q b ≡ take p a ++ t) × (drop q b ≡ drop q a) × (length b ≡ length a)
puts-parts {t} {a} {b} {p} {q} h =
    let first : length (take p a) ≡ p = length-take-le p a (omega (arith, h.inside, h.size)) in
    let prefix : length (take p a ++ t) ≡ q =
    omega (arith, first, h.size, length-append (take p a) t) in
    let split : b ≡ (take p a ++ t) ++ drop q a =
    h.is ∙ sym (append_assoc (take p a) t (drop q a)) in (
      ap (take q) split ∙ take_at (take p a ++ t) (drop q a) q prefix,
      ap (drop q) split ∙ drop_at (take p a ++ t) (drop q a) q prefix,
      omega (
        arith,
        ap length split,
        length-append (take p a ++ t) (drop q a),
        prefix,
        length-drop q a,
        h.inside,
      ),
    )

-- bytes that are written are there
pub puts-stands : {t a b : List ℕ} {p q : ℕ} → Puts t a b p q → Stands t b p q
puts-stands {t} {a} {b} {p} {q} h =
    let parts = puts-parts h in
    let first : length (take p a) ≡ p = length-take-le p a (omega (arith, h.inside, h.size)) in
    record {
      inside = omega (arith, h.inside, parts.2);
      size = h.size;
      is = ap (drop p) h.is ∙ drop_at (take p a) (t ++ drop q a) p first
          ∙ ap (λ s. t ++ s) (sym parts.1);
    }

-- a write of one value by `cwrite_with`
pub puts-at : (t : List ℕ) {old new : List ℕ} {w p : ℕ} → length t ≡ w → p + w ≤ length old
    → take p new ≡ take p old → drop p new ≡ t ++ drop w (drop p old) → Puts t old new p (p + w)
puts-at t {old} {new} {w} {p} len room before after = record {
  inside = room;
  size = omega (arith, len);
  is = sym (take-append-drop p new) ∙ rw (before, after, drop-drop w p old) refl;
}
