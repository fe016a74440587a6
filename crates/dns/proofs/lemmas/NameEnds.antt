-- What ends a name, by how many bytes it has.
use Rattle.std.proofs.Common.{◌≡◌, ◌+◌, ◌-◌, ◌*◌, ◌<◌, ◌≤◌, ◌∙◌, ℕ, List, [], ◌∷◌, length, drop, get_or, ap, sym, arith, length-drop}
use Rattle.std.proofs.lemmas.Bool.{eqb-true, ltb-true}
use Rattle.std.proofs.lemmas.List.{get_or-drop}
use Rattle.std.specs.Prelude.{Bool, true, false, nat_eq, nat_lt, Some, None}
use Rattle.scroll.specs.Numbers.{number}
use Rattle.scroll.specs.declared.endian.Endian.{Endian}
use Rattle.scroll.specs.declared.endian.Endian.TheVariants.{Big}
use Rattle.scroll.specs.declared.error.Error.{Error}
use Rattle.scroll_layouts.specs.Formats.{Format}
use Rattle.scroll_layouts.specs.ListEnds.{name_mark}
use Rattle.scroll_layouts.specs.MarkSizes.{ended, name_size}
use Rattle.dns.proofs.lemmas.Walks.{Left}
use Rattle.dns.specs.Messages.{EndsWithZero, PointsTo}
use Rattle.dns.specs.declared.message.Label.{Label}

-- one byte is zero
one : (p : Bool) (n : ℕ) → ended p false ≡ Some n → p ≡ true
one true n h = cc
one false n h = absurd (cc)

-- two bytes are a pointer
two : (p q : Bool) (n : ℕ) → ended p q ≡ Some n → 2 ≤ n → (n ≡ 2) × (q ≡ true)
two true q n h le = let is : n ≡ 1 = cc in absurd (omega (arith, is, le))
two false true n h le = (cc, cc)
two false false n h le = absurd (cc)

pub zero-end : (s : List ℕ) → name_size s ≡ Some (length s) → length s < 2
    → (length s ≡ 1) × (get_or s 0 0 ≡ 0)
zero-end [] h few = absurd (cc)
zero-end (b ∷ []) h few = (omega arith, eqb-true b 0 (one (nat_eq b 0) 1 h))
zero-end (b ∷ c ∷ s) h few = absurd (omega (arith, few))

pub pointer-end : (s : List ℕ) → name_size s ≡ Some (length s) → 2 ≤ length s
    → (length s ≡ 2) × (191 < get_or s 0 0)
pointer-end [] h some = absurd (omega (arith, some))
pointer-end (b ∷ []) h some = absurd (omega (arith, some))
pointer-end (b ∷ c ∷ s) h some =
    let is = two (nat_eq b 0) (nat_lt 191 b) (length (b ∷ c ∷ s)) h some in
    (is.0, ltb-true 191 b is.1)

-- whose number has its two highest bits
pub high : (s : List ℕ) → 191 < get_or s 0 0 → 49152 ≤ number Big 2 s
unfolding number
high s h = omega (arith, h)

-- behind its labels a name has a zero byte or a pointer
pub zero-left : (f : Format Error Label) (order : Endian) (name rest : List ℕ)
    → Left name_mark f order name rest → length rest < 2 → EndsWithZero f order name
zero-left f order name rest h few =
    let end = zero-end rest h.end few in
    record {
      labels = h.values;
      stop = h.stop;
      each = h.each;
      end = omega (arith, end.0, ap length h.is, length-drop h.stop name, h.inside);
      zero = ap (λ k. get_or name k 0) (omega arith) ∙ sym (get_or-drop h.stop name 0 0)
          ∙ ap (λ l. get_or l 0 0) (sym h.is) ∙ end.1;
    }

pub pointer-high : (f : Format Error Label) (order : Endian) (name rest : List ℕ) (mark : ℕ)
    → Left name_mark f order name rest → 2 ≤ length rest → mark ≡ number Big 2 rest → 49152 ≤ mark
pointer-high f order name rest mark h some is =
    omega (arith, is, high rest (pointer-end rest h.end some).1)

pub pointer-left : (f : Format Error Label) (order : Endian) (name rest : List ℕ) (mark : ℕ)
    → Left name_mark f order name rest → 2 ≤ length rest → mark ≡ number Big 2 rest
    → PointsTo f order name (mark - 49152)
pointer-left f order name rest mark h some is =
    let end = pointer-end rest h.end some in
    let low : 49152 ≤ mark = pointer-high f order name rest mark h some is in
    record {
      labels = h.values;
      stop = h.stop;
      each = h.each;
      end = omega (arith, end.0, ap length h.is, length-drop h.stop name, h.inside);
      pointer = ap (number Big 2) (sym h.is) ∙ sym is ∙ omega (arith, low);
    }
