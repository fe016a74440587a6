-- What is left of a history: bytes that no later piece covers, and pieces that may be exchanged.
use Rattle.std.proofs.Common.{◌≡◌, ℕ, zero, suc, ◌+◌, ◌-◌, ◌≤◌, ◌<◌, ◌++◌, List, [], ◌∷◌, length, take, drop, get_or, arith, refl, sym, ◌∙◌, ap, subst, Option, Some, None, unwrap_or, slice_get, inl, inr, ◌⊎◌}
use Rattle.std.proofs.lemmas.Bool.{cases_lt}
use Rattle.std.proofs.lemmas.Grind.{same_number_lists, common_steps}
use Rattle.std.proofs.lemmas.List.{get_or-take, get_or-drop}
use Rattle.std.proofs.lemmas.Option.{slice_get-get_or, slice_get_past}
use Rattle.std.proofs.lemmas.List.Sums.{sum_by-cons}
use Rattle.std.specs.List.{Any, sum_by}
use Rattle.std.specs.Option.{option_or}
use Rattle.scroll.proofs.lemmas.HistoryLemmas.{pieces-fits, pieces-misfit, option_or-none, length-seen, get_or-seen, last_byte-append}
use Rattle.scroll.specs.History.{Piece, byte_of, last_byte, seen, pieces}
use Rattle.scroll.specs.Laws.{Covers, Apart, IsHistory, WrittenLast}
use Rattle.scroll.specs.Runs.{Run, Step, leaves_of}
use Rattle.scroll.specs.declared.runner.Answer.{Answer}
use Rattle.scroll.specs.declared.runner.Command.{Command}
use Rattle.scroll.specs.declared.runner.Command.TheVariants as command

-- histories with the same last bytes
seen-same : (b : List ℕ) (h k : List Piece) → ((i : ℕ) → last_byte h i ≡ last_byte k i)
    → seen b h ≡ seen b k
seen-same b h k e =
    same_number_lists (seen b h) (seen b k) (length-seen b h ∙ sym (length-seen b k)) (λ i l.
    let inside : i < length b = omega (arith, l, length-seen b h) in
    get_or-seen b h i inside ∙ ap (λ o. unwrap_or o (get_or b i 0)) (e i)
    ∙ sym (get_or-seen b k i inside))

-- a piece has a byte only at an offset that it covers
byte_of-cases : (p : Piece) (i : ℕ) → (byte_of p i ≡ None) ⊎ Covers p i
byte_of-cases p i = elim (cases_lt i p.0) as (λ _. (byte_of p i ≡ None) ⊎ Covers p i) [
  | inl l ↦ inl (grind arith)
  | inr l ↦ elim (cases_lt (i - p.0) (length p.1)) as (λ _. (byte_of p i ≡ None) ⊎ Covers p i) [
    | inl k ↦ inr (l, omega (arith, l, k))
    | inr k ↦ let past = slice_get_past p.1 (i - p.0) k in inl (grind arith)
  ]
]

-- the byte at an offset that a piece covers
byte_of-covered : (o : ℕ) (t : List ℕ) (k : ℕ) → k < length t
    → byte_of (o, t) (o + k) ≡ Some (get_or t k 0)
byte_of-covered o t k l =
    let at : slice_get t (o + k - o) ≡ slice_get t k = ap (slice_get t) (omega arith) in
    let is = slice_get-get_or t k 0 l in
    grind arith

Any-cons : {X : Type 0} (P : X → Type 0) (y : X) (xs : List X) → Any P xs → Any P (y ∷ xs)
Any-cons P y xs a = (a.0 + 1, a.1, omega (arith, a.2), grind (arith, a.3), a.4)

-- an offset has a last byte only where a piece covers it
last_byte-cases : (ps : List Piece) (i : ℕ) → (last_byte ps i ≡ None) ⊎ Any (λ p. Covers p i) ps
last_byte-cases [] i = inl refl
last_byte-cases (p ∷ ps) i =
    elim (last_byte-cases ps i)
    as (λ _. (last_byte (p ∷ ps) i ≡ None) ⊎ Any (λ q. Covers q i) (p ∷ ps)) [
      | inr a ↦ inr (Any-cons (λ q. Covers q i) p ps a)
      | inl e ↦
          elim (byte_of-cases p i)
          as (λ _. (last_byte (p ∷ ps) i ≡ None) ⊎ Any (λ q. Covers q i) (p ∷ ps)) [
            | inl n ↦ inl (rw (e, n) refl)
            | inr c ↦ inr (0, p, omega arith, refl, c)
          ]
    ]

either-none : (a b : Option ℕ) → (a ≡ None) ⊎ (b ≡ None) → option_or a b ≡ option_or b a
either-none a b (inl e) = rw e (sym (option_or-none b))
either-none a b (inr e) = rw e (option_or-none a)

-- pieces that don't overlap may be exchanged
pub seen-exchange : (b : List ℕ) (ps qs : List Piece) → Apart ps qs
    → seen b (ps ++ qs) ≡ seen b (qs ++ ps)
seen-exchange b ps qs apart = seen-same b (ps ++ qs) (qs ++ ps) (λ i.
    last_byte-append ps qs i
    ∙ either-none (last_byte qs i) (last_byte ps i)
    (elim (last_byte-cases qs i) as (λ _. (last_byte qs i ≡ None) ⊎ (last_byte ps i ≡ None)) [
      | inl e ↦ inl e
      | inr y ↦
          elim (last_byte-cases ps i) as (λ _. (last_byte qs i ≡ None) ⊎ (last_byte ps i ≡ None)) [
            | inl e ↦ inr e
            | inr x ↦ absurd (apart i x y)
          ]
    ])
    ∙ sym (last_byte-append qs ps i))

-- the byte of a piece where no later one covers its offset
last_byte-stands : (before after : List Piece) (o : ℕ) (t : List ℕ) (k : ℕ) → k < length t
    → Apart ((o, t) ∷ []) after → last_byte (before ++ (o, t) ∷ after) (o + k) ≡ Some (get_or t k 0)
last_byte-stands before after o t k l apart =
    let none : last_byte after (o + k) ≡ None =
    elim (last_byte-cases after (o + k)) as (λ _. last_byte after (o + k) ≡ None) [
      | inl e ↦ e
      | inr y ↦
          absurd (apart (o + k) (0, (o, t), omega arith, refl, (omega arith, omega (arith, l))) y)
    ] in
    last_byte-append before ((o, t) ∷ after) (o + k)
    ∙ ap (λ x. option_or (option_or x (byte_of (o, t) (o + k))) (last_byte before (o + k))) none
    ∙ ap (λ x. option_or x (last_byte before (o + k))) (byte_of-covered o t k l)

-- what is seen has the bytes of such a piece at its offset
seen-stands : (b : List ℕ) (before after : List Piece) (o : ℕ) (t : List ℕ)
    → o + length t ≤ length b → Apart ((o, t) ∷ []) after
    → take (length t) (drop o (seen b (before ++ (o, t) ∷ after))) ≡ t
seen-stands b before after o t room apart =
    let h = before ++ (o, t) ∷ after in
    let whole = length-seen b (before ++ (o, t) ∷ after) in
    same_number_lists (take (length t) (drop o (seen b (before ++ (o, t) ∷ after)))) t
    (grind (arith, common_steps)) (λ k l.
    let inside : k < length t = grind (arith, common_steps) in
    get_or-take (length t) (drop o (seen b (before ++ (o, t) ∷ after))) k 0 inside
    ∙ get_or-drop o (seen b (before ++ (o, t) ∷ after)) k 0
    ∙ get_or-seen b (before ++ (o, t) ∷ after) (o + k) (omega (arith, inside, room))
    ∙ ap (λ x. unwrap_or x (get_or b (o + k) 0)) (last_byte-stands before after o t k inside apart))

-- each piece ends by n
abbrev Inside : ℕ → List Piece → Type 0
Inside n [] = Unit {0}
Inside n (p ∷ ps) = (p.0 + length p.1 ≤ n) × Inside n ps

Inside-append : (n : ℕ) (h p : List Piece) → Inside n h → Inside n p → Inside n (h ++ p)
Inside-append n [] p a b = b
Inside-append n (x ∷ xs) p a b = (a.0, Inside-append n xs p a.1 b)

Inside-middle : (n : ℕ) (before after : List Piece) (p : Piece) → Inside n (before ++ p ∷ after)
    → p.0 + length p.1 ≤ n
Inside-middle n [] after p h = h.0
Inside-middle n (x ∷ xs) after p h = Inside-middle n xs after p h.1

Inside-pieces : (n o : ℕ) (ls : List (List ℕ)) → Inside n (pieces n o ls)
Inside-pieces n o [] = tt
Inside-pieces n o (l ∷ ls) =
    elim (cases_lt n (o + length l)) as (λ _. Inside n (pieces n o (l ∷ ls))) [
      | inl k ↦ rw (pieces-misfit n o l ls k) tt
      | inr k ↦ rw (pieces-fits n o l ls k) (k, Inside-pieces n (o + length l) ls)
    ]

Inside-Step : (b : List ℕ) (cursor : ℕ) (c : Command) (a : Answer) (written : List Piece) (mid : ℕ)
    → Step b cursor c a written mid → Inside (length b) written
Inside-Step b cursor (command.Read at what) a written mid s = rw s.1 tt
Inside-Step b cursor (command.Write at x) a written mid s =
    rw s.1 (Inside-pieces (length b) _ (leaves_of x))

-- the pieces of a run are inside the buffer
Inside-Run : (b : List ℕ) (h : List Piece) (cursor : ℕ) (cs : List Command) (answers : List Answer)
    (whole : List Piece) (after : ℕ) → Inside (length b) h → Run b h cursor cs answers whole after
    → Inside (length b) whole
Inside-Run b h cursor [] [] whole after i r = rw r.0 i
Inside-Run b h cursor (c ∷ cs) (a ∷ rest) whole after i r =
    let one : Inside (length (seen b h)) r.0 = Inside-Step (seen b h) cursor c a r.0 r.1 r.2 in
    Inside-Run b (h ++ r.0) r.1 cs rest whole after
    (Inside-append (length b) h r.0 i (subst (λ n. Inside n r.0) (length-seen b h) one)) r.3
Inside-Run b h cursor [] (a ∷ rest) whole after i r = absurd r
Inside-Run b h cursor (c ∷ cs) [] whole after i r = absurd r

-- what is seen where a piece was written last
pub stands : (first : List ℕ) (commands : List Command) (history : List Piece) (o : ℕ) (t : List ℕ)
    → IsHistory first commands history → WrittenLast history (o, t)
    → (o + length t ≤ length first) × (take (length t) (drop o (seen first history)) ≡ t)
stands first commands history o t h w =
    let inside = Inside-Run first [] h.from commands h.answers history h.to tt h.run in
    let room = Inside-middle (length first) w.before w.after (o, t) (rw w.split at inside) in
    (room, rw w.split (seen-stands first w.before w.after o t room w.apart))

no-cover : (i : ℕ) → Any (λ (p : Piece). Covers p i) [] → ⊥
no-cover i a = absurd (omega (arith, a.2))

-- the first piece covers the offset, or another does
Any-cases : (P : Piece → Type 0) (p : Piece) (ps : List Piece) → Any P (p ∷ ps) → P p ⊎ Any P ps
Any-cases P p ps (zero, x, l, e, h) = inl (subst P (sym e) h)
Any-cases P p ps (suc k, x, l, e, h) = inr (k, x, omega (arith, l), e, h)

-- a piece that is written from an offset covers nothing before it
covers-from : (n o : ℕ) (ls : List (List ℕ)) (i : ℕ) → Any (λ p. Covers p i) (pieces n o ls) → o ≤ i
covers-from n o [] i a = absurd (omega (arith, a.2))
covers-from n o (l ∷ ls) i a = elim (cases_lt n (o + length l)) as (λ _. o ≤ i) [
  | inl k ↦ absurd (no-cover i (subst (Any (λ p. Covers p i)) (pieces-misfit n o l ls k) a))
  | inr k ↦
      elim (Any-cases (λ p. Covers p i) (o, l) (pieces n (o + length l) ls)
      (subst (Any (λ p. Covers p i)) (pieces-fits n o l ls k) a)) as (λ _. o ≤ i) [
        | inl c ↦ c.0
        | inr b ↦ let rest = covers-from n (o + length l) ls i b in omega (arith, rest)
      ]
]

-- nor anything after the last, where all are whole
covers-below : (n o : ℕ) (ls : List (List ℕ)) (i : ℕ) → Any (λ p. Covers p i) (pieces n o ls)
    → i < o + sum_by length ls
covers-below n o [] i a = absurd (omega (arith, a.2))
covers-below n o (l ∷ ls) i a =
    let total = sum_by-cons length l ls in
    elim (cases_lt n (o + length l)) as (λ _. i < o + sum_by length (l ∷ ls)) [
      | inl k ↦ absurd (no-cover i (subst (Any (λ p. Covers p i)) (pieces-misfit n o l ls k) a))
      | inr k ↦
          elim (Any-cases (λ p. Covers p i) (o, l) (pieces n (o + length l) ls)
          (subst (Any (λ p. Covers p i)) (pieces-fits n o l ls k) a))
          as (λ _. i < o + sum_by length (l ∷ ls)) [
            | inl c ↦ omega (arith, c.1, total)
            | inr b ↦ let rest = covers-below n (o + length l) ls i b in omega (arith, rest, total)
          ]
    ]

-- pieces of leaves that end where others begin, or before
pub pieces-behind : (n o p : ℕ) (ls ks : List (List ℕ)) → o + sum_by length ls ≤ p
    → Apart (pieces n o ls) (pieces n p ks)
pieces-behind n o p ls ks h i a b =
    let below = covers-below n o ls i a in
    let from = covers-from n p ks i b in
    absurd (omega (arith, below, from, h))

not-nil : (before after : List Piece) (p : Piece) → [] ≡ before ++ p ∷ after → ⊥
not-nil [] after p e = cc e
not-nil (x ∷ xs) after p e = cc e

head-apart : (n o : ℕ) (l : List ℕ) (ls : List (List ℕ))
    → Apart ((o, l) ∷ []) (pieces n (o + length l) ls)
head-apart n o l ls i a b =
    let from = covers-from n (o + length l) ls i b in
    elim (Any-cases (λ p. Covers p i) (o, l) [] a) as (λ _. ⊥) [
      | inl c ↦ absurd (omega (arith, from, c.1))
      | inr none ↦ no-cover i none
    ]

-- no piece of a write covers an offset of a later one
pub pieces-apart : (n o : ℕ) (ls : List (List ℕ)) (before after : List Piece) (p : Piece)
    → pieces n o ls ≡ before ++ p ∷ after → Apart (p ∷ []) after
pieces-apart n o [] before after p e = absurd (not-nil before after p e)
pieces-apart n o (l ∷ ls) [] after p e =
    elim (cases_lt n (o + length l)) as (λ _. Apart (p ∷ []) after) [
      | inl k ↦ absurd (not-nil [] after p (sym (pieces-misfit n o l ls k) ∙ e))
      | inr k ↦
          let whole : (o, l) ∷ pieces n (o + length l) ls ≡ p ∷ after =
          sym (pieces-fits n o l ls k) ∙ e in
          let first : (o, l) ≡ p = cc whole in
          let rest : pieces n (o + length l) ls ≡ after = cc whole in
          subst (λ q. Apart (q ∷ []) after) first
          (subst (Apart ((o, l) ∷ [])) rest (head-apart n o l ls))
    ]
pieces-apart n o (l ∷ ls) (x ∷ xs) after p e =
    elim (cases_lt n (o + length l)) as (λ _. Apart (p ∷ []) after) [
      | inl k ↦ absurd (not-nil (x ∷ xs) after p (sym (pieces-misfit n o l ls k) ∙ e))
      | inr k ↦
          let whole : (o, l) ∷ pieces n (o + length l) ls ≡ x ∷ (xs ++ p ∷ after) =
          sym (pieces-fits n o l ls k) ∙ e in
          let rest : pieces n (o + length l) ls ≡ xs ++ p ∷ after = cc whole in
          pieces-apart n (o + length l) ls xs after p rest
    ]
