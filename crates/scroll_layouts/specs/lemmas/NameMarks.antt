-- The end of a name as a mark. The lemmas are proved, and promise nothing.
use Rattle.std.proofs.Common.{◌≡◌, ◌≤◌, ◌+◌, ℕ, zero, suc, List, [], ◌∷◌, length, take, drop, refl, sym, subst, arith, rules}
use Rattle.std.specs.Prelude.{Bool, true, false, nat_eq, nat_lt, Some, None}
use Rattle.scroll_layouts.specs.MarkSizes.{ended, name_size}

-- one byte alone is an end of one
one : (p : Bool) (n : ℕ) → ended p false ≡ Some n → n ≡ 1
one true n h = cc
one false n h = absurd (cc)

-- a size is one or two
few : (p q : Bool) (n : ℕ) → ended p q ≡ Some n → (1 ≤ n) × (n ≤ 2)
few true q n h = Prim.search rules
few false true n h = Prim.search rules
few false false n h = absurd (cc)

pub name-inside : (s : List ℕ) (n : ℕ) → name_size s ≡ Some n → n ≤ length s
name-inside [] n h = absurd (cc)
name-inside (b ∷ []) n h = let is : n ≡ 1 = one (nat_eq b 0) n h in omega (arith, is)
name-inside (b ∷ c ∷ s) n h = omega (arith, (few (nat_eq b 0) (nat_lt 191 b) n h).1)

some : (s : List ℕ) (n : ℕ) → name_size s ≡ Some n → 1 ≤ n
some [] n h = absurd (cc)
some (b ∷ []) n h = (few (nat_eq b 0) false n h).0
some (b ∷ c ∷ s) n h = (few (nat_eq b 0) (nat_lt 191 b) n h).0

-- the first bytes are the same
first : (n b c : ℕ) (s t : List ℕ) → 1 ≤ n → take n (b ∷ s) ≡ take n (c ∷ t) → b ≡ c
first zero b c s t le h = absurd (omega (arith, le))
first (suc n) b c s t le h = cc

-- whether a pointer is there matters for two bytes alone
wider : (p q : Bool) (n : ℕ) → ended p false ≡ Some n → ended p q ≡ Some n
wider true q n h = h
wider false q n h = absurd (cc)

narrow : (p q : Bool) (n : ℕ) → n ≤ 1 → ended p q ≡ Some n → ended p false ≡ Some n
narrow true q n le h = h
narrow false true n le h = let two : n ≡ 2 = cc in absurd (omega (arith, two, le))
narrow false false n le h = h

pub name-found : (s t : List ℕ) (n : ℕ) → name_size s ≡ Some n → n ≤ length t
    → take n t ≡ take n s → name_size t ≡ Some n
name-found [] t n h room same = absurd (cc)
name-found (b ∷ s) [] n h room same = absurd (omega (arith, room, some (b ∷ s) n h))
name-found (b ∷ []) (c ∷ []) n h room same =
    let is : c ≡ b = first n c b [] [] (some (b ∷ []) n h) same in
    subst (λ x. ended (nat_eq x 0) false ≡ Some n) (sym is) h
name-found (b ∷ []) (c ∷ d ∷ t) n h room same =
    let is : c ≡ b = first n c b (d ∷ t) [] (some (b ∷ []) n h) same in
    wider (nat_eq c 0) (nat_lt 191 c) n
    (subst (λ x. ended (nat_eq x 0) false ≡ Some n) (sym is) h)
name-found (b ∷ a ∷ s) (c ∷ []) n h room same =
    let is : c ≡ b = first n c b [] (a ∷ s) (some (b ∷ a ∷ s) n h) same in
    subst (λ x. ended (nat_eq x 0) false ≡ Some n) (sym is)
    (narrow (nat_eq b 0) (nat_lt 191 b) n room h)
name-found (b ∷ a ∷ s) (c ∷ d ∷ t) n h room same =
    let is : c ≡ b = first n c b (d ∷ t) (a ∷ s) (some (b ∷ a ∷ s) n h) same in
    subst (λ x. ended (nat_eq x 0) (nat_lt 191 x) ≡ Some n) (sym is) h

pub name-none : (s t : List ℕ) (k n : ℕ) → name_size s ≡ None → name_size (drop k s) ≡ Some n
    → k + n ≤ length s → k + n ≤ length t → take (k + n) t ≡ take (k + n) s → name_size t ≡ None
name-none s t zero n none is here room same = absurd (cc)
name-none [] t (suc k) n none is here room same = absurd (cc)
name-none (b ∷ []) t (suc k) n none is here room same =
    absurd (omega (arith, here, some (drop (suc k) (b ∷ [])) n is))
name-none (b ∷ a ∷ s) [] (suc k) n none is here room same = refl
name-none (b ∷ a ∷ s) (c ∷ []) (suc k) n none is here room same =
    absurd (omega (arith, room, some (drop (suc k) (b ∷ a ∷ s)) n is))
name-none (b ∷ a ∷ s) (c ∷ d ∷ t) (suc k) n none is here room same =
    let more : 1 ≤ suc k + n = omega (arith) in
    let eq : c ≡ b = first (suc k + n) c b (d ∷ t) (a ∷ s) more same in
    subst (λ x. ended (nat_eq x 0) (nat_lt 191 x) ≡ None) (sym eq) none
