-- Exactly one result, and the laws of a reader: lemmas that give these for a type, for its arrays,
-- and for arrays of these.
use Rattle.std.proofs.Common.{◌≡◌, ℕ, zero, suc, ◌+◌, ◌≤◌, ◌<◌, List, [], ◌∷◌, length, drop, arith, refl, sym, ◌∙◌, ap, subst, inl, inr, ◌⊎◌, Result, Ok, Err}
use Rattle.std.proofs.lemmas.Bool.{cases_lt}
use Rattle.scroll.specs.Arrays.{ReadsArray, RefusesArray, ReadsNested, RefusesNested}
use Rattle.scroll.specs.Bytes.{ReadsFixed, ReadsPrefix, RefusesShort}
use Rattle.scroll.specs.Fixed.{One}
use Rattle.scroll.specs.Leb128.{Counted}
use Rattle.scroll.proofs.lemmas.NumberLemmas.{local-array, within-array}
use Rattle.scroll.specs.lemmas.Frames.{ReadsArray-bounded}
use Rattle.scroll.specs.Laws.{IsLocal, IsWithin, SameError, SameAnswer, Allows, AllowsOne, AllowsOneAtEach, IsReader, IsReaderWithin}
use Rattle.scroll.specs.Reads.{IsBounded, ReadsAt, RefusesAt, ReadsAll}
use Rattle.scroll.specs.Errors.{IsBadOffset}
use Rattle.scroll.specs.declared.error.Error.{Error}
use Rattle.scroll.specs.declared.error.Error.TheVariants.{TooBig, BadOffset}

-- one value, and no error
one-Ok-same : {V : Type 0} (P : V → ℕ → Type 0) (Q : Error → Type 0) (v : V) (n : ℕ)
    → ((w : V) (m : ℕ) → P w m → (w ≡ v) × (m ≡ n)) → ((e : Error) → Q e → ⊥)
    → (q : Result (V × ℕ) Error) → Allows P Q q → SameAnswer q (Ok (v, n))
one-Ok-same P Q v n only none (Ok x) a =
    let s = only x.0 x.1 a in
    ap (λ w. (w, x.1)) s.0 ∙ ap (λ m. (v, m)) s.1
one-Ok-same P Q v n only none (Err e) a = none e a

pub one-Ok : {V : Type 0} (P : V → ℕ → Type 0) (Q : Error → Type 0) (v : V) (n : ℕ) → P v n
    → ((w : V) (m : ℕ) → P w m → (w ≡ v) × (m ≡ n)) → ((e : Error) → Q e → ⊥) → AllowsOne P Q
one-Ok P Q v n p only none = record {
  answer = Ok (v, n);
  allowed = p;
  only = one-Ok-same P Q v n only none;
}

-- one error, and no value
one-Err-same : {V : Type 0} (P : V → ℕ → Type 0) (Q : Error → Type 0) (e : Error)
    → ((w : V) (m : ℕ) → P w m → ⊥) → ((d : Error) → Q d → SameError d e)
    → (q : Result (V × ℕ) Error) → Allows P Q q → SameAnswer q (Err e)
one-Err-same P Q e none only (Ok x) a = absurd (none x.0 x.1 a)
one-Err-same P Q e none only (Err d) a = only d a

pub one-Err : {V : Type 0} (P : V → ℕ → Type 0) (Q : Error → Type 0) (e : Error) → Q e
    → ((w : V) (m : ℕ) → P w m → ⊥) → ((d : Error) → Q d → SameError d e) → AllowsOne P Q
one-Err P Q e q none only = record {
  answer = Err e;
  allowed = q;
  only = one-Err-same P Q e none only;
}

pub same-too_big : (d : Error) (a b : ℕ) → d ≡ TooBig a b → SameError d (TooBig a b)
same-too_big d a b e = subst (λ x. SameError x (TooBig a b)) (sym e) refl

same-bad_offset : (d : Error) (a : ℕ) → d ≡ BadOffset a → SameError d (BadOffset a)
same-bad_offset d a e = subst (λ x. SameError x (BadOffset a)) (sym e) refl

-- the same results, stated in another way
Allows-as : {V : Type 0} (P P' : V → ℕ → Type 0) (Q Q' : Error → Type 0)
    → ((v : V) (n : ℕ) → P v n → P' v n) → ((e : Error) → Q e → Q' e) → (q : Result (V × ℕ) Error)
    → Allows P Q q → Allows P' Q' q
Allows-as P P' Q Q' f g (Ok x) a = f x.0 x.1 a
Allows-as P P' Q Q' f g (Err e) a = g e a

one-as : {V : Type 0} (P P' : V → ℕ → Type 0) (Q Q' : Error → Type 0)
    → ((v : V) (n : ℕ) → P v n → P' v n) → ((e : Error) → Q e → Q' e)
    → ((v : V) (n : ℕ) → P' v n → P v n) → ((e : Error) → Q' e → Q e) → AllowsOne P Q
    → AllowsOne P' Q'
one-as P P' Q Q' f g f' g' one = record {
  answer = one.answer;
  allowed = Allows-as P P' Q Q' f g one.answer one.allowed;
  only = λ q a. one.only q (Allows-as P' P Q' Q f' g' q a);
}

inside-refuses : (refuses : List ℕ → Error → Type 0) (b : List ℕ) (o : ℕ) → o ≤ length b
    → (e : Error) → RefusesAt refuses IsBadOffset b o e → refuses (drop o b) e
inside-refuses refuses b o h e (inl a) = absurd (omega (arith, h, a.0))
inside-refuses refuses b o h e (inr a) = a.1

past-refuses : (refuses : List ℕ → Error → Type 0) (b : List ℕ) (o : ℕ) → length b < o → (e : Error)
    → RefusesAt refuses IsBadOffset b o e → SameError e (BadOffset o)
past-refuses refuses b o h e (inl a) = same-bad_offset e o a.1
past-refuses refuses b o h e (inr a) = absurd (omega (arith, h, a.0))

-- at each offset
pub one-at : {V : Type 0} (reads : List ℕ → V → ℕ → Type 0) (refuses : List ℕ → Error → Type 0)
    → ((s : List ℕ) → AllowsOne (reads s) (refuses s)) → AllowsOneAtEach reads refuses
one-at reads refuses one b o =
    elim (cases_lt (length b) o)
    as (λ _. AllowsOne (ReadsAt reads b o) (RefusesAt refuses IsBadOffset b o)) [
      | inl past ↦
          one-Err (ReadsAt reads b o) (RefusesAt refuses IsBadOffset b o) (BadOffset o)
          (inl (past, refl))
          (λ w m r. absurd (omega (arith, past, r.inside))) (past-refuses refuses b o past)
      | inr inside ↦
          one-as (reads (drop o b)) (ReadsAt reads b o) (refuses (drop o b))
          (RefusesAt refuses IsBadOffset b o)
          (λ v n a. record { inside = inside; value = a }) (λ e a. inr (inside, a))
          (λ v n a. a.value) (inside-refuses refuses b o inside) (one (drop o b))
    ]

-- a value that takes the first w bytes, which make one value
pub one-made : {X : Type 0} (w : ℕ) (makes : List ℕ → X → Type 0) (s : List ℕ) → One (makes s)
    → AllowsOne (ReadsFixed w makes s) (RefusesShort w s)
one-made w makes s one =
    elim (cases_lt (length s) w) as (λ _. AllowsOne (ReadsFixed w makes s) (RefusesShort w s)) [
      | inl short ↦
          one-Err (ReadsFixed w makes s) (RefusesShort w s) (TooBig w (length s))
          (record { short = short; error = refl })
          (λ v m r. absurd (omega (arith, short, r.room)))
          (λ d r. same-too_big d w (length s) r.error)
      | inr long ↦
          one-Ok (ReadsFixed w makes s) (RefusesShort w s) one.value w
          (record { room = long; value = one.is; size = refl })
          (λ v m r. (one.only v r.value, r.size)) (λ e r. absurd (omega (arith, long, r.short)))
    ]

pub one-prefix : {X : Type 0} (w : ℕ) (value_of : List ℕ → X) (s : List ℕ)
    → AllowsOne (ReadsPrefix w value_of s) (RefusesShort w s)
one-prefix w value_of s =
    one-made w (λ t x. x ≡ value_of t) s (record { value = value_of s; is = refl; only = λ x h. h })

module _ {V : Type 0} (reads : List ℕ → V → ℕ → Type 0) (refuses : List ℕ → Error → Type 0)
    (s : List ℕ) where
  -- count values from an offset, or fewer and then an error
  abbrev Values : ℕ → ℕ → List V → ℕ → Type 0
  Values count o vs end = (length vs ≡ count) × ReadsAll reads s o vs end

  abbrev Stops : ℕ → ℕ → Error → Type 0
  Stops count o e =
      (vs : List V) × (stop : ℕ) × (length vs < count) × ReadsAll reads s o vs stop
      × RefusesAt refuses IsBadOffset s stop e

  -- the first value before the others
  abbrev put_first : V → Result (List V × ℕ) Error → Result (List V × ℕ) Error
  put_first v (Ok x) = Ok (v ∷ x.0, x.1)
  put_first v (Err e) = Err e

  put_first-is : (count o : ℕ) (v : V) (n : ℕ) → ReadsAt reads s o v n
      → (q : Result (List V × ℕ) Error) → Allows (Values count (o + n)) (Stops count (o + n)) q
      → Allows (Values (suc count) o) (Stops (suc count) o) (put_first v q)
  put_first-is count o v n r (Ok x) a = (ap suc a.0, (n, r, a.1))
  put_first-is count o v n r (Err e) a = (v ∷ a.0, a.1, omega (arith, a.2), (n, r, a.3), a.4)

  put_first-same : (v : V) (q r : Result (List V × ℕ) Error) → SameAnswer q r
      → SameAnswer (put_first v q) (put_first v r)
  put_first-same v (Ok x) (Ok y) h = ap (λ z. (v ∷ z.0, z.1)) h
  put_first-same v (Err d) (Err e) h = h
  put_first-same v (Ok x) (Err e) h = absurd h
  put_first-same v (Err d) (Ok y) h = absurd h

  -- a result begins with that of the first value
  abbrev HasFirst : ℕ → ℕ → Result (List V × ℕ) Error → Type 0
  HasFirst count o q =
      ((v : V) × (n : ℕ) × (p : Result (List V × ℕ) Error) × ReadsAt reads s o v n
      × Allows (Values count (o + n)) (Stops count (o + n)) p × (q ≡ put_first v p))
      ⊎ ((e : Error) × RefusesAt refuses IsBadOffset s o e × (q ≡ Err e))

  has_first-Ok : (count o : ℕ) (vs : List V) (end : ℕ) → Values (suc count) o vs end
      → HasFirst count o (Ok (vs, end))
  has_first-Ok count o [] end a = absurd (omega (arith, a.0))
  has_first-Ok count o (v ∷ vs) end a =
      inl (v, a.1.0, Ok (vs, end), a.1.1, (omega (arith, a.0), a.1.2), refl)

  has_first-Err : (count o : ℕ) (e : Error) (vs : List V) (stop : ℕ) → length vs < suc count
      → ReadsAll reads s o vs stop → RefusesAt refuses IsBadOffset s stop e
      → HasFirst count o (Err e)
  has_first-Err count o e [] stop l a r =
      inr (e, subst (λ k. RefusesAt refuses IsBadOffset s k e) a r, refl)
  has_first-Err count o e (v ∷ vs) stop l a r =
      inl (v, a.0, Err e, a.1, (vs, stop, omega (arith, l), a.2, r), refl)

  has_first : (count o : ℕ) (q : Result (List V × ℕ) Error)
      → Allows (Values (suc count) o) (Stops (suc count) o) q → HasFirst count o q
  has_first count o (Ok x) a = has_first-Ok count o x.0 x.1 a
  has_first count o (Err e) a = has_first-Err count o e a.0 a.1 a.2 a.3 a.4

  -- the first value, and then the others
  step-Ok : (count o : ℕ) (v : V) (n : ℕ) → ReadsAt reads s o v n
      → ((q : Result (V × ℕ) Error)
      → Allows (ReadsAt reads s o) (RefusesAt refuses IsBadOffset s o) q → SameAnswer q (Ok (v, n)))
      → AllowsOne (Values count (o + n)) (Stops count (o + n))
      → AllowsOne (Values (suc count) o) (Stops (suc count) o)
  step-Ok count o v n r only rest = record {
    answer = put_first v rest.answer;
    allowed = put_first-is count o v n r rest.answer rest.allowed;
    only = λ q a. elim (has_first count o q a) as (λ _. SameAnswer q (put_first v rest.answer)) [
      | inl b ↦
          let same = only (Ok (b.0, b.1)) b.3 in
          let size : b.1 ≡ n = ap (λ x. x.1) same in
          let value : b.0 ≡ v = ap (λ x. x.0) same in
          let others =
          subst (λ k. Allows (Values count (o + k)) (Stops count (o + k)) b.2) size b.4 in
          subst (λ x. SameAnswer x (put_first v rest.answer))
          (sym (b.5 ∙ ap (λ w. put_first w b.2) value))
          (put_first-same v b.2 rest.answer (rest.only b.2 others))
      | inr b ↦ absurd (only (Err b.0) b.1)
    ];
  }

  step-Err : (count o : ℕ) (e : Error) → RefusesAt refuses IsBadOffset s o e
      → ((q : Result (V × ℕ) Error)
      → Allows (ReadsAt reads s o) (RefusesAt refuses IsBadOffset s o) q → SameAnswer q (Err e))
      → AllowsOne (Values (suc count) o) (Stops (suc count) o)
  step-Err count o e r only = record {
    answer = Err e;
    allowed = ([], o, omega arith, refl, r);
    only = λ q a. elim (has_first count o q a) as (λ _. SameAnswer q (Err e)) [
      | inl b ↦ absurd (only (Ok (b.0, b.1)) b.3)
      | inr b ↦ subst (λ x. SameAnswer x (Err e)) (sym b.2) (only (Err b.0) b.1)
    ];
  }

  step-one : (count o : ℕ) (r : Result (V × ℕ) Error)
      → Allows (ReadsAt reads s o) (RefusesAt refuses IsBadOffset s o) r
      → ((q : Result (V × ℕ) Error)
      → Allows (ReadsAt reads s o) (RefusesAt refuses IsBadOffset s o) q → SameAnswer q r)
      → ((k : ℕ) → AllowsOne (Values count k) (Stops count k))
      → AllowsOne (Values (suc count) o) (Stops (suc count) o)
  step-one count o (Ok x) a only rest = step-Ok count o x.0 x.1 a only (rest (o + x.1))
  step-one count o (Err e) a only rest = step-Err count o e a only

  none-only : (o : ℕ) (vs : List V) (end : ℕ) → Values 0 o vs end → (vs ≡ []) × (end ≡ o)
  none-only o [] end a = (refl, a.1)
  none-only o (v ∷ vs) end a = absurd (omega (arith, a.0))

  one-all : ((o : ℕ) → AllowsOne (ReadsAt reads s o) (RefusesAt refuses IsBadOffset s o))
      → (count o : ℕ) → AllowsOne (Values count o) (Stops count o)
  one-all one zero o =
      one-Ok (Values 0 o) (Stops 0 o) [] o (refl, refl) (none-only o)
      (λ e r. absurd (omega (arith, r.2)))
  one-all one (suc count) o =
      step-one count o (one o).answer (one o).allowed (one o).only (one-all one count)

-- arrays
pub one-array : {V : Type 0} (reads : List ℕ → V → ℕ → Type 0) (refuses : List ℕ → Error → Type 0)
    → AllowsOneAtEach reads refuses → (count : ℕ)
    → AllowsOneAtEach (ReadsArray reads count) (RefusesArray reads refuses IsBadOffset count)
one-array reads refuses one count =
    one-at (ReadsArray reads count) (RefusesArray reads refuses IsBadOffset count) (λ s.
    one-as (Values reads refuses s count 0) (ReadsArray reads count s)
    (Stops reads refuses s count 0) (RefusesArray reads refuses IsBadOffset count s)
    (λ vs n a. record { len = a.0; each = a.1 })
    (λ e a. record { prefix = a.0; stop = a.1; fewer = a.2; each = a.3; error = a.4 })
    (λ vs n a. (a.len, a.each))
    (λ e a. (a.prefix, a.stop, a.fewer, a.each, a.error))
    (one-all reads refuses s (one s) count 0))

-- arrays of arrays
pub one-nested : {V : Type 0} (reads : List ℕ → V → ℕ → Type 0) (refuses : List ℕ → Error → Type 0)
    → AllowsOneAtEach reads refuses → (counts : List ℕ)
    → AllowsOneAtEach (ReadsNested reads counts) (RefusesNested reads refuses IsBadOffset counts)
one-nested reads refuses one [] = one
one-nested reads refuses one (count ∷ counts) =
    one-array (ReadsNested reads counts) (RefusesNested reads refuses IsBadOffset counts)
    (one-nested reads refuses one counts) count

-- a value with its size
abbrev Sized : {V : Type 0} → (V → ℕ → Type 0) → Counted V → ℕ → Type 0
Sized P x n = P x.value n × (x.count ≡ n)

sized-same : {V : Type 0} (x : V × ℕ) (w : Counted V) (m : ℕ) → (w.value, m) ≡ x → w.count ≡ m
    → (w ≡ record { value = x.0; count = x.1 }) × (m ≡ x.1)
sized-same {V} x w m same count =
    let size : m ≡ x.1 = ap (λ y. y.1) same in
    let value : w.value ≡ x.0 = ap (λ y. y.0) same in
    let counted : ℕ → Counted V = λ k. record { value = w.value; count = k } in
    let valued : V → Counted V = λ v. record { value = v; count = x.1 } in
    (ap counted (count ∙ size) ∙ ap valued value, size)

one-sized-of : {V : Type 0} (P : V → ℕ → Type 0) (Q : Error → Type 0) (r : Result (V × ℕ) Error)
    → Allows P Q r → ((q : Result (V × ℕ) Error) → Allows P Q q → SameAnswer q r)
    → AllowsOne (Sized P) Q
one-sized-of P Q (Ok x) allowed only =
    one-Ok (Sized P) Q (record { value = x.0; count = x.1 }) x.1 (allowed, refl)
    (λ w m r. sized-same x w m (only (Ok (w.value, m)) r.0) r.1) (λ e q. only (Err e) q)
one-sized-of P Q (Err e) allowed only = one-Err (Sized P) Q e allowed
    (λ w m r. only (Ok (w.value, m)) r.0) (λ d q. only (Err d) q)

pub one-sized : {V : Type 0} (reads : List ℕ → V → ℕ → Type 0) (refuses : List ℕ → Error → Type 0)
    → ((s : List ℕ) → AllowsOne (reads s) (refuses s)) → (s : List ℕ)
    → AllowsOne (λ (x : Counted V) n. reads s x.value n × (x.count ≡ n)) (refuses s)
one-sized reads refuses one s =
    one-sized-of (reads s) (refuses s) (one s).answer (one s).allowed (one s).only

-- a type whose reads are within their source
pub reader-within : {V : Type 0} (reads : List ℕ → V → ℕ → Type 0)
    (refuses : List ℕ → Error → Type 0) → IsLocal reads → IsWithin reads
    → ((s : List ℕ) → AllowsOne (reads s) (refuses s)) → IsReaderWithin reads refuses
reader-within reads refuses local within one = record {
  reader = record {
    local = local;
    bounded = λ s v n r. omega (arith, within s v n r);
    one = one-at reads refuses one;
  };
  within = within;
}

-- the same of a value with its size
pub reader-sized : {V : Type 0} (reads : List ℕ → V → ℕ → Type 0)
    (refuses : List ℕ → Error → Type 0) → IsLocal reads → IsWithin reads
    → ((s : List ℕ) → AllowsOne (reads s) (refuses s))
    → IsReaderWithin (λ s (x : Counted V) n. reads s x.value n × (x.count ≡ n)) refuses
reader-sized {V} reads refuses local within one =
    reader-within (λ s (x : Counted V) n. reads s x.value n × (x.count ≡ n)) refuses
    (λ s t x n r inside long same. (local s t x.value n r.0 inside long same, r.1))
    (λ s x n r. within s x.value n r.0) (one-sized reads refuses one)

-- arrays of arrays
pub local-nested : {V : Type 0} (reads : List ℕ → V → ℕ → Type 0) → IsLocal reads
    → (counts : List ℕ) → IsLocal (ReadsNested reads counts)
local-nested reads local [] = local
local-nested reads local (count ∷ counts) =
    local-array (ReadsNested reads counts) count (local-nested reads local counts)

pub bounded-nested : {V : Type 0} (reads : List ℕ → V → ℕ → Type 0) → IsBounded reads
    → (counts : List ℕ) → IsBounded (ReadsNested reads counts)
bounded-nested reads bounded [] = bounded
bounded-nested reads bounded (count ∷ counts) =
    ReadsArray-bounded (ReadsNested reads counts) (bounded-nested reads bounded counts) count

pub within-nested : {V : Type 0} (reads : List ℕ → V → ℕ → Type 0) → IsWithin reads
    → (counts : List ℕ) → IsWithin (ReadsNested reads counts)
within-nested reads within [] = within
within-nested reads within (count ∷ counts) =
    within-array (ReadsNested reads counts) count (within-nested reads within counts)

pub reader-nested : {V : Type 0} (reads : List ℕ → V → ℕ → Type 0)
    (refuses : List ℕ → Error → Type 0) → IsReader reads refuses → (counts : List ℕ)
    → IsReader (ReadsNested reads counts) (RefusesNested reads refuses IsBadOffset counts)
reader-nested reads refuses laws counts = record {
  local = local-nested reads laws.local counts;
  bounded = bounded-nested reads laws.bounded counts;
  one = one-nested reads refuses laws.one counts;
}
