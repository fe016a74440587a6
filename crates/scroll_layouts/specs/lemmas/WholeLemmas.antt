-- What a read and a write of a whole value cite. The lemmas are proved, and promise nothing.
use Rattle.std.proofs.Common.{◌≡◌, ℕ, ◌+◌, ◌<◌, ◌≤◌, ◌⊎◌, inl, inr, ◌++◌, List, [], ◌∷◌, length, take, drop, refl, sym, ap, subst, ◌∙◌, arith, Fits, w8, slice_index, append_assoc, length-append}
use Rattle.std.proofs.Math.Seq.{drop-append_seam}
use Rattle.std.proofs.lemmas.List.{drop-drop, append-nil, take_at, take_more, take-append-drop, get_or_default}
use Rattle.std.specs.List.{All, slice_index_or}
use Rattle.scroll.specs.Bytes.{WritesPrefix}
use Rattle.scroll.specs.lemmas.Frames.{WritesPrefix-back}
use Rattle.scroll.specs.declared.endian.Endian.{Endian}
use Rattle.scroll.specs.declared.error.Error.{Error}
use Rattle.scroll_layouts.specs.Formats.{Format, reads, len, bytes, agrees, differs, exact}
use Rattle.scroll_layouts.specs.OneWay.{told}
use Rattle.scroll_layouts.specs.Wholes.{AtStart, at_start, ReadsWhole, ReadsExact, ReadsBack, WritesWhole, AppendsWhole, AppendsEach, FailsEach, LacksRoom}
use Rattle.scroll_layouts.specs.lemmas.FormatLaws.{inside, made-agrees, bytes-len, back, kept}
use Rattle.scroll_layouts.specs.lemmas.LayoutLaws.{layout-len}
use Rattle.scroll_layouts.specs.lemmas.SameLaws.{one-value}

-- the bytes of a slice are below 256
pub bytes-below : (s : List ℕ) → ((i : ℕ) → Fits w8 (slice_index s i)) → All (λ b. b < 256) s
bytes-below s h = λ i d l. subst (λ n. n < 256) (get_or_default s i 0 d l) (h i).fits

-- where the rest of a source stands in it
places : (s : List ℕ) (o w : ℕ) (t : List ℕ) → s ≡ drop o t → drop (o + w) t ≡ drop w s
places s o w t is =
    ap (λ k. drop k t) (omega arith) ∙ sym (drop-drop w o t) ∙ ap (drop w) (sym is)

-- what stands at the start is read there
stood : {E X : Type 0} (f : Format E X) (order : Endian) (s : List ℕ) (x : X)
    → AtStart f order s x → reads f order s 0 x
stood f order s _ (at_start x h) = h

-- a value that was read at the start
pub whole-read : {E X : Type 0} (f : Format E X) (order : Endian) (s : List ℕ) (x : X) (n : ℕ)
    → told f → All (λ b. b < 256) s → reads f order s 0 x → n ≡ len f x
    → ReadsWhole f order s x n
whole-read f order s x n t all h size =
    let agreed : agrees f order x = made-agrees f order s 0 x all h in
    record {
      value = h;
      agreed = agreed;
      size = size;
      inside = omega (arith, size, inside f order s 0 x (omega arith) h);
      count = bytes-len f order x agreed ∙ sym size;
      only = λ y k. one-value f t order s 0 x y all h (stood f order s y k);
      one = λ y k. one-value f t order s 0 x y all h k;
      places = places s;
    }

pub exact-read : {E X : Type 0} (f : Format E X) (order : Endian) (s : List ℕ) (x : X) (n : ℕ)
    → exact f → All (λ b. b < 256) s → ReadsWhole f order s x n → ReadsExact f order s x n
exact-read f order s x n e all h = record {
  value = h.value;
  agreed = h.agreed;
  size = h.size;
  inside = h.inside;
  count = h.count;
  back = kept f order s 0 x e all h.value ∙ ap (λ k. take k s) (sym h.size);
  only = h.only;
  one = h.one;
  places = h.places;
}

-- a value that was written at the start
pub whole-written : {E X : Type 0} (f : Format E X) (order : Endian) (x : X) (old new : List ℕ)
    (n : ℕ) → agrees f order x → WritesPrefix (length (bytes f order x)) (bytes f order x) old new n
    → WritesWhole f order x old new n
whole-written f order x old new n agreed wrote =
    let there : reads f order new 0 x = subst (λ s. reads f order s 0 x) (sym wrote.after)
    (back f order x [] (drop (length (bytes f order x)) old) agreed) in record {
      agreed = agreed;
      wrote = wrote;
      size = wrote.size ∙ bytes-len f order x agreed;
      written = ap (λ l. take n l) wrote.after
          ∙ take_at (bytes f order x) (drop (length (bytes f order x)) old) n (sym wrote.size);
      value = there;
      again = at_start x there;
      kept = λ rest. at_start x (WritesPrefix-back (λ (s : List ℕ) (v m : ℕ). reads f order s 0 x) 0
          (bytes f order x) old new rest n (back f order x [] rest agreed) wrote);
    }

-- a value that was written is read, whatever is written after it
pub whole-kept : {E X : Type 0} (f : Format E X) (order : Endian) (x : X) (old new : List ℕ)
    (n : ℕ) → WritesWhole f order x old new n → (rest : List ℕ)
    → ReadsBack f order (take n new ++ rest) x n
whole-kept f order x old new n h rest =
    let size : length (take n new) ≡ n = ap length h.written ∙ sym h.wrote.size in
    record {
      value = stood f order (take n new ++ rest) x (h.kept rest);
      agreed = h.agreed;
      size = h.size;
      inside = omega (arith, size, length-append (take n new) rest);
      count = sym h.wrote.size;
      back = sym h.written ∙ sym (take_at (take n new) rest n size);
    }

-- and is one that a read of bytes may return
pub whole-returned : {E X : Type 0} (f : Format E X) (order : Endian) (s : List ℕ) (x : X) (n : ℕ)
    → told f → All (λ b. b < 256) s → ReadsBack f order s x n → ReadsWhole f order s x n
whole-returned f order s x n t all h = whole-read f order s x n t all h.value h.size

pub exact-returned : {E X : Type 0} (f : Format E X) (order : Endian) (s : List ℕ) (x : X) (n : ℕ)
    → exact f → told f → All (λ b. b < 256) s → ReadsBack f order s x n
    → ReadsExact f order s x n
exact-returned f order s x n e t all h =
    exact-read f order s x n e all (whole-returned f order s x n t all h)

-- a value that was appended
pub whole-appended : {E X : Type 0} (f : Format E X) (order : Endian) (x : X) (old new : List ℕ)
    → agrees f order x → new ≡ old ++ bytes f order x → AppendsWhole f order x old new
whole-appended f order x old new agreed is =
    let kept : (rest : List ℕ) → reads f order (drop (length old) (new ++ rest)) 0 x = λ rest.
    subst (λ s. reads f order s 0 x)
    (sym (drop-append_seam old (bytes f order x ++ rest))
    ∙ ap (drop (length old)) (sym (append_assoc old (bytes f order x) rest))
    ∙ ap (λ s. drop (length old) (s ++ rest)) (sym is))
    (back f order x [] rest agreed) in
    let there : reads f order (drop (length old) new) 0 x =
    subst (λ s. reads f order (drop (length old) s) 0 x) (append-nil new) (kept []) in
    record {
      agreed = agreed;
      is = is;
      size = ap length is ∙ length-append old (bytes f order x)
          ∙ ap (λ n. length old + n) (bytes-len f order x agreed);
      value = there;
      again = at_start x there;
      kept = λ later rest more. at_start x
          (subst (λ s. reads f order (drop (length old) s) 0 x) (sym more) (kept rest));
    }

-- what is appended stands behind what was there
each-behind : {E X : Type 0} (f : Format E X) (order : Endian) (old : List ℕ) (xs : List X)
    (new : List ℕ) → AppendsEach f order old xs new → (rest : List ℕ) × (new ≡ old ++ rest)
each-behind f order old [] new h = ([], h ∙ sym (append-nil old))
each-behind f order old (x ∷ xs) new h =
    let mid : List ℕ = h.2.0 in
    let behind : (rest : List ℕ) × (new ≡ mid ++ rest) = each-behind f order mid xs new h.2.2 in (
      bytes f order x ++ behind.0,
      behind.1 ∙ ap (λ l. l ++ behind.0) h.2.1.is ∙ append_assoc old (bytes f order x) behind.0,
    )

-- one more value is appended
each-push : {E X : Type 0} (f : Format E X) (order : Endian) (old : List ℕ) (xs : List X) (x : X)
    (mid new : List ℕ) → AppendsEach f order old xs mid → AppendsWhole f order x mid new
    → AppendsEach f order old (xs ++ x ∷ []) new
each-push f order old [] x mid new h last =
    let here : AppendsWhole f order x old new =
    subst (λ l. AppendsWhole f order x l new) h last in
    (here.value, here.again, (new, here, refl))
each-push f order old (y ∷ ys) x mid new h last =
    let to : List ℕ = h.2.0 in
    let others : AppendsEach f order to (ys ++ x ∷ []) new =
    each-push f order to ys x mid new h.2.2 last in
    let behind : (rest : List ℕ) × (new ≡ to ++ rest) =
    each-behind f order to (ys ++ x ∷ []) new others in
    let there : AtStart f order (drop (length old) new) y =
    h.2.1.kept new behind.0 behind.1 in
    (stood f order (drop (length old) new) y there, there, (to, h.2.1, others))

-- the first values, and the one after them
more : {X : Type 0} (xs : List X) (i : ℕ) (x : X) → i < length xs → x ≡ slice_index_or xs i x
    → take (i + 1) xs ≡ take i xs ++ x ∷ []
more xs i x inside is = take_more xs i x inside ∙ ap (λ y. take i xs ++ y ∷ []) (sym is)

pub each-next : {E X : Type 0} (f : Format E X) (order : Endian) (old : List ℕ) (xs : List X)
    (i : ℕ) (x : X) (mid new : List ℕ) → i < length xs → x ≡ slice_index_or xs i x
    → AppendsEach f order old (take i xs) mid → AppendsWhole f order x mid new
    → AppendsEach f order old (take (i + 1) xs) new
each-next f order old xs i x mid new inside is h last =
    subst (λ l. AppendsEach f order old l new) (sym (more xs i x inside is))
    (each-push f order old (take i xs) x mid new h last)

-- there is no room in a vector that had less
less-room : {E X : Type 0} (gives : Error → E → Type 0) (room now : ℕ) (f : Format E X)
    (order : Endian) (x : X) (mid new : List ℕ) (e : E) → new ≡ mid → room ≤ now
    → differs f order x e ⊎ LacksRoom gives now f order mid x e
    → differs f order x e ⊎ LacksRoom gives room f order new x e
less-room gives room now f order x mid new e same more (inl d) = inl d
less-room gives room now f order x mid new e same more (inr h) =
    inr (h.0, omega (arith, more, h.1, ap length same), h.2)

-- one of them fails
pub each-fails : {E X : Type 0} (gives : Error → E → Type 0) (room now : ℕ) (f : Format E X)
    (order : Endian) (old : List ℕ) (xs : List X) (i : ℕ) (x : X) (mid new : List ℕ) (e : E)
    → i < length xs → x ≡ slice_index_or xs i x → AppendsEach f order old (take i xs) mid
    → new ≡ mid → room ≤ now
    → differs f order x e ⊎ LacksRoom gives now f order mid x e
    → FailsEach gives room f order old xs new e
each-fails gives room now f order old xs i x mid new e inside is h same more-room error = record {
  values = take i xs;
  value = x;
  others = drop (i + 1) xs;
  split = sym (take-append-drop (i + 1) xs)
      ∙ ap (λ l. l ++ drop (i + 1) xs) (more xs i x inside is)
      ∙ append_assoc (take i xs) (x ∷ []) (drop (i + 1) xs);
  each = subst (λ l. AppendsEach f order old (take i xs) l) (sym same) h;
  error = less-room gives room now f order x mid new e same more-room error;
}

pub ruleset sizes = (layout-len, bytes-len)
