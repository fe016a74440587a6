-- What is seen after a history, and the pieces that a write of leaves leaves at an offset of a
-- buffer, and in the rest of the buffer. A run grows by one command, and its errors own no memory.
use Rattle.std.proofs.Common.{◌≡◌, ℕ, ◌<◌, ◌++◌, List, [], ◌∷◌, length, get_or, arith, refl, sym, ◌∙◌, ap, Option, Some, None, unwrap_or, ◌+◌, ◌-◌, ◌≤◌, take, drop, inl, inr, slice_get, length-drop, length-append, subst, append_assoc, append-nil}
use Rattle.std.proofs.lemmas.Grind.{same_number_lists}
use Rattle.std.proofs.lemmas.List.FromFn.{length-map-range_with_len, get_or-map-range_with_len}
use Rattle.std.specs.Option.{option_or}
use Rattle.scroll.specs.History.{Piece, byte_of, last_byte, seen, pieces, left_over, refusal}
use Rattle.std.proofs.lemmas.Bool.{cases_lt}
use Rattle.std.proofs.lemmas.List.{get_or-take, get_or-drop, get_or_append_left, get_or-append_right, take_more}
use Rattle.std.proofs.lemmas.Option.{slice_get-get_or, slice_get_past, same_Some}
use Rattle.scroll.specs.declared.error.Error.TheVariants.{TooBig, BadOffset, BadInput, Custom, IO, NoMemory}
use Rattle.scroll.specs.Runs.{Step, IsStep, Run, IsRun, RefusesKind, RefusesHere, leaves_of, offset_of}
use Rattle.scroll.specs.declared.error.Error.{Error}
use Rattle.scroll.specs.declared.runner.Answer.{Answer}
use Rattle.scroll.specs.declared.runner.Command.{Command}
use Rattle.scroll.specs.declared.runner.Command.TheVariants.{Read}
use Rattle.scroll.specs.declared.runner.Kind.{Kind}
use Rattle.scroll.specs.declared.runner.Place.{Place}
use Rattle.std.proofs.lemmas.List.Elements.{All-nil, All-cons}
use Rattle.std.specs.List.{All}
use Rattle.scroll.specs.Laws.{RefusesPlainly}
use Rattle.scroll.specs.Arrays.{RefusesArray}
use Rattle.scroll.specs.Bytes.{RefusesShort}
use Rattle.scroll.specs.Errors.{IsBadInput, IsBadOffset, IsPlain}
use Rattle.scroll.specs.Leb128.{RefusesLeb}
use Rattle.scroll.specs.Reads.{RefusesAt}
use Rattle.scroll.specs.Texts.{RefusesText}
use Rattle.scroll.specs.declared.ctx.str_ctx.StrCtx.{StrCtx}
use Rattle.scroll.specs.declared.runner.Answer.TheVariants as answer
use Rattle.scroll.specs.declared.runner.Command.TheVariants as command
use Rattle.scroll.specs.declared.runner.Kind.TheVariants as kind

option_or-assoc : {X : Type 0} (a b c : Option X)
    → option_or a (option_or b c) ≡ option_or (option_or a b) c
option_or-assoc None b c = refl
option_or-assoc (Some x) b c = refl

pub option_or-none : {X : Type 0} (a : Option X) → option_or a None ≡ a
option_or-none None = refl
option_or-none (Some x) = refl

unwrap_or-twice : (a b : Option ℕ) (x : ℕ)
    → unwrap_or a (unwrap_or b x) ≡ unwrap_or (option_or a b) x
unwrap_or-twice None b x = refl
unwrap_or-twice (Some y) b x = refl

-- the last byte of a longer history
pub last_byte-append : (h p : List Piece) (i : ℕ)
    → last_byte (h ++ p) i ≡ option_or (last_byte p i) (last_byte h i)
last_byte-append [] p i = sym (option_or-none (last_byte p i))
last_byte-append (x ∷ xs) p i =
    ap (λ o. option_or o (byte_of x i)) (last_byte-append xs p i)
    ∙ sym (option_or-assoc (last_byte p i) (last_byte xs i) (byte_of x i))

-- what is seen has the length of the buffer
pub length-seen : (b : List ℕ) (h : List Piece) → length (seen b h) ≡ length b
length-seen b h =
    length-map-range_with_len (λ i. unwrap_or (last_byte h i) (get_or b i 0)) 0 (length b)

-- a byte of what is seen
pub get_or-seen : (b : List ℕ) (h : List Piece) (i : ℕ) → i < length b
    → get_or (seen b h) i 0 ≡ unwrap_or (last_byte h i) (get_or b i 0)
get_or-seen b h i l =
    get_or-map-range_with_len (λ j. unwrap_or (last_byte h j) (get_or b j 0)) 0 (length b) i i 0 l
    (omega arith)

-- more pieces over what is seen
pub seen-append : (b : List ℕ) (h p : List Piece) → seen (seen b h) p ≡ seen b (h ++ p)
seen-append b h p =
    same_number_lists (seen (seen b h) p) (seen b (h ++ p))
    (length-seen (seen b h) p ∙ length-seen b h ∙ sym (length-seen b (h ++ p))) (λ i l.
    let outer : i < length (seen b h) = omega (arith, l, length-seen (seen b h) p) in
    let inside : i < length b = omega (arith, outer, length-seen b h) in
    get_or-seen (seen b h) p i outer
    ∙ ap (unwrap_or (last_byte p i)) (get_or-seen b h i inside)
    ∙ unwrap_or-twice (last_byte p i) (last_byte h i) (get_or b i 0)
    ∙ ap (λ o. unwrap_or o (get_or b i 0)) (sym (last_byte-append h p i))
    ∙ sym (get_or-seen b (h ++ p) i inside))

-- nothing was written
pub seen-nil : (b : List ℕ) → seen b [] ≡ b
seen-nil b =
    same_number_lists (seen b []) b (length-seen b [])
    (λ i l. get_or-seen b [] i (omega (arith, l, length-seen b [])))

-- a leaf that fits, and one that doesn't
pub pieces-fits : (n o : ℕ) (l : List ℕ) (ls : List (List ℕ)) → o + length l ≤ n
    → pieces n o (l ∷ ls) ≡ (o, l) ∷ pieces n (o + length l) ls
pieces-fits n o l ls h = grind arith

pub pieces-misfit : (n o : ℕ) (l : List ℕ) (ls : List (List ℕ)) → n < o + length l
    → pieces n o (l ∷ ls) ≡ []
pieces-misfit n o l ls h = grind arith

pub left_over-fits : (n o : ℕ) (l : List ℕ) (ls : List (List ℕ)) → o + length l ≤ n
    → left_over n o (l ∷ ls) ≡ left_over n (o + length l) ls
left_over-fits n o l ls h = grind arith

pub left_over-misfit : (n o : ℕ) (l : List ℕ) (ls : List (List ℕ)) → n < o + length l
    → left_over n o (l ∷ ls) ≡ Some (TooBig (length l) (n - o))
left_over-misfit n o l ls h = grind arith

-- no piece is before the offset
last_byte-before : (n o : ℕ) (ls : List (List ℕ)) (i : ℕ) → i < o
    → last_byte (pieces n o ls) i ≡ None
last_byte-before n o [] i h = refl
last_byte-before n o (l ∷ ls) i h =
    elim (cases_lt n (o + length l)) as (λ _. last_byte (pieces n o (l ∷ ls)) i ≡ None) [
      | inl k ↦ rw (pieces-misfit n o l ls k) refl
      | inr k ↦
          let rest = last_byte-before n (o + length l) ls i (omega (arith, h)) in
          let none : byte_of (o, l) i ≡ None = grind arith in
          rw (pieces-fits n o l ls k, rest, none) refl
    ]

-- the pieces in a buffer are those in its rest
last_byte-rest : (n o p : ℕ) (ls : List (List ℕ)) (i : ℕ) → o ≤ n
    → last_byte (pieces n (o + p) ls) (o + i) ≡ last_byte (pieces (n - o) p ls) i
last_byte-rest n o p [] i h = refl
last_byte-rest n o p (l ∷ ls) i h =
    elim (cases_lt n (o + p + length l))
    as (λ _. last_byte (pieces n (o + p) (l ∷ ls)) (o + i)
    ≡ last_byte (pieces (n - o) p (l ∷ ls)) i) [
      | inl k ↦
          rw (pieces-misfit n (o + p) l ls k, pieces-misfit (n - o) p l ls (omega (arith, k))) refl
      | inr k ↦
          let rest = last_byte-rest n o (p + length l) ls i h in
          let offset : o + p + length l ≡ o + (p + length l) = omega arith in
          let byte : byte_of (o + p, l) (o + i) ≡ byte_of (p, l) i =
          elim (cases_lt i p) as (λ _. byte_of (o + p, l) (o + i) ≡ byte_of (p, l) i) [
            | inl x ↦ grind arith
            | inr x ↦ let at : o + i - (o + p) ≡ i - p = omega (arith, x) in grind arith
          ] in
          rw (
            pieces-fits n (o + p) l ls k,
            pieces-fits (n - o) p l ls (omega (arith, k)),
            offset,
            rest,
            byte,
          ) refl
    ]

-- the error in a buffer is that in its rest
left_over-rest : (n o p : ℕ) (ls : List (List ℕ)) → o ≤ n
    → left_over n (o + p) ls ≡ left_over (n - o) p ls
left_over-rest n o p [] h = refl
left_over-rest n o p (l ∷ ls) h =
    elim (cases_lt n (o + p + length l))
    as (λ _. left_over n (o + p) (l ∷ ls) ≡ left_over (n - o) p (l ∷ ls)) [
      | inl k ↦
          let left : n - (o + p) ≡ n - o - p = omega arith in
          rw (
            left_over-misfit n (o + p) l ls k,
            left_over-misfit (n - o) p l ls (omega (arith, k)),
            left,
          ) refl
      | inr k ↦
          let rest = left_over-rest n o (p + length l) ls h in
          let offset : o + p + length l ≡ o + (p + length l) = omega arith in
          rw (
            left_over-fits n (o + p) l ls k,
            left_over-fits (n - o) p l ls (omega (arith, k)),
            offset,
            rest,
          ) refl
    ]

pub refusal-inside : (n o : ℕ) (ls : List (List ℕ)) → o ≤ n → refusal n o ls ≡ left_over n o ls
refusal-inside n o ls h = grind arith

pub refusal-past : (n o : ℕ) (ls : List (List ℕ)) → n < o → refusal n o ls ≡ Some (BadOffset o)
refusal-past n o ls h = grind arith

pub pieces-past : (n o : ℕ) (ls : List (List ℕ)) → n < o → pieces n o ls ≡ []
pieces-past n o [] h = refl
pieces-past n o (l ∷ ls) h = pieces-misfit n o l ls (omega (arith, h))

-- leaves written to the rest of a buffer are written to the buffer
pub seen-rest : (o : ℕ) (old new : List ℕ) (ls : List (List ℕ)) → o ≤ length old
    → length new ≡ length old → take o new ≡ take o old
    → drop o new ≡ seen (drop o old) (pieces (length (drop o old)) 0 ls)
    → new ≡ seen old (pieces (length old) o ls)
seen-rest o old new ls h len prefix back =
    let left = length-drop o old in
    let whole = length-seen old (pieces (length old) o ls) in
    same_number_lists new (seen old (pieces (length old) o ls)) (len ∙ sym whole) (λ k l.
    let inside : k < length old = omega (arith, l, len) in
    elim (cases_lt k o)
    as (λ _. get_or new k 0 ≡ get_or (seen old (pieces (length old) o ls)) k 0) [
      | inl x ↦
          sym (get_or-take o new k 0 x) ∙ ap (λ w. get_or w k 0) prefix ∙ get_or-take o old k 0 x
          ∙ ap (λ w. unwrap_or w (get_or old k 0)) (sym (last_byte-before (length old) o ls k x))
          ∙ sym (get_or-seen old (pieces (length old) o ls) k inside)
      | inr x ↦
          let at : o + (k - o) ≡ k = omega (arith, x) in
          let bytes = last_byte-rest (length old) o 0 ls (k - o) h in
          let bytes' : last_byte (pieces (length (drop o old)) 0 ls) (k - o)
          ≡ last_byte (pieces (length old) o ls) k =
          ap (λ m. last_byte (pieces m 0 ls) (k - o)) left ∙ sym bytes
          ∙ ap (λ m. last_byte (pieces (length old) m ls) (o + (k - o))) (omega arith)
          ∙ ap (last_byte (pieces (length old) o ls)) at in
          ap (λ m. get_or new m 0) (sym at) ∙ sym (get_or-drop o new (k - o) 0)
          ∙ ap (λ w. get_or w (k - o) 0) back
          ∙ get_or-seen (drop o old) (pieces (length (drop o old)) 0 ls) (k - o)
          (omega (arith, inside, left, x))
          ∙ ap (λ w. unwrap_or w (get_or (drop o old) (k - o) 0)) bytes'
          ∙ ap (λ w. unwrap_or (last_byte (pieces (length old) o ls) k) w)
          (get_or-drop o old (k - o) 0 ∙ ap (λ m. get_or old m 0) at)
          ∙ sym (get_or-seen old (pieces (length old) o ls) k inside)
    ])

pub left_over-drop : (old : List ℕ) (o : ℕ) (ls : List (List ℕ)) → o ≤ length old
    → left_over (length old) o ls ≡ refusal (length (drop o old)) 0 ls
left_over-drop old o ls h =
    ap (λ m. left_over (length old) m ls) (omega arith) ∙ left_over-rest (length old) o 0 ls h
    ∙ ap (λ m. left_over m 0 ls) (sym (length-drop o old))
    ∙ sym (refusal-inside (length (drop o old)) 0 ls (omega arith))

-- a byte after one piece at the prefix
byte-prefix : (t old : List ℕ) (k : ℕ)
    → get_or (t ++ drop (length t) old) k 0 ≡ unwrap_or (byte_of (0, t) k) (get_or old k 0)
byte-prefix t old k =
    let none : k - 0 ≡ k = omega arith in
    let byte : byte_of (0, t) k ≡ slice_get t k = grind arith in
    elim (cases_lt k (length t))
    as (λ _. get_or (t ++ drop (length t) old) k 0
    ≡ unwrap_or (byte_of (0, t) k) (get_or old k 0)) [
      | inl l ↦
          get_or_append_left t (drop (length t) old) 0 k l
          ∙ ap (λ o. unwrap_or o (get_or old k 0)) (sym (slice_get-get_or t k 0 l) ∙ sym byte)
      | inr l ↦
          let at : length t + (k - length t) ≡ k = omega (arith, l) in
          get_or-append_right t (drop (length t) old) (length t) k 0 refl l
          ∙ get_or-drop (length t) old (k - length t) 0
          ∙ ap (λ m. get_or old m 0) at
          ∙ ap (λ o. unwrap_or o (get_or old k 0)) (sym (slice_get_past t k l) ∙ sym byte)
    ]

-- one piece at the prefix
pub prefix-piece : (t old : List ℕ) → length t ≤ length old
    → t ++ drop (length t) old ≡ seen old ((0, t) ∷ [])
prefix-piece t old room =
    let left = length-drop (length t) old in
    let whole = length-append t (drop (length t) old) in
    let same = length-seen old ((0, t) ∷ []) in
    same_number_lists (t ++ drop (length t) old) (seen old ((0, t) ∷ []))
    (omega (arith, left, whole, same)) (λ k l.
    let inside : k < length old = omega (arith, l, left, whole, room) in
    byte-prefix t old k ∙ sym (get_or-seen old ((0, t) ∷ []) k inside))

-- one more command at the end of a run
Run-push : (first : List ℕ) (h : List Piece) (cursor : ℕ) (cs : List Command)
    (answers : List Answer) (whole : List Piece) (after : ℕ) (c : Command) (a : Answer)
    (written : List Piece) (end : ℕ) → Run first h cursor cs answers whole after
    → Step (seen first whole) after c a written end
    → Run first h cursor (cs ++ c ∷ []) (answers ++ a ∷ []) (whole ++ written) end
Run-push first h cursor [] [] whole after c a written end r s =
    let s1 : Step (seen first h) after c a written end =
    subst (λ w. Step (seen first w) after c a written end) r.0 s in
    let s2 : Step (seen first h) cursor c a written end =
    subst (λ k. Step (seen first h) k c a written end) r.1 s1 in
    (written, end, s2, (ap (λ w. w ++ written) r.0, refl))
Run-push first h cursor (d ∷ ds) (b ∷ bs) whole after c a written end r s =
    (r.0, r.1, r.2, Run-push first (h ++ r.0) r.1 ds bs whole after c a written end r.3 s)
Run-push first h cursor [] (b ∷ bs) whole after c a written end r s = absurd r
Run-push first h cursor (d ∷ ds) [] whole after c a written end r s = absurd r

-- nothing has run
pub IsRun-none : (first : List ℕ) (from : ℕ) (old : List Answer)
    → IsRun first first from from [] old old
IsRun-none first from old = record {
  answers = [];
  history = [];
  appended = sym (append-nil old);
  run = (refl, refl);
  bytes = sym (seen-nil first);
}

-- one more command has run
IsRun-push : (first buffer buffer' : List ℕ) (from to to' : ℕ) (cs : List Command)
    (old new new' : List Answer) (c : Command) (a : Answer) → IsRun first buffer from to cs old new
    → new' ≡ new ++ a ∷ [] → IsStep buffer buffer' to c a to'
    → IsRun first buffer' from to' (cs ++ c ∷ []) old new'
IsRun-push first buffer buffer' from to to' cs old new new' c a r items s =
    let step : Step (seen first r.history) to c a s.written to' =
    subst (λ b. Step b to c a s.written to') r.bytes s.step in
    record {
      answers = r.answers ++ a ∷ [];
      history = r.history ++ s.written;
      appended = items ∙ ap (λ w. w ++ a ∷ []) r.appended ∙ append_assoc old r.answers (a ∷ []);
      run = Run-push first [] from cs r.answers r.history to c a s.written to' r.run step;
      bytes = s.bytes ∙ ap (λ b. seen b s.written) r.bytes ∙ seen-append first r.history s.written;
    }

-- the same for a prefix of a list of commands
pub IsRun-next : (first buffer buffer' : List ℕ) (from to to' : ℕ) (commands : List Command) (i : ℕ)
    (d : Command) (old new new' : List Answer) (a : Answer) → i < length commands
    → IsRun first buffer from to (take i commands) old new → new' ≡ new ++ a ∷ []
    → IsStep buffer buffer' to (get_or commands i d) a to'
    → IsRun first buffer' from to' (take (i + 1) commands) old new'
IsRun-next first buffer buffer' from to to' commands i d old new new' a inside r items s =
    rw (take_more commands i d inside)
    (IsRun-push first buffer buffer' from to to' (take i commands) old new new'
    (get_or commands i d) a r items s)

plain-short : (w : ℕ) (s : List ℕ) (e : Error) → RefusesShort w s e → IsPlain e
plain-short w s e r = subst IsPlain (sym r.error) tt

plain-input : (e : Error) (n : ℕ) (text : List ℕ) → IsBadInput e n text → IsPlain e
plain-input (TooBig size len) n text h = tt
plain-input (BadOffset offset) n text h = tt
plain-input (BadInput size msg) n text h = tt
plain-input (Custom t) n text h = h
plain-input (IO fault) n text h = h
plain-input NoMemory n text h = h

-- an error at an offset is plain if those of the type are
plain-at : (refuses : List ℕ → Error → Type 0)
    → ((s : List ℕ) (e : Error) → refuses s e → IsPlain e)
    → (buffer : List ℕ) (place : ℕ) (e : Error) → RefusesAt refuses IsBadOffset buffer place e
    → IsPlain e
plain-at refuses plain buffer place e (inl a) = subst IsPlain (sym a.1) tt
plain-at refuses plain buffer place e (inr a) = plain _ e a.1

plain-array : {V : Type 0} (reads : List ℕ → V → ℕ → Type 0) (refuses : List ℕ → Error → Type 0)
    (count : ℕ) → ((s : List ℕ) (e : Error) → refuses s e → IsPlain e) → (s : List ℕ) (e : Error)
    → RefusesArray reads refuses IsBadOffset count s e → IsPlain e
plain-array reads refuses count plain s e r = plain-at refuses plain s r.stop e r.error

plain-text : (ctx : StrCtx) (s : List ℕ) (e : Error) → RefusesText ctx s e → IsPlain e
plain-text ctx s e (inl short) = plain-short _ s e short
plain-text ctx s e (inr (inl invalid)) = plain-input e _ _ invalid.error
plain-text ctx s e (inr (inr missing)) = plain-input e _ _ missing.error

plain-leb : {V : Type 0} (value_of : List ℕ → V) (Fits : V → Type 0) (s : List ℕ) (e : Error)
    → RefusesLeb value_of Fits s e → IsPlain e
plain-leb value_of Fits s e (inl cut) = subst IsPlain (sym cut.error) tt
plain-leb value_of Fits s e (inr unfit) = plain-input e _ _ unfit.error

plain-refuses : (what : Kind) (s : List ℕ) (e : Error) → RefusesKind what s e → IsPlain e
plain-refuses (kind.Number width order) s e h = plain-short _ s e h
plain-refuses (kind.Text ctx) s e h = plain-text ctx s e h
plain-refuses (kind.Bytes len) s e h = plain-short _ s e h
plain-refuses kind.CStr s e h = plain-input e _ _ h.error
plain-refuses kind.CString s e h = plain-input e _ _ h.error
plain-refuses kind.Uleb s e h = plain-leb _ _ s e h
plain-refuses kind.Sleb s e h = plain-leb _ _ s e h
plain-refuses (kind.U8x0 order) s e h = plain-array _ _ 0 (plain-short 1) s e h
plain-refuses (kind.U16x3 order) s e h = plain-array _ _ 3 (plain-short 2) s e h
plain-refuses (kind.Textx2 ctx) s e h = plain-array _ _ 2 (plain-text ctx) s e h

-- a read that fails at the place of a command doesn't fail for want of memory
pub plain-read : (what : Kind) (buffer : List ℕ) (cursor : ℕ) (at : Place) (e : Error) (after : ℕ)
    → RefusesHere (RefusesKind what) IsBadOffset buffer cursor at e after → IsPlain e
plain-read what buffer cursor at e after h =
    plain-at (RefusesKind what) (plain-refuses what) buffer _ e h.0

plain-left : (len place : ℕ) (leaves : List (List ℕ)) (e : Error)
    → left_over len place leaves ≡ Some e → IsPlain e
plain-left len place [] e h = absurd (cc h)
plain-left len place (leaf ∷ leaves) e h = elim (cases_lt len (place + length leaf)) [
  | inl short ↦
      subst IsPlain (same_Some _ _ (sym (left_over-misfit len place leaf leaves short) ∙ h)) tt
  | inr fits ↦
      plain-left len (place + length leaf) leaves e
      (sym (left_over-fits len place leaf leaves fits) ∙ h)
]

plain-write : (len place : ℕ) (leaves : List (List ℕ)) (e : Error)
    → refusal len place leaves ≡ Some e → IsPlain e
plain-write len place leaves e h = elim (cases_lt len place) [
  | inl past ↦ subst IsPlain (same_Some _ _ (sym (refusal-past len place leaves past) ∙ h)) tt
  | inr inside ↦ plain-left len place leaves e (sym (refusal-inside len place leaves inside) ∙ h)
]

plain-step : (buffer : List ℕ) (cursor : ℕ) (c : Command) (e : Error) (written : List Piece)
    (after : ℕ) → Step buffer cursor c (answer.Refused e) written after → IsPlain e
plain-step buffer cursor (command.Read at what) e written after h =
    plain-read what buffer cursor at e after h.0
plain-step buffer cursor (command.Write at x) e written after h =
    plain-write (length buffer) (offset_of at cursor) (leaves_of x) e h.0.0

plain-answer : (buffer : List ℕ) (cursor : ℕ) (c : Command) (a : Answer) (written : List Piece)
    (after : ℕ) → Step buffer cursor c a written after → RefusesPlainly a
plain-answer buffer cursor c (answer.Refused e) written after h =
    plain-step buffer cursor c e written after h
plain-answer buffer cursor c (answer.Read x) written after h = tt
plain-answer buffer cursor c (answer.Wrote n) written after h = tt

-- each error of a run is plain
pub plain-run : (first : List ℕ) (history : List Piece) (cursor : ℕ) (commands : List Command)
    (answers : List Answer) (whole : List Piece) (to : ℕ)
    → Run first history cursor commands answers whole to → All RefusesPlainly answers
plain-run first history cursor [] [] whole to r = All-nil RefusesPlainly
plain-run first history cursor (c ∷ cs) (a ∷ rest) whole to r =
    All-cons RefusesPlainly a rest (plain-answer (seen first history) cursor c a r.0 r.1 r.2)
    (plain-run first (history ++ r.0) r.1 cs rest whole to r.3)
plain-run first history cursor [] (a ∷ rest) whole to r = absurd r
plain-run first history cursor (c ∷ cs) [] whole to r = absurd r
