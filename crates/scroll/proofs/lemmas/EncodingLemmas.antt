-- Digits to the base 128, the encodings that they make, and numbers of either sign that are encoded
-- so.
use Rattle.std.proofs.Common.{◌≡◌, ℕ, suc, ◌+◌, ◌-◌, ◌*◌, ◌/◌, ◌%◌, ◌^◌, ◌<◌, ◌≤◌, ◌↔◌, inl, inr, true, false, nat_lt, List, ◌++◌, take, drop, length, get_or, refl, sym, ap, subst, ◌∙◌, arith, ℤ, pos, negsuc, ◌-ℤ◌, FitsSigned}
use Rattle.std.proofs.Math.Nat.{mod-eq_of_lt, one-le-pow, pow-le-pow_right}
use Rattle.std.proofs.lemmas.Nat.{div_below}
use Rattle.std.proofs.lemmas.Int.{ints}
use Rattle.std.proofs.lemmas.Bool.{cases_lt}
use Rattle.std.proofs.lemmas.Bool.Decides.{nat_tests}
use Rattle.std.proofs.lemmas.List.{get_or-take, length-take, length-take-le}
use Rattle.std.proofs.lemmas.List.FromFn.{fill_by_all, get_or-map-range_with_len}
use Rattle.std.proofs.lemmas.List.Elements.{All-get_or}
use Rattle.std.proofs.Math.Seq.{take-append_seam}
use Rattle.std.specs.Int.{w64}
use Rattle.std.specs.List.{All}
use Rattle.scroll.specs.Leb128.{group, groups_value, end_of, count_of, unsigned_of, signed_of, Counted, ReadsLeb, ReadsSleb, ReadsGroups, ReadsCounted}
use Rattle.scroll.specs.Encoding.{WritesLeb, encoded_byte, encoding, unsigned_form, Room, SignedRoom, HasLeb, HoldsGroups, HasSignedEncoding, BeginsWithLeb}
use Rattle.scroll.specs.lemmas.Frames.{length-encoding}
use Rattle.scroll.specs.lemmas.NumberLemmas.{sum_below-same, digits-sum, digit-at}
use Rattle.scroll.proofs.lemmas.LebLemmas.{power_more, groups_lt, end_at, end_below, open_before, sign_is_top}

-- what a byte of an encoding says
before_last : (s : List ℕ) (v n k : ℕ) → get_or s k 0 ≡ encoded_byte v n k → k + 1 < n
    → 128 ≤ get_or s k 0
before_last s v n k e h =
    let t : nat_lt (k + 1) n ≡ true = grind (arith, nat_tests) in
    let f = rw t at e in
    omega arith

last_one : (s : List ℕ) (v n : ℕ) → get_or s (n - 1) 0 ≡ encoded_byte v n (n - 1) → 1 ≤ n
    → v < 128 ^ n
    → (get_or s (n - 1) 0 < 128) × (v / 128 ^ (n - 1) < 128)
last_one s v n e some room =
    let t : nat_lt (n - 1 + 1) n ≡ false = grind (arith, nat_tests) in
    let f = rw t at e in
    let back : n - 1 + 1 ≡ n = omega arith in
    let power = rw back at (power_more (n - 1)) in
    let positive : 0 < 128 ^ (n - 1) = one-le-pow (n - 1) 128 (omega arith) in
    let below = div_below v (128 ^ (n - 1)) 128 positive (rw power at room) in
    (omega arith, below)

encoded_group : (s : List ℕ) (v n k : ℕ) → get_or s k 0 ≡ encoded_byte v n k
    → group s k ≡ v / 128 ^ k % 128
encoded_group s v n k e = elim (cases_lt (k + 1) n) [
  | inl h ↦
      let t : nat_lt (k + 1) n ≡ true = grind (arith, nat_tests) in
      let f = rw t at e in
      omega arith
  | inr h ↦
      let t : nat_lt (k + 1) n ≡ false = grind (arith, nat_tests) in
      let f = rw t at e in
      rw f refl
]

-- group i is digit i of the sum
digit_is : (s : List ℕ) (n i : ℕ) → i < n → groups_value s n / 128 ^ i % 128 ≡ group s i
digit_is s n i h = digit-at 128 (λ i. group s i) (λ i. omega arith) n i h

-- a sum of digits is what they are the digits of
groups_sum : (s : List ℕ) (v n : ℕ) → ((i : ℕ) → i < n → group s i ≡ v / 128 ^ i % 128)
    → groups_value s n ≡ v % 128 ^ n
groups_sum s v n h =
    sum_below-same _ _ n (λ i l. ap (λ g. g * 128 ^ i) (h i l)) ∙ digits-sum 128 (omega arith) n v

encoded_at : (s : List ℕ) (v n k : ℕ) → n ≤ length s → ((i : ℕ) → i < length s → get_or s i 0 < 256)
    → n ≡ end_of s + 1 → v ≡ groups_value s n → v < 128 ^ n → end_of s < length s → k < n
    → get_or s k 0 ≡ encoded_byte v n k
encoded_at s v n k within bytes n_is v_is room whole h =
    let small = bytes k (omega arith) in
    let digit : v / 128 ^ k % 128 ≡ group s k = rw v_is (digit_is s n k h) in
    elim (cases_lt (k + 1) n) [
      | inl before ↦
          let t : nat_lt (k + 1) n ≡ true = grind (arith, nat_tests) in
          let more = open_before s k (omega arith) in
          rw t (omega arith)
      | inr last ↦
          let t : nat_lt (k + 1) n ≡ false = grind (arith, nat_tests) in
          let k_is : k ≡ end_of s = omega arith in
          let low : get_or s k 0 < 128 = rw k_is (end_below s whole) in
          let n_next : n ≡ k + 1 = omega arith in
          let positive : 0 < 128 ^ k = one-le-pow k 128 (omega arith) in
          let below : v / 128 ^ k < 128 =
          div_below v (128 ^ k) 128 positive (rw (n_next, power_more k) at room) in
          rw t (omega arith)
    ]

pub to_encoding : (s : List ℕ) (v n : ℕ) → ((i : ℕ) → i < length s → get_or s i 0 < 256)
    → ReadsGroups s v n → HoldsGroups v n × (take n s ≡ encoding v n)
to_encoding s v n bytes g =
    let n_is : n ≡ end_of s + 1 = g.size in
    let v_is : v ≡ groups_value s n = g.value ∙ ap (groups_value s) (sym n_is) in
    let room : v < 128 ^ n = rw v_is (groups_lt s n) in
    let within : n ≤ length s = omega (arith, g.complete.0) in
    let byte =
    λ (k : ℕ) (h : k < n). encoded_at s v n k within bytes n_is v_is room (g.complete.0) h in (
      record { some = omega arith; few = omega (arith, g.complete.1); room = room; fits = tt },
      fill_by_all (encoded_byte v n) (take n s) n 0 (length-take-le n s within)
          (λ k h. get_or-take n s k 0 h ∙ byte k h),
    )

pub from_encoding : (s : List ℕ) (v n : ℕ) → HoldsGroups v n → take n s ≡ encoding v n
    → ReadsGroups s v n
from_encoding s v n has is =
    let within : n ≤ length s =
    omega (arith, length-take n s, ap length is ∙ length-encoding v n) in
    let byte = λ (k : ℕ) (h : k < n). sym (get_or-take n s k 0 h) ∙ ap (λ l. get_or l k 0) is
    ∙ get_or-map-range_with_len (encoded_byte v n) 0 n k k 0 h (omega arith) in
    let more =
    λ (k : ℕ) (h : k < n - 1). before_last s v n k (byte k (omega arith)) (omega arith) in
    let top = last_one s v n (byte (n - 1) (omega (arith, has.some))) has.some has.room in
    let e : end_of s ≡ n - 1 = end_at s (n - 1) (omega (arith, has.some)) more top.0 in
    let digits = λ (i : ℕ) (h : i < n). encoded_group s v n i (byte i h) in
    let n_is : n ≡ count_of s = omega (arith, has.some) in
    record {
      complete = (omega (arith, has.some), omega (arith, has.few));
      fits = tt;
      value =
          sym (mod-eq_of_lt has.room) ∙ sym (groups_sum s v n digits) ∙ ap (groups_value s) n_is;
      size = n_is;
    }

-- bytes that are an encoding, and then anything, begin with the encoding
pub encoding_prefix : (v n : ℕ) (t rest : List ℕ) → t ≡ encoding v n ++ rest
    → take n t ≡ encoding v n
encoding_prefix v n t rest is = ap (take n) is
    ∙ ap (λ j. take j (encoding v n ++ rest)) (sym (length-encoding v n))
    ∙ take-append_seam (encoding v n) rest

-- ---- numbers of either sign
-- the encodings of the numbers `v` are those of the unsigned numbers `form v n`
pub record IsForm {V : Type 0} (value_of : List ℕ → V) (Fits : V → Type 0)
    (HasRoom : V → ℕ → Type 0) (form : V → ℕ → ℕ) : Type 0 where
  pub holds : (v : V) (n : ℕ) → HasLeb HasRoom Fits v n → HoldsGroups (form v n) n
  pub value : (s : List ℕ) (v : V) (n : ℕ) → HasLeb HasRoom Fits v n → ReadsGroups s (form v n) n
      → v ≡ value_of s
  pub of_read : (s : List ℕ) (v : V) (n : ℕ) → ReadsLeb value_of Fits s v n
      → HasRoom v n × (form v n ≡ unsigned_of s)
  pub more : (v : V) (m n : ℕ) → 1 ≤ m → m ≤ n → HasRoom v m → HasRoom v n

module _ {V : Type 0} {value_of : List ℕ → V} {Fits : V → Type 0} {HasRoom : V → ℕ → Type 0}
    {form : V → ℕ → ℕ} (is : IsForm value_of Fits HasRoom form) where
  -- what was read has an encoding
  pub gives_encoding : (s : List ℕ) (v : V) (n : ℕ) → ReadsLeb value_of Fits s v n
      → HasLeb HasRoom Fits v n
  gives_encoding s v n g = record {
    some = omega (arith, g.size);
    few = omega (arith, g.complete, g.size);
    room = (is.of_read s v n g).0;
    fits = subst Fits (sym g.value) g.fits;
  }

  pub begins_reads : (s : List ℕ) (v : V) (n : ℕ) → HasLeb HasRoom Fits v n
      → take n s ≡ encoding (form v n) n → ReadsLeb value_of Fits s v n
  begins_reads s v n has prefix =
      let g = from_encoding s (form v n) n (is.holds v n has) prefix in
      let e = is.value s v n has g in
      record { complete = g.complete; fits = subst Fits e has.fits; value = e; size = g.size }

  -- a read of a number, and the encoding at the prefix
  pub reads_encoding : (s : List ℕ) (v : V) (n : ℕ) → All (λ b. b < 256) s
      → ReadsLeb value_of Fits s v n ↔ BeginsWithLeb (HasLeb HasRoom Fits) form s v n
  reads_encoding s v n bytes = (
    λ (g : ReadsLeb value_of Fits s v n).
        let groups : ReadsGroups s (unsigned_of s) n =
        record { complete = g.complete; fits = tt; value = refl; size = g.size } in
        let r =
        to_encoding s (unsigned_of s) n (λ i h. All-get_or (λ x. x < 256) s i 0 h bytes)
        groups in
        record { has = gives_encoding s v n g; prefix = rw (is.of_read s v n g).1 r.1 },
    λ (b : BeginsWithLeb (HasLeb HasRoom Fits) form s v n). begins_reads s v n b.has b.prefix,
  )

  -- no encoding is a prefix of another
  pub one_encoding : (v w : V) (m n : ℕ) (x y : List ℕ) → HasLeb HasRoom Fits v m
      → HasLeb HasRoom Fits w n
      → encoding (form v m) m ++ x ≡ encoding (form w n) n ++ y → (v ≡ w) × (m ≡ n)
  one_encoding v w m n x y p q same =
      let s = encoding (form v m) m ++ x in
      let a = begins_reads s v m p (encoding_prefix (form v m) m s x refl) in
      let b = begins_reads s w n q (encoding_prefix (form w n) n s y same) in
      (a.value ∙ sym b.value, a.size ∙ sym b.size)

  -- a longer one is padded
  pub longer_encoding : (v : V) (m n : ℕ) → HasLeb HasRoom Fits v m → m ≤ n → n ≤ 10
      → HasLeb HasRoom Fits v n
  longer_encoding v m n h more few =
      record {
        some = omega (arith, h.some, more);
        few = few;
        room = is.more v m n h.some more h.room;
        fits = h.fits;
      }

  -- what was written reads as the number, and a source that begins otherwise doesn't read so
  pub written_reads : (v : V) (n : ℕ) (t rest : List ℕ) → HasLeb HasRoom Fits v n
      → t ≡ encoding (form v n) n ++ rest → ReadsLeb value_of Fits t v n
  written_reads v n t rest has e = begins_reads t v n has (encoding_prefix (form v n) n t rest e)

  pub read_is_written : (v : V) (n : ℕ) (s t rest : List ℕ) → t ≡ encoding (form v n) n ++ rest
      → All (λ b. b < 256) s → ReadsLeb value_of Fits s v n → take n s ≡ take n t
  read_is_written v n s t rest e bytes g =
      ((reads_encoding s v n bytes).0 g).prefix ∙ sym (encoding_prefix (form v n) n t rest e)

  -- what was read, written back, and what was written, read again
  pub encoding_back : (s old new : List ℕ) (x : Counted V) (m n : ℕ) → All (λ b. b < 256) s
      → ReadsCounted (ReadsLeb value_of Fits) s x n
      → WritesLeb form x old new m → (m ≡ n) × (new ≡ take n s ++ drop n old)
  encoding_back s old new x m n bytes g w =
      let w_n = rw g.1 at w in (
        w_n.size,
        w_n.after ∙ ap (λ t. t ++ drop n old)
            (sym ((reads_encoding s x.value n bytes).0 g.0).prefix),
      )

  pub encoding_begins : (s old new : List ℕ) (x : Counted V) (m n : ℕ) → All (λ b. b < 256) s
      → ReadsCounted (ReadsLeb value_of Fits) s x n
      → WritesLeb form x old new m → take m s ≡ take m new
  encoding_begins s old new x m n bytes g w =
      let w_n = rw g.1 at w in
      rw w_n.size (read_is_written x.value n s new (drop n old) w_n.after bytes g.0)

  pub encoding_again : (old new after : List ℕ) (x : Counted V) (n : ℕ)
      → HasLeb HasRoom Fits x.value x.count
      → WritesLeb form x old new n → ReadsCounted (ReadsLeb value_of Fits) (take n new ++ after) x n
  encoding_again old new after x n has w =
      let w_n = rw (← w.size) at w in
      let prefix = encoding_prefix (form x.value n) n new (drop n old) w_n.after in (
        written_reads x.value n (take n new ++ after) after (rw (← w.size) at has)
            (ap (λ t. t ++ after) prefix),
        sym w.size,
      )

-- ---- unsigned numbers
pub unsigned-form : IsForm unsigned_of (λ v. v < 2 ^ 64) Room (λ v n. v)
unsigned-form = record {
  holds = λ v n h. record { some = h.some; few = h.few; room = h.room; fits = tt };
  value = λ s v n h g. g.value;
  of_read = λ s v n r. (rw (r.value, r.size) (groups_lt s (count_of s)), r.value);
  more =
      λ v m n some le room. let power : 128 ^ m ≤ 128 ^ n =
      pow-le-pow_right {n = 128} (omega arith) le in omega (arith, room, power);
}

-- ---- signed numbers
-- 128 ^ n, for n above 0
pub power_last : (n : ℕ) → 1 ≤ n → 128 ^ n ≡ 128 * 128 ^ (n - 1)
power_last n some = let back : n - 1 + 1 ≡ n = omega arith in rw back at (power_more (n - 1))

-- the number that encodes a signed number is below 128 ^ n
form_small : (v : ℤ) (n : ℕ) → HasSignedEncoding v n → HoldsGroups (unsigned_form v n) n
form_small (pos a) n h =
    record {
      some = h.some;
      few = h.few;
      room = omega (arith, ints, power_last n h.some, h.room);
      fits = tt;
    }
form_small (negsuc k) n h =
    record {
      some = h.some;
      few = h.few;
      room = omega (arith, ints, power_last n h.some, h.room);
      fits = tt;
    }

-- a signed value is the one that its groups encode
form_signed : (s : List ℕ) (v : ℤ) (n : ℕ) → HasSignedEncoding v n
    → ReadsGroups s (unsigned_form v n) n → v ≡ signed_of s
form_signed s (pos a) n h g =
    let top = sign_is_top s a n g.complete.0 g.value g.size in
    let below : nat_lt a (64 * 128 ^ (n - 1)) ≡ true =
    let l : a < 64 * 128 ^ (n - 1) = omega (arith, ints, h.room) in grind (arith, nat_tests) in
    rw (sym top ∙ below) (ap pos g.value)
form_signed s (negsuc k) n h g =
    let top = sign_is_top s (128 ^ n - suc k) n g.complete.0 g.value g.size in
    let power = power_last n h.some in
    let small : suc k ≤ 64 * 128 ^ (n - 1) = omega (arith, ints, h.room) in
    let above : nat_lt (128 ^ n - suc k) (64 * 128 ^ (n - 1)) ≡ false = grind (arith, nat_tests) in
    let value : negsuc k ≡ pos (128 ^ n - suc k) -ℤ pos (128 ^ n) = omega (arith, ints) in
    rw (sym top ∙ above, ← g.value, ← g.size) value

positive_form : (v : ℤ) (u n : ℕ) → u < 64 * 128 ^ (n - 1) → v ≡ pos u
    → SignedRoom v n × (unsigned_form v n ≡ u)
positive_form v u n below e = rw e ((omega (arith, ints), omega (arith, ints)), refl)

negative_form : (v : ℤ) (u n : ℕ) → 1 ≤ n → u < 128 ^ n → 64 * 128 ^ (n - 1) ≤ u
    → v ≡ pos u -ℤ pos (128 ^ n) → SignedRoom v n × (unsigned_form v n ≡ u)
negative_form (pos a) u n some room above e = absurd (omega (arith, ints))
negative_form (negsuc k) u n some room above e =
    let power = power_last n some in
    ((omega (arith, ints), omega (arith, ints)), omega (arith, ints))

-- and the groups are those of its form
signed_form : (s : List ℕ) (v : ℤ) (n : ℕ) → ReadsSleb s v n
    → SignedRoom v n × (unsigned_form v n ≡ unsigned_of s)
signed_form s v n g =
    let top = sign_is_top s (unsigned_of s) n g.complete.0 refl g.size in
    elim (cases_lt (unsigned_of s) (64 * 128 ^ (n - 1))) [
      | inl below ↦
          let t : nat_lt (unsigned_of s) (64 * 128 ^ (n - 1)) ≡ true = grind (arith, nat_tests) in
          positive_form v (unsigned_of s) n below (g.value ∙ rw (sym top ∙ t) refl)
      | inr above ↦
          let t : nat_lt (unsigned_of s) (64 * 128 ^ (n - 1)) ≡ false = grind (arith, nat_tests) in
          let room : unsigned_of s < 128 ^ n = rw g.size (groups_lt s (count_of s)) in
          negative_form v (unsigned_of s) n (omega (arith, g.size)) room above
          (g.value ∙ rw (sym top ∙ t, g.size) refl)
    ]

signed_more : (v : ℤ) (m n : ℕ) → 1 ≤ m → m ≤ n → SignedRoom v m → SignedRoom v n
signed_more v m n some le room =
    let before : m - 1 ≤ n - 1 = omega (arith, le) in
    let power : 128 ^ (m - 1) ≤ 128 ^ (n - 1) = pow-le-pow_right {n = 128} (omega arith) before in
    (omega (arith, ints, room, power), omega (arith, ints, room, power))

pub signed-form : IsForm signed_of (FitsSigned w64) SignedRoom unsigned_form
signed-form =
    record { holds = form_small; value = form_signed; of_read = signed_form; more = signed_more }
