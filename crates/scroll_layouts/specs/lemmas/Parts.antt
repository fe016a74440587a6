-- Where parts stand, and which bytes they have. The lemmas are proved, and promise nothing.
use Rattle.std.proofs.Common.{◌≡◌, ℕ, ◌+◌, ◌-◌, ◌<◌, ◌≤◌, ◌++◌, List, length, take, drop, sym, ap, ◌∙◌, arith, length-append, length-drop, slice_index}
use Rattle.std.proofs.Math.Seq.{drop-append_seam}
use Rattle.std.proofs.lemmas.Grind.{same_number_lists}
use Rattle.std.proofs.lemmas.List.{take_all, take_at, take-take, drop-take, length-take-le, get_or-take, get_or-replicate, length-replicate}
use Rattle.std.proofs.lemmas.List.Elements.{All-drop, All-take}
use Rattle.std.specs.List.{All}
use Rattle.scroll_formats.specs.Zeros.{zeros}

-- bytes are within what begins with them
pub part-within : (w : ℕ) (bytes prefix rest : List ℕ) → length bytes ≡ w
    → length prefix + w ≤ length (prefix ++ (bytes ++ rest))
part-within w bytes prefix rest len =
    omega (arith, len, length-append prefix (bytes ++ rest), length-append bytes rest)

-- a slice that was read has the length that was asked for
pub slice-agrees : (n : ℕ) (s : List ℕ) (at : ℕ) (x : List ℕ) → at + n ≤ length s
    → x ≡ take n (drop at s) → n ≡ length x
slice-agrees n s at x room is =
    sym (ap length is ∙ length-take-le n (drop at s) (omega (arith, room, length-drop at s)))

-- a slice that was written is there
pub slice-back : (n : ℕ) (x prefix rest : List ℕ) → n ≡ length x
    → x ≡ take n (drop (length prefix) (prefix ++ (x ++ rest)))
slice-back n x prefix rest is =
    sym (ap (take n) (drop-append_seam prefix (x ++ rest)) ∙ take_at x rest n (sym is))

-- where a pair and its parts end
pub pair-within : (at a b : ℕ) (s : List ℕ) → at + a + b ≤ length s → at + (a + b) ≤ length s
pair-within at a b s h = omega (arith, h)

pub first-within : (at a b : ℕ) (s : List ℕ) → at + (a + b) ≤ length s → at + a ≤ length s
first-within at a b s h = omega (arith, h)

pub second-within : (at a b : ℕ) (s : List ℕ) → at + (a + b) ≤ length s → at + a + b ≤ length s
second-within at a b s h = omega (arith, h)

-- the first bytes of what is left of a source stand there
pub cut-there : (s : List ℕ) (at end : ℕ) (l : List ℕ) → at ≤ length s
    → end ≤ length (take (length s - at) (drop at s))
    → l ≡ take end (take (length s - at) (drop at s))
    → (length l ≡ end) × (at + length l ≤ length s) × (l ≡ take (length l) (drop at s))
cut-there s at end l below inside is =
    let left : length (drop at s) ≡ length s - at = length-drop at s in
    let rest : take (length s - at) (drop at s) ≡ drop at s =
    take_all (length s - at) (drop at s) (omega (arith, left)) in
    let room : end ≤ length (drop at s) = omega (arith, inside, ap length rest) in
    let same : l ≡ take end (drop at s) = is ∙ ap (take end) rest in
    let long : length l ≡ end = ap length same ∙ length-take-le end (drop at s) room in
    (long, omega (arith, long, room, left, below), same ∙ ap (λ k. take k (drop at s)) (sym long))

-- bytes of a part are below 256 where all are
pub bytes-taken : (n at : ℕ) (s : List ℕ) → All (λ b. b < 256) s
    → All (λ b. b < 256) (take n (drop at s))
bytes-taken n at s all =
    All-take (λ b. b < 256) n (drop at s) (All-drop (λ b. b < 256) at s all)

-- bytes up to an offset are those of the source
pub same-part : (n at end : ℕ) (s : List ℕ) → at + n ≤ end
    → take n (drop at s) ≡ take n (drop at (take end s))
same-part n at end s le =
    sym (drop-take at n s) ∙ ap (drop at) (sym (take-take (at + n) end s le))
    ∙ drop-take at n (take end s)

-- bytes that are each zero
pub zeros-there : (n : ℕ) (s : List ℕ) → n ≤ length s → ((i : ℕ) → i < n → slice_index s i ≡ 0)
    → take n s ≡ zeros n
zeros-there n s room zero =
    same_number_lists (take n s) (zeros n)
    (length-take-le n s room ∙ sym (length-replicate n 0)) (λ i l.
    let inside : i < n = omega (arith, l, length-take-le n s room) in
    get_or-take n s i 0 inside ∙ zero i inside ∙ sym (get_or-replicate n i 0 0 inside))

pub ruleset all_zeros = (zeros-there)
