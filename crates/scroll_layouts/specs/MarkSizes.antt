-- The size of the mark that some bytes begin with, if they begin with one.
use Rattle.std.specs.List.{starts_with}
use Rattle.std.specs.Prelude.{◌+◌, ◌==◌, ◌&&◌, ℕ, Bool, true, false, List, [], ◌∷◌, length, drop, nat_eq, nat_lt, if◌then◌else◌, Option, Some, None, option_map, option_and_then}
use Rattle.scroll.specs.Leb128.{end_of, count_of, unsigned_of}

-- the bytes `b`
abbrev pub bytes_size : List ℕ → List ℕ → Option ℕ
bytes_size b s = if starts_with nat_eq s b then Some (length b) else None

-- a number in LEB128 that is zero
abbrev pub zero_size : List ℕ → Option ℕ
zero_size s =
    if nat_lt (end_of s) (length s) && nat_lt (end_of s) 10 && unsigned_of s == 0
    then Some (count_of s) else None

-- two of them
abbrev pub two_zeros_size : List ℕ → Option ℕ
two_zeros_size s =
    option_and_then (λ n. option_map (λ m. n + m) (zero_size (drop n s))) (zero_size s)

-- `ended z p`: the end of a name whose first byte is zero if `z`, and where otherwise two bytes are
-- a pointer if `p`
abbrev pub ended : Bool → Bool → Option ℕ
ended true p = Some 1
ended false true = Some 2
ended false false = None

-- `name_size s`: a zero byte; or a pointer, two bytes of which the first has its two highest bits
abbrev pub name_size : List ℕ → Option ℕ
name_size [] = None
name_size (b ∷ []) = ended (nat_eq b 0) false
name_size (b ∷ c ∷ s) = ended (nat_eq b 0) (nat_lt 191 b)
