-- UTF-8 judged byte by byte, as table 3-7 of the Unicode Standard says it. The states are
-- multiples of six. In state 0 a letter ends. In the states 6, 12 and 18 one, two or three bytes
-- from 80 to BF have to follow. The states 24, 30, 36 and 42 come after the first bytes E0, ED, F0
-- and F4: the next byte is then from A0 to BF, from 80 to 9F, from 90 to BF or from 80 to 8F, so
-- that no letter is overlong, a surrogate, or past 10FFFF. In state 48 no text can follow.
use Rattle.std.specs.Prelude.{ℕ, ◌/◌, ◌%◌, ◌^◌, List, [], ◌∷◌, cond, nat_lt}

-- the states after a byte, six bits for each state before it, from the lowest on
abbrev pub states_after : ℕ → ℕ
states_after b =
    cond (nat_lt b 0x80) 0x30c30c30c30c00 (cond (nat_lt b 0x90) 0x303301b0306030
    (cond (nat_lt b 0xa0) 0x30c0c1b0306030 (cond (nat_lt b 0xc0) 0x30c0cc06306030
    (cond (nat_lt b 0xc2) 0x30c30c30c30c30 (cond (nat_lt b 0xe0) 0x30c30c30c30c06
    (cond (nat_lt b 0xe1) 0x30c30c30c30c18 (cond (nat_lt b 0xed) 0x30c30c30c30c0c
    (cond (nat_lt b 0xee) 0x30c30c30c30c1e (cond (nat_lt b 0xf0) 0x30c30c30c30c0c
    (cond (nat_lt b 0xf1) 0x30c30c30c30c24 (cond (nat_lt b 0xf4) 0x30c30c30c30c12
    (cond (nat_lt b 0xf5) 0x30c30c30c30c2a 0x30c30c30c30c30))))))))))))

-- the state after the state `s` and the byte `b`
abbrev pub next_state : ℕ → ℕ → ℕ
next_state s b = states_after b / 2 ^ s % 64

-- the state after the state `s` and some bytes
abbrev pub last_state : ℕ → List ℕ → ℕ
last_state s [] = s
last_state s (b ∷ bs) = last_state (next_state s b) bs
