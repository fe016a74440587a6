-- Texts in a field of some bytes, which others fill up, such as zeros or blanks.
use Rattle.std.specs.Prelude.{◌≡◌, ◌≢◌, ◌≤◌, ◌+◌, ◌-◌, ◌++◌, ℕ, List, length, replicate, slice_index}

-- `filled n d text`: a text, and bytes `d` behind it that fill up `n` bytes
abbrev pub filled : ℕ → ℕ → List ℕ → List ℕ
filled n d text = text ++ replicate (n - length text) d

-- `IsText n d text`: a text has at most `n` bytes, and the last one isn't `d`
pub record IsText (n d : ℕ) (text : List ℕ) : Type 0 where
  pub room : length text ≤ n
  pub ends : (i : ℕ) → i + 1 ≡ length text → slice_index text i ≢ d
