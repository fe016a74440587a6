-- Bytes between two offsets of a buffer.
use Rattle.std.specs.Prelude.{◌≡◌, ◌≤◌, ◌+◌, ◌++◌, ℕ, List, length, take, drop}

-- the bytes of the buffer between two offsets are `text`
pub record Stands (text buffer : List ℕ) (from to : ℕ) : Type 0 where
  pub inside : to ≤ length buffer
  pub size : to ≡ from + length text
  pub is : drop from buffer ≡ text ++ drop to buffer

-- `text` is written between two offsets, and all other bytes are unchanged
pub record Puts (text old new : List ℕ) (from to : ℕ) : Type 0 where
  pub inside : to ≤ length old
  pub size : to ≡ from + length text
  pub is : new ≡ take from old ++ (text ++ drop to old)
