-- Values over streams. A reader may tell which bytes it has left, and a writer which it holds, as
-- those over memory do. Where a reader doesn't, some bytes, as many as the size, make the value;
-- where a writer doesn't, nothing is said of what it holds.
use Rattle.std.specs.Prelude.{◌≡◌, ℕ, List, length, take, drop, Option, IfSome}
use Rattle.std.specs.Io.KnownBytes.{Appends, Consumes}

-- `old` is some bytes, `size` of them, followed by `new`, and `makes` holds of those bytes. Where
-- `old` is known, they are its first ones
pub record TakesValue (old new : Option (List ℕ)) (size : ℕ)
    (makes : List ℕ → Type 0) : Type 0 where
  pub bytes : List ℕ
  pub count : length bytes ≡ size
  pub taken : Consumes old new bytes
  pub first : IfSome old (λ s. bytes ≡ take size s)
  pub rest : IfSome old (λ s. IfSome new (λ t. t ≡ drop size s))
  pub value : makes bytes

-- `new` is `old` followed by some bytes, `size` of them, and `overwrites` holds of those bytes
pub record AppendsValue (old new : Option (List ℕ)) (size : ℕ)
    (overwrites : List ℕ → Type 0) : Type 0 where
  pub bytes : List ℕ
  pub count : length bytes ≡ size
  pub appended : Appends old new bytes
  pub value : overwrites bytes
