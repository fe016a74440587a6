-- Output. A writer may tell which bytes it holds; where it doesn't, nothing is specified of them.
use Rattle.std.specs.Prelude.{ℕ, List, take}
use Rattle.std.specs.declared.option.Option.{Option}
use Rattle.std.specs.Io.KnownBytes.{Appends}

-- the bytes that a writer holds have grown by a prefix of `bs`: by none, some or all of its bytes
abbrev pub AppendsPrefix : Option (List ℕ) → Option (List ℕ) → List ℕ → Type 0
AppendsPrefix old new bs = (n : ℕ) × Appends old new (take n bs)
