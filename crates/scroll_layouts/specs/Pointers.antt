-- What stands at an offset in a whole file.
use Rattle.std.specs.Prelude.{◌≤◌, ◌<◌, ◌⊎◌, ℕ, List, length}
use Rattle.scroll.specs.declared.endian.Endian.{Endian}
use Rattle.scroll.specs.declared.error.Error.{Error}
use Rattle.scroll.specs.declared.error.Error.TheVariants.{BadOffset}
use Rattle.scroll_layouts.specs.Formats.{Format, reads, refuses}

-- `ReadsThere f order file offset x`: the offset is in the file, or at its end, and the bytes there
-- read as `x` by the format `f`
abbrev pub ReadsThere : {E X : Type 0} → Format E X → Endian → List ℕ → ℕ → X → Type 0
ReadsThere f order file offset x = (offset ≤ length file) × reads f order file offset x

-- `RefusesThere gives f order file offset e`: the offset is past the end, and `BadOffset` of it
-- gives `e`; or the format `f` refuses the bytes there
abbrev pub RefusesThere : {E X : Type 0} → (Error → E → Type 0) → Format E X → Endian → List ℕ → ℕ
    → E → Type 0
RefusesThere gives f order file offset e = ((length file < offset) × gives (BadOffset offset) e)
    ⊎ ((offset ≤ length file) × refuses f order file offset e)
