-- Lists whose last value says that it is the last, such as by a flag.
use Rattle.std.specs.Prelude.{◌≡◌, ◌≢◌, ◌⊎◌, ◌++◌, ℕ, Bool, true, false, List, [], ◌∷◌, length, codes}
use Rattle.std.specs.List.{All}
use Rattle.scroll.specs.declared.endian.Endian.{Endian}
use Rattle.scroll.specs.declared.error.Error.{Error}
use Rattle.scroll_layouts.specs.Errors.{GivesBadInput}
use Rattle.scroll_layouts.specs.Formats.{Format}
use Rattle.scroll_layouts.specs.Lists.{Items, StopsAtItem}
use Rattle.scroll_layouts.specs.OneWay.{same}

-- `alike f closes`: of values whose parts are the same, both say that they are the last, or none
abbrev pub alike : {E X : Type 0} → Format E X → (X → Bool) → Type 0
alike {E} {X} f closes = (x y : X) → same f x y → closes x ≡ closes y

-- a source begins with these values, which end at the offset `to`. Each has a byte, and the last
-- one alone says that it is the last
pub record ClosedList {E X : Type 0} (f : Format E X) (closes : X → Bool) (order : Endian)
    (s : List ℕ) (values : List X) (to : ℕ) : Type 0 where
  pub others : List X
  pub final : X
  pub split : values ≡ others ++ final ∷ []
  pub each : Items f order s 0 values to
  pub go_on : All (λ x. closes x ≡ false) others
  pub closed : closes final ≡ true

-- with some such values
abbrev pub ClosedItems : {E X : Type 0} → Format E X → (X → Bool) → Endian → List ℕ → ℕ → Type 0
ClosedItems {E} {X} f closes order s to = (values : List X) × ClosedList f closes order s values to

-- with `n` of them
abbrev pub CountedClosed : {E X : Type 0} → Format E X → (X → Bool) → Endian → List ℕ → ℕ → ℕ
    → Type 0
CountedClosed {E} {X} f closes order s to n =
    (values : List X) × ClosedList f closes order s values to × (length values ≡ n)

-- values stand one after another up to the offset `to`, and none of them says that it is the last
pub record OpenList {E X : Type 0} (f : Format E X) (closes : X → Bool) (order : Endian)
    (s : List ℕ) (values : List X) (to : ℕ) : Type 0 where
  pub each : Items f order s 0 values to
  pub go_on : All (λ x. closes x ≡ false) values

-- after some values, of which none says that it is the last, the next one is refused or has no
-- byte
pub record RefusesClosed {E X : Type 0} (gives : Error → E → Type 0) (f : Format E X)
    (closes : X → Bool) (order : Endian) (s : List ℕ) (e : E) : Type 0 where
  pub stop : ℕ
  pub values : List X
  pub before : OpenList f closes order s values stop
  pub error : StopsAtItem gives f order s stop e

-- bytes aren't a list up to its last value: one up to it is refused; or they have some behind it,
-- which is `BadInput` with the offset where it ends and the message `another length than its
-- values`
abbrev pub RefusesToLast : {E X : Type 0} → (Error → E → Type 0) → Format E X → (X → Bool) → Endian
    → List ℕ → E → Type 0
RefusesToLast gives f closes order s e =
    RefusesClosed gives f closes order s e
    ⊎ ((to : ℕ) × ClosedItems f closes order s to × (to ≢ length s)
    × GivesBadInput gives to (codes "another length than its values") e)
