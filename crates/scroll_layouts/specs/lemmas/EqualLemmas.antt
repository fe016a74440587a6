-- When values are equal. The lemmas are proved, and promise nothing.
use Rattle.std.proofs.Common.{◌≡◌, sym, ap, ◌∙◌, refl}
use Rattle.std.specs.Prelude.{Option, Some, None, option_map}
use Rattle.scroll.specs.Leb128.{Counted}
use Rattle.scroll_layouts.specs.declared.fixed.records.Field.{Field}
use Rattle.scroll_layouts.specs.declared.run.Run.{Run}

-- pairs of the same values
pub pair-is : {A B : Type 0} (x y : A × B) → x.0 ≡ y.0 → x.1 ≡ y.1 → x ≡ y
pair-is x y h k = ap (λ a. (a, x.1)) h ∙ ap (λ b. (y.0, b)) k

-- values of the same parts, of which a value is made again
pub parts-unique : {X P : Type 0} (get : X → P) (of_parts : P → X)
    → ((x : X) → of_parts (get x) ≡ x) → (x y : X) → get x ≡ get y → x ≡ y
parts-unique get of_parts again x y h = sym (again x) ∙ ap of_parts h ∙ again y

-- an optional number, or an optional struct of a fixed size, that was made a part
pub number-again : {A : Type 0} (o : Option A)
    → option_map (λ r. r.0) (option_map {T = A} {U = Run A} (λ v. record { 0 = v }) o) ≡ o
number-again (Some a) = refl
number-again None = refl

pub record-again : {A : Type 0} (o : Option A) → option_map (λ r. r.0.0)
    (option_map {T = A} {U = Run (Field A)} (λ v. record { 0 = record { 0 = v } }) o) ≡ o
record-again (Some a) = refl
record-again None = refl

-- the other way around
pub number-there : {A : Type 0} (o : Option (Run A))
    → option_map {T = A} {U = Run A} (λ v. record { 0 = v }) (option_map (λ r. r.0) o) ≡ o
number-there (Some r) = refl
number-there None = refl

pub record-there : {A : Type 0} (o : Option (Run (Field A)))
    → option_map {T = A} {U = Run (Field A)} (λ v. record { 0 = record { 0 = v } })
    (option_map (λ r. r.0.0) o) ≡ o
record-there (Some r) = refl
record-there None = refl

-- an optional value that was made another part
pub option-again : {A B : Type 0} (into : A → B) (out : B → A) → ((a : A) → out (into a) ≡ a)
    → (o : Option A) → option_map out (option_map into o) ≡ o
option-again into out same (Some a) = ap Some (same a)
option-again into out same None = refl

seen-twice : {X Y V : Type 0} (see : X → Y) (part : Y → V) (o : Option X)
    → option_map part (option_map see o) ≡ option_map (λ v. part (see v)) o
seen-twice see part (Some x) = refl
seen-twice see part None = refl

-- a part of what is seen of two optional values that is equal
pub seen-part : {X Y V : Type 0} (see : X → Y) (part : Y → V) (x y : Option X)
    → option_map see x ≡ option_map see y
    → option_map (λ v. part (see v)) x ≡ option_map (λ v. part (see v)) y
seen-part see part x y h =
    sym (seen-twice see part x) ∙ ap (option_map part) h ∙ seen-twice see part y

-- equal numbers, with the length of their encodings
pub counted-is : {V : Type 0} (x y : Counted V) → x.value ≡ y.value → x.count ≡ y.count → x ≡ y
counted-is x y h k =
    ap (λ v. record { value = v; count = x.count }) h
    ∙ ap (λ n. record { value = y.value; count = n }) k
