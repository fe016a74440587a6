-- Formats of values of any size. A format says the parts of a value, one after another. What a read
-- gives and refuses, and what a write needs and puts, is said by one clause for each form; that
-- these fit together is proved once, for every format (specs/lemmas/FormatLaws.antt).
use Rattle.std.proofs.Common.{◌≡◌, ◌+◌, ◌<◌, ◌≤◌, ◌⊎◌, ◌++◌, ◌-◌, ◌^◌, ◌≢◌, ℕ, List, [], length, take, drop}
use Rattle.std.specs.List.{All}
use Rattle.std.specs.Prelude.{codes, min, Bool, true, false, Option, Some, None, option_map, ⊤, replicate}
use Rattle.scroll.specs.declared.endian.Endian.{Endian}
use Rattle.scroll.specs.declared.error.Error.{Error}
use Rattle.scroll_formats.specs.Zeros.{RefusesZeros, padding_len}
use Rattle.scroll_layouts.specs.Errors.{NoRoom, GivesBadInput}
use Rattle.scroll_layouts.specs.Layouts.{Layout, width, laid_bytes, makes, fits, exact_layout}
use Rattle.scroll_layouts.specs.declared.choice.Choice.{Choice}
use Rattle.scroll_layouts.specs.declared.choice.Choice.TheVariants.{First, Second}

-- a kind of value that isn't put together from others, such as a number in LEB128: how many bytes a
-- value has, which these are, what a read gives and refuses, which values a write refuses, what two
-- values have in common that are read at one place, and two optional ones of which a value is seen,
-- and what has to be so for a source to have one value, and for it to have none where a read is
-- refused; with its laws
pub record Leaf (E X : Type 0) : Type 1 where
  pub leaf_len : X → ℕ
  pub leaf_bytes : Endian → X → List ℕ
  pub leaf_reads : Endian → List ℕ → ℕ → X → Type 0
  pub leaf_refuses : Endian → List ℕ → ℕ → E → Type 0
  pub leaf_agrees : Endian → X → Type 0
  pub leaf_differs : Endian → X → E → Type 0
  pub leaf_same : X → X → Type 0
  pub leaf_same_seen : {Y : Type 0} → (Y → X) → Option Y → Option Y → Type 0
  pub leaf_told : Type 0
  pub leaf_certain : Type 0
  pub leaf_inside : (order : Endian) (s : List ℕ) (at : ℕ) (x : X) → at ≤ length s
      → leaf_reads order s at x → at + leaf_len x ≤ length s
  pub leaf_made : (order : Endian) (s : List ℕ) (at : ℕ) (x : X) → All (λ b. b < 256) s
      → leaf_reads order s at x → leaf_agrees order x
  pub leaf_bytes-len : (order : Endian) (x : X) → leaf_agrees order x
      → length (leaf_bytes order x) ≡ leaf_len x
  pub leaf_back : (order : Endian) (x : X) (prefix rest : List ℕ) → leaf_agrees order x
      → leaf_reads order (prefix ++ (leaf_bytes order x ++ rest)) (length prefix) x
  pub leaf_kept : (order : Endian) (s : List ℕ) (at : ℕ) (x : X) → All (λ b. b < 256) s
      → leaf_reads order s at x → leaf_bytes order x ≡ take (leaf_len x) (drop at s)
  pub leaf_one : leaf_told → (order : Endian) (s : List ℕ) (at : ℕ) (x y : X)
      → All (λ b. b < 256) s → leaf_reads order s at x → leaf_reads order s at y
      → (leaf_len x ≡ leaf_len y) × leaf_same x y
  pub leaf_equal : (x y : X) → leaf_same x y → x ≡ y
  pub leaf_seen : {Y : Type 0} (see : Y → X) (x y : Option Y)
      → option_map see x ≡ option_map see y → leaf_same_seen see x y
  pub leaf_clash : leaf_certain → (order : Endian) (s : List ℕ) (at : ℕ) (x : X) (e : E)
      → All (λ b. b < 256) s → leaf_reads order s at x → leaf_refuses order s at e → ⊥

-- `Format E X`: the format of values of `X`, whose errors are of `E`. `gives` says which error of
-- `E` an `Error` becomes.
-- `run gives p`: a value with the layout `p`
-- `counted gives n`: `n` bytes
-- `zeros gives n unique`: `n` zero bytes, of a type that has one value
-- `last f get`: what `get` takes out of a value, in the format `f`, as the bytes that it borrows
-- `shape f get unique`: a value that is its parts, in the format `f`: `get` takes them out of it,
-- and `unique` says that no other value has them
-- `pair f g`: a value, and the one after it
-- `headed f holds fails next rest`: a head that `holds` is true of, or `fails` says the error; and
-- the value after it, in the format that `rest` gives for what `next` says of the head
-- `padded gives m f`: a value, and zeros up to a multiple of `m` bytes, counted from its first one
-- `within gives n f`: a value in the format `f` that uses up `n` bytes
-- `behind gives n f rest`: a value of at most `n` bytes, and the one after it, in the format that
-- `rest` gives for how many of them it leaves
-- `ordered o f`: a value in the format `f`, in the byte order `o`
-- `leaf l`: a value of the kind `l`
-- `choice gives b f g`: one of two values, by `b`
-- `when gives b f`: a value that is there if `b` says so
pub data Format (E : Type 0) : Type 0 → Type 1 where
  run : {P : Type 0} → (Error → E → Type 0) → Layout P → Format E P
  counted : (Error → E → Type 0) → ℕ → Format E (List ℕ)
  zeros : {X : Type 0} → (Error → E → Type 0) → ℕ → ((x y : X) → x ≡ y) → Format E X
  last : {X Y : Type 0} → Format E Y → (X → Y) → Format E X
  shape : {X Y : Type 0} → Format E Y → (get : X → Y) → ((x y : X) → get x ≡ get y → x ≡ y)
      → Format E X
  pair : {A B : Type 0} → Format E A → Format E B → Format E (A × B)
  headed : {A B D : Type 0} → Format E A → (A → Type 0) → (A → E → Type 0) → (A → D)
      → (D → Format E B) → Format E (A × B)
  padded : {A : Type 0} → (Error → E → Type 0) → ℕ → Format E A → Format E A
  within : {X : Type 0} → (Error → E → Type 0) → ℕ → Format E X → Format E X
  behind : {A B : Type 0} → (Error → E → Type 0) → ℕ → Format E A → (ℕ → Format E B)
      → Format E (A × B)
  ordered : {X : Type 0} → Endian → Format E X → Format E X
  leaf : {X : Type 0} → Leaf E X → Format E X
  choice : {A B : Type 0} → (Error → E → Type 0) → Bool → Format E A → Format E B
      → Format E (Choice A B)
  when : {X : Type 0} → (Error → E → Type 0) → Bool → Format E X → Format E (Option X)

-- `len f x`: how many bytes a value has
abbrev pub len : {E X : Type 0} → Format E X → X → ℕ
len (run gives p) x = width p
len (counted gives n) x = n
len (zeros gives n unique) x = n
len (last f get) x = len f (get x)
len (shape f get unique) x = len f (get x)
len (pair f g) x = len f x.0 + len g x.1
len (headed f holds fails next rest) x = len f x.0 + len (rest (next x.0)) x.1
len (padded gives m f) x = len f x + padding_len (len f x) m
len (within gives n f) x = n
len (behind gives n f rest) x = len f x.0 + len (rest (n - len f x.0)) x.1
len (ordered o f) x = len f x
len (leaf l) x = l.leaf_len x
len (choice gives b f g) (First x) = len f x
len (choice gives b f g) (Second x) = len g x
len (when gives b f) (Some x) = len f x
len (when gives b f) None = 0

-- `bytes f order x`: the bytes of a value
abbrev pub bytes : {E X : Type 0} → Format E X → Endian → X → List ℕ
bytes (run gives p) order x = laid_bytes p order x
bytes (counted gives n) order x = x
bytes (zeros gives n unique) order x = replicate n 0
bytes (last f get) order x = bytes f order (get x)
bytes (shape f get unique) order x = bytes f order (get x)
bytes (pair f g) order x = bytes f order x.0 ++ bytes g order x.1
bytes (headed f holds fails next rest) order x =
    bytes f order x.0 ++ bytes (rest (next x.0)) order x.1
bytes (padded gives m f) order x =
    bytes f order x ++ replicate (padding_len (len f x) m) 0
bytes (within gives n f) order x = bytes f order x
bytes (behind gives n f rest) order x =
    bytes f order x.0 ++ bytes (rest (n - len f x.0)) order x.1
bytes (ordered o f) order x = bytes f o x
bytes (leaf l) order x = l.leaf_bytes order x
bytes (choice gives b f g) order (First x) = bytes f order x
bytes (choice gives b f g) order (Second x) = bytes g order x
bytes (when gives b f) order (Some x) = bytes f order x
bytes (when gives b f) order None = []

-- `reads f order s at x`: the value `x` stands in `s` at the offset `at`. Each part stands
-- behind those before it, and a value within `n` bytes has so many
abbrev pub reads : {E X : Type 0} → Format E X → Endian → List ℕ → ℕ → X → Type 0
reads (run gives p) order s at x = (at + width p ≤ length s) × makes p order s at x
reads (counted gives n) order s at x = (at + n ≤ length s) × (x ≡ take n (drop at s))
reads (zeros gives n unique) order s at x =
    (at + n ≤ length s) × (take n (drop at s) ≡ replicate n 0)
reads (last f get) order s at x = reads f order s at (get x)
reads (shape f get unique) order s at x = reads f order s at (get x)
reads (pair f g) order s at x =
    reads f order s at x.0 × reads g order s (at + len f x.0) x.1
reads (headed f holds fails next rest) order s at x =
    reads f order s at x.0
    × (holds x.0 × reads (rest (next x.0)) order s (at + len f x.0) x.1)
reads (padded gives m f) order s at x =
    reads f order s at x
    × ((at + len f x + padding_len (len f x) m ≤ length s)
    × (take (padding_len (len f x) m) (drop (at + len f x) s)
    ≡ replicate (padding_len (len f x) m) 0))
reads (within gives n f) order s at x =
    (at + n ≤ length s) × reads f order s at x × (len f x ≡ n)
reads (behind gives n f rest) order s at x =
    reads f order s at x.0
    × ((len f x.0 ≤ n) × reads (rest (n - len f x.0)) order s (at + len f x.0) x.1)
reads (ordered o f) order s at x = reads f o s at x
reads (leaf l) order s at x = l.leaf_reads order s at x
reads (choice gives b f g) order s at (First x) = (b ≡ true) × reads f order s at x
reads (choice gives b f g) order s at (Second x) = (b ≡ false) × reads g order s at x
reads (when gives b f) order s at (Some x) = (b ≡ true) × reads f order s at x
reads (when gives b f) order s at None = b ≡ false

-- a value stands in `s` from the offset `at` to the offset `to`
pub record EndsAt {E X : Type 0} (f : Format E X) (order : Endian) (s : List ℕ)
    (at to : ℕ) : Type 0 where
  pub value : X
  pub there : reads f order s at value
  pub moves : to ≡ at + len f value

-- `refuses f order s at e`: the error of the first part that isn't there. Without its bytes it
-- is `TooBig` with their number, at most the greatest `usize`, and the number of bytes there; a
-- value that leaves some of its `n` bytes is `BadInput` with how many it has and the message `fewer
-- bytes than its part`; one that has more of them is one with the message `more bytes than its
-- part`
abbrev pub refuses : {E X : Type 0} → Format E X → Endian → List ℕ → ℕ → E → Type 0
refuses (run gives p) order s at e = NoRoom gives (min (width p) (2 ^ 64 - 1)) (drop at s) e
refuses (counted gives n) order s at e = NoRoom gives n (drop at s) e
refuses (zeros gives n unique) order s at e =
    (inner : Error) × RefusesZeros n (drop at s) inner × gives inner e
refuses (last f get) order s at e = refuses f order s at e
refuses (shape f get unique) order s at e = refuses f order s at e
refuses (pair {A} {B} f g) order s at e =
    refuses f order s at e
    ⊎ ((y : A) × reads f order s at y × refuses g order s (at + len f y) e)
refuses (headed {A} {B} {D} f holds fails next rest) order s at e =
    refuses f order s at e
    ⊎ ((y : A) × reads f order s at y
    × (fails y e ⊎ (holds y × refuses (rest (next y)) order s (at + len f y) e)))
refuses (padded {A} gives m f) order s at e =
    refuses f order s at e
    ⊎ ((y : A) × reads f order s at y × ((inner : Error)
    × RefusesZeros (padding_len (len f y) m) (drop (at + len f y) s) inner × gives inner e))
refuses (within {X} gives n f) order s at e =
    NoRoom gives n (drop at s) e
    ⊎ ((at + n ≤ length s) × refuses f order (take n (drop at s)) 0 e)
    ⊎ ((x : X) × reads f order (take n (drop at s)) 0 x × (len f x ≢ n)
    × GivesBadInput gives (len f x) (codes "fewer bytes than its part") e)
refuses (behind {A} gives n f rest) order s at e =
    refuses f order s at e
    ⊎ ((y : A) × reads f order s at y
    × (((n < len f y) × GivesBadInput gives (len f y) (codes "more bytes than its part") e)
    ⊎ ((len f y ≤ n) × refuses (rest (n - len f y)) order s (at + len f y) e)))
refuses (ordered o f) order s at e = refuses f o s at e
refuses (leaf l) order s at e = l.leaf_refuses order s at e
refuses (choice gives true f g) order s at e = refuses f order s at e
refuses (choice gives false f g) order s at e = refuses g order s at e
refuses (when gives true f) order s at e = refuses f order s at e
refuses (when gives false f) order s at e = ⊥

-- a read of `s` at the offset `at` is refused
pub record RefusedAt {E X : Type 0} (f : Format E X) (order : Endian) (s : List ℕ)
    (at : ℕ) : Type 0 where
  pub error : E
  pub refused : refuses f order s at error

-- `agrees f order x`: a value can be written: its counts, constants, tags and conditions agree with
-- its parts
abbrev pub agrees : {E X : Type 0} → Format E X → Endian → X → Type 0
agrees (run gives p) order x = fits p x
agrees (counted gives n) order x = n ≡ length x
agrees (zeros gives n unique) order x = ⊤
agrees (last f get) order x = agrees f order (get x)
agrees (shape f get unique) order x = agrees f order (get x)
agrees (pair f g) order x = agrees f order x.0 × agrees g order x.1
agrees (headed f holds fails next rest) order x =
    agrees f order x.0 × (holds x.0 × agrees (rest (next x.0)) order x.1)
agrees (padded gives m f) order x = agrees f order x
agrees (within gives n f) order x = agrees f order x × (len f x ≡ n)
agrees (behind gives n f rest) order x =
    agrees f order x.0 × ((len f x.0 ≤ n) × agrees (rest (n - len f x.0)) order x.1)
agrees (ordered o f) order x = agrees f o x
agrees (leaf l) order x = l.leaf_agrees order x
agrees (choice gives b f g) order (First x) = (b ≡ true) × agrees f order x
agrees (choice gives b f g) order (Second x) = (b ≡ false) × agrees g order x
agrees (when gives b f) order (Some x) = (b ≡ true) × agrees f order x
agrees (when gives b f) order None = b ≡ false

-- `differs f order x e`: the error of the first part that doesn't agree, or of a rule or a leaf. It
-- is `BadInput` with the length of the bytes and the message `another length than its count`; the
-- number of bytes that the value must use up and `another length than its part`; the most bytes
-- that it may have and `more bytes than its part`; 1 if the first
-- value must be there, and 0 if it mustn't, and `another variant than its tag`; 1 and `an optional
-- part is missing`; or 0 and `an optional part is too many`
abbrev pub differs : {E X : Type 0} → Format E X → Endian → X → E → Type 0
differs (run gives p) order x e = ⊥
differs (counted gives n) order x e =
    (n ≢ length x) × GivesBadInput gives (length x) (codes "another length than its count") e
differs (zeros gives n unique) order x e = ⊥
differs (last f get) order x e = differs f order (get x) e
differs (shape f get unique) order x e = differs f order (get x) e
differs (pair f g) order x e =
    differs f order x.0 e ⊎ (agrees f order x.0 × differs g order x.1 e)
differs (headed f holds fails next rest) order x e =
    differs f order x.0 e
    ⊎ (agrees f order x.0
    × (fails x.0 e ⊎ (holds x.0 × differs (rest (next x.0)) order x.1 e)))
differs (padded gives m f) order x e = differs f order x e
differs (within gives n f) order x e =
    differs f order x e
    ⊎ (agrees f order x × ((len f x ≢ n) ⊎ (n ≡ 2 ^ 64 - 1))
    × GivesBadInput gives n (codes "another length than its part") e)
differs (behind gives n f rest) order x e =
    differs f order x.0 e
    ⊎ (agrees f order x.0
    × ((((n < len f x.0) ⊎ (n ≡ 2 ^ 64 - 1))
    × GivesBadInput gives n (codes "more bytes than its part") e)
    ⊎ ((len f x.0 ≤ n) × differs (rest (n - len f x.0)) order x.1 e)))
differs (ordered o f) order x e = differs f o x e
differs (leaf l) order x e = l.leaf_differs order x e
differs (choice gives true f g) order (First x) e = differs f order x e
differs (choice gives true f g) order (Second x) e =
    GivesBadInput gives 1 (codes "another variant than its tag") e
differs (choice gives false f g) order (First x) e =
    GivesBadInput gives 0 (codes "another variant than its tag") e
differs (choice gives false f g) order (Second x) e = differs g order x e
differs (when gives true f) order (Some x) e = differs f order x e
differs (when gives true f) order None e =
    GivesBadInput gives 1 (codes "an optional part is missing") e
differs (when gives false f) order (Some x) e =
    GivesBadInput gives 0 (codes "an optional part is too many") e
differs (when gives false f) order None e = ⊥

-- `exact f`: a value is written back byte for byte as it was read: no part of it has a float
abbrev pub exact : {E X : Type 0} → Format E X → Type 0
exact (run gives p) = exact_layout p
exact (counted gives n) = ⊤
exact (zeros gives n unique) = ⊤
exact (last f get) = exact f
exact (shape f get unique) = exact f
exact (pair f g) = exact f × exact g
exact (headed {A} {B} {D} f holds fails next rest) = exact f × ((d : D) → exact (rest d))
exact (padded gives m f) = exact f
exact (within gives n f) = exact f
exact (behind gives n f rest) = exact f × ((k : ℕ) → exact (rest k))
exact (ordered o f) = exact f
exact (leaf l) = ⊤
exact (choice gives b f g) = exact f × exact g
exact (when gives b f) = exact f
