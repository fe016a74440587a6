-- Lemmas for callers: values that are written one after another, and that these read back.
use Rattle.std.proofs.Common.{◌≡◌, ℕ, ◌++◌, List, [], ◌∷◌, length, drop, refl, ap, subst, append_assoc, length-append, arith, ◌∙◌}
use Rattle.std.proofs.lemmas.List.{append-nil, drop_at}
use Rattle.std.proofs.lemmas.List.Elements.{All-head, All-tail}
use Rattle.std.specs.List.{All, flat_map}
use Rattle.scroll.specs.Reads.{ReadsAll}
-- bytes that are written are there
pub use Rattle.scroll_formats.proofs.lemmas.SpanLemmas.{prefix-stands, puts-stands}
-- one write after another: the values that it keeps, and the bytes that it changes
pub use Rattle.scroll_formats.proofs.lemmas.ManyLemmas.{kept-one, changes-one, changes-none, changes-next, changes-within}

-- values that were written one after another read back, if each does
pub ReadsAll-again : {V : Type 0} (reads : List ℕ → V → ℕ → Type 0) (bytes : V → List ℕ)
    (vs : List V) → All (λ v. (rest : List ℕ) → reads (bytes v ++ rest) v (length (bytes v))) vs
    → (prefix rest : List ℕ)
    → ReadsAll reads (prefix ++ flat_map bytes vs ++ rest) (length prefix) vs
    (length (prefix ++ flat_map bytes vs))
ReadsAll-again reads bytes [] again prefix rest = ap length (append-nil prefix)
ReadsAll-again {V} reads bytes (v ∷ vs) again prefix rest =
    let P : V → Type 0 = λ x. (rest : List ℕ) → reads (bytes x ++ rest) x (length (bytes x)) in
    let first = All-head P v vs again in
    let others = flat_map bytes vs in
    let behind : drop (length prefix) (prefix ++ (bytes v ++ others) ++ rest)
    ≡ bytes v ++ (others ++ rest) =
    ap (drop (length prefix)) (append_assoc prefix (bytes v ++ others) rest)
    ∙ drop_at prefix (bytes v ++ others ++ rest) (length prefix) refl
    ∙ append_assoc (bytes v) others rest in
    let later = ReadsAll-again reads bytes vs (All-tail P v vs again) (prefix ++ bytes v) rest in
    let whole =
    subst (λ l. ReadsAll reads (l ++ rest) (length (prefix ++ bytes v)) vs (length l))
    (append_assoc prefix (bytes v) others) later in (
      length (bytes v),
      record {
        inside = let a = length-append (prefix ++ (bytes v ++ others)) rest in
            let b = length-append prefix (bytes v ++ others) in omega (arith, a, b);
        value = rw behind (first (others ++ rest));
      },
      subst (λ n. ReadsAll reads (prefix ++ (bytes v ++ others) ++ rest) n vs
          (length (prefix ++ (bytes v ++ others)))) (length-append prefix (bytes v)) whole,
    )
