-- Lemmas on prefixes of the output.
use Rattle.std.proofs.Common.{◌≡◌, ℕ, ◌-◌, List, [], ◌∷◌, ◌++◌, length, take, drop, arith, sym, ap, ◌∙◌, append-nil, append_assoc, take-append-drop, Option}
use Rattle.std.proofs.lemmas.List.{take_rest}
use Rattle.std.proofs.Math.Seq.{take-append_seam}
use Rattle.std.proofs.KnownBytes.{Appends-trans}
use Rattle.std.specs.Io.KnownBytes.{Appends}
use Rattle.scroll_run.specs.Output.{AppendsPrefix}

-- the first n of the rest join the prefix
pub prefix_moves : (all done rest : List ℕ) (n : ℕ) → all ≡ done ++ rest
    → all ≡ (done ++ take n rest) ++ take (length rest - n) (drop n rest)
prefix_moves all done rest n e =
    e ∙ ap (λ l. done ++ l) (sym (take-append-drop n rest))
    ∙ sym (append_assoc done (take n rest) (drop n rest))
    ∙ ap (λ l. (done ++ take n rest) ++ l) (sym (take_rest rest n))

-- where nothing is left of the rest, all of it was written
pub appends_all : (old new : Option (List ℕ)) (all done rest : List ℕ) → all ≡ done ++ rest
    → length rest ≡ 0 → Appends old new done → Appends old new all
appends_all old new all done [] e none h = rw (e ∙ append-nil done) h
appends_all old new all done (x ∷ rest) e none h = absurd (omega arith)

pub appends_prefix : (old new : Option (List ℕ)) (all done rest : List ℕ) → all ≡ done ++ rest
    → Appends old new done → AppendsPrefix old new all
appends_prefix old new all done rest e h =
    let t : take (length done) all ≡ done =
    ap (take (length done)) e ∙ take-append_seam done rest in
    (length done, rw t h)

pub appends_more : (old mid new : Option (List ℕ)) (all done rest : List ℕ) (n : ℕ)
    → all ≡ done ++ rest → Appends old mid done → Appends mid new (take n rest)
    → AppendsPrefix old new all
appends_more old mid new all done rest n e h i =
    appends_prefix old new all _ _ (prefix_moves all done rest n e) (Appends-trans _ _ _ _ _ h i)
