-- Kinds of values that say what they read at the start of a source, as the types of `scroll` do.
use Rattle.std.proofs.Common.{◌≡◌, ℕ, ◌<◌, ◌≤◌, ◌++◌, List, length, take, drop, arith, subst, sym, length-drop}
use Rattle.std.proofs.Math.Seq.{drop-append_seam}
use Rattle.std.proofs.lemmas.List.Elements.{All-drop}
use Rattle.std.specs.List.{All}
use Rattle.std.specs.Prelude.{⊤, option_map}
use Rattle.scroll_layouts.specs.Formats.{Leaf}

-- how many bytes a value has and which these are, what a read at the start gives and refuses,
-- and which values a write refuses; with what is known of these
pub record Start (E X : Type 0) : Type 1 where
  pub start_len : X → ℕ
  pub start_bytes : X → List ℕ
  pub start_reads : List ℕ → X → ℕ → Type 0
  pub start_refuses : List ℕ → E → Type 0
  pub start_agrees : X → Type 0
  pub start_differs : X → E → Type 0
  pub start_inside : (s : List ℕ) (x : X) (n : ℕ) → start_reads s x n → n ≤ length s
  pub start_made : (s : List ℕ) (x : X) (n : ℕ) → All (λ b. b < 256) s → start_reads s x n
      → start_agrees x
  pub start_bytes-len : (x : X) → start_agrees x → length (start_bytes x) ≡ start_len x
  pub start_back : (x : X) (rest : List ℕ) → start_agrees x
      → start_reads (start_bytes x ++ rest) x (start_len x)
  pub start_kept : (s : List ℕ) (x : X) (n : ℕ) → All (λ b. b < 256) s → start_reads s x n
      → start_bytes x ≡ take n s
  pub start_one : (s : List ℕ) (x y : X) → start_reads s x (start_len x)
      → start_reads s y (start_len y) → (start_len x ≡ start_len y) × (x ≡ y)
  pub start_clash : (s : List ℕ) (x : X) (e : E) → start_reads s x (start_len x)
      → start_refuses s e → ⊥

-- such a kind at an offset: what it reads at the start of the rest there
abbrev pub start : {E X : Type 0} → Start E X → Leaf E X
start k = record {
  leaf_len = k.start_len;
  leaf_bytes = λ order x. k.start_bytes x;
  leaf_reads = λ order s at x. k.start_reads (drop at s) x (k.start_len x);
  leaf_refuses = λ order s at e. k.start_refuses (drop at s) e;
  leaf_agrees = λ order x. k.start_agrees x;
  leaf_differs = λ order x e. k.start_differs x e;
  leaf_same = λ x y. x ≡ y;
  leaf_same_seen = λ see x y. option_map see x ≡ option_map see y;
  leaf_told = ⊤;
  leaf_certain = ⊤;
  leaf_inside = λ order s at x here h.
      omega (arith, here, k.start_inside (drop at s) x (k.start_len x) h, length-drop at s);
  leaf_made = λ order s at x all h.
      k.start_made (drop at s) x (k.start_len x) (All-drop (λ b. b < 256) at s all) h;
  leaf_bytes-len = λ order x h. k.start_bytes-len x h;
  leaf_back = λ order x prefix rest h.
      subst (λ s. k.start_reads s x (k.start_len x))
      (sym (drop-append_seam prefix (k.start_bytes x ++ rest))) (k.start_back x rest h);
  leaf_kept = λ order s at x all h.
      k.start_kept (drop at s) x (k.start_len x) (All-drop (λ b. b < 256) at s all) h;
  leaf_one = λ t order s at x y all h r. k.start_one (drop at s) x y h r;
  leaf_equal = λ x y h. h;
  leaf_seen = λ see x y h. h;
  leaf_clash = λ t order s at x e all h r. k.start_clash (drop at s) x e h r;
}
