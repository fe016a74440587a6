-- Lemmas on commands and their words.
use Rattle.std.proofs.Common.{◌≡◌, ◌≢◌, ◌<◌, Bor, ◌+◌, ◌++◌, ℕ, zero, suc, List, [], ◌∷◌, length, take, get_or, arith, refl, sym, ap, ◌∙◌, subst}
use Rattle.std.proofs.lemmas.List.{length-map, take_more}
use Rattle.std.proofs.lemmas.Slice.Zip.{all_zipped_more}
use Rattle.std.proofs.lemmas.Grind.{common_steps}
use Rattle.scroll.specs.declared.ctx.str_ctx.StrCtx.{StrCtx}
use Rattle.scroll.specs.declared.ctx.str_ctx.StrCtx.TheVariants as context
use Rattle.scroll.specs.declared.runner.Command.{Command}
use Rattle.scroll_run.specs.Commands.{AreCommandsOf, IsCommandOf}
use Rattle.scroll_run.specs.Kinds.{SpellsEnd}
use Rattle.scroll_run.specs.Names.{OneWord}
use Rattle.scroll_run.specs.Words.{SpellsBytes, texts_of}
use Rattle.scroll_run.specs.declared.commands.CommandLine.{CommandLine}

-- what a word is read as where there is none
abbrev pub no_word : Bor (List ℕ)
no_word = record { ref_ptr = (0, 0); now = [] }

-- words are as many as their texts
pub counted : (words : List (Bor (List ℕ))) (ws : List (List ℕ)) → texts_of words ≡ ws
    → length words ≡ length ws
counted words ws e = sym (length-map words (λ (w : Bor (List ℕ)). w.now)) ∙ ap length e

-- n words, from the one at i on
abbrev pub words_from : List (Bor (List ℕ)) → ℕ → ℕ → List (List ℕ)
words_from words i zero = []
words_from words i (suc n) = (get_or words i no_word).now ∷ words_from words (suc i) n

later : (w : Bor (List ℕ)) (words : List (Bor (List ℕ))) (i n : ℕ)
    → words_from (w ∷ words) (suc i) n ≡ words_from words i n
later w words i zero = refl
later w words i (suc n) = ap (λ ts. (get_or words i no_word).now ∷ ts) (later w words (suc i) n)

-- words by their indices
pub by_index : (words : List (Bor (List ℕ))) (n : ℕ) → length words ≡ n
    → texts_of words ≡ words_from words 0 n
by_index [] zero k = refl
by_index [] (suc n) k = absurd (omega arith)
by_index (w ∷ words) zero k = absurd (omega arith)
by_index (w ∷ words) (suc n) k =
    ap (λ ts. w.now ∷ ts) (by_index words n (omega arith) ∙ sym (later w words 0 n))

-- what one word spells
pub one_word : {P : List ℕ → Type 0} {word : List ℕ} → OneWord P (word ∷ []) → P word
one_word {P} {word} s = let e = s.1 in let same : s.0 ≡ word = cc in subst P same s.2

-- words that are neither two nor three spell no end of a text
pub no_end : (words : List (Bor (List ℕ))) → length words ≢ 2 → length words ≢ 3 → (ctx : StrCtx)
    → ¬ (SpellsEnd (texts_of words) ctx)
no_end words two three (context.Delimiter d) = λ s. two (counted words _ s.1)
no_end words two three (context.DelimiterUntil d limit) = λ s. three (counted words _ s.2)
no_end words two three (context.Length n) = λ s. two (counted words _ s.1)
no_end words two three (context.Required d) = λ s. two (counted words _ s.1)

-- the line at i has its command too
pub commands_next : (lines : List CommandLine) (i : ℕ) (cs : List Command) (x : CommandLine)
    (c : Command) → AreCommandsOf (take i lines) cs → i < length lines → x ≡ get_or lines i x
    → IsCommandOf x c → AreCommandsOf (take (i + 1) lines) (cs ++ c ∷ [])
commands_next lines i cs x c h lt e s =
    let more = take_more lines i x lt in
    rw more (all_zipped_more IsCommandOf (take i lines) cs (get_or lines i x) c h
    (subst (λ y. IsCommandOf y c) e s))

-- a word spells bytes in one way
pub same_bytes : (word a b : List ℕ) → SpellsBytes word a → SpellsBytes word b → a ≡ b
same_bytes word a b h s = grind (arith, common_steps)
