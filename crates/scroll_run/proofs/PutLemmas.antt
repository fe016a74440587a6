-- How many words spell what is written after a name.
use Rattle.std.proofs.Common.{◌≡◌, Bor, ℕ, List, length}
use Rattle.scroll.specs.declared.runner.Put.{Put}
use Rattle.scroll_run.specs.Puts.{SpellsPutOf}
use Rattle.scroll_run.specs.Words.{texts_of}
use Rattle.scroll_run.specs.declared.names.Name.{Name}
use Rattle.scroll_run.specs.declared.names.Name.TheVariants as name
use Rattle.scroll_run.proofs.CommandLemmas.{counted}

abbrev pub put_count : Name → ℕ
put_count (name.Number w) = 2
put_count name.U16x3 = 4
put_count name.Bytesx2 = 2
put_count n = 1

pub put_counted : (n : Name) (words : List (Bor (List ℕ))) (p : Put)
    → SpellsPutOf n (texts_of words) p → length words ≡ put_count n
put_counted (name.Number w) words p s = counted words _ s.3
put_counted name.Str words p s = counted words _ s.1.1
put_counted name.Bytes words p s = counted words _ s.1.1
put_counted name.CStr words p s = counted words _ s.1.1
put_counted name.Uleb words p s = counted words _ s.1.1
put_counted name.Sleb words p s = counted words _ s.1.1
put_counted name.U16x3 words p s = counted words _ s.5
put_counted name.Bytesx2 words p s = counted words _ s.4
put_counted name.CString words p s = absurd s
put_counted name.U8x0 words p s = absurd s
put_counted name.Strx2 words p s = absurd s
