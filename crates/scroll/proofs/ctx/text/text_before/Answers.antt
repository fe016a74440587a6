use Rattle.std.proofs.Common.{◌≡◌, ◌+◌, ◌⊎◌, inl, inr, length, get_or, sym, arith}
use Rattle.std.proofs.lemmas.List.{length-take-le, take-take}
use Rattle.scroll.specs.Texts.{index_of}
use Rattle.scroll.specs.lemmas.Frames.{index_of-le}
use Rattle.scroll.proofs.lemmas.SearchLemmas.{prefix_is_ascii, ends_there, ends_further}
use Rattle.scroll.proofs.ctx.text.text_before.Goals as goal
use Rattle.scroll.proofs.lemmas.TextLemmas.{index_ofs}
use Rattle.scroll.proofs.ctx.text.text_before.Goals.{then-stop-source-via-then-stop-source, then-stop-source-via-else-stop-source+then-source-stop}

pub text_of_ascii-requires : goal.text_of_ascii-requires
text_of_ascii-requires c =
    prefix_is_ascii c.args.delimiter c.args.source.now c.first_stop-stop.result
    c.first_stop-stop.ensures.index

pub returns-then-stop-source-clause-index : goal.returns-then-stop-source-clause-index
returns-then-stop-source-clause-index c =
    let s = c.args.source.now in
    let stop = c.first_stop-stop.result in
    let at : (stop ≡ length s) ⊎ (get_or s stop 0 ≡ c.args.delimiter) =
    elim c.then-stop-source.branch [
      | then-stop-source-via-then-stop-source w ↦ inl w.if-stop-source.true
      | then-stop-source-via-else-stop-source+then-source-stop w ↦ inr w.if-source-stop.true
    ] in
    ends_there c.args.delimiter s stop c.first_stop-stop.ensures.index
    c.first_stop-stop.ensures.within at

pub returns-clause-index : goal.returns-clause-index
returns-clause-index c =
    ends_further c.args.delimiter c.args.source.now c.first_stop-stop.result c.near_index_of.result
    c.first_stop-stop.ensures.index c.first_stop-stop.ensures.within c.near_index_of.ensures

pub slice_bounds-text_from-end : goal.slice_bounds-text_from-end
slice_bounds-text_from-end c =
    let s = c.args.source.now in
    let index : c.first_stop-stop.result + c.near_index_of.result ≡ index_of c.args.delimiter s =
    ends_further c.args.delimiter s c.first_stop-stop.result c.near_index_of.result
    c.first_stop-stop.ensures.index c.first_stop-stop.ensures.within
    c.near_index_of.ensures in
    sym (length-take-le (c.first_stop-stop.result + c.near_index_of.result) s
    (omega (arith, index, index_of-le c.args.delimiter s)))

pub overflow_add-index : goal.overflow_add-index
overflow_add-index c = grind (arith, index_ofs)

pub text_from-requires-clause-ascii : goal.text_from-requires-clause-ascii
text_from-requires-clause-ascii c =
    let s = c.args.source.now in
    let stop = c.first_stop-stop.result in
    rw (take-take stop (stop + c.near_index_of.result) s (omega arith))
    (prefix_is_ascii c.args.delimiter s stop c.first_stop-stop.ensures.index)
