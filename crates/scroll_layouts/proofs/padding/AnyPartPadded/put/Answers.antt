use Rattle.std.proofs.Common.{◌≡◌, ◌++◌, length, drop, ap, subst, ◌∙◌, rules, length-append}
use Rattle.std.specs.Prelude.{replicate}
use Rattle.scroll_formats.specs.Zeros.{padding_len}
use Rattle.scroll_layouts.specs.Formats.{bytes, len}
use Rattle.scroll_layouts.specs.lemmas.FormatLaws.{bytes-len}
use Rattle.scroll_layouts.specs.lemmas.LeafLemmas.{gap-put}
use Rattle.scroll_layouts.proofs.padding.AnyPartPadded.put.Goals as goal

pub returns : goal.returns
returns g c =
    let f = g.A.Part.format c.args.ctx.now.1 in
    let x = c.args.self.now in
    let b = bytes f c.args.order x in
    let m = c.args.ctx.now.0 in
    let long : length b ≡ len f x = bytes-len f c.args.order x c.requires.agreed in
    let sum = length-append b (replicate (padding_len (len f x) m) 0) in
    let size : c.size-size.result ≡ length b = search (rules, long, sum) in
    let gap : c.padding.result ≡ padding_len (len f x) m =
    c.padding.ensures.value ∙ ap (λ k. padding_len k m) (size ∙ long) in
    subst (λ k. c.put_behind.new.dst
    ≡ (b ++ replicate k 0) ++ drop (length (b ++ replicate k 0)) c.args.dst.now) gap
    (gap-put b (replicate c.padding.result 0) c.args.dst.now c.put.new.dst c.put_behind.new.dst
    c.size-size.result size
    c.put.ensures c.put_behind.ensures.before c.put_behind.ensures.after)
