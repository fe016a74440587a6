-- One more byte was read.
use Rattle.std.proofs.Common.{rules, ◌≡◌, ◌≤◌, ◌<◌, ◌+◌, ◌^◌, ◌*◌, ◌%◌, length, take, get_or, sym, ap, subst, ◌∙◌, arith, refl, inl, inr}
use Rattle.scroll.specs.Leb128.{end_of}
use Rattle.scroll_layouts.specs.Varints.{vlq_of, groups_number}
use Rattle.scroll_layouts.specs.lemmas.VlqLemmas.{ends-at, ends-cut, ends-past, too-great, nine-below, next-number, next-on, vlq-has}
use Rattle.scroll_layouts.proofs.vlq.parts.read_vlq.Goals as goal

pub returns-in_default-clause-refused : goal.returns-in_default-clause-refused
returns-in_default-clause-refused c =
    let s = c.args.from.now in
    let n = c.loop-count.count in
    let h = c.loop-count.invariant in
    let short : length s ≤ n = search rules in
    inl (record {
      cut = (ends-cut s n short h.2 h.1, omega (arith, short, c.loop-count-test.true));
      error = search rules;
    })

pub returns-then-value-clause-refused : goal.returns-then-value-clause-refused
returns-then-value-clause-refused c =
    let s = c.args.from.now in
    let n = c.loop-count.count in
    let h = c.loop-count.invariant in
    let there : n < length s = search rules in
    let great : 2 ^ 57 ≤ groups_number (take n s) = subst (λ k. 2 ^ 57 ≤ k) h.0 c.if-value.true in
    inr (record {
      whole = λ cut. nine-below s n there h.1 cut great;
      unfit = λ whole fits.
          too-great s n (omega (arith, c.loop-count-test.true)) there h.1 great whole.0 whole.1
          fits;
      error = search rules;
    })

pub returns-then-byte-lt128-clause-read : goal.returns-then-byte-lt128-clause-read
returns-then-byte-lt128-clause-read c =
    let s = c.args.from.now in
    let n = c.loop-count.count in
    let h = c.loop-count.invariant in
    let there : n < length s = search rules in
    let byte : c.in-Some.byte.now ≡ get_or s n 0 = search rules in
    let low : get_or s n 0 < 128 = subst (λ b. b < 128) byte c.if-byte-lt128.true in
    let at : end_of s ≡ n = ends-at s n there h.1 low in
    let number : c.loop-count.value * 128 + c.from.result ≡ groups_number (take (n + 1) s) =
    omega (arith, h.0, c.from.ensures, ap (λ b. b % 128) byte, next-number s n there) in
    let is : c.loop-count.value * 128 + c.from.result ≡ vlq_of s =
    number ∙ ap (λ m. groups_number (take (m + 1) s)) (sym at) in (
      record {
        complete = (omega (arith, at, there), omega (arith, at, c.loop-count-test.true));
        fits = subst (λ v. v < 2 ^ 64) is (search rules);
        value = is;
        size = ap (λ m. m + 1) (sym at);
      },
      refl,
    )

pub returns-then-byte-lt128-clause-has : goal.returns-then-byte-lt128-clause-has
returns-then-byte-lt128-clause-has c =
    vlq-has c.args.from.now
    (record { value = c.loop-count.value * 128 + c.from.result; count = c.loop-count.count + 1 })
    (c.loop-count.count + 1) (returns-then-byte-lt128-clause-read c)

pub loop-count-preserved : goal.loop-count-preserved
loop-count-preserved c =
    let s = c.args.from.now in
    let n = c.loop-count.count in
    let h = c.loop-count.invariant in
    let there : n < length s = search rules in
    let byte : c.in-Some.byte.now ≡ get_or s n 0 = search rules in
    let high : 128 ≤ get_or s n 0 = omega (arith, sym byte, c.if-byte-lt128.false) in
    let number : c.loop-count.value * 128 + c.from.result ≡ groups_number (take (n + 1) s) =
    omega (arith, h.0, c.from.ensures, ap (λ b. b % 128) byte, next-number s n there) in
    (number, next-on s n h.1 high, omega (arith, there), omega (arith, c.loop-count-test.true))

pub returns-clause-refused : goal.returns-clause-refused
returns-clause-refused c =
    let s = c.args.from.now in
    let n = c.loop-count.count in
    let h = c.loop-count.invariant in
    inr (record {
      whole = λ cut. omega (arith, cut.1, h.2, c.loop-count-test.false);
      unfit = λ whole fits.
          let past : n ≤ end_of s = ends-past s n h.1 whole.0 in
          absurd (omega (arith, past, whole.1, c.loop-count-test.false));
      error = search rules;
    })
