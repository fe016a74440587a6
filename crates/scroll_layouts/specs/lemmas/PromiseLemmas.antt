-- Values with a promise of their own, which are equal where their numbers are, since a promise has
-- one proof. The lemmas are proved, and promise nothing.
use Rattle.std.proofs.Common.{◌≡◌, ℕ, ℤ, ◌≤◌, ◌<◌, ◌^◌, List, true, ap, subst}
use Rattle.std.proofs.Props.{props}
use Rattle.scroll.specs.Encoding.{HasLeb, HasEncoding, HasSignedEncoding}
use Rattle.scroll_layouts.specs.Leaves.{uleb_counted, sleb_counted}
use Rattle.scroll_layouts.specs.Numerals.{Numeral, IsNumeral, numeral_value, is_ended}
use Rattle.scroll_layouts.specs.VarintLeaves.{zigzag_counted, vlq_counted}
use Rattle.scroll_layouts.specs.Varints.{zigzag}
use Rattle.scroll_layouts.specs.declared.leb128.Sleb.{Sleb}
use Rattle.scroll_layouts.specs.declared.leb128.Uleb.{Uleb}
use Rattle.scroll_layouts.specs.declared.leb128.Zigzag.{Zigzag}
use Rattle.scroll_layouts.specs.declared.numerals.Digits.{Digits}
use Rattle.scroll_layouts.specs.declared.vlq.Vlq.{Vlq}

leb-prop : {V : Type 0} {R : V → ℕ → Type 0} {F : V → Type 0} (v : V) (n : ℕ) → IsProp (R v n)
    → IsProp (F v) → IsProp (HasLeb R F v n)
leb-prop v n room fits x y =
    let some : IsProp (1 ≤ n) = hlevel props in
    let few : IsProp (n ≤ 10) = hlevel props in
    λ i. record {
      some = some x.some y.some i;
      few = few x.few y.few i;
      room = room x.room y.room i;
      fits = fits x.fits y.fits i;
    }

unsigned-prop : (v n : ℕ) → IsProp (HasEncoding v n)
unsigned-prop v n = leb-prop v n (hlevel props) (hlevel props)

signed-prop : (v : ℤ) (n : ℕ) → IsProp (HasSignedEncoding v n)
signed-prop v n = leb-prop v n (hlevel props) (hlevel props)

pub uleb-is : (x y : Uleb) → uleb_counted x ≡ uleb_counted y → x ≡ y
uleb-is x y h =
    subst (λ c. (e : HasEncoding c.value c.count)
    → x ≡ record { value = c.value; count = c.count; encoded = e })
    h
    (λ e. ap (λ e. record { value = x.value; count = x.count; encoded = e })
    (unsigned-prop x.value x.count x.encoded e))
    y.encoded

pub sleb-is : (x y : Sleb) → sleb_counted x ≡ sleb_counted y → x ≡ y
sleb-is x y h =
    subst (λ c. (e : HasSignedEncoding c.value c.count)
    → x ≡ record { value = c.value; count = c.count; encoded = e })
    h
    (λ e. ap (λ e. record { value = x.value; count = x.count; encoded = e })
    (signed-prop x.value x.count x.encoded e))
    y.encoded

pub zigzag-is : (x y : Zigzag) → zigzag_counted x ≡ zigzag_counted y → x ≡ y
zigzag-is x y h =
    subst (λ c. (e : HasEncoding (zigzag c.value) c.count)
    → x ≡ record { value = c.value; count = c.count; encoded = e })
    h
    (λ e. ap (λ e. record { value = x.value; count = x.count; encoded = e })
    (unsigned-prop (zigzag x.value) x.count x.encoded e))
    y.encoded

pub vlq-is : (x y : Vlq) → vlq_counted x ≡ vlq_counted y → x ≡ y
vlq-is x y h =
    subst (λ c. (e : HasEncoding c.value c.count)
    → x ≡ record { value = c.value; count = c.count; encoded = e })
    h
    (λ e. ap (λ e. record { value = x.value; count = x.count; encoded = e })
    (unsigned-prop x.value x.count x.encoded e))
    y.encoded

numeral-prop : (base : ℕ) (s : List ℕ) → IsProp (IsNumeral base s)
numeral-prop base s x y =
    let ends : IsProp (is_ended base s ≡ true) = hlevel props in
    let fits : IsProp (numeral_value base s < 2 ^ 64) = hlevel props in
    λ i. record { ends = ends x.ends y.ends i; fits = fits x.fits y.fits i }

abbrev pub digits_numeral : {base n : ℕ} → Digits base n → Numeral
digits_numeral x = record { bytes = x.bytes; value = x.value }

pub digits-is : {base n : ℕ} (x y : Digits base n) → digits_numeral x ≡ digits_numeral y → x ≡ y
digits-is {base} x y h =
    subst (λ c. (numeral : IsNumeral base c.bytes) (is : c.value ≡ numeral_value base c.bytes)
    → x ≡ record { bytes = c.bytes; value = c.value; numeral = numeral; is = is })
    h
    (λ numeral is.
    let one : IsProp (x.value ≡ numeral_value base x.bytes) = hlevel props in
    λ i. record {
      bytes = x.bytes;
      value = x.value;
      numeral = numeral-prop base x.bytes x.numeral numeral i;
      is = one x.is is i;
    })
    y.numeral y.is
