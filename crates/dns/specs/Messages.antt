-- Names in DNS messages (RFC 1035, section 4.1.4): labels up to a zero byte or a pointer. The
-- relations take the format of a label, and the byte order of a list of labels.
use Rattle.std.specs.Prelude.{◌≡◌, ◌+◌, ℕ, List, drop, length, slice_index}
use Rattle.scroll.specs.Numbers.{number}
use Rattle.scroll.specs.declared.endian.Endian.{Endian}
use Rattle.scroll.specs.declared.endian.Endian.TheVariants.{Big}
use Rattle.scroll.specs.declared.error.Error.{Error}
use Rattle.scroll_layouts.specs.Formats.{Format}
use Rattle.scroll_layouts.specs.ListEnds.{name_mark}
use Rattle.scroll_layouts.specs.Marks.{ItemsBefore}
use Rattle.dns.specs.declared.message.Label.{Label}

-- labels, and behind them the last two bytes of a name, which are a pointer to an offset: their two
-- highest bits are set, and the others are the offset
pub record PointsTo (format : Format Error Label) (order : Endian) (name : List ℕ) (offset : ℕ)
    : Type 0 where
  pub labels : List Label
  pub stop : ℕ
  pub each : ItemsBefore name_mark format order name 0 labels stop
  pub end : length name ≡ stop + 2
  pub pointer : number Big 2 (drop stop name) ≡ 49152 + offset

-- labels, and behind them the last byte of a name, which is zero
pub record EndsWithZero (format : Format Error Label) (order : Endian) (name : List ℕ)
    : Type 0 where
  pub labels : List Label
  pub stop : ℕ
  pub each : ItemsBefore name_mark format order name 0 labels stop
  pub end : length name ≡ stop + 1
  pub zero : slice_index name stop ≡ 0
