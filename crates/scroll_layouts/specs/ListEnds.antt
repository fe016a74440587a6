-- What ends a list: fixed bytes, numbers in LEB128 that are zero, or the end of a name in DNS.
use Rattle.std.specs.Prelude.{ℕ, List}
use Rattle.scroll_layouts.specs.MarkSizes.{bytes_size, zero_size, two_zeros_size, name_size}
use Rattle.scroll_layouts.specs.Marks.{Mark}
use Rattle.scroll_layouts.specs.lemmas.ByteMarks.{begun-inside, begun-found, begun-none}
use Rattle.scroll_layouts.specs.lemmas.NameMarks.{name-inside, name-found, name-none}
use Rattle.scroll_layouts.specs.lemmas.ZeroMarks.{zero-inside, zero-found, zero-none, two_zeros-inside, two_zeros-found, two_zeros-none}

-- these bytes
abbrev pub bytes_mark : List ℕ → Mark
bytes_mark b = record {
  size = bytes_size b;
  inside = begun-inside b;
  found = begun-found b;
  none = begun-none b;
}

-- a number in LEB128 that is zero, however padded
abbrev pub zero_mark : Mark
zero_mark = record {
  size = zero_size;
  inside = zero-inside;
  found = zero-found;
  none = zero-none;
}

-- two of them
abbrev pub two_zeros_mark : Mark
two_zeros_mark = record {
  size = two_zeros_size;
  inside = two_zeros-inside;
  found = two_zeros-found;
  none = two_zeros-none;
}

-- a zero byte, or a pointer of two bytes
abbrev pub name_mark : Mark
name_mark = record {
  size = name_size;
  inside = name-inside;
  found = name-found;
  none = name-none;
}
