-- What C strings hold. A text is without the zero.
use Rattle.std.specs.Prelude.{ℕ, ◌-◌, List, length, take}
use Rattle.scroll.specs.declared.cstr.CStr.{CStr}
use Rattle.scroll.specs.declared.cstr.CString.{CString}

-- the bytes before the last one, which is the zero
abbrev before_last_byte : List ℕ → List ℕ
before_last_byte bytes = take (length bytes - 1) bytes

-- the text of a borrowed C string, a `CStr`
abbrev pub c_str_text : CStr → List ℕ
c_str_text s = before_last_byte s.bytes.now

-- the text of an owned C string, a `CString`
abbrev pub c_string_text : CString → List ℕ
c_string_text s = before_last_byte s.bytes.items
