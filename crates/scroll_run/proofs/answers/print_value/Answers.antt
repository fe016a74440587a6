use Rattle.scroll_run.proofs.answers.print_value.Goals as goal

pub returns-in-Unsigned : goal.returns-in-Unsigned
returns-in-Unsigned g c = rw c.in-Unsigned.is c.print_line.ensures

pub returns-in-Uleb : goal.returns-in-Uleb
returns-in-Uleb g c =
    rw c.in-Uleb.is (rw (c.from.ensures, c.size.ensures.size) at c.print_two.ensures)

pub returns-in-Text : goal.returns-in-Text
returns-in-Text g c = rw c.in-Text.is (rw c.as_bytes.ensures.value at c.print_bytes_line.ensures)

pub returns-in-Bytes : goal.returns-in-Bytes
returns-in-Bytes g c =
    rw c.in-Bytes.is (rw c.deref.ensures.value at c.print_bytes_line-in-Bytes.ensures)

pub returns-in-CStr : goal.returns-in-CStr
returns-in-CStr g c =
    rw c.in-CStr.is (rw c.deref-in-CStr.ensures.value at c.print_bytes_line-in-CStr.ensures)

pub returns-in-U16x3 : goal.returns-in-U16x3
returns-in-U16x3 g c = rw c.in-U16x3.is c.print_three.ensures
