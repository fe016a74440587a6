use Rattle.std.proofs.Common.{refl}
use Rattle.scroll_run.proofs.puts.OwnedPut.put.Goals as goal

pub returns-in-CStr : goal.returns-in-CStr
returns-in-CStr c = rw c.in-CStr.is (c.as_c_str.result, refl, c.as_c_str.ensures)
