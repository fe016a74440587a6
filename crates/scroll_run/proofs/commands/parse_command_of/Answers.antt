use Rattle.scroll_run.proofs.commands.parse_command_of.Goals as goal

pub returns-in-Pread : goal.returns-in-Pread
returns-in-Pread g c = rw c.in-Pread.is c.parse_pread.ensures

pub returns-in-Gread : goal.returns-in-Gread
returns-in-Gread g c = rw c.in-Gread.is c.parse_gread.ensures
