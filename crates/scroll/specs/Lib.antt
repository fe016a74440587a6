-- The library. Numbers are unbounded, lists finite, and indices and offsets count from 0.
--
-- A name that begins with a capital is a statement, any other name a value. A statement of several
-- parts names them: where `h` proves it, `h.size` proves the part `size`.
--
-- The definitions of reads, writes and runs don't retrace the code, which shifts, copies and
-- overwrites one array: they have sums of powers, lists by index, and a history in which nothing is
-- overwritten. `TextStates` has what the code has too, a table, and the contracts of private
-- functions alone cite it; a test of one byte or a multiple is said as the code says it.
pub mod Bytes
pub mod Numbers
pub mod Fixed
pub mod Errors
pub mod Reads
pub mod Writes
pub mod Texts
pub mod TextStates
pub mod CStrings
pub mod CStringTexts
pub mod Arrays
pub mod History
pub mod Streams
pub mod Leb128
pub mod Encoding
pub mod Runs
pub mod Steps
pub mod Laws
-- Lemmas, and no definitions: the implementations cite them for the laws of their traits, which may
-- cite specs/ alone.
pub mod lemmas
