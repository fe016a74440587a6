-- Lemmas for callers: lists of reads, bytes that are written one after another, a number and its
-- bytes, encodings in LEB128, and an error that `?` returns.
use Rattle.std.proofs.Common.{◌≡◌, ℕ, ◌++◌, List, [], ◌∷◌, Result, IfErr}
use Rattle.std.proofs.lemmas.Result.{err_from_is_err_and}
use Rattle.std.specs.Result.{IsErrAnd}
use Rattle.scroll.specs.Reads.{ReadsBetween, ReadsAll}
use Rattle.scroll.proofs.lemmas.Buffers.{ReadsAll-push}
-- a list of reads or of writes grows by one value; bytes that are written after those before; the
-- first bytes of a number
pub use Rattle.scroll.proofs.lemmas.Buffers.{ReadsAll-push, Begins, grow, grow-next, number-take}
pub use Rattle.scroll.proofs.lemmas.ArrayLemmas.{WritesAll-push}
-- the length of a number's bytes
pub use Rattle.scroll.specs.lemmas.Frames.{length-number_bytes, length-signed_bytes}
-- numbers of the same bytes
pub use Rattle.scroll.specs.lemmas.NumberLemmas.{number-prefix}
-- the bytes of a slice are below 256, and a number of w of them below 256 ^ w; of a slice `s` of
-- bytes `type_inv.s` says that each fits
pub use Rattle.scroll.specs.lemmas.FixedLemmas.{byte-bound, number-bound}
-- before and behind the end of an encoding in LEB128, and its number with one more group; what a
-- look-up by `get` says
pub use Rattle.scroll.proofs.lemmas.LebLemmas.{end_below, open_before, late_end, groups_more, byte_there}
-- the same encoding at the start of another source
pub use Rattle.scroll.proofs.lemmas.LebReadLemmas.{end-same, unsigned-same, exact-unsigned, exact-signed}

-- one more value at the end, read with a cursor
pub ReadsAll-next : {V : Type 0} (reads : List ℕ → V → ℕ → Type 0) (buffer : List ℕ) (from : ℕ)
    (vs : List V) (mid to : ℕ) (v : V) → ReadsAll reads buffer from vs mid
    → ReadsBetween reads buffer mid to v → ReadsAll reads buffer from (vs ++ v ∷ []) to
ReadsAll-next reads buffer from vs mid to v h read =
    ReadsAll-push reads buffer from vs mid to read.0 v h read.1 read.2

-- the same if the list is given by an equation, as after `push` in a loop over a table
pub ReadsAll-pushed : {V : Type 0} {reads : List ℕ → V → ℕ → Type 0} {buffer : List ℕ} (from : ℕ)
    {mid to : ℕ} (vs : List V) {xs : List V} {v : V} → ReadsAll reads buffer from vs mid
    → ReadsBetween reads buffer mid to v → xs ≡ vs ++ v ∷ [] → ReadsAll reads buffer from xs to
ReadsAll-pushed {V} {reads} {buffer} from {mid} {to} vs {xs} {v} h read is =
    rw is (ReadsAll-next reads buffer from vs mid to v h read)

-- an error that `?` returns: `h` is what the exit's `from_residual.ensures.1` says
pub handed-on : {T E : Type 0} {e : E} (P : E → Type 0) (r : Result T E) → IsErrAnd r (λ y. y ≡ e)
    → P e → IfErr r P
handed-on P r h p = let q = err_from_is_err_and r h in rw (q.1, q.2) p
