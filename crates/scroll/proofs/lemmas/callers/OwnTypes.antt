-- Lemmas for callers: the laws of types of your own. A read has exactly one result, and a write is
-- of its leaves, also in arrays of these.
pub use Rattle.scroll.proofs.lemmas.OneAnswer.{one-Ok, one-Err, same-too_big, one-at, one-made, one-prefix, one-array, one-nested, one-sized, reader-within, reader-sized, local-nested, bounded-nested, within-nested, reader-nested}
pub use Rattle.scroll.proofs.lemmas.TextLemmas.{same-bad_input}
pub use Rattle.scroll.proofs.lemmas.Leaves.{prefix-leaf, bytes-leaves, number-leaves, signed-leaves, uleb-leaves, sleb-leaves, array-leaves, nested-leaves, leaves-where, call-leaves, number-leaf, signed-leaf, bytes-leaf, uleb-leaf, sleb-leaf, apart-behind, leaves-exchange, either-order, prefixes-exchange}
