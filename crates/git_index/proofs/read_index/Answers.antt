-- What was read behind the header are the entries.
use Rattle.std.proofs.Common.{arith, rules}
use Rattle.scroll.specs.declared.endian.Endian.TheVariants.{Big}
use Rattle.scroll_layouts.specs.lemmas.EachLemmas.{list_read_back}
use Rattle.scroll_formats.proofs.lemmas.callers.Weaker.{ReadsAll-weaker}
use Rattle.git_index.specs.Entries.{ReadsEntry}
use Rattle.git_index.proofs.read_index.Goals as goal

pub returns-in-Ok-clause-read : goal.returns-in-Ok-clause-read
returns-in-Ok-clause-read c =
    record {
      header = c.in_ok-count.ensures.header;
      count = omega (arith, c.in-Ok.ensures.count, c.in_ok-count.ensures.count);
      to = _;
      each = list_read_back _ Big _ 12 _ _ c.in-Ok.ensures.read;
    }

pub returns-in-Ok-clause-fields : goal.returns-in-Ok-clause-fields
returns-in-Ok-clause-fields c =
    (_, ReadsAll-weaker _ ReadsEntry _ 12 _ _ (λ s x n h. search rules) c.in-Ok.ensures.read)
