use Rattle.std.proofs.Common.{refl, sym}
use Rattle.scroll.proofs.lemmas.callers.RoundTrips.{bytes-below}
use Rattle.scroll.specs.declared.endian.Endian.TheVariants.{Big}
use Rattle.examples.proofs.format.read_back.Goals as goal

pub returns : goal.returns
returns c =
    let read = c.in_ok-format.ensures.read.1.value in
    let bytes = bytes-below 0 c.args.file.now c.type_inv.file in
    record {
      back = sym (c.fixed_size_is_written_back.ensures.only Big c.args.file.now
          c.in_ok-format.format 8 bytes
          record { room = read.room; value = read.value; size = refl });
    }
