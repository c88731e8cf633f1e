use Rattle.std.proofs.Common.{◌∙◌, arith}
use Rattle.gix_pack_read.specs.IdTable.{ids_in}
use Rattle.gix_pack_read.proofs.FirstByteLemmas.{count_at}
use Rattle.gix_pack_read.proofs.id_table.IdTable.count_to.Goals as goal

-- the count at the byte
pub returns : goal.returns
returns c = record {
  count = c.number_at.ensures.number ∙ count_at (ids_in c.args.self.now) c.args.self.now.counts.now c.args.first c.args.self.now.agree (omega (arith, c.ranges.first.fits));
}
