use Rattle.std.proofs.Common.{◌∙◌}
use Rattle.gix_pack_read.proofs.FirstByteLemmas.{counted_by_test}
use Rattle.gix_pack_read.proofs.SearchLemmas.{row_id}
use Rattle.gix_pack_read.proofs.tables.is_counted.Goals as goal

-- by the first byte of the row's id
pub returns : goal.returns
returns c = record {
  counted = counted_by_test c.args.kind c.args.n c.args.ids.now c.args.first c.args.row c.first_byte.result c.id_of.result c.requires.rising
      (row_id c.args.kind c.args.n c.args.ids.now c.args.row c.requires.row ∙ (cc)) c.first_byte.ensures.first;
}
