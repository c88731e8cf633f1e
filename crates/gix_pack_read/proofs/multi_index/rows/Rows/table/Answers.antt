use Rattle.gix_pack_read.proofs.multi_index.rows.Rows.table.Goals as goal

-- the counts are those of the ids that were read
pub new-requires-clause-agree : goal.new-requires-clause-agree
new-requires-clause-agree c = rw (c.span_in.ensures.part, c.span_in-2.ensures.part) c.requires.laid_out.counted
