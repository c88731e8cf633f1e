-- The rows are added to an empty list, and their table is made.
use Rattle.std.proofs.Common.{map, refl}
use Rattle.gix_pack_write.specs.WrittenPack.{object_seen}
use Rattle.gix_pack_write.proofs.WrittenIndexLemmas.Written.{each_given, index_rows_are}
use Rattle.gix_pack_write.proofs.index.rows_of.Goals as goal

pub returns-clause-rows : goal.returns-clause-rows
returns-clause-rows c = index_rows_are c.args.kind (map object_seen c.args.objects.now) _ _ _ _ c.new-rows.ensures.items c.in_ok-put_rows.ensures.rows c.in_ok-table.ensures.table refl

pub returns-clause-placed : goal.returns-clause-placed
returns-clause-placed c = each_given c.args.kind _ _ _ c.new-rows.ensures.items c.in_ok-put_rows.ensures.rows c.in_ok-put_rows.ensures.placed
