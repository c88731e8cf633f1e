-- The rows of the chunks are the table of the objects' offsets.
use Rattle.std.proofs.Common.{List, map, ap, subst, ◌∙◌}
use Rattle.std.specs.List.{AllByRecursion}
use Rattle.gix_pack_write.specs.PlacedPackRow.{pack_row_of}
use Rattle.gix_pack_write.specs.PlacedRow.{IsPlaced}
use Rattle.gix_pack_write.specs.WrittenMultiIndex.{chunks_written, named_seen, names_of}
use Rattle.gix_pack_write.specs.declared.rows.Placed.{Placed}
use Rattle.gix_pack_write.proofs.WrittenMultiIndexLemmas.{multi_each, multi_few, multi_rising, multi_rows_are}
use Rattle.gix_pack_write.proofs.multi_index.writing.chunks_of_packs.Goals as goal

pub chunks_of-requires-clause-few : goal.chunks_of-requires-clause-few
chunks_of-requires-clause-few c =
    multi_few c.args.kind (map named_seen c.args.packs.now) _
    (multi_rows_are c.args.kind (map named_seen c.args.packs.now) _ _ _ c.in_ok-rows.ensures.rows c.in_ok-table.ensures.table c.as_slice.ensures.value) c.requires.can.few_objects

pub chunks_of-requires-clause-rising : goal.chunks_of-requires-clause-rising
chunks_of-requires-clause-rising c =
    multi_rising c.args.kind (map named_seen c.args.packs.now) _
    (multi_rows_are c.args.kind (map named_seen c.args.packs.now) _ _ _ c.in_ok-rows.ensures.rows c.in_ok-table.ensures.table c.as_slice.ensures.value)

pub chunks_of-requires-clause-placed : goal.chunks_of-requires-clause-placed
chunks_of-requires-clause-placed c =
    let are = multi_rows_are c.args.kind (map named_seen c.args.packs.now) _ _ _ c.in_ok-rows.ensures.rows c.in_ok-table.ensures.table c.as_slice.ensures.value in
    (c.args.kind, multi_each c.args.kind (map named_seen c.args.packs.now) _ are (subst (AllByRecursion (IsPlaced c.args.kind)) c.in_ok-rows.ensures.rows c.in_ok-rows.ensures.placed))

pub returns-clause-chunks : goal.returns-clause-chunks
returns-clause-chunks c =
    let packs = map named_seen c.args.packs.now in
    let are = multi_rows_are c.args.kind packs _ _ _ c.in_ok-rows.ensures.rows c.in_ok-table.ensures.table c.as_slice.ensures.value in
    c.in_ok-chunks.ensures.chunks ∙ ap (λ (rows : List Placed). chunks_written (names_of packs) (map pack_row_of rows)) are

pub returns-clause-placed : goal.returns-clause-placed
returns-clause-placed c = subst (AllByRecursion (IsPlaced c.args.kind)) c.in_ok-rows.ensures.rows c.in_ok-rows.ensures.placed
