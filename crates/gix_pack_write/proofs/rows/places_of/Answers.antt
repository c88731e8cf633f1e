-- The last row that is left goes into the map.
use Rattle.std.proofs.Common.{List, map, sym, ap, ◌∙◌}
use Rattle.gix_pack_write.specs.PlacedRow.{id_of, placed_of}
use Rattle.gix_pack_write.specs.WrittenTables.{put_all}
use Rattle.gix_pack_write.specs.declared.rows.Placed.{Placed}
use Rattle.gix_pack_write.proofs.TableLemmas.Inserted.{inserted}
use Rattle.gix_pack_write.proofs.TableLemmas.{put_all_push}
use Rattle.gix_pack_write.proofs.rows.places_of.Goals as goal

pub loop-row-preserved : goal.loop-row-preserved
loop-row-preserved c =
    let row = c.in-Some.row in
    let left = c.pop.new.self.items in
    let places = c.loop-row.places.entries in
    ap (put_all id_of left) (ap (map placed_of) c.in_ok-insert.ensures.entries ∙ inserted row.id (row.pack, row.offset) places)
    ∙ sym (put_all_push id_of left row (map placed_of places))
    ∙ ap (λ (given : List Placed). put_all id_of given (map placed_of places)) (sym c.in-Some.ensures.items)
    ∙ c.loop-row.invariant
