-- The rows that are written are the table of the objects' offsets, and the bytes are the index that is defined.
use Rattle.std.proofs.Common.{◌≡◌, map, sym, ap, subst, ◌∙◌, arith}
use Rattle.std.proofs.lemmas.List.{length-map}
use Rattle.gix_hash.specs.ObjectId.{bytes_of, IsId}
use Rattle.gix_pack_write.specs.PlacedIndexRow.{front_of_rows}
use Rattle.gix_pack_write.specs.WrittenIndex.{IsIndexOf, ReadsIndex}
use Rattle.gix_pack_write.specs.WrittenPack.{object_seen, pack_hash}
use Rattle.gix_pack_write.proofs.WrittenIndexLemmas.Written.{index_each, index_few, index_read_back, index_rising, index_written, is_index_of}
use Rattle.gix_pack_write.proofs.index.encode.Goals as goal

pub put_front-requires-clause-few : goal.put_front-requires-clause-few
put_front-requires-clause-few c =
    index_few c.args.kind (map object_seen c.args.objects.now) _ (c.as_slice.ensures.value ∙ c.in_ok-rows.ensures.rows) (omega (arith, length-map c.args.objects.now object_seen))

pub put_front-requires-clause-rising : goal.put_front-requires-clause-rising
put_front-requires-clause-rising c = index_rising c.args.kind (map object_seen c.args.objects.now) _ (c.as_slice.ensures.value ∙ c.in_ok-rows.ensures.rows)

pub put_front-requires-clause-placed : goal.put_front-requires-clause-placed
put_front-requires-clause-placed c =
    (c.args.kind, index_each c.args.kind (map object_seen c.args.objects.now) _ (c.as_slice.ensures.value ∙ c.in_ok-rows.ensures.rows) c.in_ok-rows.ensures.placed)

pub returns-clause-written : goal.returns-clause-written
returns-clause-written c =
    let objects = map object_seen c.args.objects.now in
    let rows = c.as_slice.result.now in
    let front : c.put_front.new.index ≡ front_of_rows rows (pack_hash c.args.kind objects) = c.in_ok-put_front.ensures.front ∙ ap (front_of_rows rows) (ap bytes_of c.in_ok-pack_hash.ensures.hash) in
    c.in_ok-put_hash.ensures.put ∙ index_written c.args.kind objects rows c.put_front.new.index (c.as_slice.ensures.value ∙ c.in_ok-rows.ensures.rows) front

pub returns-clause-table : goal.returns-clause-table
returns-clause-table c =
    let objects = map object_seen c.args.objects.now in
    subst (IsIndexOf c.args.kind objects) (sym (returns-clause-written c)) (is_index_of c.args.kind objects)

pub returns-clause-read_back : goal.returns-clause-read_back
returns-clause-read_back c =
    let objects = map object_seen c.args.objects.now in
    let rows = c.as_slice.result.now in
    let front : c.put_front.new.index ≡ front_of_rows rows (pack_hash c.args.kind objects) = c.in_ok-put_front.ensures.front ∙ ap (front_of_rows rows) (ap bytes_of c.in_ok-pack_hash.ensures.hash) in
    subst (ReadsIndex c.args.kind objects) (sym c.in_ok-put_hash.ensures.put)
    (index_read_back c.args.kind objects rows c.put_front.new.index (c.as_slice.ensures.value ∙ c.in_ok-rows.ensures.rows) front
    (subst IsId c.in_ok-pack_hash.ensures.hash c.in_ok-put_front.ensures.id)
    c.in_ok-put_hash.ensures.id (omega (arith, length-map c.args.objects.now object_seen)) c.in_ok-rows.ensures.placed)
