use Rattle.gix_odb_search.proofs.MultiSpotLemmas.{multi_found, multi_missing}
use Rattle.gix_odb_search.proofs.spot.in_multi.Goals as goal

pub returns-in-None : goal.returns-in-None
returns-in-None c = record { spot = multi_missing c.args.index.now c.args.id.now c.in-None.ensures.row }

pub returns-in-Some : goal.returns-in-Some
returns-in-Some c =
    let place = c.pack_id_and_pack_offset_at_index-pack in
    record {
      spot = multi_found c.args.index.now c.in-Some.row c.args.id.now place.result.0 place.result.1 c.num_objects.ensures.multi_index c.in-Some.ensures.row
          place.ensures.pack place.ensures.offset;
    }
