use Rattle.std.proofs.Common.{◌≡◌, ◌<◌, arith}
use Rattle.gix_pack_read.specs.Index.{objects_in}
use Rattle.gix_odb_search.proofs.SingleSpotLemmas.{row_within, single_found, single_missing}
use Rattle.gix_odb_search.proofs.spot.in_single.Goals as goal

pub prove-unreachable-requires : goal.prove-unreachable-requires
prove-unreachable-requires c =
    let within : c.in-Some.row < objects_in c.args.index.now.bytes = row_within c.args.index.now.kind c.args.index.now.bytes c.in-Some.row c.args.id.now c.in-Some.ensures.row in
    let count : c.num_objects.result ≡ objects_in c.args.index.now.bytes = c.num_objects.ensures.count in
    omega arith

pub pack_offset_at_index-requires : goal.pack_offset_at_index-requires
pack_offset_at_index-requires c = record { row = row_within c.args.index.now.kind c.args.index.now.bytes c.in-Some.row c.args.id.now c.in-Some.ensures.row }

pub returns-in-None : goal.returns-in-None
returns-in-None c = record { spot = single_missing c.args.index.now c.args.id.now c.in-None.ensures.row }

pub returns-in-Some : goal.returns-in-Some
returns-in-Some c =
    record {
      spot = single_found c.args.index.now c.in-Some.row c.args.id.now c.pack_offset_at_index.result c.num_objects.ensures.index c.in-Some.ensures.row
          c.pack_offset_at_index.ensures.offset;
    }
