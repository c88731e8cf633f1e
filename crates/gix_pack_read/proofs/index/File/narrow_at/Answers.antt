use Rattle.std.proofs.Common.{◌≡◌, ◌<◌, slice_get, Some, subst, sym}
use Rattle.gix_pack_read.specs.FileBytes.{FileBytes}
use Rattle.gix_pack_read.specs.Index.{narrow_offsets, objects_in}
use Rattle.gix_pack_read.proofs.IndexLemmas.{narrow_read, narrow_read_room}
use Rattle.gix_pack_read.proofs.index.File.narrow_at.Goals as goal

pub number_at-requires : goal.number_at-requires
number_at-requires c =
    let file = c.self.inside.file in
    let below = subst (λ (seen : FileBytes). c.args.row < objects_in seen.bytes) (sym c.self.view_is) c.requires.row in
    record {
      room = narrow_read_room file.kind file.bytes c.args.row c.count_of.result c.offsets_place_of-place.result c.self.invariant below c.count_of.ensures.count c.offsets_place_of-place.ensures.place;
    }

pub returns-clause-offset : goal.returns-clause-offset
returns-clause-offset c =
    let file = c.self.inside.file in
    let below = subst (λ (seen : FileBytes). c.args.row < objects_in seen.bytes) (sym c.self.view_is) c.requires.row in
    subst (λ (seen : FileBytes). slice_get (narrow_offsets seen.kind seen.bytes) c.args.row ≡ Some c.number_at.result) c.self.view_is
    (narrow_read file.kind file.bytes c.args.row c.count_of.result c.offsets_place_of-place.result c.number_at.result
    c.count_of.ensures.count c.offsets_place_of-place.ensures.place c.number_at.ensures.number below)
