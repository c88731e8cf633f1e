use Rattle.std.proofs.Common.{◌≡◌, ◌<◌, slice_get, Some, subst, sym}
use Rattle.gix_pack_read.specs.FileBytes.{FileBytes}
use Rattle.gix_pack_read.specs.Index.{wide_offsets, wides_in}
use Rattle.gix_pack_read.proofs.IndexLemmas.{wide_read, wide_read_room}
use Rattle.gix_pack_read.proofs.index.File.wide_at.Goals as goal

pub long_at-requires : goal.long_at-requires
long_at-requires c =
    let file = c.self.inside.file in
    let below = subst (λ (seen : FileBytes). c.args.wide < wides_in seen.kind seen.bytes) (sym c.self.view_is) c.requires.wide in
    record {
      room = wide_read_room file.kind file.bytes c.args.wide c.count_of.result c.wides_place_of-place.result c.self.invariant below c.count_of.ensures.count c.wides_place_of-place.ensures.place;
    }

pub returns : goal.returns
returns c =
    let file = c.self.inside.file in
    let below = subst (λ (seen : FileBytes). c.args.wide < wides_in seen.kind seen.bytes) (sym c.self.view_is) c.requires.wide in
    record {
      offset = subst (λ (seen : FileBytes). slice_get (wide_offsets seen.kind seen.bytes) c.args.wide ≡ Some c.long_at.result) c.self.view_is
          (wide_read file.kind file.bytes c.args.wide c.count_of.result c.wides_place_of-place.result c.long_at.result
          c.count_of.ensures.count c.wides_place_of-place.ensures.place c.long_at.ensures.number below);
    }
