-- What the index that a view shows of a slot says of a path. No public clause cites this.
use Rattle.std.specs.Prelude.{Option, Some, None, if◌then◌else◌}
use Rattle.gix_pack_read.specs.FileBytes.{FileBytes}
use Rattle.gix_odb_events.specs.declared.loaded.SnapshotIndex.{SnapshotIndex}
use Rattle.gix_odb_search.specs.LoadOrder.{is_at}
use Rattle.gix_odb_search.specs.TryOrder.Pack.{pack_among}
use Rattle.gix_odb_search.specs.declared.search.WantedPack.{WantedPack}
use Rattle.gix_odb_search.specs.declared.index_loader.IndexPlace.{IndexPlace}

-- the index, where it is at the path
abbrev pub at_path : IndexPlace → Option SnapshotIndex → Option SnapshotIndex
at_path place None = None
at_path place (Some shown) = if is_at place shown then Some shown else None

-- the pack among those of the index, where it is loaded
abbrev pub pack_of : WantedPack → Option SnapshotIndex → Option FileBytes
pack_of pack None = None
pack_of pack (Some shown) = pack_among pack shown.packs
