-- What a slot keeps over events that neither empty it nor take it over, for laws of what journals replay to.
use Rattle.std.specs.Prelude.{◌≡◌, Some}
use Rattle.std.specs.List.{AllZip}
use Rattle.gix_odb_events.specs.OnDiskFile.{loaded}
use Rattle.gix_odb_events.specs.declared.on_disk_file.OnDiskFile.{OnDiskFile}
use Rattle.gix_odb_events.specs.declared.slot.Filled.{Filled}
use Rattle.gix_odb_events.specs.declared.slot.IndexFile.{IndexFile}
use Rattle.gix_odb_events.specs.declared.slot.IndexFile.TheVariants.{Single, Multi}
use Rattle.gix_odb_events.specs.declared.loaded.SnapshotIndex.{SnapshotIndex}

-- a file of the same path. What was read of it has the same bytes; what wasn't may have been read since
pub record KeepsRead {A : Type 0} (before after : OnDiskFile A) : Type 0 where
  pub path : after.path ≡ before.path
  pub bytes : (file : A) → loaded before.state ≡ Some file → loaded after.state ≡ Some file

abbrev pub KeepsReadIndex : IndexFile → IndexFile → Type 0
KeepsReadIndex (Single before) (Single after) = KeepsRead before after
KeepsReadIndex (Multi before) (Multi after) = KeepsRead before after
KeepsReadIndex before after = ⊥

-- the same index of the same time with the same packs, and at least what was read of them
pub record KeepsReadFiles (before after : Filled) : Type 0 where
  pub index : KeepsReadIndex before.index after.index
  pub time : after.time ≡ before.time
  pub packs : AllZip KeepsRead before.packs after.packs

-- the same slot and path with the same bytes, and at least what was read of its packs
pub record ShowsAgain (before after : SnapshotIndex) : Type 0 where
  pub slot : after.slot ≡ before.slot
  pub path : after.path ≡ before.path
  pub index : after.index ≡ before.index
  pub packs : AllZip KeepsRead before.packs after.packs
