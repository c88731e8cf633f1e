-- What follows where a pack was read, stored or passed over.
use Rattle.std.specs.Prelude.{ℕ, ◌==◌, List, [], ◌∷◌, unwrap_or, Option, Some, None, Result, Ok, Err, if◌then◌else◌}
use Rattle.odb_disk.specs.declared.ask.DiskAnswer.{DiskAnswer}
use Rattle.odb_disk.specs.declared.ask.DiskAnswer.TheVariants as answers
use Rattle.odb_disk.specs.declared.disk_error.DiskError.TheVariants as disk_errors
use Rattle.gix_hash.specs.ObjectId.{kind_of}
use Rattle.gix_pack_read.specs.FileBytes.{FileBytes}
use Rattle.gix_pack_read.specs.Pack.{is_pack}
use Rattle.gix_odb_events.specs.Answers.{view_in}
use Rattle.gix_odb_events.specs.OnDiskFile.{loaded}
use Rattle.gix_odb_events.specs.PackFiles.{PackFile, same_path}
use Rattle.gix_odb_events.specs.declared.event.Effect.{Effect}
use Rattle.gix_odb_events.specs.declared.loaded.SnapshotIndex.{SnapshotIndex}
use Rattle.gix_odb_events.specs.declared.view.View.{View}
use Rattle.gix_odb_search.specs.Goal.{given_by}
use Rattle.gix_odb_search.specs.Search.{with_absent}
use Rattle.gix_odb_search.specs.declared.goal.Error.{Error}
use Rattle.gix_odb_search.specs.declared.goal.Error.TheVariants as errors
use Rattle.gix_odb_search.specs.declared.goal.Found.{Found}
use Rattle.gix_odb_search.specs.declared.goal.Goal.{Goal}
use Rattle.gix_odb_search.specs.declared.search.WantedPack.{WantedPack}
use Rattle.gix_odb_search.specs.declared.trier.Ahead.{Ahead}
use Rattle.gix_odb_search.specs.declared.trier.Stage.TheVariants as stages
use Rattle.gix_odb_search.specs.declared.trier.Tried.{Tried}
use Rattle.gix_odb_search.specs.declared.trier.Tried.TheVariants as ends
use Rattle.gix_odb_search.specs.TryOrder.Seek.{at, seek}

abbrev pub pack_or_bad : Goal → Ahead → WantedPack → List ℕ → Tried
pack_or_bad goal ahead pack bytes =
    if is_pack (kind_of goal.id) bytes then at goal ahead (stages.StoringPack pack (record { kind = kind_of goal.id; bytes = bytes }))
    else ends.Bad errors.LoadPack

-- an absent pack is passed over, so that the search goes on; any other failed read ends the search
abbrev pub pack_read : Goal → Ahead → WantedPack → DiskAnswer → Tried
pack_read goal ahead pack (answers.File bytes time) = pack_or_bad goal ahead pack bytes
pack_read goal ahead pack (answers.Refused disk_errors.Absent) = at goal ahead (stages.PassingPack pack)
pack_read goal ahead pack answer = ends.Bad errors.LoadPack

abbrev pub by_given : Result Found Error → Tried
by_given (Ok found) = ends.Hit found
by_given (Err error) = ends.Bad error

-- the pack among those of an index, where it is loaded
abbrev pub pack_among : WantedPack → List PackFile → Option FileBytes
pack_among pack [] = None
pack_among pack (file ∷ files) = if same_path file.path pack.path then loaded file.state else pack_among pack files

-- the pack as the first index of its slot shows it
abbrev pub pack_in : WantedPack → List SnapshotIndex → Option FileBytes
pack_in pack [] = None
pack_in pack (shown ∷ rest) = if shown.slot == pack.slot then pack_among pack shown.packs else pack_in pack rest

abbrev pub pack_or : Option FileBytes → Option FileBytes → Option FileBytes
pack_or None other = other
pack_or (Some file) other = Some file

abbrev pub pack_shown : WantedPack → Option View → Option FileBytes
pack_shown pack None = None
pack_shown pack (Some view) = pack_or (pack_in pack view.snapshot.indices) (pack_in pack view.snapshot.kept)

abbrev pub pack_behind : WantedPack → Effect → Option FileBytes
pack_behind pack effect = pack_shown pack (view_in (Ok effect))

-- the pack gives the object as the core shows it, or as it was read where its slot no longer holds it
abbrev pub pack_stored : Goal → WantedPack → FileBytes → Effect → Tried
pack_stored goal pack file effect = by_given (given_by goal.want goal.limit (unwrap_or (pack_behind pack effect) file) pack.offset)

abbrev pub pack_passed : Goal → Ahead → WantedPack → Tried
pack_passed goal ahead pack = seek goal (record ahead { notes = with_absent ahead.notes pack.slot pack.path })
