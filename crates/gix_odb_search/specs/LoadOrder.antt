-- How one index of a list is loaded: it is read, and then stored in the core, or passed over where it can't be loaded.
use Rattle.std.specs.Prelude.{ℕ, ◌==◌, ◌&&◌, Bool, List, Option, Some, None, Result, Ok, Err, if◌then◌else◌}
use Rattle.std.specs.List.{find}
use Rattle.odb_base.specs.Path.{Path}
use Rattle.odb_disk.specs.declared.ask.DiskAnswer.{DiskAnswer}
use Rattle.odb_disk.specs.declared.ask.DiskAnswer.TheVariants as answers
use Rattle.odb_disk.specs.declared.ask.DiskAsk.TheVariants as disk_asks
use Rattle.odb_disk.specs.declared.disk_error.DiskError.TheVariants as disk_errors
use Rattle.gix_hash.specs.declared.kind.Kind.{Kind}
use Rattle.gix_pack_read.specs.FileBytes.{FileBytes}
use Rattle.gix_pack_read.specs.Index.{is_index}
use Rattle.gix_odb_events.specs.Answers.{view_in}
use Rattle.gix_odb_events.specs.PackFiles.{same_path, new_packs}
use Rattle.gix_odb_events.specs.declared.answer.Answer.{Answer}
use Rattle.gix_odb_events.specs.declared.answer.Answer.TheVariants as told
use Rattle.gix_odb_events.specs.declared.answer.Ask.{Ask}
use Rattle.gix_odb_events.specs.declared.answer.Ask.TheVariants as asks
use Rattle.gix_odb_events.specs.declared.event.Effect.{Effect}
use Rattle.gix_odb_events.specs.declared.event.Event.TheVariants as events
use Rattle.gix_odb_events.specs.declared.event.PassWhy.{PassWhy}
use Rattle.gix_odb_events.specs.declared.event.PassWhy.TheVariants as whys
use Rattle.gix_odb_events.specs.declared.event.Refusal.{Refusal}
use Rattle.gix_odb_events.specs.declared.loaded.LoadedIndex.TheVariants.{Single}
use Rattle.gix_odb_events.specs.declared.loaded.SnapshotIndex.{SnapshotIndex}
use Rattle.gix_odb_events.specs.declared.loaded.Todo.{Todo}
use Rattle.gix_odb_events.specs.declared.view.View.{View}
use Rattle.gix_odb_search.specs.declared.index_loader.IndexLoader.{IndexLoader}
use Rattle.gix_odb_search.specs.declared.index_loader.IndexLoader.TheVariants.{Reading, Storing, Passing}
use Rattle.gix_odb_search.specs.declared.index_loader.IndexPlace.{IndexPlace}
use Rattle.gix_odb_search.specs.declared.index_loader.LoadStep.{LoadStep}
use Rattle.gix_odb_search.specs.declared.index_loader.LoadStep.TheVariants.{More, Loaded, Missed, Broken}

-- ---- what is asked for

abbrev pub read_of : Path → Ask
read_of path = asks.Disk (disk_asks.Read path)

abbrev pub pass_of : (slot : ℕ) → Path → PassWhy → Ask
pass_of slot path why = asks.Core (events.PassOver slot path why)

abbrev pub put_index : IndexPlace → FileBytes → Ask
put_index place file = asks.Core (events.PutIndex place.slot place.path file)

abbrev pub ask_of : IndexLoader → Ask
ask_of (Reading place) = read_of place.path
ask_of (Storing place file) = put_index place file
ask_of (Passing place why) = pass_of place.slot place.path why

-- ---- an index that was read

-- where a listed index is
abbrev pub place_of : Todo → IndexPlace
place_of todo = record { slot = todo.slot; path = todo.path }

-- why an index is passed over that could not be read
abbrev pub why_of : DiskAnswer → PassWhy
why_of (answers.Refused disk_errors.Absent) = whys.Absent
why_of (answers.Refused disk_errors.Failed) = whys.Failed
why_of (answers.Refused disk_errors.LinkLoop) = whys.LinkLoop
why_of answer = whys.WrongKind

abbrev pub index_or_bad : Kind → IndexPlace → List ℕ → IndexLoader
index_or_bad hash place bytes = if is_index hash bytes then Storing place (record { kind = hash; bytes = bytes }) else Passing place whys.Bad

-- bytes that are an index are to be stored; other bytes are passed over, as is a path that gives none
abbrev pub index_read : Kind → IndexPlace → DiskAnswer → IndexLoader
index_read hash place (answers.File bytes time) = index_or_bad hash place bytes
index_read hash place answer = Passing place (why_of answer)

-- ---- an index that was stored

-- an index that is shown is in a slot, at a path
abbrev pub is_at : IndexPlace → SnapshotIndex → Bool
is_at place shown = shown.slot == place.slot && same_path shown.path place.path

abbrev pub or_else : Option SnapshotIndex → Option SnapshotIndex → Option SnapshotIndex
or_else None other = other
or_else (Some shown) other = Some shown

abbrev pub shown_in : IndexPlace → Option View → Option SnapshotIndex
shown_in place None = None
shown_in place (Some view) = or_else (find (is_at place) view.snapshot.indices) (find (is_at place) view.snapshot.kept)

abbrev pub shown_behind : IndexPlace → Effect → Option SnapshotIndex
shown_behind place effect = shown_in place (view_in (Ok effect))

-- an index as it was read: its pack is still to be read
abbrev pub own_index : IndexPlace → FileBytes → SnapshotIndex
own_index place file = record { slot = place.slot; path = place.path; index = Single file; packs = new_packs place.path None }

abbrev pub shown_or_own : IndexPlace → FileBytes → Option SnapshotIndex → SnapshotIndex
shown_or_own place file (Some shown) = shown
shown_or_own place file None = own_index place file

-- an index is loaded as the core shows it, or as it was read where its slot no longer holds its path
abbrev pub index_stored : IndexPlace → FileBytes → Effect → SnapshotIndex
index_stored place file effect = shown_or_own place file (shown_behind place effect)

-- ---- what follows an answer

-- A loader is fed what answers its ask. Where an answer is of the other kind, of the disk or of the core, the rows here and below only make
-- the functions total.
abbrev pub after_disk : Kind → IndexLoader → DiskAnswer → IndexLoader
after_disk hash (Reading place) answer = index_read hash place answer
after_disk hash loader answer = loader

-- the core may refuse an event, which ends the work
abbrev pub after_core : IndexLoader → Result Effect Refusal → LoadStep
after_core (Reading place) answer = More (Reading place)
after_core (Storing place file) (Ok effect) = Loaded (index_stored place file effect)
after_core (Passing place why) (Ok effect) = Missed why
after_core loader (Err refusal) = Broken refusal

abbrev pub fed : Kind → IndexLoader → Answer → LoadStep
fed hash loader (told.Disk answer) = More (after_disk hash loader answer)
fed hash loader (told.Core answer) = after_core loader answer
