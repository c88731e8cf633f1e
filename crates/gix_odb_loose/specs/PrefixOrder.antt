-- The order of work in which a prefix is looked up in a folder of loose objects: the two-digit directory is statted, and its stream is
-- read to its end and closed. Then the entries with the names of candidates are taken in the order of the stream: a file is one, and a
-- link is followed.
use Rattle.std.specs.Prelude.{ℕ, Bool, true, false, not, ◌&&◌, List, [], ◌∷◌, ◌++◌, Option, Some, None, Result, Ok, Err, if◌then◌else◌}
use Rattle.std.specs.List.{filter_map}
use Rattle.odb_base.specs.Path.{Path}
use Rattle.odb_disk.specs.declared.ask.DiskAsk.{DiskAsk}
use Rattle.odb_disk.specs.declared.ask.DiskAsk.TheVariants as asks
use Rattle.odb_disk.specs.declared.ask.DiskAnswer.{DiskAnswer}
use Rattle.odb_disk.specs.declared.ask.DiskAnswer.TheVariants as answers
use Rattle.odb_disk.specs.declared.disk_error.DiskError.{DiskError}
use Rattle.odb_disk.specs.declared.disk_error.DiskError.TheVariants as disk_errors
use Rattle.odb_disk.specs.declared.entry.Entry.{Entry}
use Rattle.odb_disk.specs.declared.meta.Kind.{Kind as NodeKind}
use Rattle.odb_disk.specs.declared.meta.Kind.TheVariants as nodes
use Rattle.walkdir.specs.Error.{io_error, no_memory}
use Rattle.walkdir.specs.declared.error.Error.{Error}
use Rattle.gix_hash.specs.Prefix.{PrefixOf}
use Rattle.gix_hash.specs.declared.object_id.ObjectId.{ObjectId}
use Rattle.gix_odb_loose.specs.LooseFile.{loose_path}
use Rattle.gix_odb_loose.specs.NameSet.{is_ambiguous, outcome_of, taken}
use Rattle.gix_odb_loose.specs.PrefixNames.{id_named}
use Rattle.gix_odb_loose.specs.WriteOrder.{prefix_path}
use Rattle.gix_odb_loose.specs.declared.lookup.Outcome.{Outcome}
use Rattle.gix_odb_loose.specs.declared.prefix_search.Match.{Match}
use Rattle.gix_odb_loose.specs.declared.prefix_search.Match.TheVariants.{File, Link}
use Rattle.gix_odb_loose.specs.declared.prefix_search.PrefixSearch.{PrefixSearch}
use Rattle.gix_odb_loose.specs.declared.prefix_search.SearchHead.{SearchHead}
use Rattle.gix_odb_loose.specs.declared.prefix_search.SearchStage.{SearchStage}
use Rattle.gix_odb_loose.specs.declared.prefix_search.SearchStage.TheVariants as stages
use Rattle.gix_odb_loose.specs.declared.prefix_search.SearchStep.{SearchStep}
use Rattle.gix_odb_loose.specs.declared.prefix_search.SearchStep.TheVariants as steps

-- ---- what is asked

-- the directory that has the files of all objects with the prefix
abbrev pub folder_of : SearchHead → Path
folder_of head = prefix_path head.objects head.prefix.id

abbrev pub ask_at : SearchHead → SearchStage → DiskAsk
ask_at head (stages.Statting follow) = asks.Look (folder_of head) follow
ask_at head stages.Opening = asks.OpenDir (folder_of head)
ask_at head (stages.Reading dir matches) = asks.NextEntry dir
ask_at head (stages.Closing dir read) = asks.CloseDir dir
ask_at head (stages.Linked id left) = asks.Look (loose_path head.objects id) true

abbrev pub ask_of : PrefixSearch → DiskAsk
ask_of search = ask_at search.head search.stage

-- ---- how it begins, goes on and ends

-- the directory is statted first, itself
abbrev pub begun : Path → PrefixOf → (gather : Bool) → PrefixSearch
begun objects prefix gather =
    record { head = record { objects = objects; prefix = prefix; gather = gather; names = [] }; stage = stages.Statting false }

abbrev pub more : SearchHead → SearchStage → SearchStep
more head stage = steps.More (record { head = head; stage = stage })

abbrev pub ended : SearchHead → Result (Option Outcome) Error → SearchStep
ended head answer = steps.Done (record { answer = answer; names = head.names })

abbrev pub done : SearchHead → SearchStep
done head = ended head (Ok (outcome_of head.names))

-- the error that a call on a path was refused with
abbrev pub walk_error : (depth : ℕ) → Path → DiskError → Error
walk_error depth path disk_errors.NoMemory = no_memory
walk_error depth path error = io_error depth path error

abbrev pub failed : SearchHead → (depth : ℕ) → Path → DiskError → SearchStep
failed head depth path error = ended head (Err (walk_error depth path error))

-- the error in an answer; one of another call says that what is there is of another kind
abbrev pub error_in : DiskAnswer → DiskError
error_in (answers.Refused error) = error
error_in answer = disk_errors.WrongKind

-- a directory that isn't there has no candidates; another refusal is an error
abbrev pub unlisted : SearchHead → DiskError → SearchStep
unlisted head disk_errors.Absent = done head
unlisted head error = failed head 0 (folder_of head) error

-- ---- the directory

-- a directory is opened, a link is statted again, followed; anything else has no candidates
abbrev pub by_kind : SearchHead → (follow : Bool) → NodeKind → SearchStep
by_kind head follow nodes.Dir = more head stages.Opening
by_kind head false nodes.Link = more head (stages.Statting true)
by_kind head follow kind = done head

abbrev pub statted : SearchHead → (follow : Bool) → DiskAnswer → SearchStep
statted head follow (answers.Meta meta) = by_kind head follow meta.kind
statted head follow answer = unlisted head (error_in answer)

abbrev pub opened : SearchHead → DiskAnswer → SearchStep
opened head (answers.Dir dir) = more head (stages.Reading dir [])
opened head answer = unlisted head (error_in answer)

-- ---- its stream

-- a file with the name of a candidate is one, and a link may lead to one; other entries are passed over
abbrev pub match_by : NodeKind → Option ObjectId → Option Match
match_by nodes.File (Some id) = Some (File id)
match_by nodes.Link (Some id) = Some (Link id)
match_by kind named = None

abbrev pub match_of : PrefixOf → Entry → Option Match
match_of prefix entry = match_by entry.kind (id_named prefix entry.name)

-- a stream that can't be read on is closed all the same
abbrev pub read : SearchHead → (dir : ℕ) → List Match → DiskAnswer → SearchStep
read head dir matches (answers.Entry entry) = more head (stages.Reading dir (matches ++ filter_map (match_of head.prefix) (entry ∷ [])))
read head dir matches answers.End = more head (stages.Closing dir (Ok matches))
read head dir matches answer = more head (stages.Closing dir (Err (error_in answer)))

-- ---- its matches

abbrev pub with_taken : SearchHead → ObjectId → SearchHead
with_taken head id = record head { names = taken head.names id }

-- several candidates were found, and they aren't gathered: then nothing more is asked
abbrev pub is_settled : SearchHead → Bool
is_settled head = is_ambiguous head.names && not head.gather

-- files are taken up to the next link, which is followed
abbrev pub next : SearchHead → List Match → SearchStep
next head [] = done head
next head (File id ∷ left) = if is_settled head then done head else next (with_taken head id) left
next head (Link id ∷ left) = if is_settled head then done head else more head (stages.Linked id left)

abbrev pub closed : SearchHead → Result (List Match) DiskError → SearchStep
closed head (Ok matches) = next head matches
closed head (Err error) = failed head 0 (folder_of head) error

abbrev pub leads_to : SearchHead → ObjectId → List Match → NodeKind → SearchStep
leads_to head id left nodes.File = next (with_taken head id) left
leads_to head id left kind = next head left

-- a link that leads to a file is a candidate, and any other isn't; a failed call is an error
abbrev pub linked : SearchHead → ObjectId → List Match → DiskAnswer → SearchStep
linked head id left (answers.Meta meta) = leads_to head id left meta.kind
linked head id left (answers.Refused disk_errors.Failed) = failed head 1 (loose_path head.objects id) disk_errors.Failed
linked head id left (answers.Refused disk_errors.NoMemory) = failed head 1 (loose_path head.objects id) disk_errors.NoMemory
linked head id left answer = next head left

-- ---- an answer

abbrev pub fed_at : SearchHead → SearchStage → DiskAnswer → SearchStep
fed_at head (stages.Statting follow) answer = statted head follow answer
fed_at head stages.Opening answer = opened head answer
fed_at head (stages.Reading dir matches) answer = read head dir matches answer
fed_at head (stages.Closing dir read) answer = closed head read
fed_at head (stages.Linked id left) answer = linked head id left answer

abbrev pub fed : PrefixSearch → DiskAnswer → SearchStep
fed search answer = fed_at search.head search.stage answer
