-- Where a look-up of a prefix stands on a disk. No public clause cites this.
use Rattle.std.specs.Prelude.{⊤, ◌≡◌, ◌⊎◌, ◌↔◌, ℕ, ◌+◌, ◌*◌, ◌^◌, ◌≤◌, max, Bool, true, false, List, [], ◌∷◌, ◌++◌, length, Contains, Option, Some, None, Ok, Err, unwrap_or, IfOk, IfErr, IfSome}
use Rattle.std.specs.FinMap as finite
use Rattle.std.specs.List.{IsDistinct, filter_map}
use Rattle.std.specs.Option.{ForSome}
use Rattle.odb_base.specs.Faults.{Rose}
use Rattle.odb_base.specs.Path.{Path}
use Rattle.odb_disk.specs.Ask.{AnswersAsk, answer_of}
use Rattle.odb_disk.specs.Entries.{opened}
use Rattle.odb_disk.specs.StreamAsks.{AnswersStreams, is_of_streams}
use Rattle.odb_disk.specs.Streams.{Streams, is_open, left, open_count, still_gives}
use Rattle.odb_disk.specs.Tree.{State, Tree, tree_of}
use Rattle.odb_disk.specs.declared.ask.DiskAsk.{DiskAsk}
use Rattle.odb_disk.specs.declared.ask.DiskAnswer.{DiskAnswer}
use Rattle.odb_disk.specs.declared.ask.DiskAnswer.TheVariants as answers
use Rattle.odb_disk.specs.declared.disk_error.DiskError.TheVariants as disk_errors
use Rattle.odb_disk.specs.declared.entry.Entry.{Entry}
use Rattle.walkdir.specs.OwnStreams.{AreBack}
use Rattle.gix_hash.specs.ObjectId.{IsId}
use Rattle.gix_hash.specs.Prefix.{HasPrefix, IsPrefix, PrefixOf}
use Rattle.gix_hash.specs.declared.object_id.ObjectId.{ObjectId}
use Rattle.gix_odb_loose.specs.PrefixCauses.{PrefixCause}
use Rattle.gix_odb_loose.specs.PrefixNames.{IsCandidate, Tells, same_id}
use Rattle.gix_odb_loose.specs.PrefixOrder.{match_of}
use Rattle.gix_odb_loose.specs.WriteOrder.{prefix_path}
use Rattle.gix_odb_loose.specs.declared.prefix_search.Candidates.{Candidates}
use Rattle.gix_odb_loose.specs.declared.prefix_search.Match.{Match}
use Rattle.gix_odb_loose.specs.declared.prefix_search.Match.TheVariants as matching
use Rattle.gix_odb_loose.specs.declared.prefix_search.PrefixSearch.{PrefixSearch}
use Rattle.gix_odb_loose.specs.declared.prefix_search.SearchHead.{SearchHead}
use Rattle.gix_odb_loose.specs.declared.prefix_search.SearchStage.{SearchStage}
use Rattle.gix_odb_loose.specs.declared.prefix_search.SearchStage.TheVariants as stages
use Rattle.gix_odb_loose.specs.declared.prefix_search.SearchStep.{SearchStep}
use Rattle.gix_odb_loose.specs.declared.prefix_search.SearchStep.TheVariants as steps

-- what a look-up began with: the disk, and what is looked up
pub record Began : Type 0 where
  pub state : Option State
  pub streams : Streams
  pub faults : ℕ
  pub objects : Path
  pub prefix : PrefixOf
  pub gather : Bool

-- the candidates in a tree
abbrev pub Counts : Began → Tree → ObjectId → Type 0
Counts b tree id = IsCandidate tree b.objects b.prefix id

abbrev pub folder_in : Began → Path
folder_in b = prefix_path b.objects b.prefix.id

-- ---- the streams

-- the stream that is open at a stage
abbrev pub own_at : SearchStage → Option ℕ
own_at (stages.Statting follow) = None
own_at stages.Opening = None
own_at (stages.Reading dir matches) = Some dir
own_at (stages.Closing dir read) = Some dir
own_at (stages.Linked id left) = None

-- the one that is open after an answer
abbrev pub own_after : SearchStage → DiskAnswer → Option ℕ
own_after stages.Opening (answers.Dir dir) = Some dir
own_after (stages.Reading dir matches) answer = Some dir
own_after stage answer = None

-- the open streams are those that a look-up had when it began, and its own one
abbrev pub IsBeside : Began → Option ℕ → Streams → Type 0
IsBeside b None now = now.open_dirs ≡ b.streams.open_dirs
IsBeside b (Some dir) now = (is_open now dir ≡ true) × (finite.remove now.open_dirs dir ≡ b.streams.open_dirs)

pub record OwnsOne (b : Began) (own : Option ℕ) (now : Streams) : Type 0 where
  pub beside : IsBeside b own now
  pub peak : now.peak ≤ max b.streams.peak (open_count b.streams + 1)

-- ---- the names

-- what is looked up, with these names found
abbrev pub head_in : Began → List ObjectId → SearchHead
head_in b names = record { objects = b.objects; prefix = b.prefix; gather = b.gather; names = names }

abbrev pub id_in : Match → ObjectId
id_in (matching.File id) = id
id_in (matching.Link id) = id

-- the matches that are left at a stage
abbrev pub matches_at : SearchStage → List Match
matches_at (stages.Reading dir matches) = matches
matches_at (stages.Closing dir (Ok matches)) = matches
matches_at (stages.Linked id left) = matching.Link id ∷ left
matches_at stage = []

-- each match has the prefix
abbrev pub AreNamed : Began → List Match → Type 0
AreNamed b matches = (m : Match) → Contains matches m → IsId (id_in m) × HasPrefix b.prefix (id_in m)

-- each name is that of a candidate
abbrev pub AreFound : Began → Tree → List ObjectId → Type 0
AreFound b tree names = (id : ObjectId) → Contains names id → Counts b tree id

-- an id is that of a match
abbrev pub IsMatched : List Match → ObjectId → Type 0
IsMatched matches id = Contains matches (matching.File id) ⊎ Contains matches (matching.Link id)

-- each file that is left is a candidate, and each candidate was found or is among the matches that are left
pub record AreLeft (b : Began) (tree : Tree) (names : List ObjectId) (left : List Match) : Type 0 where
  pub found : AreFound b tree names
  pub files : (id : ObjectId) → Contains left (matching.File id) → Counts b tree id
  pub each : (id : ObjectId) → Counts b tree id → Contains names id ⊎ IsMatched left id

-- the directory opens
pub record IsDirectory (b : Began) (tree : Tree) : Type 0 where
  pub entries : List Entry
  pub opens : opened tree (folder_in b) ≡ Ok entries

-- some entries of the directory were read
pub record IsReadIn (b : Began) (tree : Tree) (now : Streams) (dir : ℕ) (matches : List Match) : Type 0 where
  pub read : List Entry
  pub rest : List Entry
  pub opens : opened tree (folder_in b) ≡ Ok (read ++ rest)
  pub gives : still_gives now dir ≡ Some rest
  pub matched : matches ≡ filter_map (match_of b.prefix) read

-- what is known at a stage, in the tree that the disk shows
abbrev pub IsAtIn : (b : Began) → Tree → Streams → (names : List ObjectId) → SearchStage → Type 0
IsAtIn b tree now names (stages.Statting follow) = names ≡ []
IsAtIn b tree now names stages.Opening = (names ≡ []) × IsDirectory b tree
IsAtIn b tree now names (stages.Reading dir matches) = (names ≡ []) × IsReadIn b tree now dir matches
IsAtIn b tree now names (stages.Closing dir (Ok matches)) = AreLeft b tree names matches
IsAtIn b tree now names (stages.Closing dir (Err error)) = Unit {0}
IsAtIn b tree now names (stages.Linked id left) = AreLeft b tree names (matching.Link id ∷ left)

-- a stream isn't read on because the disk failed, or memory ran out
abbrev pub BreaksAt : Began → (faults : ℕ) → SearchStage → Type 0
BreaksAt b faults (stages.Closing dir (Err error)) = ((error ≡ disk_errors.Failed) × Rose b.faults faults) ⊎ (error ≡ disk_errors.NoMemory)
BreaksAt b faults stage = Unit {0}

-- ---- a look-up on a disk

-- a call of the disk was answered so
pub record IsAnswered (ask : DiskAsk) (state : Option State) (old new : Streams) (before now : ℕ) (answer : DiskAnswer) : Type 0 where
  pub told : is_of_streams ask ≡ false → IfSome state (λ s. AnswersAsk answer (answer_of (tree_of s) ask))
  pub streams : AnswersStreams state old new ask answer
  pub same : is_of_streams ask ≡ false → new ≡ old
  pub failed : answer ≡ answers.Refused disk_errors.Failed → Rose before now

-- a look-up is at a stage, with these names found
pub record Stands (b : Began) (now : Streams) (faults : ℕ) (search : PrefixSearch) : Type 0 where
  pub prefix : IsPrefix b.prefix
  pub names : List ObjectId
  pub stage : SearchStage
  pub is : search ≡ record { head = head_in b names; stage = stage }
  pub distinct : IsDistinct same_id names
  pub named : AreNamed b (matches_at stage)
  pub own : OwnsOne b (own_at stage) now
  pub at : ForSome b.state (λ s. IsAtIn b (tree_of s) now names stage)
  pub breaks : BreaksAt b faults stage
  pub later : b.faults ≤ faults

-- what was found: none, one or several candidates of the tree, and all of them where they are gathered, each once
pub record IsFound (b : Began) (faults : ℕ) (found : Candidates) : Type 0 where
  pub answer : ForSome b.state (λ s. IfOk found.answer (Tells (Counts b (tree_of s))))
  pub names : b.gather ≡ true → ForSome b.state (λ s. IfOk found.answer (λ outcome. (id : ObjectId) → Contains found.names id ↔ Counts b (tree_of s) id))
  pub distinct : IsDistinct same_id found.names
  pub cause : IfErr found.answer (PrefixCause b.objects b.prefix b.state (Rose b.faults faults) ⊤)

abbrev pub StandsAfter : Began → Streams → (faults : ℕ) → SearchStep → Type 0
StandsAfter b now faults (steps.More search) = Stands b now faults search
StandsAfter b now faults (steps.Done found) = IsFound b faults found × AreBack b.streams 1 now

-- ---- how many calls of the disk are left at most

abbrev pub left_of : Streams → (dir : ℕ) → ℕ
left_of now dir = unwrap_or (left now dir) 0

unfoldable pub calls_at : Streams → SearchStage → ℕ
calls_at now (stages.Statting false) = 2 * 2 ^ 64 + 5
calls_at now (stages.Statting true) = 2 * 2 ^ 64 + 4
calls_at now stages.Opening = 2 * 2 ^ 64 + 3
calls_at now (stages.Reading dir matches) = 2 * left_of now dir + length matches + 3
calls_at now (stages.Closing dir (Ok matches)) = length matches + 2
calls_at now (stages.Closing dir (Err error)) = 1
calls_at now (stages.Linked id left) = length left + 1

abbrev pub calls_after : Streams → SearchStep → ℕ
calls_after now (steps.More search) = calls_at now search.stage
calls_after now (steps.Done found) = 0
