-- Which call of the disk or event of a core a turn makes, by the task of its handle and the number of turns that its work has had before.
use Rattle.std.specs.Prelude.{◌≡◌, ◌⊎◌, ℕ, ◌+◌, ◌*◌, ◌<◌, ◌≤◌, List, length, Option, Some, None}
use Rattle.odb_disk.specs.MemDisk.{Volume}
use Rattle.odb_disk.specs.declared.ask.DiskAsk.{DiskAsk}
use Rattle.odb_disk.specs.declared.ask.DiskAsk.TheVariants as asks
use Rattle.gix_object.specs.Loose.{header_of}
use Rattle.gix_odb_loose.specs.LooseFile.{loose_path}
use Rattle.gix_odb_loose.specs.WriteJobs.{piece_at, pieces_of}
use Rattle.gix_odb_loose.specs.WriteOrder.{prefix_path, temp_names, temp_path}
use Rattle.gix_odb_loose.specs.WritePieces.{piece_size}
use Rattle.gix_odb_calls.specs.Query.{by_call}
use Rattle.gix_odb_calls.specs.declared.query.Query.{Query}
use Rattle.gix_odb.specs.LookUpOrder.{ask_of}
use Rattle.gix_odb_events.specs.declared.answer.Ask.{Ask}
use Rattle.gix_odb_events.specs.declared.answer.Ask.TheVariants as parts
use Rattle.gix_odb.specs.Contents.{folder_list}
use Rattle.gix_odb.specs.OpenOrder as openings
use Rattle.gix_odb.specs.RefreshOrder.{IsReady}
use Rattle.gix_odb.specs.RefreshOrder as refreshes
use Rattle.gix_odb_events.specs.PackId.{most_slots}
use Rattle.gix_odb_world.specs.AtWork.{Modes}
use Rattle.gix_odb_history.specs.Event.{CoreEvent, Event}
use Rattle.gix_odb_world.specs.Status.{Store, MakeCall, OpenStore, Task}
use Rattle.gix_odb_world.specs.Told.{look_now, opening_now, refresh_now, turns_in_front}
use Rattle.gix_odb_history.specs.Writing.{DoneSince, ToWrite, name_to_write, to_write}

-- After `front` turns of other work, a task asks as `Asks` says by the number of its own turns, which are counted from 0.
pub record AsksBehind (front turns : ℕ) (Asks : (own : ℕ) → Type 0) : Type 0 where
  pub own : ℕ
  pub turn : turns ≡ front + own
  pub asks : Asks own

-- What an opening asks for: what its order of work asks for after all answers to its handle since it began.
abbrev pub AsksAsOpening : List Event → (handle : ℕ) → Store → (begun : ℕ) → Ask → Type 0
AsksAsOpening past handle store begun ask = openings.ask_of store.parts.objects store.parts.folders (opening_now past handle store begun) ≡ Some ask

-- What the refresh before a write asks for: what the order of work of refreshes asks for after all answers to the handle since the write
-- began.
abbrev pub AsksAsRefresh : List Event → (handle : ℕ) → Store → (modes : Modes) → (begun : ℕ) → Ask → Type 0
AsksAsRefresh past handle store modes begun ask = refreshes.asked_of (refresh_now past handle store modes begun) ≡ Some ask

-- What a query asks for: what the order of work of look-ups asks for after all answers to the handle since the query began.
abbrev pub AsksAsLook : List Event → (handle : ℕ) → Store → (modes : Modes) → (begun : ℕ) → Query → Option Ask → Type 0
AsksAsLook past handle store modes begun query ask = ask_of (look_now past handle store modes begun query) ≡ ask

-- the write has made its temporary file with this number
abbrev pub HasMadeFile : Volume → List Event → (handle begun : ℕ) → ToWrite → (number : ℕ) → Type 0
HasMadeFile first past handle begun w number = DoneSince first past handle begun (asks.NewFile (temp_path w.objects number))

-- A write tries one name after another. The file has the number of the last try; then come the header, the data in pieces, the
-- directory and the name, one turn of its own each. Only the removal of the file may come in any turn after its making.
pub data AsksToWrite (first : Volume) (past : List Event) (handle begun own : ℕ) (w : ToWrite) : DiskAsk → Type 0 where
  MakesFile : (number : ℕ) (below : number < temp_names) (turn : own ≡ number)
      → AsksToWrite first past handle begun own w (asks.NewFile (temp_path w.objects number))
  AppendsHeader : (number : ℕ) (made : HasMadeFile first past handle begun w number) (turn : own ≡ number + 1)
      → AsksToWrite first past handle begun own w (asks.Append (temp_path w.objects number) (header_of w.kind w.size))
  AppendsPiece : (number : ℕ) (made : HasMadeFile first past handle begun w number) (count : ℕ) (turn : own ≡ number + 2 + count)
      (some : piece_size * count < length w.bytes)
      → AsksToWrite first past handle begun own w (asks.Append (temp_path w.objects number) (piece_at w.size w.bytes (piece_size * count)))
  MakesDirectory : (number : ℕ) (made : HasMadeFile first past handle begun w number) (turn : own ≡ number + 2 + pieces_of (length w.bytes))
      → AsksToWrite first past handle begun own w (asks.MakeDir (prefix_path w.objects (name_to_write w)))
  Renames : (number : ℕ) (made : HasMadeFile first past handle begun w number) (turn : own ≡ number + 3 + pieces_of (length w.bytes))
      → AsksToWrite first past handle begun own w (asks.Rename (temp_path w.objects number) (loose_path w.objects (name_to_write w)))
  Removes : (number : ℕ) (made : HasMadeFile first past handle begun w number)
      → AsksToWrite first past handle begun own w (asks.Remove (temp_path w.objects number))

-- Which call of the disk a write makes that has had so many turns: the refresh before it makes calls until the store's list is read, and then
-- come its own turns, which are counted from there.
abbrev pub AsksAsWrite : Volume → List Event → (handle : ℕ) → Store → (modes : Modes) → (begun turns : ℕ) → ToWrite → DiskAsk → Type 0
AsksAsWrite first past handle store modes begun turns w ask =
    AsksAsRefresh past handle store modes begun (parts.Disk ask)
    ⊎ (IsReady (refresh_now past handle store modes begun)
    × AsksBehind (turns_in_front past handle store modes begun) turns (λ own. AsksToWrite first past handle begun own w ask))

-- Which call of the disk a turn makes, where its handle has had so many turns since the step that set its task: an opening stats the
-- objects directory and then lists the folders of packs, where it is to count the indices; a query makes the one that its look-up asks for.
abbrev pub AsksInOrder : Volume → List Event → (handle : ℕ) → Store → (modes : Modes) → (begun turns : ℕ) → Task → DiskAsk → Type 0
AsksInOrder first past handle store modes begun turns OpenStore ask = AsksAsOpening past handle store begun (parts.Disk ask)
AsksInOrder first past handle store modes begun turns (MakeCall call) ask =
    by_call
    (λ query. AsksAsLook past handle store modes begun query (Some (parts.Disk ask)))
    (λ kind size bytes known. AsksAsWrite first past handle store modes begun turns (to_write store.parts.objects store.parts.object_hash kind size bytes known) ask)
    call

-- How many slots and folders a task may ask for in a core for its store: an opening asks for the slots that its order of work needs, after all
-- answers to its handle since it began, and for the folders of the store.
abbrev pub MayAskNewCore : List Event → (handle : ℕ) → Store → (begun : ℕ) → Task → (slots folders : ℕ) → Type 0
MayAskNewCore past handle store begun OpenStore slots folders =
    AsksAsOpening past handle store begun (parts.NewCore slots folders) × (slots ≤ most_slots) × (folders ≡ length (folder_list store.parts))
MayAskNewCore past handle store begun (MakeCall call) slots folders = ⊥

-- Whether a task may end in a turn that asks for nothing: a query may whose look-up is done, since the snapshot had all that was needed.
abbrev pub MayEndUnasked : List Event → (handle : ℕ) → Store → (modes : Modes) → (begun : ℕ) → Task → Type 0
MayEndUnasked past handle store modes begun OpenStore = ⊥
MayEndUnasked past handle store modes begun (MakeCall call) =
    by_call (λ query. AsksAsLook past handle store modes begun query None) (λ kind size bytes known. ⊥) call

-- Which event of the core of its store a task may ask for: a query asks for the one that its look-up asks for, a write for the one that the
-- refresh before it asks for.
abbrev pub MayAskCore : List Event → (handle : ℕ) → Store → (modes : Modes) → (begun : ℕ) → Task → CoreEvent → Type 0
MayAskCore past handle store modes begun OpenStore event = ⊥
MayAskCore past handle store modes begun (MakeCall call) event =
    by_call
    (λ query. AsksAsLook past handle store modes begun query (Some (parts.Core event)))
    (λ kind size bytes known. AsksAsRefresh past handle store modes begun (parts.Core event))
    call

-- What a turn asks for, if it asks for anything.
abbrev pub AsksAsTask : Volume → List Event → (handle : ℕ) → Store → (modes : Modes) → (begun turns : ℕ) → Task → Option Ask → Type 0
AsksAsTask first past handle store modes begun turns task None = MayEndUnasked past handle store modes begun task
AsksAsTask first past handle store modes begun turns task (Some (parts.Disk ask)) = AsksInOrder first past handle store modes begun turns task ask
AsksAsTask first past handle store modes begun turns task (Some (parts.Core event)) = MayAskCore past handle store modes begun task event
AsksAsTask first past handle store modes begun turns task (Some (parts.NewCore slots folders)) = MayAskNewCore past handle store begun task slots folders
