-- What a look-up has as it starts: the snapshot of its handle, with the object's index and its packs.
use Rattle.std.specs.Prelude.{◌≡◌, ℕ, true, slice_get, All, Contains, Option, Some, None, Ok, option_map}
use Rattle.std.specs.List.{find}
use Rattle.std.specs.Ordering.{is_eq}
use Rattle.gix_hash.specs.ObjectId.{id_cmp}
use Rattle.gix_hash.specs.declared.object_id.ObjectId.{ObjectId}
use Rattle.gix_pack_read.specs.MultiIndex.{told}
use Rattle.gix_pack_read.specs.FileBytes.{FileBytes}
use Rattle.gix_pack_read.specs.Index.{index_rows}
use Rattle.gix_pack_read.specs.Rows.{PackRow, Row}
use Rattle.gix_odb_events.specs.OnDiskFile.{loaded}
use Rattle.gix_odb_events.specs.PackFiles.{PackFile}
use Rattle.gix_odb_events.specs.declared.loaded.LoadedIndex.{LoadedIndex}
use Rattle.gix_odb_events.specs.declared.loaded.LoadedIndex.TheVariants.{Single, Multi}
use Rattle.gix_odb_events.specs.declared.loaded.SnapshotIndex.{SnapshotIndex}
use Rattle.gix_odb_events.specs.declared.view.View.{View}
use Rattle.gix_odb_calls.specs.declared.call.Reply.{Reply}
use Rattle.gix_odb_calls.specs.declared.call.Reply.TheVariants as replies
use Rattle.gix_object.specs.declared.want.Want.{Want}
use Rattle.gix_object.specs.declared.want.Want.TheVariants.{Object, Header, Presence}
use Rattle.gix_odb.specs.LookUpOrder.{ask_of, not_found, result_of}
use Rattle.gix_odb.specs.declared.look_up.LookUp.{LookUp}

-- ---- the snapshot

-- The place of the pack, among the packs of an index, that the index names for an id, if it has a row of the id. An index of one pack names
-- the first.
abbrev pub place_for : LoadedIndex → ObjectId → Option ℕ
place_for (Single file) id = option_map (λ (row : Row). 0) (find (λ (row : Row). is_eq (id_cmp row.id id)) (index_rows file.kind file.bytes))
place_for (Multi bytes) id = option_map (λ (row : PackRow). row.pack) (find (λ (row : PackRow). is_eq (id_cmp row.id id)) (told bytes).rows)

-- the pack at a place of an index is loaded
pub record IsPackLoaded (index : SnapshotIndex) (place : ℕ) : Type 0 where
  pub pack : PackFile
  pub named : slice_get index.packs place ≡ Some pack
  pub file : FileBytes
  pub there : loaded pack.state ≡ Some file

-- an index of a snapshot has an id
pub record HasId (id : ObjectId) (index : SnapshotIndex) : Type 0 where
  pub place : ℕ
  pub has : place_for index.index id ≡ Some place

-- where an index has an id, the pack that it names for it is loaded
abbrev pub HasPackLoaded : ObjectId → SnapshotIndex → Type 0
HasPackLoaded id index = (place : ℕ) → place_for index.index id ≡ Some place → IsPackLoaded index place

-- A find and a look-up of a header need the pack that each index with the id names for it. For a test no pack is needed.
abbrev pub HasPacks : Want → ObjectId → View → Type 0
HasPacks Object id view = All (HasPackLoaded id) view.snapshot.indices
HasPacks Header id view = All (HasPackLoaded id) view.snapshot.indices
HasPacks Presence id view = Unit {0}

-- a snapshot of a list that was read has an index with the id, and the packs that are needed
pub record IsAtHand (want : Want) (id : ObjectId) (view : View) : Type 0 where
  pub read : view.read ≡ true
  pub index : SnapshotIndex
  pub among : Contains view.snapshot.indices index
  pub has : HasId id index
  pub packs : HasPacks want id view

-- ---- the look-up

-- a test is answered with yes
abbrev pub SaysYes : Want → Reply → Type 0
SaysYes Presence reply = reply ≡ replies.Tested true
SaysYes want reply = Unit {0}

-- A look-up is done: it has its reply, which isn't "not found", and asks nothing.
pub record IsDone (want : Want) (look : LookUp) : Type 0 where
  pub reply : Reply
  pub replied : result_of look ≡ Ok reply
  pub silent : ask_of look ≡ None
  pub found : ¬ (reply ≡ not_found want)
  pub says_yes : SaysYes want reply
