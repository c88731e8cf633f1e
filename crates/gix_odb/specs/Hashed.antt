-- When the objects that a look-up may meet hash to its id.
use Rattle.std.specs.Prelude.{◌≡◌, ℕ, List, Contains, Some, Ok}
use Rattle.odb_base.specs.Path.{Path}
use Rattle.odb_disk.specs.declared.ask.DiskAnswer.{DiskAnswer}
use Rattle.odb_disk.specs.declared.ask.DiskAsk.{DiskAsk}
use Rattle.gix_hash.specs.declared.kind.Kind.{Kind}
use Rattle.gix_hash.specs.declared.object_id.ObjectId.{ObjectId}
use Rattle.gix_object.specs.Id.{object_id}
use Rattle.gix_object.specs.declared.kind.Kind as object
use Rattle.gix_pack_read.specs.Pack.{Entry, entry_at}
use Rattle.gix_odb_loose.specs.LooseFile.{loose_path}
use Rattle.gix_odb_loose.specs.LooseOrder.Answered.{found_by}
use Rattle.gix_odb_events.specs.declared.answer.Answer.TheVariants as told
use Rattle.gix_odb_events.specs.declared.answer.Ask.TheVariants as asks
use Rattle.gix_odb.specs.LookExchanges.{Exchange, WasTold}
use Rattle.gix_odb.specs.Found.{IsInIndex}
use Rattle.gix_odb.specs.LookUpOrder.{Setting}
use Rattle.gix_odb.specs.Shown.{ShowedBytes, folders_of}

module _ (setting : Setting) (hash : Kind) (id : ObjectId) where
  -- Here `Shown path time bytes` says that a file with these bytes and this time was shown at this path since the store was opened. Each object to
  -- which an index leads from the id, in a pack of it, has data that hash to the id.
  abbrev pub PacksHash : (Shown : Path → ℕ → List ℕ → Type 0) → Type 0
  PacksHash Shown =
      (path : Path) (pack : List ℕ) (offset : ℕ) (entry : Entry) → IsInIndex Shown setting hash id path offset → ShowedBytes Shown path pack
      → entry_at hash pack offset setting.parts.alloc_limit_bytes ≡ Ok entry → object_id hash entry.kind entry.bytes ≡ id

  -- each object that was read at the id's path in one of the folders has data that hash to the id
  abbrev pub LooseHash : List Exchange → Type 0
  LooseHash exchanges =
      (folder : Path) → Contains (folders_of setting) folder → (ask : DiskAsk) (answer : DiskAnswer) → WasTold exchanges (asks.Disk ask) (told.Disk answer)
      → (kind : object.Kind) (bytes : List ℕ) → found_by (loose_path folder id) setting.parts.alloc_limit_bytes answer ≡ Ok (Some (kind, bytes)) → object_id hash kind bytes ≡ id
