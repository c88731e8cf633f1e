-- Which calls are a write's own, and what it leaves.
use Rattle.std.specs.Prelude.{◌≡◌, ◌⊎◌, ℕ, ◌<◌, List, [], ◌∷◌, ◌++◌, All, Some, None}
use Rattle.odb_disk.specs.declared.ask.DiskAsk.{DiskAsk}
use Rattle.odb_disk.specs.declared.ask.DiskAsk.TheVariants as asks
use Rattle.odb_disk.specs.declared.ask.DiskAnswer.{DiskAnswer}
use Rattle.gix_hash.specs.declared.object_id.ObjectId.{ObjectId}
use Rattle.gix_odb_loose.specs.Exchanges.{Exchange, exchanged, MadeOnly}
use Rattle.gix_odb_loose.specs.LooseFile.{loose_path}
use Rattle.gix_odb_loose.specs.WriteOrder.{temp_names, temp_path, prefix_path}
use Rattle.gix_odb_loose.specs.declared.write_order.WriteHead.{WriteHead}

-- ---- what is left

-- The temporary file that was made was asked to be removed last. No other file was made.
pub record IsCleared (head : WriteHead) (past : List Exchange) : Type 0 where
  pub number : ℕ
  pub before : List Exchange
  pub answer : DiskAnswer
  pub is : past ≡ before ++ exchanged (asks.Remove (temp_path head.objects number)) answer ∷ []
  pub made : MadeOnly (Some (temp_path head.objects number)) before

-- no file was made, or it was asked to be removed last
abbrev pub LeavesNothing : WriteHead → List Exchange → Type 0
LeavesNothing head past = MadeOnly None past ⊎ IsCleared head past

-- ---- what is a write's own

-- The calls of a write whose temporary file has this number: the creation of a temporary file, appends to its file, the
-- directory of its object, the rename to the object's path, and the removal of its file. It makes no others.
abbrev pub IsOwn : WriteHead → (Named : ObjectId → Type 0) (number : ℕ) → DiskAsk → Type 0
IsOwn head Named number (asks.NewFile path) = (one : ℕ) × (one < temp_names) × (path ≡ temp_path head.objects one)
IsOwn head Named number (asks.Append path bytes) = path ≡ temp_path head.objects number
IsOwn head Named number (asks.MakeDir path) = (id : ObjectId) × Named id × (path ≡ prefix_path head.objects id)
IsOwn head Named number (asks.Rename from to) = (from ≡ temp_path head.objects number) × ((id : ObjectId) × Named id × (to ≡ loose_path head.objects id))
IsOwn head Named number (asks.Remove path) = path ≡ temp_path head.objects number
IsOwn head Named number (asks.Look path follow) = ⊥
IsOwn head Named number (asks.Read path) = ⊥
IsOwn head Named number (asks.OpenDir path) = ⊥
IsOwn head Named number (asks.NextEntry dir) = ⊥
IsOwn head Named number (asks.CloseDir dir) = ⊥

-- each call that was made is one of the write's own
pub record AreOwn (head : WriteHead) (Named : ObjectId → Type 0) (past : List Exchange) : Type 0 where
  pub number : ℕ
  pub each : All (λ (x : Exchange). IsOwn head Named number x.ask) past
