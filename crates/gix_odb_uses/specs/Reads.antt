-- Which calls of the disk were made that read the paths of objects.
use Rattle.std.specs.Prelude.{◌≡◌, ◌⊎◌, List, [], ◌∷◌}
use Rattle.odb_base.specs.Path.{Path}
use Rattle.odb_disk.specs.CallsMade.{Makes}
use Rattle.odb_disk.specs.declared.ask.DiskAsk.{DiskAsk}
use Rattle.odb_disk.specs.declared.ask.DiskAsk.TheVariants as asks
use Rattle.odb_disk.specs.declared.ask.DiskAnswer.{DiskAnswer}
use Rattle.gix_hash.specs.declared.object_id.ObjectId.{ObjectId}
use Rattle.gix_odb_loose.specs.Answers.{path_in}
use Rattle.gix_odb_loose.specs.declared.store.Store.{Store}

module _ {D : Type 0} (answered : D → DiskAsk → DiskAnswer → D → Type 0) where
  -- no call was made, or a path was read once
  abbrev pub MayRead : Path → (before now : D) → Type 0
  MayRead path before now = Makes answered [] before now ⊎ ((answer : DiskAnswer) × Makes answered ((asks.Read path, answer) ∷ []) before now)

  -- the path of each object was read once, or not, in this order
  abbrev pub MayReadEach : Store → List ObjectId → (before now : D) → Type 0
  MayReadEach store [] before now = before ≡ now
  MayReadEach store (id ∷ ids) before now = (between : D) × MayRead (path_in store id) before between × MayReadEach store ids between now
