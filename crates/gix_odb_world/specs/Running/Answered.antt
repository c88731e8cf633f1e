-- What is true of all answers to a handle since it began to list folders of packs. No public clause needs more of it than its name.
use Rattle.std.specs.Prelude.{ℕ, List, [], length, None}
use Rattle.odb_disk.specs.MemDisk.{Volume}
use Rattle.gix_hash.specs.declared.object_id.ObjectId.{ObjectId}
use Rattle.gix_odb.specs.LookExchanges.{AreAnswered}
use Rattle.gix_odb.specs.Fair.{PackedPlace}
use Rattle.gix_odb.specs.Laps.{AreWithin}
use Rattle.gix_odb.specs.Asked.{AreSuited}
use Rattle.gix_odb.specs.StillListed.{AreFairOrFailed}
use Rattle.gix_odb.specs.Store.{listed_for}
use Rattle.gix_odb_world.specs.AtWork.{Store}
use Rattle.gix_odb_world.specs.Bound.{HasAtMost}
use Rattle.gix_odb_history.specs.Event.{Event}
use Rattle.gix_odb_history.specs.Run.{tree_at}
use Rattle.gix_odb_world.specs.Running.PackedStill.{IsPackedStill}
use Rattle.gix_odb_world.specs.Told.{told_since}

-- Each answer is one that its ask has, and no stream gave more entries than the folders of the store had. While an object stays unchanged in a pack,
-- each call of the disk that didn't fail is fair.
pub record IsAnsweredWell (first : Volume) (events : List Event) (handle : ℕ) (store : Store) (begun : ℕ) : Type 0 where
  pub suited : AreSuited (told_since events handle begun)
  pub answered : AreAnswered (told_since events handle begun)
  pub within : (entries : ℕ) → HasAtMost (tree_at first events) store.parts begun (length events) entries → AreWithin entries None (told_since events handle begun)
  pub met : (id : ObjectId) (place : PackedPlace) → IsPackedStill (tree_at first events) store begun (length events) id place
      → AreFairOrFailed (listed_for store.parts).multi store.parts.object_hash id place [] (told_since events handle begun)
