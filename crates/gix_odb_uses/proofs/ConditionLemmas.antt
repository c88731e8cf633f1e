-- The condition of an object, by the answer of a find.
use Rattle.std.proofs.Common.{ℕ, List, inr}
use Rattle.odb_disk.specs.Tree.{State}
use Rattle.gix_hash.specs.declared.object_id.ObjectId.{ObjectId}
use Rattle.gix_object.specs.declared.kind.Kind.{Kind}
use Rattle.gix_odb_loose.specs.Store.{store_hash}
use Rattle.gix_odb_loose.specs.declared.store.Store.{Store}
use Rattle.gix_odb_uses.specs.Conditions.{IsIn, TellsFound}
use Rattle.gix_odb_uses.specs.Objects.{IsHeld}
use Rattle.gix_odb_uses.specs.declared.asking.Condition.{Condition}
use Rattle.gix_odb_uses.specs.declared.asking.Condition.TheVariants as conditions

module _ (store : Store) (id : ObjectId) (s : State) (Failed : Type 0) where
  -- from an object that was found
  pub by_found : (kind : Kind) (bytes : List ℕ) → IsHeld store id s kind bytes → (condition : Condition) → TellsFound (store_hash store) id kind bytes condition → IsIn store id s Failed condition
  by_found kind bytes is conditions.Sound tells = (kind, bytes, is, tells)
  by_found kind bytes is conditions.Damaged tells = inr (inr (kind, bytes, is, tells))
  by_found kind bytes is conditions.Absent tells = absurd tells
  by_found kind bytes is conditions.Unread tells = absurd tells
