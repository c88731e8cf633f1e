use Rattle.std.proofs.Common.{◌≡◌, ◌+◌, ◌≤◌, ◌||◌, drop, length}
use Rattle.std.specs.HashSet.{contains, spare}
use Rattle.gix_hash.specs.declared.object_id.ObjectId.{ObjectId}
use Rattle.gix_odb_loose.specs.NameSet.{is_among}
use Rattle.gix_odb_loose.specs.PrefixNames.{same_id}
use Rattle.gix_odb_loose.proofs.store_prefix.put_all.Given as goal

-- the set has what it had and the names so far, and room for those that are left
abbrev pub invariant-loop-id : goal.invariant-loop-id
invariant-loop-id l = record {
  all : (id : ObjectId) → (contains same_id l.set id || is_among (drop l.id-index l.names) id) ≡ (contains same_id l.fn.set id || is_among l.names id);
  room : length l.names ≤ l.id-index + spare l.set;
}
