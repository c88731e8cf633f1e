-- The ids of a table, and a front of its rows. No public clause of another module cites this one.
use Rattle.std.specs.Prelude.{◌≡◌, ℕ, ◌<◌, ◌≤◌, List, slice_get, Some}
use Rattle.std.specs.declared.cmp.Ordering.{Ordering}
use Rattle.gix_hash.specs.Prefix.{PrefixOf, prefix_cmp}
use Rattle.gix_hash.specs.declared.object_id.ObjectId.{ObjectId}
use Rattle.gix_pack_read.specs.Rows.{ids_of}
use Rattle.gix_pack_read.specs.declared.id_table.IdTable.{IdTable}

abbrev pub ids_in : IdTable → List ObjectId
ids_in table = ids_of table.kind table.count table.ids.now

-- of some rows, those whose ids compare so with a prefix are in front: each before one of them is one
abbrev pub IsFront : PrefixOf → Ordering → List ObjectId → ℕ → ℕ → Type 0
IsFront prefix order ids start end =
    (row later : ℕ) (id other : ObjectId) → start ≤ row → row < later → later < end → slice_get ids row ≡ Some id → slice_get ids later ≡ Some other
    → prefix_cmp prefix other ≡ order → prefix_cmp prefix id ≡ order
