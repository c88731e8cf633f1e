-- The contents of a view: which indices and rows it shows, and the limits of its numbers.
use Rattle.std.specs.Prelude.{◌≡◌, ◌⊎◌, ℕ}
use Rattle.std.specs.List.{Contains}
use Rattle.gix_odb_events.specs.declared.view.View.{View}
use Rattle.gix_odb_events.specs.declared.listing.ListingRow.{ListingRow}
use Rattle.gix_odb_events.specs.declared.loaded.SnapshotIndex.{SnapshotIndex}

-- the same view for another entry
abbrev pub view_at : View → ℕ → View
view_at view entry = record view { snapshot = record view.snapshot { entry = entry } }

-- a view shows an index, listed or kept
abbrev pub IsShown : View → SnapshotIndex → Type 0
IsShown view index = Contains view.snapshot.indices index ⊎ Contains view.snapshot.kept index

-- a view shows the index of a row at its slot, or has it to be loaded
abbrev pub HasRow : View → (slot : ℕ) → ListingRow → Type 0
HasRow view slot row =
    ((index : SnapshotIndex) × Contains view.snapshot.indices index × (index.slot ≡ slot) × (index.path ≡ row.path)) ⊎ Contains view.todo (record { slot = slot; path = row.path })

-- the greatest numbers of the generation, and of the state
abbrev pub last_generation : ℕ
last_generation = 4294967295

abbrev pub last_state : ℕ
last_state = 18446744073709551615
