-- What is lent of a list of slots, as a snapshot shows it.
use Rattle.gix_odb_events.specs.declared.lent.LentFile.{LentFile}
use Rattle.gix_odb_events.specs.declared.lent.LentFile.TheVariants as lent
use Rattle.gix_odb_events.specs.declared.lent.LentIndex.{LentIndex}
use Rattle.gix_odb_events.specs.declared.lent.LentTodo.{LentTodo}
use Rattle.gix_odb_events.specs.declared.loaded.LoadedIndex.{LoadedIndex}
use Rattle.gix_odb_events.specs.declared.loaded.LoadedIndex.TheVariants as shown
use Rattle.gix_odb_events.specs.declared.loaded.SnapshotIndex.{SnapshotIndex}
use Rattle.gix_odb_events.specs.declared.loaded.Todo.{Todo}

abbrev pub lent_file : LentFile → LoadedIndex
lent_file (lent.Single file) = shown.Single file.now
lent_file (lent.Multi file) = shown.Multi file.now

-- the index that is lent
abbrev pub lent_index : LentIndex → SnapshotIndex
lent_index index = record { slot = index.slot; path = index.path.now; index = lent_file index.index; packs = index.packs.now }

-- the index to be loaded that is lent
abbrev pub lent_todo : LentTodo → Todo
lent_todo todo = record { slot = todo.slot; path = todo.path.now }
