-- The states of a slot's files.
use Rattle.std.specs.Prelude.{Bool, true, false, Option, Some, None}
use Rattle.odb_base.specs.Path.{Path}
use Rattle.gix_odb_events.specs.declared.on_disk_file.FileState.{FileState}
use Rattle.gix_odb_events.specs.declared.on_disk_file.FileState.TheVariants.{Unloaded, Loaded, Garbage, Missing}
use Rattle.gix_odb_events.specs.declared.on_disk_file.OnDiskFile.{OnDiskFile}

module _ {A : Type 0} where
  -- the file of a path, in a state
  abbrev pub file_at : Path → FileState A → OnDiskFile A
  file_at path state = record { path = path; state = state }

  abbrev pub file_path : OnDiskFile A → Path
  file_path file = file.path

  abbrev pub file_state : OnDiskFile A → FileState A
  file_state file = file.state

  -- what was read: of a loaded file, and of garbage
  abbrev pub loaded : FileState A → Option A
  loaded Unloaded = None
  loaded (Loaded file) = Some file
  loaded (Garbage file) = Some file
  loaded Missing = None

  abbrev pub is_loaded : FileState A → Bool
  is_loaded Unloaded = false
  is_loaded (Loaded file) = true
  is_loaded (Garbage file) = true
  is_loaded Missing = false

  abbrev pub is_disposable : FileState A → Bool
  is_disposable Unloaded = false
  is_disposable (Loaded file) = false
  is_disposable (Garbage file) = true
  is_disposable Missing = true

  -- it is to be read, and may be present
  abbrev pub is_unloaded : FileState A → Bool
  is_unloaded Unloaded = true
  is_unloaded (Loaded file) = false
  is_unloaded (Garbage file) = false
  is_unloaded Missing = false

  -- a listing has the file again
  abbrev pub put_back : FileState A → FileState A
  put_back Unloaded = Unloaded
  put_back (Loaded file) = Loaded file
  put_back (Garbage file) = Loaded file
  put_back Missing = Unloaded

  -- no listing has it any more, while a handle is stable
  abbrev pub trashed : FileState A → FileState A
  trashed Unloaded = Unloaded
  trashed (Loaded file) = Garbage file
  trashed (Garbage file) = Garbage file
  trashed Missing = Missing

  -- a file is stored where none is loaded
  abbrev pub stored : A → FileState A → FileState A
  stored file Unloaded = Loaded file
  stored file (Loaded old) = Loaded old
  stored file (Garbage old) = Garbage old
  stored file Missing = Loaded file

  -- a file that was passed over is missing unless it was loaded
  abbrev pub passed : FileState A → FileState A
  passed Unloaded = Missing
  passed (Loaded file) = Loaded file
  passed (Garbage file) = Garbage file
  passed Missing = Missing

  -- a file after a change of its state
  abbrev pub with_state : (FileState A → FileState A) → OnDiskFile A → OnDiskFile A
  with_state change file = file_at file.path (change file.state)
