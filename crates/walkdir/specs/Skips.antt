-- What a skip leaves of a walk in progress.
use Rattle.std.specs.Prelude.{◌≡◌, ℕ, ◌≤◌, false, List, [], ◌∷◌, Option, None, if◌then◌else◌}
use Rattle.odb_disk.specs.Streams.{Streams}
use Rattle.walkdir.specs.Directory.{is_skipped, stream_in, without_stream}
use Rattle.walkdir.specs.declared.directory.DirList.{DirList}
use Rattle.walkdir.specs.declared.directory.Items.TheVariants.{Skipped}
use Rattle.walkdir.specs.Progress.{Keeps, Progress, work_left}

-- the stack, whose innermost directory that isn't skipped yet has nothing left
abbrev pub skipped : List DirList → List DirList
skipped [] = []
skipped (list ∷ outer) = if is_skipped list.items then list ∷ skipped outer else (record list { items = Skipped }) ∷ outer

-- the stream of the innermost directory that isn't skipped yet
abbrev pub skipped_stream : List DirList → Option ℕ
skipped_stream [] = None
skipped_stream (list ∷ outer) = if is_skipped list.items then skipped_stream outer else stream_in list.items

-- a skip changes the stack, and closes its stream if it has one; all else stays
pub record Skips (old new : Progress) : Type 0 where
  pub stack : new.stack ≡ skipped old.stack
  pub streams : new.streams ≡ without_stream (skipped_stream old.stack) old.streams
  pub entered : new.entered ≡ false
  pub options : new.options ≡ old.options
  pub order : new.order ≡ old.order
  pub start : new.start ≡ old.start
  pub device : new.device ≡ old.device
  pub keeps : (before : Streams) → Keeps before old → Keeps before new
  pub less : work_left new ≤ work_left old
