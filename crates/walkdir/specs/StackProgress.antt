-- How far the walk of a stack is.
use Rattle.std.specs.Prelude.{◌≡◌, reverse, length}
use Rattle.std.specs.Option.{option_map}
use Rattle.odb_disk.specs.Streams.{Streams}
use Rattle.walkdir.specs.Progress.{Progress}
use Rattle.walkdir.specs.Stack.{ancestors}
use Rattle.walkdir.specs.Walk.{Order}
use Rattle.walkdir.specs.declared.stack.Stack.{Stack}

-- the progress on a disk with these streams, by the meaning of its sorter
abbrev pub progress : {S : Type 0} → (S → Order) → Stack S → Streams → Progress
progress order walk streams = record {
  options = walk.options;
  order = option_map order walk.sorter;
  start = walk.start;
  device = walk.root_device;
  stack = reverse walk.lists.items;
  entered = walk.entered;
  streams = streams;
}

-- what stays of a walk's stack, when only the contents of its directories change
pub record KeepsStack {S : Type 0} (old new : Stack S) : Type 0 where
  pub options : new.options ≡ old.options
  pub sorter : new.sorter ≡ old.sorter
  pub start : new.start ≡ old.start
  pub device : new.root_device ≡ old.root_device
  pub entered : new.entered ≡ old.entered
  pub count : length new.lists.items ≡ length old.lists.items
  pub above : ancestors (reverse new.lists.items) ≡ ancestors (reverse old.lists.items)
