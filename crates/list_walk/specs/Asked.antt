-- The walk of a folder that is asked for.
use Rattle.std.specs.Prelude.{ℕ, Bool, true, false, max, min, [], Option, Some, None}
use Rattle.odb_base.specs.Path.{Path, name_cmp}
use Rattle.odb_disk.specs.Streams.{Streams}
use Rattle.odb_disk.specs.Tree.{Tree}
use Rattle.walkdir.specs.Entry.{file_name_of}
use Rattle.walkdir.specs.Options.{default_options}
use Rattle.walkdir.specs.Progress.{Progress}
use Rattle.walkdir.specs.Walk.{Order, Walking}
use Rattle.walkdir.specs.declared.builder.Options.{Options}
use Rattle.list_walk.specs.declared.words.Choices.{Choices}

abbrev pub max_open_by : Option ℕ → Options → Options
max_open_by None options = options
max_open_by (Some count) options = record options { max_open = max count 1 }

abbrev pub min_depth_by : Option ℕ → Options → Options
min_depth_by None options = options
min_depth_by (Some depth) options = record options { min_depth = min depth options.max_depth }

abbrev pub max_depth_by : Option ℕ → Options → Options
max_depth_by None options = options
max_depth_by (Some depth) options = record options { max_depth = max depth options.min_depth }

-- the choices without numbers
abbrev pub flags_by : Choices → Options → Options
flags_by choices options = record options {
  follow_links = choices.follow;
  contents_first = choices.contents_first;
  same_file_system = choices.same_file_system;
}

-- the greatest depth gives way to the least
abbrev pub chosen_by : Choices → Options → Options
chosen_by choices options =
    max_depth_by choices.max_depth (min_depth_by choices.min_depth (max_open_by choices.max_open (flags_by choices options)))

abbrev pub options_of : Choices → Options
options_of choices = chosen_by choices default_options

abbrev pub by_name : Order
by_name a b = name_cmp (file_name_of a) (file_name_of b)

-- entries are sorted if that is chosen
abbrev pub order_by : Bool → Option Order
order_by true = Some by_name
order_by false = None

-- the walk of a tree from a root
abbrev pub walking_of : Path → Choices → Tree → Walking
walking_of root choices tree = record { tree = tree; root = root; options = options_of choices; order = order_by choices.sort }

-- the walk, before its first item, on a disk with these streams
abbrev pub walk_of : Path → Choices → Streams → Progress
walk_of root choices streams = record {
  options = options_of choices;
  order = order_by choices.sort;
  start = Some root;
  device = 0;
  stack = [];
  entered = false;
  streams = streams;
}
