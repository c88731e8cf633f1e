-- The walk of a tree that was built.
use Rattle.std.specs.Option.{option_map}
use Rattle.odb_disk.specs.Tree.{Tree}
use Rattle.walkdir.specs.Options.{Built}
use Rattle.walkdir.specs.Walk.{Order, Walking}

abbrev pub walking : {S : Type 0} → (S → Order) → Tree → Built S → Walking
walking order tree built = record { tree = tree; root = built.root; options = built.options; order = option_map order built.sorter }
