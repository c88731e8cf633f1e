-- A lawful run that begins with a tree, and in which each handle knew after each event what its status says.
use Rattle.std.specs.Prelude.{List}
use Rattle.odb_disk.specs.MemDisk.{Volume}
use Rattle.odb_disk.specs.Tree.{IsTree, tree_of}
use Rattle.gix_odb_history.specs.Event.{Event}
use Rattle.gix_odb_world.specs.Headline.{IsLawful}
use Rattle.gix_odb_world.specs.Running.{RunsThroughout}

pub record LawfulRun : Type 0 where
  pub first : Volume
  pub events : List Event
  pub start : IsTree (tree_of first.state)
  pub lawful : IsLawful first events
  pub throughout : RunsThroughout first events
