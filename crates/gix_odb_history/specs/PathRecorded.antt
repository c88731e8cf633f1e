-- The path in the record of a call of the disk.
use Rattle.std.specs.Prelude.{[], Option, unwrap_or}
use Rattle.odb_base.specs.Path.{Path}
use Rattle.odb_disk.specs.Ask.{path_asked}
use Rattle.odb_disk.specs.declared.ask.DiskAsk.{DiskAsk}

-- The path of the call, of a rename its source; or the path with which its stream was opened, since a call on an open stream
-- has none.
abbrev pub path_recorded : (opened : Option Path) → DiskAsk → Path
path_recorded opened ask = unwrap_or (path_asked ask) (unwrap_or opened [])
