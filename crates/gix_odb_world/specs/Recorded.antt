-- The directory of the open stream that work reads.
use Rattle.std.specs.Prelude.{Option}
use Rattle.odb_base.specs.Path.{Path}
use Rattle.gix_odb.specs.CallOrder as calls
use Rattle.gix_odb.specs.OpenOrder as openings
use Rattle.gix_odb_world.specs.Work.{Work}
use Rattle.gix_odb_world.specs.Work.{Opening, Calling}

-- The directory of the open stream that the next call of work reads, where it reads one: whoever opened a stream knows it.
abbrev pub opened_in : Work → Option Path
opened_in (Opening state) = openings.opened_in state
opened_in (Calling state) = calls.opened_in state
