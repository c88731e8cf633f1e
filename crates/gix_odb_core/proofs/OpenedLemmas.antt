-- What every core was made with, and what follows for its present shape.
use Rattle.std.proofs.Common.{List, refl}
use Rattle.gix_odb_core.specs.Core.{shape_of}
use Rattle.gix_odb_core.specs.Possible.{IsOpened, IsPossible}
use Rattle.gix_odb_core.specs.Replay.{replay}
use Rattle.gix_odb_core.specs.Steps.{IsShape}
use Rattle.gix_odb_core.specs.declared.apply.Opening.{Opening}
use Rattle.gix_odb_core.specs.declared.journal.Entry.{Entry}
use Rattle.gix_odb_core.proofs.ShapeLaws.{journal_comes_to_a_shape}

pub opened-core : (opening : Opening) → IsOpened (shape_of opening)
opened-core opening = record { slots = opening.slots; folders = opening.folders; generation = opening.generation; state = opening.state; is = refl }

pub shape-core : (opening : Opening) (entries : List Entry) → IsPossible (shape_of opening) entries → IsShape (replay (shape_of opening) entries)
shape-core opening entries possible = journal_comes_to_a_shape (shape_of opening) (opened-core opening) entries possible
