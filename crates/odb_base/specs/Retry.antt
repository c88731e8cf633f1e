-- After which failures of the system a read or a write is tried again.
use Rattle.std.specs.Prelude.{Bool, true, false}
use Rattle.std.specs.declared.io.ErrorKind.{ErrorKind}
use Rattle.std.specs.declared.io.ErrorKind.TheVariants.{Interrupted}

-- only one that was interrupted
abbrev pub is_retried : ErrorKind → Bool
is_retried Interrupted = true
is_retried kind = false
