-- Answers and errors that report that memory ran out.
use Rattle.std.specs.Prelude.{◌≡◌, Err}
use Rattle.odb_disk.specs.declared.ask.DiskAnswer.TheVariants as answers
use Rattle.odb_disk.specs.declared.disk_error.DiskError.TheVariants as disk_errors
use Rattle.gix_odb_calls.specs.declared.call.CallError.{CallError}
use Rattle.gix_odb_calls.specs.declared.call.CallError.TheVariants as call_errors
use Rattle.gix_odb_calls.specs.declared.find.Error.TheVariants as find_errors
use Rattle.gix_odb_calls.specs.declared.init.Error.TheVariants as opening_errors
use Rattle.gix_odb_calls.specs.declared.load_index.Error.TheVariants as load_errors
use Rattle.gix_odb_calls.specs.declared.write.Error.TheVariants as write_errors
use Rattle.gix_odb_events.specs.declared.event.Refusal.TheVariants as refusals
use Rattle.gix_odb_loose.specs.declared.find.Error.TheVariants as loose_errors
use Rattle.gix_odb_loose.specs.declared.write.Error.TheVariants as loose_write_errors
use Rattle.gix_odb_history.specs.Event.{Asked, OfCore, OfDisk, OfNewCore, OfNothing}

-- what was asked in an event was answered with `out of memory`: by the disk, or by a core
abbrev pub RanOut : Asked → Type 0
RanOut OfNothing = ⊥
RanOut (OfDisk ask answer) = answer ≡ answers.Refused disk_errors.NoMemory
RanOut (OfCore store seat event answer) = answer ≡ Err refusals.NoMemory
RanOut (OfNewCore slots folders store seat answer) = answer ≡ Err refusals.NoMemory

-- the errors of openings, queries and writes that report it
abbrev pub TellsWant : CallError → Type 0
TellsWant (call_errors.Open opening_errors.NoMemory) = Unit {0}
TellsWant (call_errors.Open (opening_errors.LoadIndex load_errors.NoMemory)) = Unit {0}
TellsWant (call_errors.Find find_errors.NoMemory) = Unit {0}
TellsWant (call_errors.Find (find_errors.LoadIndex load_errors.NoMemory)) = Unit {0}
TellsWant (call_errors.Find (find_errors.Loose loose_errors.NoMemory)) = Unit {0}
TellsWant (call_errors.Write write_errors.NoMemory) = Unit {0}
TellsWant (call_errors.Write (write_errors.LoadIndex load_errors.NoMemory)) = Unit {0}
TellsWant (call_errors.Write (write_errors.LooseWrite loose_write_errors.NoMemory)) = Unit {0}
TellsWant error = ⊥
