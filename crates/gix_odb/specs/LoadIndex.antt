-- The error of a call whose event was refused by the core of its store.
use Rattle.gix_odb_events.specs.declared.event.Refusal.{Refusal}
use Rattle.gix_odb_events.specs.declared.event.Refusal.TheVariants as refusals
use Rattle.gix_odb_calls.specs.declared.load_index.Error.{Error}
use Rattle.gix_odb_calls.specs.declared.load_index.Error.TheVariants as errors

abbrev pub of_refusal : Refusal → Error
of_refusal (refusals.InsufficientSlots current needed) = errors.InsufficientSlots current needed
of_refusal refusals.GenerationOverflow = errors.GenerationOverflow
of_refusal refusals.NoMemory = errors.NoMemory
