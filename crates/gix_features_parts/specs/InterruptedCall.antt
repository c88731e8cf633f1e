-- Reads and writes under a flag: which answers report an interruption, and what the source or sink answered.
use Rattle.std.specs.Prelude.{ℕ, Bool, true, false, Result, Ok, Err}
use Rattle.odb_base.specs.declared.source.Failed.{Failed as SourceFailed}
use Rattle.gix_features_parts.specs.declared.interrupt.streams.Error.{Error}
use Rattle.gix_features_parts.specs.declared.interrupt.streams.Error.TheVariants.{Interrupted, Failed}

abbrev pub is_interrupted : Result ℕ Error → Bool
is_interrupted (Ok n) = false
is_interrupted (Err Interrupted) = true
is_interrupted (Err Failed) = false

-- the answer of a source or a sink; one that wasn't asked took and added nothing, as one that failed
abbrev pub inner_answer : Result ℕ Error → Result ℕ SourceFailed
inner_answer (Ok n) = Ok n
inner_answer (Err error) = Err (record {})
