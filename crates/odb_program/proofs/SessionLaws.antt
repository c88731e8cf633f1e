-- Laws of sessions, for programs: what was read from a source, and what a delivery says of a status.
use Rattle.std.proofs.Common.{◌≡◌, inl, inr, ℕ, ◌≤◌, List, [], ◌++◌, length, sym, ap, ◌∙◌, subst, Option, Some, None}
use Rattle.std.specs.Prelude.{IfSome}
use Rattle.odb_mem_disk.specs.Source.{ReadsFile}
use Rattle.odb_program.specs.Session.{Delivers, FailedWrite, Finished, Output, ReadToEnd}

-- ---- what was read

-- what holds of the bytes that were read, however the source goes on after them, holds of all that the source reported
pub holds_of_source : (limit : ℕ) (left left' : Option (List ℕ)) (bytes : List ℕ) (Holds : List ℕ → Type 0) → ReadsFile limit left left' bytes
    → ((rest : List ℕ) → (length bytes ≤ limit → rest ≡ []) → Holds (bytes ++ rest)) → IfSome left Holds
holds_of_source limit None left' bytes Holds reads holds = tt
holds_of_source limit (Some all) left' bytes Holds reads holds = subst Holds (sym reads.1) (holds reads.0 reads.3)

-- a source that gave no more than the limit was read to its end
pub ReadToEnd-short : (limit : ℕ) (left left' : Option (List ℕ)) (bytes : List ℕ) → ReadsFile limit left left' bytes → length bytes ≤ limit → ReadToEnd left left'
ReadToEnd-short limit None left' bytes reads short = tt
ReadToEnd-short limit (Some all) left' bytes reads short = reads.2 ∙ ap Some (reads.3 short)

-- ---- what a delivery says of a status

module _ {T : Type 0} (Ends : T → Type 0) (Writes : List ℕ → T → Type 0) (failed_write : T) (output : Output) (bytes : List ℕ) (status result : T) where
  -- an output that was delivered ends a session with its status, or with a failed write
  pub ends_delivered : Writes bytes status → (Finished Writes output status → Ends status) → (FailedWrite Writes output → Ends failed_write)
      → Delivers failed_write output bytes status result → Ends result
  ends_delivered writes whole cut (inl all) = subst Ends (sym all.0) (whole (record { written = bytes; writes = writes; added = all.1 }))
  ends_delivered writes whole cut (inr failed) =
      subst Ends (sym failed.0) (cut (failed.1, record { status = status; written = bytes; writes = writes; front = failed.2 }))
