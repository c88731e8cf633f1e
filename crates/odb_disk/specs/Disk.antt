-- When a call of a disk fails: only by a fault of the disk's own.
use Rattle.std.specs.Prelude.{ℕ, ◌≤◌, Result, IsErrOf}
use Rattle.odb_base.specs.Faults.{Rose}
use Rattle.odb_disk.specs.declared.disk_error.DiskError.{DiskError}
use Rattle.odb_disk.specs.declared.disk_error.DiskError.TheVariants as errors

-- the count of faults never falls, and a call fails only if it rose
pub record FailsOnlyByFault {A : Type 0} (before now : ℕ) (result : Result A DiskError) : Type 0 where
  pub later : before ≤ now
  pub failed : IsErrOf result errors.Failed → Rose before now
