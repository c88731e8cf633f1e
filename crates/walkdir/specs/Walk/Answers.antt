-- What a call answers at a place, by what the tree says.
use Rattle.std.specs.Prelude.{◌≡◌, ◌⊎◌, ℕ, Result, Ok, Err}
use Rattle.odb_base.specs.Path.{Path}
use Rattle.odb_disk.specs.Tree.Follow.{Refusal}
use Rattle.odb_disk.specs.Ask.{error_of}
use Rattle.odb_disk.specs.declared.disk_error.DiskError.{DiskError}
use Rattle.odb_disk.specs.declared.disk_error.DiskError.TheVariants as refusals
use Rattle.walkdir.specs.Error.{io_error, no_memory}
use Rattle.walkdir.specs.declared.error.Error.{Error}

-- an error that a call answers on a tree: the tree's refusal, or that the call failed
abbrev pub IsRefused : {A : Type 0} → DiskError → Result A Refusal → Type 0
IsRefused refusals.Failed told = Unit {0}
IsRefused refusals.NoMemory told = ⊥
IsRefused error (Ok found) = ⊥
IsRefused error (Err refusal) = error ≡ error_of refusal

-- ---- what a stat reports

-- what the tree says to a stat of a place, as the walk reports it
abbrev pub told_at : {A : Type 0} → ℕ → Path → Result A Refusal → Result A Error
told_at depth path (Ok found) = Ok found
told_at depth path (Err refusal) = Err (io_error depth path (error_of refusal))

-- what a call at a place answers: what the tree says, that memory ran out, or that the disk failed
abbrev pub Tells : {A : Type 0} → ℕ → Path → Result A Error → Result A Error → Type 0
Tells depth path (Ok found) told = told ≡ Ok found
Tells depth path (Err error) told = (error ≡ no_memory) ⊎ ((error ≡ io_error depth path refusals.Failed) ⊎ (told ≡ Err error))
