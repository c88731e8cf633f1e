-- What a call is answered, by what the tree says of it.
use Rattle.std.specs.Prelude.{◌≡◌, Result, Ok, Err}
use Rattle.odb_disk.specs.Tree.Follow.{Refusal, Absent, WrongKind, LinkLoop}
use Rattle.odb_disk.specs.Tree.Write as writing
use Rattle.odb_disk.specs.declared.disk_error.DiskError.{DiskError}
use Rattle.odb_disk.specs.declared.disk_error.DiskError.TheVariants as errors

-- the answer is what the tree says, unless the call failed or memory ran out
abbrev pub Answers : {A : Type 0} → Result A DiskError → Result A Refusal → Type 0
Answers (Ok x) told = told ≡ Ok x
Answers (Err errors.Absent) told = told ≡ Err Absent
Answers (Err errors.WrongKind) told = told ≡ Err WrongKind
Answers (Err errors.LinkLoop) told = told ≡ Err LinkLoop
Answers (Err errors.Exists) told = ⊥
Answers (Err errors.NotEmpty) told = ⊥
Answers (Err errors.Failed) told = Unit {0}
Answers (Err errors.NoMemory) told = Unit {0}

-- the answer of a call that writes is what the tree says, unless the call failed or memory ran out
abbrev pub AnswersWrite : {A : Type 0} → Result A DiskError → Result A writing.Refusal → Type 0
AnswersWrite (Ok x) told = told ≡ Ok x
AnswersWrite (Err errors.Absent) told = told ≡ Err writing.Absent
AnswersWrite (Err errors.WrongKind) told = told ≡ Err writing.WrongKind
AnswersWrite (Err errors.LinkLoop) told = told ≡ Err writing.LinkLoop
AnswersWrite (Err errors.Exists) told = told ≡ Err writing.Exists
AnswersWrite (Err errors.NotEmpty) told = told ≡ Err writing.NotEmpty
AnswersWrite (Err errors.Failed) told = Unit {0}
AnswersWrite (Err errors.NoMemory) told = Unit {0}

-- the answer is what the tree says, unless memory ran out. A tree never says that a call failed
abbrev pub Tells : {A : Type 0} → Result A DiskError → Result A writing.Refusal → Type 0
Tells (Ok x) told = told ≡ Ok x
Tells (Err errors.Absent) told = told ≡ Err writing.Absent
Tells (Err errors.WrongKind) told = told ≡ Err writing.WrongKind
Tells (Err errors.LinkLoop) told = told ≡ Err writing.LinkLoop
Tells (Err errors.Exists) told = told ≡ Err writing.Exists
Tells (Err errors.NotEmpty) told = told ≡ Err writing.NotEmpty
Tells (Err errors.Failed) told = ⊥
Tells (Err errors.NoMemory) told = Unit {0}
