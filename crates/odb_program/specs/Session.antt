-- What a session does to its source and its sink, and what its status says of it. A program has statuses of its own, a type
-- `T`, and says by a relation `Writes` which bytes are a whole output with which status.
use Rattle.std.specs.Prelude.{◌≡◌, ◌⊎◌, ℕ, List, [], take, Option, Some, None}
use Rattle.odb_base.specs.Faults.{Rose}
use Rattle.odb_mem_disk.specs.Source.{Adds}

-- the bytes left in a source, if it reports them, and its count of faults, before and after a session
pub record Input : Type 0 where
  pub left : Option (List ℕ)
  pub left' : Option (List ℕ)
  pub faults : ℕ
  pub faults' : ℕ

-- the bytes held by a sink, if it reports them, and its count of faults, before and after a session
pub record Output : Type 0 where
  pub held : Option (List ℕ)
  pub held' : Option (List ℕ)
  pub faults : ℕ
  pub faults' : ℕ

-- the input of a session, by what a source reports, and the source before and after
abbrev pub input_of : {S : Type 0} → (S → Option (List ℕ)) → (S → ℕ) → S → S → Input
input_of left faults before now = record { left = left before; left' = left now; faults = faults before; faults' = faults now }

-- the output of a session, by what a sink reports, and the sink before and after
abbrev pub output_of : {K : Type 0} → (K → Option (List ℕ)) → (K → ℕ) → K → K → Output
output_of held faults before now = record { held = held before; held' = held now; faults = faults before; faults' = faults now }

-- if a source reports its bytes, all of them were read
abbrev pub ReadToEnd : Option (List ℕ) → Option (List ℕ) → Type 0
ReadToEnd None now = Unit {0}
ReadToEnd (Some left) now = now ≡ Some []

-- these bytes were written
abbrev pub Wrote : Output → List ℕ → Type 0
Wrote output bytes = Adds output.held output.held' bytes

-- a prefix of these bytes was written
abbrev pub WroteFront : Output → List ℕ → Type 0
WroteFront output bytes = (count : ℕ) × Wrote output (take count bytes)

-- the bytes written are a whole output with that status
pub record Finished {T : Type 0} (Writes : List ℕ → T → Type 0) (output : Output) (status : T) : Type 0 where
  pub written : List ℕ
  pub writes : Writes written status
  pub added : Wrote output written

-- the bytes written are a prefix of a whole output
pub record CutOff {T : Type 0} (Writes : List ℕ → T → Type 0) (output : Output) : Type 0 where
  pub status : T
  pub written : List ℕ
  pub writes : Writes written status
  pub front : WroteFront output written

-- the source failed, and nothing was written
abbrev pub FailedRead : Input → Output → Type 0
FailedRead input output = Rose input.faults input.faults' × Wrote output []

-- the sink failed, and took a prefix of a whole output
abbrev pub FailedWrite : {T : Type 0} → (List ℕ → T → Type 0) → Output → Type 0
FailedWrite Writes output = Rose output.faults output.faults' × CutOff Writes output

-- An output was delivered: the sink took all of it, and the status is its own; or the sink failed after a prefix, and the
-- status is that of a failed write.
abbrev pub Delivers : {T : Type 0} → T → Output → List ℕ → T → T → Type 0
Delivers failed_write output bytes status result =
    ((result ≡ status) × Wrote output bytes) ⊎ ((result ≡ failed_write) × Rose output.faults output.faults' × WroteFront output bytes)
