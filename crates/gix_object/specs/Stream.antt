-- Writing objects: what one puts into a sink, and what is taken from a source.
use Rattle.std.specs.Prelude.{◌≡◌, ℕ, ◌≤◌, List, [], ◌++◌, length, take, drop, Option, Some, None, Result, Ok, Err, IfSome}

-- an object adds a prefix of its bytes to the contents of a sink, all of them if the result is Ok; a sink may not report its contents
abbrev pub Puts : {T E : Type 0} → List ℕ → Option (List ℕ) → Option (List ℕ) → Result T E → Type 0
Puts bytes None now result = now ≡ None
Puts bytes (Some held) now (Ok done) = now ≡ Some (held ++ bytes)
Puts bytes (Some held) now (Err failed) = (n : ℕ) × (now ≡ Some (held ++ take n bytes))

-- bytes are taken from the front of what a source has left, and a source that reports it keeps reporting it
abbrev pub Takes : Option (List ℕ) → Option (List ℕ) → Type 0
Takes None now = now ≡ None
Takes (Some left) now = (n : ℕ) × (now ≡ Some (drop n left))

-- a source that a write reads from: what it has left, if it reports that, and its count of faults, at the start and at the end
pub record Stream : Type 0 where
  pub left : Option (List ℕ)
  pub rest : Option (List ℕ)
  pub faults : ℕ
  pub faults_then : ℕ

abbrev pub stream_of : Option (List ℕ) → ℕ → Option (List ℕ) → ℕ → Stream
stream_of left faults rest faults_then = record { left = left; rest = rest; faults = faults; faults_then = faults_then }

-- what every write does to its source: it takes from the front, and the count of faults never falls
pub record IsDrawn (stream : Stream) : Type 0 where
  pub taken : Takes stream.left stream.rest
  pub later : stream.faults ≤ stream.faults_then

-- a source that was written whole: it had exactly `size` bytes, and none is left
pub record IsWhole (size : ℕ) (left rest : Option (List ℕ)) : Type 0 where
  pub size_is : IfSome left (λ bytes. length bytes ≡ size)
  pub at_end : IfSome left (λ _. rest ≡ Some [])
