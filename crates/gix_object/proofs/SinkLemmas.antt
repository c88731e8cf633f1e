-- What an object puts into a sink.
use Rattle.std.proofs.Common.{ℕ, List, take, Option, Some, None, Result, Ok, Err}
use Rattle.std.specs.Result.{OnErr, OnOk}
use Rattle.odb_base.specs.Source.{Adds}
use Rattle.gix_object.specs.Stream.{Puts}

-- all of the bytes were added, or a prefix of them if a write failed
pub puts_all : {T E : Type 0} (bytes : List ℕ) (held now : Option (List ℕ)) (result : Result T E) → OnOk result (Adds held now bytes)
    → OnErr result ((count : ℕ) × Adds held now (take count bytes)) → Puts bytes held now result
puts_all bytes None now (Ok x) all front = all
puts_all bytes None now (Err e) all front = front.1
puts_all bytes (Some held) now (Ok x) all front = all
puts_all bytes (Some held) now (Err e) all front = front
