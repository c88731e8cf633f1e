-- Objects that are found: their kind and their data.
use Rattle.std.specs.Prelude.{ℕ, List, Option, Some, None, Result, Ok, Err}
use Rattle.gix_object.specs.declared.data.Data.{Data}
use Rattle.gix_object.specs.declared.kind.Kind.{Kind}

-- an object
pub record Object : Type 0 where
  pub kind : Kind
  pub bytes : List ℕ

-- the object of found data
abbrev pub object_of : Data → Object
object_of found = record { kind = found.kind; bytes = found.bytes.now }

-- the result of a find: an object, that there is none, or an error
abbrev pub found_of : {E : Type 0} → Result (Option Data) E → Result (Option Object) E
found_of (Ok (Some found)) = Ok (Some (object_of found))
found_of (Ok None) = Ok None
found_of (Err error) = Err error
