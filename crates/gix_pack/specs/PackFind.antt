-- The answers of a database of packs: objects with their locations, and the rows of a pack.
use Rattle.std.specs.Prelude.{◌≡◌, ℕ, List, Vec, Option, Some, None, Result, Ok, Err}
use Rattle.gix_hash.specs.declared.object_id.ObjectId.{ObjectId}
use Rattle.gix_object.specs.Data.{Object, object_of}
use Rattle.gix_object.specs.declared.data.Data.{Data}
use Rattle.gix_pack_read.specs.declared.data.entry.Location.{Location}

-- an object that was found, and its location in a pack, if it has one
pub record Found : Type 0 where
  pub object : Object
  pub location : Option Location

-- the result of a find: an object, that there is none, or an error
abbrev pub found_at : {E : Type 0} → Result (Option (Data × Option Location)) E → Result (Option Found) E
found_at (Ok (Some found)) = Ok (Some (record { object = object_of found.0; location = found.1 }))
found_at (Ok None) = Ok None
found_at (Err error) = Err error

-- the rows of a pack that a call listed, or an error
abbrev pub rows_listed : {A E : Type 0} → Result (Vec (ℕ × ObjectId) A) E → Result (List (ℕ × ObjectId)) E
rows_listed (Ok rows) = Ok rows.items
rows_listed (Err error) = Err error

-- ---- locations that were given

-- each of them is still one that was given
abbrev pub KeepsGiven : (Location → Type 0) → (Location → Type 0) → Type 0
KeepsGiven before after = (location : Location) → before location → after location

-- one of them names this pack
abbrev pub IsPackOfGiven : (Location → Type 0) → ℕ → Type 0
IsPackOfGiven given pack = (location : Location) × given location × (location.pack_id ≡ pack)
