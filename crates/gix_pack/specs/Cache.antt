-- What a cache of objects keeps, and how its calls change that.
use Rattle.std.specs.Prelude.{◌≡◌, ℕ, ◌⊎◌, List, Option, Some, None, option_map}
use Rattle.std.specs.List.{find}
use Rattle.std.specs.Ordering.{is_eq}
use Rattle.gix_hash.specs.ObjectId.{id_cmp}
use Rattle.gix_hash.specs.declared.object_id.ObjectId.{ObjectId}
use Rattle.gix_object.specs.Data.{Object}
use Rattle.gix_object.specs.declared.kind.Kind.{Kind}

-- an object under its id, as it was put
pub record Put : Type 0 where
  pub id : ObjectId
  pub object : Object

-- a put from its parts
abbrev pub put_of : ObjectId → Kind → List ℕ → Put
put_of id kind bytes = record { id = id; object = record { kind = kind; bytes = bytes } }

-- the entries of a cache: a finite map, as a list in which the first entry of an id counts
abbrev pub Entries : Type 0
Entries = List Put

abbrev pub entry_of : Entries → ObjectId → Option Object
entry_of entries id = option_map (λ (put : Put). put.object) (find (λ (put : Put). is_eq (id_cmp put.id id)) entries)

-- the answer of a get: the kind, with the bytes in its buffer, or none
abbrev pub got : Option Kind → List ℕ → Option Object
got None bytes = None
got (Some kind) bytes = Some (record { kind = kind; bytes = bytes })

-- each entry is an earlier one or the one that was put
abbrev pub GainsAtMost : Entries → Put → Entries → Type 0
GainsAtMost before put now =
    (id : ObjectId) (object : Object) → entry_of now id ≡ Some object → (entry_of before id ≡ Some object) ⊎ ((id ≡ put.id) × (object ≡ put.object))

-- each entry is an earlier one
abbrev pub GainsNone : Entries → Entries → Type 0
GainsNone before now = (id : ObjectId) (object : Object) → entry_of now id ≡ Some object → entry_of before id ≡ Some object

-- the same entries
abbrev pub KeepsAll : Entries → Entries → Type 0
KeepsAll before now = (id : ObjectId) → entry_of now id ≡ entry_of before id

-- the last put, if it is reported
abbrev pub IsLast : Option Put → Put → Type 0
IsLast None put = Unit {0}
IsLast (Some last) put = last ≡ put
