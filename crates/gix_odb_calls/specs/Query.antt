-- The query of a call, and the call of a query.
use Rattle.std.specs.Prelude.{ℕ, List, Option, Some, None}
use Rattle.gix_hash.specs.declared.object_id.ObjectId.{ObjectId}
use Rattle.gix_object.specs.declared.kind.Kind.{Kind}
use Rattle.gix_object.specs.declared.want.Want.{Want}
use Rattle.gix_object.specs.declared.want.Want.TheVariants.{Object, Header, Presence}
use Rattle.gix_odb_calls.specs.declared.call.Call.{Call}
use Rattle.gix_odb_calls.specs.declared.call.Call.TheVariants as calls
use Rattle.gix_odb_calls.specs.declared.query.Query.{Query}

-- the call of a caller who wants this much of the object with this id
abbrev pub call_for : Want → ObjectId → Call
call_for Object id = calls.Find id
call_for Header id = calls.Header id
call_for Presence id = calls.Test id

-- the call that makes a query
abbrev pub call_of : Query → Call
call_of query = call_for query.want query.of

-- a value for each call, by the query of a call that reads, and by the object of a write
abbrev pub by_call {ℓ} : {A : Type ℓ} → (asks : Query → A) → (writes : Kind → (size : ℕ) → List ℕ → (known : Option ObjectId) → A) → Call → A
by_call asks writes (calls.Find id) = asks (record { want = Object; of = id })
by_call asks writes (calls.Header id) = asks (record { want = Header; of = id })
by_call asks writes (calls.Test id) = asks (record { want = Presence; of = id })
by_call asks writes (calls.Write kind size bytes known) = writes kind size bytes known

-- the query of a call; a write has none
abbrev pub query_of : Call → Option Query
query_of call = by_call Some (λ kind size bytes known. None) call
