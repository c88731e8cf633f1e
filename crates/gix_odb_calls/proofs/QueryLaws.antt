-- A call that reads is the call of its query. For callers.
use Rattle.std.specs.Prelude.{◌≡◌, ℕ, List, Option, Some, None, refl}
use Rattle.gix_hash.specs.declared.kind.Kind as hashes
use Rattle.gix_hash.specs.declared.object_id.ObjectId.{ObjectId}
use Rattle.gix_object.specs.declared.kind.Kind.{Kind}
use Rattle.gix_object.specs.declared.want.Want.{Want}
use Rattle.gix_object.specs.declared.want.Want.TheVariants.{Object, Header, Presence}
use Rattle.gix_odb_calls.specs.Hashes.{is_id_of, is_known_of, is_of_hash}
use Rattle.gix_odb_calls.specs.Query.{by_call, call_for, call_of, query_of}
use Rattle.gix_odb_calls.specs.declared.call.Call.{Call}
use Rattle.gix_odb_calls.specs.declared.call.Call.TheVariants as calls
use Rattle.gix_odb_calls.specs.declared.query.Query.{Query}

-- `by_call` of the call of a query is its value for the query
pub by_call-call_of {ℓ} : {A : Type ℓ} (asks : Query → A) (writes : Kind → ℕ → List ℕ → Option ObjectId → A) (query : Query)
    → by_call asks writes (call_of query) ≡ asks query
by_call-call_of asks writes query = by query.want query.of
  where
    by : (want : Want) (id : ObjectId) → by_call asks writes (call_for want id) ≡ asks (record { want = want; of = id })
    by Object id = refl
    by Header id = refl
    by Presence id = refl

-- a property of the values for all queries and all writes holds of the value for any call
pub by_call-all {ℓ} : {A : Type ℓ} (P : A → Type 0) (asks : Query → A) (writes : Kind → ℕ → List ℕ → Option ObjectId → A)
    → ((query : Query) → P (asks query)) → ((kind : Kind) (size : ℕ) (bytes : List ℕ) (known : Option ObjectId) → P (writes kind size bytes known))
    → (call : Call) → P (by_call asks writes call)
by_call-all P asks writes of_asks of_writes (calls.Find id) = of_asks (record { want = Object; of = id })
by_call-all P asks writes of_asks of_writes (calls.Header id) = of_asks (record { want = Header; of = id })
by_call-all P asks writes of_asks of_writes (calls.Test id) = of_asks (record { want = Presence; of = id })
by_call-all P asks writes of_asks of_writes (calls.Write kind size bytes known) = of_writes kind size bytes known

-- a property of the call of each query, and of each write, holds of each call
pub each_call : (P : Call → Type 0) → ((query : Query) → P (call_of query))
    → ((kind : Kind) (size : ℕ) (bytes : List ℕ) (known : Option ObjectId) → P (calls.Write kind size bytes known)) → (call : Call) → P call
each_call P asks writes (calls.Find id) = asks (record { want = Object; of = id })
each_call P asks writes (calls.Header id) = asks (record { want = Header; of = id })
each_call P asks writes (calls.Test id) = asks (record { want = Presence; of = id })
each_call P asks writes (calls.Write kind size bytes known) = writes kind size bytes known

-- a query is of a hash iff its id is
pub is_of_hash-query : (hash : hashes.Kind) (query : Query) → is_of_hash hash (call_of query) ≡ is_id_of hash query.of
is_of_hash-query hash query = by_call-call_of (λ (q : Query). is_id_of hash q.of) (λ kind size bytes known. is_known_of hash known) query

-- the query of a query's call is the query
pub query_of-call_of : (query : Query) → query_of (call_of query) ≡ Some query
query_of-call_of query = by_call-call_of Some (λ kind size bytes known. None) query

-- and no other call does
pub call_of-query_of : (call : Call) (query : Query) → query_of call ≡ Some query → call ≡ call_of query
call_of-query_of (calls.Find id) query is = cc is
call_of-query_of (calls.Header id) query is = cc is
call_of-query_of (calls.Test id) query is = cc is
call_of-query_of (calls.Write kind size bytes known) query is = absurd (cc is)
