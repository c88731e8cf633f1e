-- What is defined by the call of a query, restated by the query. For callers.
use Rattle.std.specs.Prelude.{ℕ, List, Option}
use Rattle.std.proofs.Common.{sym, subst}
use Rattle.gix_hash.specs.declared.object_id.ObjectId.{ObjectId}
use Rattle.gix_object.specs.declared.kind.Kind.{Kind}
use Rattle.gix_odb_calls.proofs.QueryLaws.{by_call-call_of}
use Rattle.gix_odb_calls.specs.Query.{by_call, call_of}
use Rattle.gix_odb_calls.specs.declared.query.Query.{Query}

module _ (Asks : Query → Type 0) (Writes : Kind → ℕ → List ℕ → Option ObjectId → Type 0) (query : Query) where
  pub to_call : Asks query → by_call Asks Writes (call_of query)
  to_call asks = subst (λ (T : Type 0). T) (sym (by_call-call_of Asks Writes query)) asks

  pub of_call : by_call Asks Writes (call_of query) → Asks query
  of_call goes = subst (λ (T : Type 0). T) (by_call-call_of Asks Writes query) goes
