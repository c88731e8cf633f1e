-- Which calls of the disk a call of a store made, on any disk: these, and no other.
use Rattle.std.specs.Prelude.{◌≡◌, ◌⊎◌, ℕ, Bool, true, List, [], ◌∷◌, Option, Some, None, Result, Ok, Err}
use Rattle.odb_disk.specs.CallsMade.{Makes}
use Rattle.odb_disk.specs.declared.ask.DiskAsk.{DiskAsk}
use Rattle.odb_disk.specs.declared.ask.DiskAsk.TheVariants as asks
use Rattle.odb_disk.specs.declared.ask.DiskAnswer.{DiskAnswer}
use Rattle.gix_hash.specs.declared.object_id.ObjectId.{ObjectId}
use Rattle.gix_object.specs.Data.{Object}
use Rattle.gix_object.specs.declared.kind.Kind.{Kind}
use Rattle.gix_odb_loose.specs.Answers.{path_in}
use Rattle.gix_odb_loose.specs.Exchanges.{Exchange}
use Rattle.gix_odb_loose.specs.LooseOrder.Answered.{tested_by, found_by, header_by}
use Rattle.gix_odb_loose.specs.Store.{store_limit}
use Rattle.gix_odb_loose.specs.declared.find.Error.{Error}
use Rattle.gix_odb_loose.specs.declared.find.Error.TheVariants.{NoMemory}
use Rattle.gix_odb_loose.specs.declared.store.Store.{Store}

-- the disk calls of exchanges, each with its answer
abbrev pub calls_of : List Exchange → List (DiskAsk × DiskAnswer)
calls_of [] = []
calls_of (x ∷ xs) = (x.ask, x.answer) ∷ calls_of xs

-- a found object by its kind and data
abbrev pub object_result : Result (Option (Kind × List ℕ)) Error → Result (Option Object) Error
object_result (Ok (Some found)) = Ok (Some (record { kind = found.0; bytes = found.1 }))
object_result (Ok None) = Ok None
object_result (Err error) = Err error

module _ {D : Type 0} (answered : D → DiskAsk → DiskAnswer → D → Type 0) where
  -- the exchanges are all calls that lead from one disk to another
  abbrev pub AreAllCalls : List Exchange → (before after : D) → Type 0
  AreAllCalls exchanges before after = Makes answered (calls_of exchanges) before after

  -- No call was made, and memory ran out; or this one call was made, and its answer gave the result, unless memory ran out for
  -- that.
  abbrev pub AsksOnce : {A : Type 0} → DiskAsk → (before after : D) → (given_by : DiskAnswer → Result A Error) → Result A Error → Type 0
  AsksOnce ask before after given_by result =
      (Makes answered [] before after × (result ≡ Err NoMemory)) ⊎
      ((answer : DiskAnswer) × Makes answered ((ask, answer) ∷ []) before after × ((result ≡ given_by answer) ⊎ (result ≡ Err NoMemory)))

  module _ (store : Store) (id : ObjectId) (before after : D) where
    -- a test of presence stats the object's path, links followed
    abbrev pub TestAsks : Result Bool Error → Type 0
    TestAsks result = AsksOnce (asks.Look (path_in store id) true) before after (tested_by (path_in store id)) result

    -- a find reads the object's path
    abbrev pub FindAsks : Result (Option Object) Error → Type 0
    FindAsks result = AsksOnce (asks.Read (path_in store id)) before after (λ answer. object_result (found_by (path_in store id) (store_limit store) answer)) result

    -- and so does a header look-up
    abbrev pub HeaderAsks : Result (Option (ℕ × Kind)) Error → Type 0
    HeaderAsks result = AsksOnce (asks.Read (path_in store id)) before after (header_by (path_in store id)) result
