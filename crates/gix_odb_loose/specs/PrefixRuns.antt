-- Which calls of the disk a look-up of a prefix made, on any disk: those that the machine asks for, and no other.
use Rattle.std.specs.Prelude.{◌≡◌, ◌⊎◌, List, [], ◌∷◌, Option, Result, Err}
use Rattle.odb_disk.specs.declared.ask.DiskAnswer.{DiskAnswer}
use Rattle.odb_disk.specs.declared.ask.DiskAsk.{DiskAsk}
use Rattle.walkdir.specs.Error.{no_memory}
use Rattle.walkdir.specs.declared.error.Error.{Error}
use Rattle.gix_hash.specs.declared.object_id.ObjectId.{ObjectId}
use Rattle.gix_odb_loose.specs.PrefixOrder.{ask_of, fed}
use Rattle.gix_odb_loose.specs.declared.lookup.Outcome.{Outcome}
use Rattle.gix_odb_loose.specs.declared.prefix_search.PrefixSearch.{PrefixSearch}
use Rattle.gix_odb_loose.specs.declared.prefix_search.SearchStep.{SearchStep}
use Rattle.gix_odb_loose.specs.declared.prefix_search.SearchStep.TheVariants.{More, Done}

module _ {D : Type 0} (answered : D → DiskAsk → DiskAnswer → D → Type 0) where
  -- given these answers, one for each call that it asks for, a look-up reaches a step; the calls lead from one disk to another
  abbrev pub Comes : List DiskAnswer → SearchStep → (before after : D) → SearchStep → Type 0
  Comes [] step before after end = (before ≡ after) × (step ≡ end)
  Comes (answer ∷ given) (More search) before after end = (between : D) × answered before (ask_of search) answer between × Comes given (fed search answer) between after end
  Comes (answer ∷ given) (Done found) before after end = ⊥

  -- memory ran out; or the calls of a look-up were made, and it ended with this result
  abbrev pub AsksBy : PrefixSearch → (before after : D) → Result (Option Outcome) Error → Type 0
  AsksBy search before after result =
      (result ≡ Err no_memory)
      ⊎ ((given : List DiskAnswer) × (names : List ObjectId) × Comes given (More search) before after (Done (record { answer = result; names = names })))
