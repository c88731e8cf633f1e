-- While an index is loaded, what is known of it is kept by each answer.
use Rattle.std.proofs.Common.{◌≡◌, ℕ, Bool, true, false, cond, List, Ok, Err, refl}
use Rattle.odb_base.specs.Path.{Path}
use Rattle.odb_disk.specs.declared.ask.DiskAnswer.{DiskAnswer}
use Rattle.odb_disk.specs.declared.ask.DiskAnswer.TheVariants as answers
use Rattle.gix_hash.specs.declared.kind.Kind.{Kind}
use Rattle.gix_pack_read.specs.Index.{is_index}
use Rattle.gix_odb_events.specs.Answers.{view_in}
use Rattle.gix_odb_events.specs.declared.answer.Answer.{Answer}
use Rattle.gix_odb_events.specs.declared.answer.Answer.TheVariants as told
use Rattle.gix_odb_events.specs.declared.event.PassWhy.TheVariants as whys
use Rattle.gix_odb_search.specs.LoadOrder.{ask_of, fed, index_read, read_of}
use Rattle.gix_odb_search.specs.declared.index_loader.IndexLoader.{IndexLoader}
use Rattle.gix_odb_search.specs.declared.index_loader.IndexLoader.TheVariants.{Reading, Storing, Passing}
use Rattle.gix_odb_search.specs.declared.index_loader.IndexPlace.{IndexPlace}
use Rattle.gix_odb_search.specs.declared.index_loader.LoadStep.{LoadStep}
use Rattle.gix_odb.specs.LookUpOrder.{Setting}
use Rattle.gix_odb.specs.Shown.{IsIndexPath, ShowedBytes}
use Rattle.gix_odb.specs.True.{IsTrue}
use Rattle.gix_odb.proofs.FoundLaws.Known.{KnowsLoadStep, KnowsLoader}
use Rattle.gix_odb.proofs.FoundLaws.Views.{index_shown, views_shown}

module _ (Shown : Path → ℕ → List ℕ → Type 0) (setting : Setting) (hash : Kind) where
  abbrev Stands : IndexLoader → Type 0
  Stands loader = KnowsLoader Shown setting hash loader

  abbrev Knows : LoadStep → Type 0
  Knows step = KnowsLoadStep Shown setting hash step

  bytes_known : (place : IndexPlace) (bytes : List ℕ) → IsIndexPath setting place.path → ShowedBytes Shown place.path bytes → (parsed : Bool)
      → is_index hash bytes ≡ parsed
      → Stands (cond parsed (Storing place (record { kind = hash; bytes = bytes })) (Passing place whys.Bad))
  bytes_known place bytes path shown true is = (path, record { kind = refl; parsed = is; shown = shown })
  bytes_known place bytes path shown false is = tt

  read_known : (place : IndexPlace) (answer : DiskAnswer) → IsIndexPath setting place.path
      → IsTrue Shown setting hash (read_of place.path) (told.Disk answer)
      → Stands (index_read hash place answer)
  read_known place (answers.File bytes time) path truth = bytes_known place bytes path (time, truth.1) (is_index hash bytes) refl
  read_known place answer path truth = tt

  pub load_known : (loader : IndexLoader) (answer : Answer) → Stands loader → IsTrue Shown setting hash (ask_of loader) answer
      → Knows (fed hash loader answer)
  load_known (Reading place) (told.Disk answer) here truth = read_known place answer here truth
  load_known (Reading place) (told.Core answer) here truth = here
  load_known (Storing place file) (told.Core (Ok effect)) here truth =
      index_shown Shown setting hash place file here.0 here.1 (view_in (Ok effect))
      (views_shown Shown setting hash (ask_of (Storing place file)) (Ok effect) truth)
  load_known (Passing place why) (told.Core (Ok effect)) here truth = tt
  load_known (Storing place file) (told.Core (Err refusal)) here truth = tt
  load_known (Passing place why) (told.Core (Err refusal)) here truth = tt
  load_known (Storing place file) (told.Disk answer) here truth = here
  load_known (Passing place why) (told.Disk answer) here truth = here
