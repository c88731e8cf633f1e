-- A law of look-ups: the directories that they open are the folders of packs of the folders.
use Rattle.std.proofs.Common.{◌≡◌, ℕ, List, Some}
use Rattle.odb_base.specs.Path.{Path}
use Rattle.odb_disk.specs.declared.ask.DiskAsk.TheVariants as disk_asks
use Rattle.gix_hash.specs.ObjectId.{kind_of}
use Rattle.gix_hash.specs.declared.kind.Kind.{Kind}
use Rattle.gix_hash.specs.declared.object_id.ObjectId.{ObjectId}
use Rattle.gix_odb_events.specs.declared.view.View.{View}
use Rattle.gix_odb_calls.specs.Verdict.{folder_ask}
use Rattle.gix_odb_loose.specs.LooseOrder.{want_ask}
use Rattle.gix_odb_search.specs.ListOrder as lists
use Rattle.gix_odb_search.specs.TryOrder as tries
use Rattle.gix_odb_events.specs.declared.answer.Ask.TheVariants as asks
use Rattle.gix_odb_search.specs.declared.index_loader.IndexLoader.TheVariants as loaders
use Rattle.gix_odb_search.specs.declared.lister.ListHead.{ListHead}
use Rattle.gix_odb_search.specs.declared.lister.ListStage.{ListStage}
use Rattle.gix_odb_search.specs.declared.trier.Stage.{Stage}
use Rattle.gix_odb_search.specs.declared.trier.Stage.TheVariants as tries_stages
use Rattle.gix_object.specs.declared.want.Want.{Want}
use Rattle.gix_object.specs.declared.want.Want.TheVariants.{Object, Header, Presence}
use Rattle.gix_odb.specs.LookExchanges.{AreAsked, Exchange, behind}
use Rattle.gix_odb.specs.LookUpOrder.{Setting, ask_at, ask_of, started}
use Rattle.gix_odb.specs.Shown.{IsShownView}
use Rattle.gix_odb.specs.True.{AreTrue}
use Rattle.gix_odb.specs.declared.look_up.LookStage.{LookStage}
use Rattle.gix_odb.specs.declared.look_up.LookStage.TheVariants as stages
use Rattle.gix_odb.proofs.ListerLaws.Folders.{IsFolderOfPacks, lister_opens_there}
use Rattle.gix_odb.specs.declared.refresh.Refresh.TheVariants as fronts
use Rattle.gix_odb.specs.declared.refresh_mode.RefreshMode.{RefreshMode}
use Rattle.gix_odb.proofs.FoundLaws.Behind.{look_known}
use Rattle.gix_odb.proofs.ListerLaws.Known.{KnowsListHead}
use Rattle.gix_odb.proofs.FoundLaws.Known.{KnowsLookStage}

trier_opens_none : (stage : Stage) (path : Path) → ¬ (tries.ask_at stage ≡ asks.Disk (disk_asks.OpenDir path))
trier_opens_none (tries_stages.Loading (loaders.Reading place)) path is = cc is
trier_opens_none (tries_stages.Loading (loaders.Storing place file)) path is = cc is
trier_opens_none (tries_stages.Loading (loaders.Passing place why)) path is = cc is
trier_opens_none (tries_stages.ReadingPack pack) path is = cc is
trier_opens_none (tries_stages.StoringPack pack file) path is = cc is
trier_opens_none (tries_stages.PassingPack pack) path is = cc is

module _ (setting : Setting) (path : Path) where
  lister_opens : (head : ListHead) → KnowsListHead setting head → (stage : ListStage) → lists.ask_at head.folder stage ≡ disk_asks.OpenDir path → IsFolderOfPacks setting path
  lister_opens head known stage is = lister_opens_there setting path head (known.folder, known.among, known.is) stage is

  folder_opens_none : (want : Want) (at : Path) → ¬ (want_ask want at ≡ disk_asks.OpenDir path)
  folder_opens_none Object at is = cc is
  folder_opens_none Header at is = cc is
  folder_opens_none Presence at is = cc is

  module _ (Shown : Path → ℕ → List ℕ → Type 0) (hash : Kind) (want : Want) (id : ObjectId) (exchanges : List Exchange) where
    opens_by : (stage : LookStage) → KnowsLookStage Shown setting hash id exchanges want stage → ask_at stage ≡ Some (asks.Disk (disk_asks.OpenDir path)) → IsFolderOfPacks setting path
    opens_by (stages.Trying trier part) known is =
        let same : tries.ask_of trier ≡ asks.Disk (disk_asks.OpenDir path) = cc is in absurd (trier_opens_none trier.stage path same)
    opens_by (stages.Loose round call) known is =
        let same : folder_ask call ≡ disk_asks.OpenDir path = cc is in absurd (folder_opens_none call.want call.path same)
    opens_by (stages.Refreshing fronts.Reading purpose notes) known is = absurd (cc is)
    opens_by (stages.Checking list_no notes) known is = absurd (cc is)
    opens_by (stages.Refreshing (fronts.Listing lister) purpose notes) known is =
        let same : lists.ask_of lister ≡ disk_asks.OpenDir path = cc is in lister_opens lister.head known.0.head lister.stage same
    opens_by (stages.Refreshing (fronts.Publishing listing) purpose notes) known is = absurd (cc is)
    opens_by (stages.Done reply) known is = absurd (cc is)

-- a directory that a look-up opens is the folder of packs of one of the folders
pub look_ups_open_folders_of_packs : (Shown : Path → ℕ → List ℕ → Type 0) (setting : Setting) (hash : Kind) (want : Want) (id : ObjectId) → kind_of id ≡ hash
    → (mode : RefreshMode) (view : View) → IsShownView Shown setting hash view → (exchanges : List Exchange) → AreAsked setting (started setting mode view want id) exchanges
    → AreTrue Shown setting hash exchanges → (path : Path)
    → ask_of (behind setting (started setting mode view want id) exchanges) ≡ Some (asks.Disk (disk_asks.OpenDir path))
    → IsFolderOfPacks setting path
look_ups_open_folders_of_packs Shown setting hash want id same mode view shown exchanges asked truth path is =
    opens_by setting path Shown hash want id exchanges (behind setting (started setting mode view want id) exchanges).stage
    (look_known Shown setting hash want id same mode view shown exchanges asked truth).stage is
