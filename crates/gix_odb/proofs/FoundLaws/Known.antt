-- What is known at each stage of a look-up: of what it found, of what it is to pass to the core, and of why a pack refuses it.
use Rattle.std.proofs.Common.{◌≡◌, ◌⊎◌, ℕ, List, All, Contains, Result, Ok, Err}
use Rattle.odb_base.specs.Path.{Path}
use Rattle.gix_hash.specs.declared.kind.Kind.{Kind}
use Rattle.gix_hash.specs.declared.object_id.ObjectId.{ObjectId}
use Rattle.gix_odb_events.specs.declared.listing.ListingRow.{ListingRow}
use Rattle.gix_odb_events.specs.declared.loaded.Todo.{Todo}
use Rattle.gix_odb_search.specs.declared.goal.Error as goals
use Rattle.gix_odb_search.specs.declared.goal.Found.{Found}
use Rattle.gix_odb_search.specs.declared.goal.Goal.{Goal}
use Rattle.gix_odb_search.specs.declared.index_loader.IndexLoader.{IndexLoader}
use Rattle.gix_odb_search.specs.declared.index_loader.IndexLoader.TheVariants as loaders
use Rattle.gix_odb_search.specs.declared.index_loader.LoadStep.{LoadStep}
use Rattle.gix_odb_search.specs.declared.index_loader.LoadStep.TheVariants as load_steps
use Rattle.gix_odb_search.specs.declared.search.WantedPack.{WantedPack}
use Rattle.gix_odb_search.specs.declared.trier.Ahead.{Ahead}
use Rattle.gix_odb_search.specs.declared.trier.Stage.{Stage}
use Rattle.gix_odb_search.specs.declared.trier.Stage.TheVariants as stages
use Rattle.gix_odb_search.specs.declared.trier.Tried.{Tried}
use Rattle.gix_odb_search.specs.declared.trier.Tried.TheVariants as tried
use Rattle.gix_odb_search.specs.declared.trier.Trier.{Trier}
use Rattle.gix_odb_calls.specs.Verdict.{asking}
use Rattle.gix_odb_calls.specs.declared.verdict.FolderCall.{FolderCall}
use Rattle.gix_odb_calls.specs.declared.call.CallError.TheVariants as call_errors
use Rattle.gix_odb_calls.specs.declared.call.Reply.{Reply}
use Rattle.gix_odb_calls.specs.declared.call.Reply.TheVariants as replies
use Rattle.gix_odb_calls.specs.declared.find.Error.{Error}
use Rattle.gix_odb_calls.specs.declared.find.Error.TheVariants as errors
use Rattle.gix_object.specs.declared.want.Want.{Want}
use Rattle.gix_odb_calls.specs.declared.verdict.Verdict.TheVariants as verdicts
use Rattle.gix_odb.specs.Caused.{IsCaused}
use Rattle.gix_odb.specs.LookExchanges.{Exchange, HasVerdict}
use Rattle.gix_odb.specs.Reply.{IsAnswer}
use Rattle.gix_odb.specs.Found.{IsFound, IsInIndex}
use Rattle.gix_odb.specs.LookUpOrder.{Setting, find_error, reply_found}
use Rattle.gix_odb.specs.Shown.{IsIndexPath, IsIndexShownAt, IsIndexRow, IsPackShownAt, IsIndexShown, folders_of}
use Rattle.gix_odb.specs.Store.{listed_for}
use Rattle.gix_odb.specs.True.{ShowsRead}
use Rattle.gix_odb.specs.declared.refresh.Refresh.{Refresh}
use Rattle.gix_odb.specs.declared.refresh.Refresh.TheVariants as fronts
use Rattle.gix_odb.proofs.ListerLaws.Known.{KnowsLister}
use Rattle.gix_odb.proofs.ListingLaws.Seen.{AreSeen, SeesLister}
use Rattle.gix_odb.specs.declared.look_up.LookHead.{LookHead}
use Rattle.gix_odb.specs.declared.look_up.LookStage.{LookStage}
use Rattle.gix_odb.specs.declared.look_up.LookStage.TheVariants as look_stages
use Rattle.gix_odb.specs.declared.look_up.LookUp.{LookUp}

-- an error is one that packs give
abbrev pub IsOfPack : Error → Type 0
IsOfPack errors.LoadPack = Unit {0}
IsOfPack errors.Pack = Unit {0}
IsOfPack (errors.EntryType code) = Unit {0}
IsOfPack errors.DeltaEntry = Unit {0}
IsOfPack (errors.OutOfMemory size) = Unit {0}
IsOfPack error = ⊥

-- what is sought of an id
abbrev pub goal_for : Setting → Want → ObjectId → Goal
goal_for setting want id = record { id = id; want = want; limit = setting.parts.alloc_limit_bytes }

-- ---- packs

module _ (setting : Setting) where
  abbrev pub IsIndexTodo : Todo → Type 0
  IsIndexTodo todo = IsIndexPath setting todo.path

-- ---- indices

module _ (Shown : Path → ℕ → List ℕ → Type 0) (setting : Setting) (hash : Kind) where
  -- the index that is loaded is at the path of one, and what is stored was shown there
  abbrev pub KnowsLoader : IndexLoader → Type 0
  KnowsLoader (loaders.Reading place) = IsIndexPath setting place.path
  KnowsLoader (loaders.Storing place file) = IsIndexPath setting place.path × IsIndexShownAt Shown setting hash place.path file
  KnowsLoader (loaders.Passing place why) = Unit {0}

  abbrev pub KnowsLoadStep : LoadStep → Type 0
  KnowsLoadStep (load_steps.More loader) = KnowsLoader loader
  KnowsLoadStep (load_steps.Loaded index) = IsIndexShown Shown setting hash index
  KnowsLoadStep (load_steps.Missed why) = Unit {0}
  KnowsLoadStep (load_steps.Broken refusal) = Unit {0}

-- ---- packs

module _ (Shown : Path → ℕ → List ℕ → Type 0) (setting : Setting) (hash : Kind) (id : ObjectId) where
  -- a pack is wanted in which an index that was shown gives the id the offset
  abbrev pub IsWanted : WantedPack → Type 0
  IsWanted pack = IsInIndex Shown setting hash id pack.path pack.offset

  -- what is still to be tried
  pub record KnowsAhead (ahead : Ahead) : Type 0 where
    pub indices : All (IsIndexShown Shown setting hash) ahead.indices
    pub todo : All (IsIndexTodo setting) ahead.todo

  abbrev pub KnowsStage : Stage → Type 0
  KnowsStage (stages.Loading loader) = KnowsLoader Shown setting hash loader
  KnowsStage (stages.ReadingPack pack) = IsWanted pack
  KnowsStage (stages.StoringPack pack file) = IsWanted pack × IsPackShownAt Shown setting hash pack.path file
  KnowsStage (stages.PassingPack pack) = Unit {0}

-- ---- refreshes

module _ (Shown : Path → ℕ → List ℕ → Type 0) (setting : Setting) where
  -- the rows are of indices of the folders, and of multi-pack indices that were shown there
  abbrev pub KnowsRows : List ListingRow → Type 0
  KnowsRows rows = All (IsIndexRow setting) rows × AreSeen (ShowsRead Shown) (listed_for setting.parts) rows

  -- the folders are listed, or such rows are to be published
  abbrev pub KnowsRefresh : Refresh → Type 0
  KnowsRefresh fronts.Reading = Unit {0}
  KnowsRefresh (fronts.Listing lister) = KnowsLister setting lister × SeesLister (ShowsRead Shown) (listed_for setting.parts) lister
  KnowsRefresh (fronts.Publishing listing) = KnowsRows listing.rows

-- ---- look-ups

module _ (Shown : Path → ℕ → List ℕ → Type 0) (setting : Setting) (hash : Kind) (id : ObjectId) (exchanges : List Exchange)
    (want : Want) where
  abbrev pub IsFoundHere : Found → Type 0
  IsFoundHere found = IsFound Shown setting hash id want (reply_found found)

  abbrev pub IsCausedHere : goals.Error → Type 0
  IsCausedHere error = IsCaused Shown setting hash id want exchanges (find_error error)

  abbrev pub KnowsGiven : Result Found goals.Error → Type 0
  KnowsGiven (Ok found) = IsFoundHere found
  KnowsGiven (Err error) = IsCausedHere error

  pub record KnowsTrier (trier : Trier) : Type 0 where
    pub goal : trier.goal ≡ goal_for setting want id
    pub ahead : KnowsAhead Shown setting hash id trier.ahead
    pub stage : KnowsStage Shown setting hash id trier.stage

  abbrev pub KnowsTried : Tried → Type 0
  KnowsTried (tried.More trier) = KnowsTrier trier
  KnowsTried (tried.Hit found) = IsFoundHere found
  KnowsTried (tried.Missed notes) = Unit {0}
  KnowsTried (tried.Bad error) = IsCausedHere error
  KnowsTried (tried.Broken refusal) = Unit {0}

  -- an answer was found, in packs or among loose objects, and an error of a pack has its cause
  pub record KnowsReply (reply : Reply) : Type 0 where
    pub found : IsAnswer reply
        → IsFound Shown setting hash id want reply
        ⊎ ((folder : Path) × Contains (folders_of setting) folder × HasVerdict setting want id exchanges folder (verdicts.Ends reply))
    pub caused : (error : Error) → reply ≡ replies.Refused (call_errors.Find error) → IsOfPack error
        → IsCaused Shown setting hash id want exchanges error

  -- the loose objects of one of the folders are asked
  pub record KnowsLoose (call : FolderCall) : Type 0 where
    pub folder : Path
    pub among : Contains (folders_of setting) folder
    pub is : call ≡ asking setting.parts.alloc_limit_bytes want id folder

  abbrev pub KnowsLookStage : LookStage → Type 0
  KnowsLookStage (look_stages.Trying trier part) = KnowsTrier trier
  KnowsLookStage (look_stages.Loose round call) = KnowsLoose call
  KnowsLookStage (look_stages.Refreshing refresh purpose notes) = KnowsRefresh Shown setting refresh
  KnowsLookStage (look_stages.Checking list_no notes) = Unit {0}
  KnowsLookStage (look_stages.Done reply) = KnowsReply reply

  pub record KnowsHead (head : LookHead) : Type 0 where
    pub want_is : head.want ≡ want
    pub id_is : head.id ≡ id

  pub record KnowsLook (look : LookUp) : Type 0 where
    pub head : KnowsHead look.head
    pub stage : KnowsLookStage look.stage
