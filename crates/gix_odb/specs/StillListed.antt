-- What lists have of an object that stays unchanged in a pack: a row of a carrier, which is the pack's own index or a multi-pack index that gives it.
use Rattle.std.specs.Prelude.{◌≡◌, ◌⊎◌, ℕ, true, List, [], ◌∷◌, ◌++◌, Contains, Option, Some, None}
use Rattle.odb_disk.specs.declared.ask.DiskAnswer.TheVariants as disk_answers
use Rattle.odb_disk.specs.declared.disk_error.DiskError.TheVariants as disk_errors
use Rattle.gix_hash.specs.declared.kind.Kind.{Kind}
use Rattle.gix_hash.specs.declared.object_id.ObjectId.{ObjectId}
use Rattle.gix_odb_events.specs.declared.answer.Answer.{Answer}
use Rattle.gix_odb_events.specs.declared.answer.Answer.TheVariants as told
use Rattle.gix_odb_events.specs.declared.answer.Ask.{Ask}
use Rattle.gix_odb_events.specs.declared.answer.Ask.TheVariants as asks
use Rattle.gix_odb_events.specs.declared.event.Event.TheVariants as events
use Rattle.gix_odb_events.specs.declared.listing.ListingRow.{ListingRow}
use Rattle.gix_odb_events.specs.declared.view.View.{View}
use Rattle.gix_odb_search.specs.declared.multi_pack.MultiUse.{MultiUse}
use Rattle.gix_odb.specs.Exchange.{Exchange, IsAnswerTo}
use Rattle.gix_odb.specs.Fair.{HasRowOf, IsDiskFair, IsItsIndex, IsMultiSound, PackedPlace, multi_at}
use Rattle.gix_odb.specs.RefreshOrder.{view_of}

module _ (multi : Option MultiUse) (hash : Kind) (id : ObjectId) (place : PackedPlace) where
  -- the row of a multi-pack index that is sound
  pub record IsMultiRow (row : ListingRow) : Type 0 where
    pub bytes : List ℕ
    pub content : row.multi ≡ Some bytes
    pub path : row.path ≡ multi_at place
    pub sound : IsMultiSound multi hash id place bytes

  -- the row of the pack's own index, or of such a multi-pack index
  abbrev pub IsCarrierRow : ListingRow → Type 0
  IsCarrierRow row = ((row.multi ≡ None) × IsItsIndex place row.path) ⊎ IsMultiRow row

  -- one of the rows is
  abbrev pub HasRow : List ListingRow → Type 0
  HasRow rows = (row : ListingRow) × Contains rows row × IsCarrierRow row

  -- a view has such a row
  abbrev pub ShowsRow : View → Type 0
  ShowsRow view = (row : ListingRow) × IsCarrierRow row × HasRowOf view row row.multi

  -- Where a look at the core shows a list that was read, the list has such a row: this is what a handle that never refreshes its list goes by.
  abbrev pub IsListed : Ask → Answer → Type 0
  IsListed (asks.Core events.Look) answer = (view : View) → view_of answer ≡ Some view → view.read ≡ true → ShowsRow view
  IsListed ask answer = Unit {0}

  abbrev pub AreListed : List Exchange → Type 0
  AreListed exchanges = (exchange : Exchange) → Contains exchanges exchange → IsListed exchange.ask exchange.answer

  -- ---- calls that may fail

  -- a call of the disk is fair, or it failed
  abbrev pub IsFairOrFailed : List Exchange → Ask → Answer → Type 0
  IsFairOrFailed past (asks.Disk ask) (told.Disk answer) =
      IsDiskFair multi hash id place past ask answer ⊎ (answer ≡ disk_answers.Refused disk_errors.Failed)
  IsFairOrFailed past ask answer = IsAnswerTo ask answer

  -- each call after others is
  abbrev pub AreFairOrFailed : (past coming : List Exchange) → Type 0
  AreFairOrFailed past [] = Unit {0}
  AreFairOrFailed past (exchange ∷ exchanges) =
      IsFairOrFailed past exchange.ask exchange.answer × AreFairOrFailed (past ++ exchange ∷ []) exchanges
