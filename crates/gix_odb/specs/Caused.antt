-- Why a look-up was refused: each error, and what was asked and answered where it is given.
use Rattle.std.specs.Prelude.{◌≡◌, ◌⊎◌, ℕ, ◌-◌, ◌<◌, false, List, Contains, Some, Ok, Err}
use Rattle.odb_base.specs.Path.{Path}
use Rattle.odb_disk.specs.declared.ask.DiskAnswer.{DiskAnswer}
use Rattle.odb_disk.specs.declared.ask.DiskAnswer.TheVariants as disk_answers
use Rattle.odb_disk.specs.declared.ask.DiskAsk.TheVariants as disk_asks
use Rattle.odb_disk.specs.declared.disk_error.DiskError.TheVariants as disk_errors
use Rattle.gix_hash.specs.declared.kind.Kind.{Kind}
use Rattle.gix_hash.specs.declared.object_id.ObjectId.{ObjectId}
use Rattle.gix_pack_read.specs.Pack.{entry_at, header_at, is_pack}
use Rattle.gix_pack_read.specs.declared.data.Error as pack
use Rattle.gix_pack_read.specs.declared.data.Error.TheVariants as pack_errors
use Rattle.gix_odb_events.specs.declared.event.Effect.TheVariants as effects
use Rattle.gix_odb_events.specs.declared.event.Refusal.TheVariants as refusals
use Rattle.gix_odb_events.specs.declared.answer.Answer.{Answer}
use Rattle.gix_odb_events.specs.declared.answer.Answer.TheVariants as told
use Rattle.gix_odb_events.specs.declared.answer.Ask.TheVariants as asks
use Rattle.gix_odb_calls.specs.declared.find.Error.{Error}
use Rattle.gix_odb_calls.specs.declared.find.Error.TheVariants as errors
use Rattle.gix_odb_calls.specs.declared.load_index.Error as load
use Rattle.gix_odb_calls.specs.declared.load_index.Error.TheVariants as load_errors
use Rattle.gix_object.specs.declared.want.Want.{Want}
use Rattle.gix_object.specs.declared.want.Want.TheVariants.{Object, Header, Presence}
use Rattle.gix_odb_events.specs.declared.view.View.{View}
use Rattle.gix_odb_calls.specs.declared.verdict.Verdict.TheVariants as verdicts
use Rattle.gix_odb_calls.specs.Verdict.{refused}
use Rattle.gix_odb.specs.LookUpOrder.{Setting, view_of}
use Rattle.gix_odb.specs.LookExchanges.{Exchange, HasFailed, HasVerdict, IsLast, WasTold, first_number, published_in}
use Rattle.gix_odb.specs.Found.{IsInIndex, IsInPack}
use Rattle.gix_odb.specs.Shown.{folders_of}
pub use Rattle.gix_odb.specs.ListingCaused.{IsBlocked, IsNoFolder, IsRefused, NamesTooMany}

-- a pack could not be read, or its bytes are no pack
abbrev pub IsNoPack : Kind → DiskAnswer → Type 0
IsNoPack hash (disk_answers.File bytes time) = is_pack hash bytes ≡ false
IsNoPack hash (disk_answers.Refused error) = (error ≡ disk_errors.Failed) ⊎ IsBlocked error
IsNoPack hash answer = ⊥

-- the number of the list that an answer has: that of its view, or the one that made a listing outdated
abbrev pub TellsNumber : Answer → ℕ → Type 0
TellsNumber (told.Core (Ok (effects.Outdated number))) now = number ≡ now
TellsNumber answer now = (view : View) × (view_of answer ≡ Some view) × (view.list_no ≡ now)

-- Here `Shown path time bytes` says that a file with these bytes and this time was shown at this path since the store was opened.
module _ (Shown : Path → ℕ → List ℕ → Type 0) (setting : Setting) (hash : Kind) (id : ObjectId) where
  -- An index gives the id an offset, at which its pack refuses what is wanted with this error. No limit refuses a header, and for a
  -- test no pack is read.
  abbrev pub IsPackError : Want → pack.Error → Type 0
  IsPackError Object error = IsInPack Shown setting hash id (λ pack offset. entry_at hash pack offset setting.parts.alloc_limit_bytes ≡ Err error)
  IsPackError Header (pack_errors.OutOfMemory size) = ⊥
  IsPackError Header error = IsInPack Shown setting hash id (λ pack offset. header_at hash pack offset ≡ Err error)
  IsPackError Presence error = ⊥

  -- an index gives the id an offset, and its pack was read and is no pack
  pub record IsUnloaded (exchanges : List Exchange) : Type 0 where
    pub path : Path
    pub offset : ℕ
    pub index : IsInIndex Shown setting hash id path offset
    pub answer : DiskAnswer
    pub told : WasTold exchanges (asks.Disk (disk_asks.Read path)) (told.Disk answer)
    pub none : IsNoPack hash answer

  -- Others published more lists than the look-up may meet: `begun` is the number of the list in the first view that it got,
  -- `own` counts the lists that it published, and `now` is the number that the last answer had.
  pub record IsUnsettled (exchanges : List Exchange) (begun own now : ℕ) : Type 0 where
    pub first : first_number exchanges ≡ Some begun
    pub published : own ≡ published_in exchanges
    pub exchange : Exchange
    pub last : IsLast exchanges exchange
    pub number : TellsNumber exchange.answer now
    pub many : setting.most < now - begun - own

  abbrev pub IsLoadCaused : List Exchange → load.Error → Type 0
  IsLoadCaused exchanges load_errors.Io = HasFailed exchanges ⊎ IsNoFolder setting exchanges
  IsLoadCaused exchanges (load_errors.InsufficientSlots current needed) = IsRefused exchanges (refusals.InsufficientSlots current needed)
  IsLoadCaused exchanges load_errors.GenerationOverflow = IsRefused exchanges refusals.GenerationOverflow
  IsLoadCaused exchanges (load_errors.TooManyPacksInMultiIndex actual limit path) = NamesTooMany setting exchanges actual limit path
  IsLoadCaused exchanges (load_errors.Unsettled begun own now) = IsUnsettled exchanges begun own now
  IsLoadCaused exchanges load_errors.NoMemory = IsRefused exchanges refusals.NoMemory

  -- why a look-up was refused
  abbrev pub IsCaused : Want → List Exchange → Error → Type 0
  IsCaused want exchanges (errors.Loose error) =
      (folder : Path) × Contains (folders_of setting) folder × HasVerdict setting want id exchanges folder (verdicts.Ends (refused error))
  IsCaused want exchanges (errors.LoadIndex error) = IsLoadCaused exchanges error
  IsCaused want exchanges errors.LoadPack = IsUnloaded exchanges
  IsCaused want exchanges errors.Pack = IsPackError want pack_errors.BadEntry
  IsCaused want exchanges (errors.EntryType code) = IsPackError want (pack_errors.EntryType code)
  IsCaused want exchanges errors.DeltaEntry = IsPackError want pack_errors.DeltaEntry
  IsCaused want exchanges (errors.OutOfMemory size) = IsPackError want (pack_errors.OutOfMemory size)
  IsCaused want exchanges errors.NoMemory = ⊥
