-- What a refresh is answered, and why one is refused.
use Rattle.std.specs.Prelude.{◌≡◌, ◌⊎◌, ℕ, false, List, Some, Ok, Err}
use Rattle.gix_odb_events.specs.Answers.{view_in}
use Rattle.gix_odb_events.specs.declared.event.Effect.{Effect}
use Rattle.gix_odb_events.specs.declared.event.Event.TheVariants as events
use Rattle.gix_odb_events.specs.declared.event.Refusal.{Refusal}
use Rattle.gix_odb_events.specs.declared.event.Refusal.TheVariants as refusals
use Rattle.gix_odb_events.specs.declared.view.View.{View}
use Rattle.gix_odb_events.specs.declared.answer.Answer.TheVariants as told
use Rattle.gix_odb_events.specs.declared.answer.Ask.TheVariants as asks
use Rattle.gix_odb_calls.specs.declared.load_index.Error.{Error}
use Rattle.gix_odb_calls.specs.declared.load_index.Error.TheVariants as errors
use Rattle.gix_odb.specs.ListingCaused.{IsNoFolder, IsRefused, NamesTooMany}
use Rattle.gix_odb.specs.Exchange.{Exchange, HasFailed, WasTold}
use Rattle.gix_odb.specs.Store.{Setting, listed_for}
use Rattle.gix_odb.specs.Asked as any
use Rattle.gix_odb.specs.RefreshOrder.{asked_of, step_fed}
use Rattle.gix_odb.specs.declared.refresh.RefreshStep.{RefreshStep}

-- ---- exchanges

abbrev pub behind : Setting → RefreshStep → List Exchange → RefreshStep
behind setting step exchanges = any.behind asked_of (step_fed setting.parts.objects (listed_for setting.parts)) step exchanges

abbrev pub AreAsked : Setting → RefreshStep → List Exchange → Type 0
AreAsked setting step exchanges = any.AreAsked asked_of (step_fed setting.parts.objects (listed_for setting.parts)) step exchanges

-- how many of the exchanges a refresh asked for: those after which it has ended are another's
abbrev pub turns_of : Setting → RefreshStep → List Exchange → ℕ
turns_of setting step exchanges = any.turns_of asked_of (step_fed setting.parts.objects (listed_for setting.parts)) step exchanges

-- ---- causes

-- a listing has broken off: a call of the disk failed, or a folder of packs is no directory
abbrev pub HasBroken : Setting → List Exchange → Type 0
HasBroken setting exchanges = HasFailed exchanges ⊎ IsNoFolder setting exchanges

-- why a refresh is refused by an error; others' lists are not counted
abbrev pub IsCaused : Setting → List Exchange → Error → Type 0
IsCaused setting exchanges errors.Io = HasBroken setting exchanges
IsCaused setting exchanges (errors.InsufficientSlots current needed) = IsRefused exchanges (refusals.InsufficientSlots current needed)
IsCaused setting exchanges errors.GenerationOverflow = IsRefused exchanges refusals.GenerationOverflow
IsCaused setting exchanges (errors.TooManyPacksInMultiIndex actual limit path) = NamesTooMany setting exchanges actual limit path
IsCaused setting exchanges (errors.Unsettled begun own now) = ⊥
IsCaused setting exchanges errors.NoMemory = IsRefused exchanges refusals.NoMemory

-- a read of the core's state showed a list that was never read
pub record ShowedUnread (exchanges : List Exchange) : Type 0 where
  pub effect : Effect
  pub view : View
  pub shown : view_in (Ok effect) ≡ Some view
  pub unread : view.read ≡ false
  pub told : WasTold exchanges (asks.Core events.Look) (told.Core (Ok effect))

-- the read of the core's state was refused
abbrev pub LookRefused : List Exchange → Type 0
LookRefused exchanges = (refusal : Refusal) × WasTold exchanges (asks.Core events.Look) (told.Core (Err refusal))

-- The store was unread: by the handle's snapshot, and by the core's list, where the core's state could be read.
pub record WasUnread (snapshot : View) (exchanges : List Exchange) : Type 0 where
  pub handle : snapshot.read ≡ false
  pub core : ShowedUnread exchanges ⊎ LookRefused exchanges
