-- What an opening asked and was answered, the number of slots that follows, and why one is refused.
use Rattle.std.specs.Prelude.{◌≡◌, ℕ, ◌<◌, true, List, [], ◌∷◌, length, Option}
use Rattle.odb_disk.specs.declared.ask.DiskAnswer.{DiskAnswer}
use Rattle.odb_disk.specs.declared.ask.DiskAnswer.TheVariants as answers
use Rattle.odb_disk.specs.declared.ask.DiskAsk.TheVariants as disk_asks
use Rattle.odb_disk.specs.declared.disk_error.DiskError.TheVariants as disk_errors
use Rattle.odb_disk.specs.declared.meta.Kind.{Kind}
use Rattle.odb_disk.specs.declared.meta.Kind.TheVariants as kinds
use Rattle.gix_odb_events.specs.PackId.{most_slots}
use Rattle.gix_odb_events.specs.declared.listing.Listing.{Listing}
use Rattle.gix_odb_search.specs.ListOrder as lists
use Rattle.gix_odb_search.specs.ListedStore.{ListedStore}
use Rattle.gix_odb_events.specs.declared.answer.Answer.{Answer}
use Rattle.gix_odb_events.specs.declared.answer.Answer.TheVariants as told
use Rattle.gix_odb_events.specs.declared.answer.Ask.{Ask}
use Rattle.gix_odb_events.specs.declared.answer.Ask.TheVariants as asks
use Rattle.gix_odb_search.specs.declared.lister.ListStep.{ListStep}
use Rattle.gix_odb_search.specs.declared.lister.ListStep.TheVariants as listed
use Rattle.gix_odb_calls.specs.declared.init.Error as opening
use Rattle.gix_odb_calls.specs.declared.init.Error.TheVariants as opening_errors
use Rattle.gix_odb_calls.specs.declared.init.Slots.{Slots}
use Rattle.gix_odb_calls.specs.declared.init.Slots.TheVariants.{AsNeededByDiskState, Given}
use Rattle.gix_odb_calls.specs.declared.load_index.Error.TheVariants as load_errors
use Rattle.gix_odb.specs.LookExchanges.{Exchange, HasFailed, WasTold}
use Rattle.gix_odb.specs.LookUpOrder.{Setting}
use Rattle.gix_odb.specs.Asked as any
use Rattle.gix_odb.specs.ListingCaused.{NamesTooMany}
use Rattle.gix_odb.specs.Refreshed.{HasBroken}
use Rattle.gix_odb.specs.Store.{listed_for}
use Rattle.gix_odb.specs.OpenOrder.{ask_of, fed, slots_for}
use Rattle.gix_odb.specs.declared.open_state.OpenStage.{OpenStage}

-- ---- exchanges

-- what an opening asks for
abbrev pub asks_of : Setting → OpenStage → Option Ask
asks_of setting state = ask_of setting.parts.objects setting.parts.folders state

-- an opening after the answer
abbrev pub fed_by : Setting → Slots → OpenStage → Answer → OpenStage
fed_by setting slots state answer = fed setting.parts.objects (listed_for setting.parts) slots state answer

abbrev pub behind : Setting → Slots → OpenStage → List Exchange → OpenStage
behind setting slots state exchanges = any.behind (asks_of setting) (fed_by setting slots) state exchanges

abbrev pub AreAsked : Setting → Slots → OpenStage → List Exchange → Type 0
AreAsked setting slots state exchanges = any.AreAsked (asks_of setting) (fed_by setting slots) state exchanges

-- ---- the listing among them

-- a listing after an answer
abbrev pub list_by : ListedStore → ListStep → Answer → ListStep
list_by store (listed.More lister) (told.Disk answer) = lists.fed store lister answer
list_by store step answer = step

abbrev pub list_behind : ListedStore → ListStep → List Exchange → ListStep
list_behind store step [] = step
list_behind store step (exchange ∷ exchanges) = list_behind store (list_by store step exchange.answer) exchanges

-- after a stat of the objects directory the folders of packs were listed, with this result
pub record HasListed (setting : Setting) (exchanges : List Exchange) (step : ListStep) : Type 0 where
  pub look : Exchange
  pub listing : List Exchange
  pub are : exchanges ≡ look ∷ listing
  pub comes : list_behind (listed_for setting.parts) (listed.More (lists.started setting.parts.objects 0)) listing ≡ step

-- ---- how many slots

-- the number that was given, or the one for as many indices as the listing found
abbrev pub IsNumber : Setting → Slots → List Exchange → ℕ → Type 0
IsNumber setting (Given slots) exchanges number = number ≡ slots
IsNumber setting (AsNeededByDiskState percent minimum) exchanges number =
    (listing : Listing) × HasListed setting exchanges (listed.Listed listing) × (number ≡ slots_for percent minimum (length listing.rows))

-- ---- causes

abbrev pub IsNoDir : Kind → Type 0
IsNoDir kinds.Dir = ⊥
IsNoDir kind = Unit {0}

-- a stat showed no directory
abbrev pub ShowsNoDirectory : DiskAnswer → Type 0
ShowsNoDirectory (answers.Meta meta) = IsNoDir meta.kind
ShowsNoDirectory (answers.Refused disk_errors.Failed) = ⊥
ShowsNoDirectory answer = Unit {0}

-- why an opening is refused by an error
abbrev pub IsCaused : Setting → Slots → List Exchange → opening.Error → Type 0
IsCaused setting slots exchanges opening_errors.NotADirectory =
    (answer : DiskAnswer) × ShowsNoDirectory answer × WasTold exchanges (asks.Disk (disk_asks.Look setting.parts.objects true)) (told.Disk answer)
IsCaused setting slots exchanges (opening_errors.TooManySlots asked) = IsNumber setting slots exchanges asked × (most_slots < asked)
IsCaused setting slots exchanges opening_errors.Io = HasFailed exchanges
IsCaused setting slots exchanges (opening_errors.LoadIndex load_errors.Io) = HasBroken setting exchanges
IsCaused setting slots exchanges (opening_errors.LoadIndex (load_errors.TooManyPacksInMultiIndex actual limit path)) = NamesTooMany setting exchanges actual limit path
IsCaused setting slots exchanges (opening_errors.LoadIndex error) = ⊥
IsCaused setting slots exchanges opening_errors.NoMemory = ⊥
