-- The order of work of an opening: one stat of the objects directory; a listing of the folders of packs, where the store is to have as
-- many slots as its indices need; and then a core for the store, at which the handle is registered.
use Rattle.std.specs.Prelude.{◌≡◌, ℕ, ◌*◌, ◌/◌, max, true, nat_le, List, ◌∷◌, length, Option, Some, None, Result, Ok, Err, if◌then◌else◌}
use Rattle.odb_base.specs.Path.{Path}
use Rattle.odb_disk.specs.declared.ask.DiskAsk.TheVariants as disk_asks
use Rattle.odb_disk.specs.declared.ask.DiskAnswer.{DiskAnswer}
use Rattle.odb_disk.specs.declared.ask.DiskAnswer.TheVariants as answers
use Rattle.odb_disk.specs.declared.disk_error.DiskError.TheVariants as disk_errors
use Rattle.odb_disk.specs.declared.meta.Kind.{Kind}
use Rattle.odb_disk.specs.declared.meta.Kind.TheVariants as kinds
use Rattle.gix_odb_events.specs.PackId.{most_slots}
use Rattle.gix_odb_events.specs.declared.answer.Answer.{Answer}
use Rattle.gix_odb_events.specs.declared.answer.Answer.TheVariants as told
use Rattle.gix_odb_events.specs.declared.answer.Ask.{Ask}
use Rattle.gix_odb_events.specs.declared.answer.Ask.TheVariants as asks
use Rattle.gix_odb_search.specs.ListOrder as lists
use Rattle.gix_odb_search.specs.ListedStore.{ListedStore}
use Rattle.gix_odb_search.specs.MultiPack.{most_packs}
use Rattle.gix_odb_search.specs.declared.lister.ListStep.{ListStep}
use Rattle.gix_odb_search.specs.declared.lister.ListStep.TheVariants as listed
use Rattle.gix_odb_calls.specs.declared.call.Reply.{Reply}
use Rattle.gix_odb_calls.specs.declared.call.Reply.TheVariants as replies
use Rattle.gix_odb_calls.specs.declared.call.CallError.TheVariants as call_errors
use Rattle.gix_odb_calls.specs.declared.init.Error as opening
use Rattle.gix_odb_calls.specs.declared.init.Error.TheVariants as opening_errors
use Rattle.gix_odb_calls.specs.declared.init.Slots.{Slots}
use Rattle.gix_odb_calls.specs.declared.init.Slots.TheVariants.{AsNeededByDiskState, Given}
use Rattle.gix_odb_calls.specs.declared.load_index.Error.TheVariants as load_errors
use Rattle.gix_odb.specs.declared.ask.OpenAsk.{OpenAsk}
use Rattle.gix_odb.specs.declared.ask.OpenAsk.TheVariants as own
use Rattle.gix_odb.specs.declared.open_state.OpenStage.{OpenStage}
use Rattle.gix_odb.specs.declared.open_state.OpenStage.TheVariants as opens

-- a new opening
abbrev pub started : OpenStage
started = opens.Looking

-- the reply of an opening that is done, or the opening
abbrev pub result_of : OpenStage → Result Reply OpenStage
result_of (opens.Done reply) = Ok reply
result_of state = Err state

-- ---- asks

-- An opening stats the objects directory, links followed, and lists the folders of packs. Then it asks for a core for its store, the
-- objects directory being one of the folders, at which its handle is registered.
abbrev pub ask_of : (objects : Path) → (folders : List Path) → OpenStage → Option Ask
ask_of objects folders opens.Looking = Some (asks.Disk (disk_asks.Look objects true))
ask_of objects folders (opens.Listing lister percent minimum) = Some (asks.Disk (lists.ask_of lister))
ask_of objects folders (opens.Registering slots) = Some (asks.NewCore slots (length (objects ∷ folders)))
ask_of objects folders (opens.Done reply) = None

-- the directory of the open stream that a call of the disk may read
abbrev pub opened_in : OpenStage → Option Path
opened_in (opens.Listing lister percent minimum) = Some lister.head.folder
opened_in state = None

-- what an opening does next: it makes its call of the disk, or has a core made, or has its reply
abbrev pub IsAskOf : (objects : Path) → (folders : List Path) → OpenStage → OpenAsk → Type 0
IsAskOf objects folders state (own.Disk ask) = ask_of objects folders state ≡ Some (asks.Disk ask)
IsAskOf objects folders state (own.Register slots) = ask_of objects folders state ≡ Some (asks.NewCore slots (length (objects ∷ folders)))
IsAskOf objects folders state (own.Done reply) = result_of state ≡ Ok reply

-- ---- how many slots

-- as many as the indices, where the number is more than a store may have
abbrev pub slots_within : (indices slots : ℕ) → ℕ
slots_within indices slots = if nat_le slots most_slots then slots else indices

-- a percentage of the number of indices, and at least a minimum
abbrev pub slots_for : (percent minimum indices : ℕ) → ℕ
slots_for percent minimum indices = slots_within indices (max (indices * percent / 100) minimum)

abbrev pub refused : opening.Error → OpenStage
refused error = opens.Done (replies.Refused (call_errors.Open error))

-- the handle is to be registered, unless a store may not have so many slots
abbrev pub numbered : ℕ → OpenStage
numbered slots = if nat_le slots most_slots then opens.Registering slots else refused (opening_errors.TooManySlots slots)

-- ---- answers

-- the objects directory is there
abbrev pub begun : Path → Slots → OpenStage
begun objects (Given slots) = numbered slots
begun objects (AsNeededByDiskState percent minimum) = opens.Listing (lists.started objects 0) percent minimum

abbrev pub shown : Path → Slots → Kind → OpenStage
shown objects slots kinds.Dir = begun objects slots
shown objects slots kind = refused opening_errors.NotADirectory

-- a failed call is an error of its own; whatever else a stat is refused by, there is no directory
abbrev pub looked : Path → Slots → DiskAnswer → OpenStage
looked objects slots (answers.Meta meta) = shown objects slots meta.kind
looked objects slots (answers.Refused disk_errors.Failed) = refused opening_errors.Io
looked objects slots answer = refused opening_errors.NotADirectory

-- the slots are for the rows of the listing
abbrev pub listed_on : (percent minimum : ℕ) → ListStep → OpenStage
listed_on percent minimum (listed.More lister) = opens.Listing lister percent minimum
listed_on percent minimum (listed.Listed listing) = numbered (slots_for percent minimum (length listing.rows))
listed_on percent minimum listed.Broken = refused (opening_errors.LoadIndex load_errors.Io)
listed_on percent minimum (listed.TooManyPacks actual path) =
    refused (opening_errors.LoadIndex (load_errors.TooManyPacksInMultiIndex actual most_packs path))

-- An opening after the answer to what it asked for, in a store of these folders that is to have these slots. One whose handle was
-- registered has opened its store. What is fed answers the ask: the last row only makes the function total.
abbrev pub fed : (objects : Path) → ListedStore → Slots → OpenStage → Answer → OpenStage
fed objects store slots opens.Looking (told.Disk answer) = looked objects slots answer
fed objects store slots (opens.Listing lister percent minimum) (told.Disk answer) = listed_on percent minimum (lists.fed store lister answer)
fed objects store slots (opens.Registering number) (told.Core answer) = opens.Done (replies.Opened number)
fed objects store slots state answer = state
