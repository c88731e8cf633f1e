-- The order of work in which the list of a store's core is read, or brought up to date where it was never read: the core is read, the
-- folders of packs are listed, and the listing is published.
--
--   what is asked                  what is answered                           what comes next
--   a read of the core's state     a list that was read before                Read: there is nothing to list
--                                  one that was never read                    the folders are listed, after the list of that number
--   the calls of the listing       of its last one, all folders are listed    the listing is published
--                                  a call fails, or a folder is no directory  Refused
--                                  a multi-pack index names too many packs    Refused
--   the listing is published       it is the core's list, or what it is now   Current: its own, or the same as before
--                                  another list was published since           Outdated
--   a read or a publish            the core refuses                           Refused
use Rattle.std.specs.Prelude.{ℕ, true, false, Option, Some, None, Ok, Err, if◌then◌else◌}
use Rattle.odb_base.specs.Path.{Path}
use Rattle.gix_odb_events.specs.Answers.{view_in}
use Rattle.gix_odb_events.specs.declared.event.Effect.{Effect}
use Rattle.gix_odb_events.specs.declared.event.Effect.TheVariants as effects
use Rattle.gix_odb_events.specs.declared.event.Event.TheVariants as events
use Rattle.gix_odb_events.specs.declared.view.View.{View}
use Rattle.gix_odb_events.specs.declared.listing.Listing.{Listing}
use Rattle.gix_odb_search.specs.ListOrder as lists
use Rattle.gix_odb_search.specs.ListedStore.{ListedStore}
use Rattle.gix_odb_search.specs.MultiPack.{most_packs}
use Rattle.gix_odb_events.specs.declared.answer.Answer.{Answer}
use Rattle.gix_odb_events.specs.declared.answer.Answer.TheVariants as told
use Rattle.gix_odb_events.specs.declared.answer.Ask.{Ask}
use Rattle.gix_odb_events.specs.declared.answer.Ask.TheVariants as asks
use Rattle.gix_odb_search.specs.declared.lister.ListStep.{ListStep}
use Rattle.gix_odb_search.specs.declared.lister.ListStep.TheVariants as listed
use Rattle.gix_odb_calls.specs.declared.load_index.Error.TheVariants as load_errors
use Rattle.gix_odb.specs.LoadIndex.{of_refusal}
use Rattle.gix_odb.specs.declared.refresh.Refresh.{Refresh}
use Rattle.gix_odb.specs.declared.refresh.Refresh.TheVariants as stages
use Rattle.gix_odb.specs.declared.refresh.RefreshStep.{RefreshStep}
use Rattle.gix_odb.specs.declared.refresh.RefreshStep.TheVariants as steps

-- ---- asks

abbrev pub ask_of : Refresh → Ask
ask_of stages.Reading = asks.Core events.Look
ask_of (stages.Listing lister) = asks.Disk (lists.ask_of lister)
ask_of (stages.Publishing listing) = asks.Core (events.Publish listing)

-- the directory of the open stream that a call of the disk may read
abbrev pub opened_in : Refresh → Option Path
opened_in (stages.Listing lister) = Some lister.head.folder
opened_in refresh = None

-- ---- answers

-- the view that an answer passes
abbrev pub view_of : Answer → Option View
view_of (told.Disk answer) = None
view_of (told.Core answer) = view_in answer

-- the view that an event passes which wasn't refused
abbrev pub view_shown : Effect → Option View
view_shown effect = view_in (Ok effect)

-- the folders are listed after the list of a number, the objects directory first
abbrev pub listing_from : (objects : Path) → (base : ℕ) → Refresh
listing_from objects base = stages.Listing (lists.started objects base)

-- the core's list was read before, or the folders are listed
abbrev pub by_view : (objects : Path) → View → RefreshStep
by_view objects view = if view.read then steps.Read view else steps.More (listing_from objects view.list_no)

abbrev pub by_look : (objects : Path) → Option View → RefreshStep
by_look objects None = steps.More stages.Reading
by_look objects (Some view) = by_view objects view

abbrev pub by_listed : ListStep → RefreshStep
by_listed (listed.More lister) = steps.More (stages.Listing lister)
by_listed (listed.Listed listing) = steps.More (stages.Publishing listing)
by_listed listed.Broken = steps.Refused load_errors.Io
by_listed (listed.TooManyPacks actual path) = steps.Refused (load_errors.TooManyPacksInMultiIndex actual most_packs path)

-- the listing is the list, or the list is as listed, or another was published since the core was read
abbrev pub by_published : Listing → Effect → RefreshStep
by_published listing (effects.Published view) = steps.Current view true
by_published listing (effects.Unchanged view) = steps.Current view false
by_published listing (effects.Outdated list_no) = steps.Outdated list_no
by_published listing effect = steps.More (stages.Publishing listing)

-- what is fed answers the ask: the rows that leave the refresh unchanged, here and above, only make the functions total
abbrev pub fed : (objects : Path) → ListedStore → Refresh → Answer → RefreshStep
fed objects store stages.Reading (told.Core (Ok effect)) = by_look objects (view_shown effect)
fed objects store stages.Reading (told.Core (Err refusal)) = steps.Refused (of_refusal refusal)
fed objects store (stages.Listing lister) (told.Disk answer) = by_listed (lists.fed store lister answer)
fed objects store (stages.Publishing listing) (told.Core (Ok effect)) = by_published listing effect
fed objects store (stages.Publishing listing) (told.Core (Err refusal)) = steps.Refused (of_refusal refusal)
fed objects store refresh answer = steps.More refresh

-- ---- before a write

-- A write asks nothing where the handle's snapshot is of a list that was read. Else the core is read.
abbrev pub started : View → RefreshStep
started view = if view.read then steps.Read view else steps.More stages.Reading

-- A write goes on where the core has a list that was read: also where the listing came too late, since another list was read then.
abbrev pub IsReady : RefreshStep → Type 0
IsReady (steps.Read view) = Unit {0}
IsReady (steps.Current view own) = Unit {0}
IsReady (steps.Outdated list_no) = Unit {0}
IsReady step = ⊥

-- what a step asks for: nothing, unless it goes on
abbrev pub asked_of : RefreshStep → Option Ask
asked_of (steps.More refresh) = Some (ask_of refresh)
asked_of step = None

-- a step after the answer to what it asked for; one that has ended stays as it is
abbrev pub step_fed : (objects : Path) → ListedStore → RefreshStep → Answer → RefreshStep
step_fed objects store (steps.More refresh) answer = fed objects store refresh answer
step_fed objects store step answer = step
