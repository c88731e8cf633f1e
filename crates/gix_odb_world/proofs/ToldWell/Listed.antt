-- What a look at the core of a store shows: where its list was read, the list has a row of each object that stayed unchanged in a pack since the store
-- was opened.
use Rattle.std.proofs.Common.{◌≡◌, ℕ, true, List, length, Contains, ap, ◌∙◌, subst}
use Rattle.std.proofs.lemmas.Option.{same_Some}
use Rattle.odb_disk.specs.MemDisk.{Volume}
use Rattle.gix_hash.specs.declared.object_id.ObjectId.{ObjectId}
use Rattle.gix_odb_core.specs.History.{History, present}
use Rattle.gix_odb_core.specs.Replay.{number_behind}
use Rattle.gix_odb_core.specs.Views.{view_of}
use Rattle.gix_odb_events.specs.declared.answer.Answer.TheVariants as told
use Rattle.gix_odb_events.specs.declared.answer.Ask.TheVariants as parts
use Rattle.gix_odb_events.specs.declared.event.Event.TheVariants as core_events
use Rattle.gix_odb_events.specs.declared.view.View.{View}
use Rattle.gix_odb.specs.Contents.{folder_list}
use Rattle.gix_odb.specs.Fair.{PackedPlace}
use Rattle.gix_odb.specs.StillListed.{HasRow, IsListed, ShowsRow}
use Rattle.gix_odb.specs.Store.{listed_for}
use Rattle.gix_odb_history.specs.Cores.{answer_behind}
use Rattle.gix_odb_history.specs.Event.{CoreAnswer, CoreEvent, Event}
use Rattle.gix_odb_history.specs.Run.{tree_at}
use Rattle.gix_odb_world.specs.AtWork.{Store, setting_in}
use Rattle.gix_odb_world.specs.Running.PackedStill.{IsPackedStill}
use Rattle.gix_odb_world.proofs.CoreLaws.LastListing.{HasListing, read_list_has_a_listing, shown_list_has_its_rows}
use Rattle.gix_odb_world.proofs.CoreLaws.MultiRows.{MultisHaveOne}
use Rattle.gix_odb_world.proofs.Stock.OneCore.{IsOfStore, ListsStill, ShownSince}
use Rattle.gix_odb_world.proofs.Stock.Snapshots.{is_opened}

module _ (first : Volume) (events : List Event) (store : Store) (history : History) (of : IsOfStore first events store history)
    (rule : MultisHaveOne (ShownSince first events store) (setting_in store)) (id : ObjectId) (place : PackedPlace)
    (among : Contains (folder_list store.parts) place.folder) (still : IsPackedStill (tree_at first events) store store.opened (length events) id place) where
  abbrev Shows : View → Type 0
  Shows view = ShowsRow (listed_for store.parts).multi store.parts.object_hash id place view

  list_shows : (number : ℕ) → (present history).read ≡ true → Shows (view_of (present history) number)
  list_shows number read =
      let opened = is_opened first events store history of in
      let has : HasListing history.entries (present history) = read_list_has_a_listing history.opening opened history.entries read in
      let row : HasRow (listed_for store.parts).multi store.parts.object_hash id place has.listing.rows =
      subst (ListsStill first events store) has.publishes (of.still has.entry has.among) id place among still in (
        row.0,
        row.2,
        shown_list_has_its_rows (ShownSince first events store) (setting_in store) store.parts.object_hash rule history.opening opened history.entries of.legal
            of.possible of.handed read number row.0 row.1,
      )

  abbrev Lists : CoreEvent → CoreAnswer → Type 0
  Lists event answer = IsListed (listed_for store.parts).multi store.parts.object_hash id place (parts.Core event) (told.Core answer)

  -- each answer to an event of the core says so
  pub answers_list_what_stayed : (seat : ℕ) (event : CoreEvent) → Lists event (answer_behind history seat event)
  answers_list_what_stayed seat (core_events.Register stable) = tt
  answers_list_what_stayed seat core_events.Upgrade = tt
  answers_list_what_stayed seat core_events.Remove = tt
  answers_list_what_stayed seat core_events.Look =
      λ view is read.
      let same : view_of (present history) (number_behind history.entries) ≡ view = same_Some _ view is in
      subst Shows same (list_shows (number_behind history.entries) (ap (λ (v : View). v.read) same ∙ read))
  answers_list_what_stayed seat core_events.Report = tt
  answers_list_what_stayed seat (core_events.PutIndex slot path file) = tt
  answers_list_what_stayed seat (core_events.PutPack pack path file) = tt
  answers_list_what_stayed seat (core_events.PassOver slot path why) = tt
  answers_list_what_stayed seat (core_events.Publish listing) = tt
