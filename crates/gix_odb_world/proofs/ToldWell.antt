-- The answers to the handle of a query are true of the run: where the query begins, and after an event in which it is answered nothing.
pub mod Numbers
pub mod Turn
pub mod Listed
use Rattle.std.proofs.Common.{◌≡◌, ℕ, ◌+◌, ◌<◌, ◌≤◌, List, [], ◌∷◌, ◌++◌, length, Contains, None, Ok, refl, sym, ◌∙◌, ap, subst, arith}
use Rattle.std.specs.Prelude.{unwrap_or}
use Rattle.std.proofs.lemmas.List.{length_push}
use Rattle.std.proofs.lemmas.Option.{slice_get_within}
use Rattle.odb_disk.specs.Tree.Follow.{listed}
use Rattle.odb_disk.specs.MemDisk.{Volume}
use Rattle.odb_disk.specs.declared.ask.DiskAnswer.{DiskAnswer}
use Rattle.odb_disk.specs.declared.ask.DiskAsk.{DiskAsk}
use Rattle.gix_odb_core.specs.History.{History, opened, present}
use Rattle.gix_odb_core.specs.Replay.{snapshot_of}
use Rattle.gix_odb_events.specs.declared.view.View.{View}
use Rattle.gix_odb_events.specs.declared.answer.Answer.TheVariants as told
use Rattle.gix_odb_events.specs.declared.answer.Ask.TheVariants as parts
use Rattle.gix_odb_calls.specs.declared.call.Call.{Call}
use Rattle.gix_odb.specs.LookExchanges.{AreAnswered, HasFailed, WasTold}
use Rattle.gix_odb.specs.Fair.{AreFair}
use Rattle.gix_odb.specs.StillListed.{AreFairOrFailed, AreListed}
use Rattle.gix_odb.specs.Laps.{AreNumbered, AreWithin}
use Rattle.gix_odb.specs.Shown.{IsShownView}
use Rattle.gix_odb.specs.Store.{listed_for}
use Rattle.gix_odb.specs.True.{AreTrue}
use Rattle.gix_odb_world.proofs.CoreLaws.Wider.{AreTrue-wider, IsShownView-wider}
use Rattle.gix_odb.specs.HandleState.{unseen}
use Rattle.gix_odb_history.specs.declared.record.Did.{Did}
use Rattle.gix_odb_history.specs.declared.record.Did.TheVariants.{Nothing, Disk, Core}
use Rattle.gix_odb_world.specs.AtWork.{Modes, Store, setting_in}
use Rattle.gix_odb_world.specs.Bound.{HasAtMost}
use Rattle.gix_odb_history.specs.Cores.{cores_after, cores_after_asked, history_at}
use Rattle.gix_odb_history.specs.Event.{Asked, Event}
use Rattle.gix_odb_history.specs.Run.{Fails, FailedSince, NoCall, tree_at}
use Rattle.gix_odb_world.specs.Running.Query.{IsGiven, IsToldWell, number_after}
use Rattle.gix_odb_world.specs.Told.{told_since, view_then}
use Rattle.gix_odb_world.proofs.HistoryLemmas.{cores_after-push, failed-kept, none_failed_yet, tree_at-before}
use Rattle.gix_odb_world.proofs.MachineLaws.{IsStarted}
use Rattle.gix_odb_world.proofs.PackedStill.Moments.{still_before}
use Rattle.gix_odb_world.proofs.Stock.OneCore.{ShownSince, shown_later}
use Rattle.gix_odb_world.proofs.Stock.Snapshots.{Shows, slots_of_seat, snapshot_shows}
use Rattle.gix_odb_world.proofs.ToldLemmas.{told_first, view_first, view_kept}
use Rattle.gix_odb_world.proofs.ToldLists.{nothing_among}
use Rattle.gix_odb_world.proofs.ToldWell.Numbers.{numbers_rise}

-- a record that has no call has no failure
pub no_failure : (did : Did) → NoCall did → ¬ (Fails did)
no_failure Nothing none failed = failed
no_failure (Disk op path failed) none fails = none
no_failure (Core store entry) none failed = failed

-- ---- one more event

module _ (first : Volume) (events : List Event) (e : Event) where
  abbrev whole : List Event
  whole = events ++ e ∷ []

  count : length whole ≡ length events + 1
  count = length_push events e

  -- folders that never have more entries had no more before
  pub most_before : (store : Store) (begun entries : ℕ) → HasAtMost (tree_at first whole) store.parts begun (length whole) entries
      → HasAtMost (tree_at first events) store.parts begun (length events) entries
  most_before store begun entries most moment from to folder names listed_so is =
      let longer = count in
      most moment from (omega (arith, to, longer)) folder names listed_so
      (subst (λ tree. listed tree folder ≡ Ok names) (sym (tree_at-before first events e moment to)) is)

  -- what the disk gave before it still gave
  pub given_later : (handle begun : ℕ) (ask : DiskAsk) (answer : DiskAnswer) → IsGiven first events handle begun ask answer → IsGiven first whole handle begun ask answer
  given_later handle begun ask answer given =
      let longer = count in
      let to = given.to in
      record {
        moment = given.moment;
        from = given.from;
        to = omega (arith, to, longer);
        disk = given.disk;
        shown = tree_at-before first events e given.moment given.to ∙ given.shown;
        is = given.is;
        failed = λ fails. failed-kept events e handle begun (given.failed fails);
      }

  -- the number of a core's list never falls
  pub list_rises : (asked : Asked) (core : ℕ) → e.asked ≡ asked → core < length (cores_after events)
      → (core < length (cores_after whole))
      × ((present (history_at (cores_after events) core)).list_no ≤ (present (history_at (cores_after whole) core)).list_no)
  list_rises asked core is within =
      subst (λ cs. (core < length cs) × ((present (history_at (cores_after events) core)).list_no ≤ (present (history_at cs core)).list_no))
      (sym (cores_after-push events e ∙ ap (cores_after_asked (cores_after events)) is)) (numbers_rise (cores_after events) asked core within)

  -- where a query is answered nothing in an event, and no call of it failed in it, all stays true
  pub told_well_later : (handle : ℕ) (store : Store) (modes : Modes) (begun : ℕ) → told_since whole handle begun ≡ told_since events handle begun
      → (FailedSince whole handle begun → FailedSince events handle begun) → begun ≤ length events
      → IsToldWell first events handle store modes begun → IsToldWell first whole handle store modes begun
  told_well_later handle store modes begun same fails since well =
      let seen = view_kept events e handle begun since modes.core in
      let setting = setting_in store in
      let rises = list_rises e.asked modes.core refl well.place in
      record {
        opened = well.opened;
        snapshot =
            subst (IsShownView (ShownSince first whole store) setting store.parts.object_hash) (sym seen)
            (IsShownView-wider (ShownSince first events store) (ShownSince first whole store) (shown_later first events e store) setting store.parts.object_hash _ well.snapshot);
        few = subst (λ (v : View). length v.snapshot.indices ≤ modes.slots) (sym seen) well.few;
        place = rises.0;
        truth =
            subst (AreTrue (ShownSince first whole store) setting store.parts.object_hash) (sym same)
            (AreTrue-wider (ShownSince first events store) (ShownSince first whole store) (shown_later first events e store) setting store.parts.object_hash _ well.truth);
        answered = subst AreAnswered (sym same) well.answered;
        numbered = subst (AreNumbered modes.slots 0) (sym same) well.numbered;
        no_later =
            subst (λ xs. number_after 0 xs ≤ (present (history_at (cores_after whole) modes.core)).list_no) (sym same)
            (let low = well.no_later in omega (arith, low, rises.1));
        within = λ entries most. subst (AreWithin entries None) (sym same) (well.within entries (most_before store begun entries most));
        given = λ ask answer was.
            given_later handle begun ask answer (well.given ask answer (subst (λ xs. WasTold xs (parts.Disk ask) (told.Disk answer)) same was));
        failures = λ failed. subst HasFailed (sym same) (well.failures (fails failed));
        fair = λ id place works still.
            subst (AreFair (listed_for store.parts).multi store.parts.object_hash id place []) (sym same)
            (well.fair id place (λ failed. works (failed-kept events e handle begun failed)) (still_before first events e store begun id place still));
        met = λ id place still.
            subst (AreFairOrFailed (listed_for store.parts).multi store.parts.object_hash id place []) (sym same)
            (well.met id place (still_before first events e store begun id place still));
        listed = λ id place among still.
            subst (AreListed (listed_for store.parts).multi store.parts.object_hash id place) (sym same)
            (well.listed id place among (still_before first events e store store.opened id place still));
      }

  -- ---- where a query begins

  pub told_well_at_first : (handle : ℕ) (store : Store) (modes : Modes) (call : Call) → IsStarted first whole handle store modes call
      → IsToldWell first whole handle store modes (length events + 1)
  told_well_at_first handle store modes call start =
      let longer : length events + 1 ≡ length whole = sym count in
      let none : told_since whole handle (length events + 1) ≡ [] = ap (told_since whole handle) longer ∙ told_first whole handle in
      let stock = start.stocked in
      let there : history_at (cores_after whole) modes.core ≡ stock.history = ap (λ o. unwrap_or o (opened 0 0 0 0)) stock.there in
      let seen : view_then whole handle modes.core (length events + 1) ≡ unwrap_or (snapshot_of handle stock.history.entries) unseen =
      ap (view_then whole handle modes.core) longer
      ∙ (view_first whole handle modes.core ∙ ap (λ (h : History). unwrap_or (snapshot_of handle h.entries) unseen) there) in
      let shows = subst (Shows first whole store stock.history stock.of) (sym seen) (snapshot_shows first whole store stock.history stock.of handle) in
      let early = start.opened in
      record {
        opened = omega (arith, early, longer);
        snapshot = shows.0;
        few = subst (λ (n : ℕ). length (view_then whole handle modes.core (length events + 1)).snapshot.indices ≤ n) (slots_of_seat first whole handle store modes start.seated stock) shows.1;
        place = slice_get_within (cores_after whole) modes.core stock.history stock.there;
        truth = λ exchange among. absurd (nothing_among exchange (subst (λ xs. Contains xs exchange) none among));
        answered = subst AreAnswered (sym none) tt;
        numbered = subst (AreNumbered modes.slots 0) (sym none) tt;
        no_later = subst (λ xs. number_after 0 xs ≤ (present (history_at (cores_after whole) modes.core)).list_no) (sym none) (omega arith);
        within = λ entries most. subst (AreWithin entries None) (sym none) tt;
        given = λ ask answer was. absurd (nothing_among _ (subst (λ xs. WasTold xs (parts.Disk ask) (told.Disk answer)) none was));
        failures = λ failed. absurd (none_failed_yet whole handle (length events + 1) (omega (arith, longer)) failed);
        fair = λ id place works still. subst (AreFair (listed_for store.parts).multi store.parts.object_hash id place []) (sym none) tt;
        met = λ id place still. subst (AreFairOrFailed (listed_for store.parts).multi store.parts.object_hash id place []) (sym none) tt;
        listed = λ id place among still exchange is. absurd (nothing_among exchange (subst (λ xs. Contains xs exchange) none is));
      }
