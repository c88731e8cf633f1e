-- What one event leaves of the handles at work, and of an open stream.
use Rattle.std.proofs.Common.{◌≡◌, ◌⊎◌, ℕ, ◌+◌, ◌≤◌, Bool, true, false, List, [], ◌∷◌, ◌++◌, length, Contains, Option, Some, None, Ok, Err, Result, inl, inr, refl, sym, subst, arith}
use Rattle.std.specs.Prelude.{◌==◌, if◌then◌else◌}
use Rattle.std.proofs.lemmas.Bool.{eqb-true}
use Rattle.std.proofs.lemmas.List.{length_push}
use Rattle.odb_base.specs.Path.{Path}
use Rattle.odb_disk.specs.Tree.{Tree}
use Rattle.odb_disk.specs.declared.change.Change.{Change}
use Rattle.odb_disk.specs.declared.entry.Entry.{Entry}
use Rattle.odb_disk.specs.MemDisk.{Volume}
use Rattle.gix_odb_calls.specs.declared.call.Call.{Call}
use Rattle.gix_odb_calls.specs.declared.call.Reply.{Reply}
use Rattle.gix_odb_calls.specs.declared.step.Step.{Step}
use Rattle.gix_odb_calls.specs.declared.step.Step.TheVariants as steps
use Rattle.gix_odb_calls.specs.declared.step.Outcome.{Outcome}
use Rattle.gix_odb_calls.specs.declared.step.Outcome.TheVariants as outcomes
use Rattle.gix_odb_search.specs.PackFolder.{pack_folder}
use Rattle.gix_odb.specs.OpenStream.{IsOnStream, IsStreamOf}
use Rattle.gix_odb.specs.Stream.{Stream}
use Rattle.gix_odb.proofs.StreamLaws.Directories.{stream_of_a_directory_is_kept_by_another_state, stream_of_a_directory_is_kept_by_other_calls, stream_of_a_directory_is_kept_by_outside_changes}
use Rattle.gix_odb.specs.Contents.{folder_list}
use Rattle.gix_odb_world.specs.Work.{Work}
use Rattle.gix_odb_world.specs.AtWork.{Running, Store}
use Rattle.gix_odb_history.specs.Event.{Asked, Event, OfCore, OfDisk, OfNewCore, OfNothing, answered}
use Rattle.gix_odb_world.specs.Machines.{fed_in}
use Rattle.gix_odb_history.specs.Run.{disk_after, disk_after_asked, disk_after_change, tree_at}
use Rattle.gix_odb_world.specs.Status.{Free, Resting, Status, Working, after_reply, cloned, come_to, frozen_from, ignoring_from, refuses_opening, replied, started, status_after, status_of, turned, with_status}
use Rattle.gix_odb_world.proofs.HistoryLemmas.{disk_after-push, status_of-push, tree_at-before}

-- ---- an open stream

-- A stream of a query: it was opened on the folder of packs of a folder of the store, at some moment since the query began, and what it
-- gave since and is still to give is what the folder's directory listed then.
pub record StandsOpen (first : Volume) (events : List Event) (running : Running) (stream : Stream) : Type 0 where
  pub folder : Path
  pub among : Contains (folder_list running.store.parts) folder
  pub of_packs : stream.folder ≡ pack_folder folder
  pub moment : ℕ
  pub from : running.begun ≤ moment
  pub to : moment ≤ length events
  pub coming : List Entry
  pub is : IsStreamOf (tree_at first events moment) stream.folder (disk_after first events) stream.dir stream.entries coming

-- what an event asked isn't on a stream
abbrev pub LeavesStream : (dir : ℕ) → Asked → Type 0
LeavesStream dir (OfDisk ask answer) = ¬ (IsOnStream dir ask)
LeavesStream dir asked = Unit {0}

module _ (first : Volume) (past : List Event) (e : Event) where
  abbrev now : List Event
  now = past ++ e ∷ []

  module _ (tree : Tree) (folder : Path) (dir : ℕ) (given coming : List Entry) where
    changed_keeps : (disk : Volume) (change : Option Change) → IsStreamOf tree folder disk dir given coming → IsStreamOf tree folder (disk_after_change disk change) dir given coming
    changed_keeps disk None is = is
    changed_keeps disk (Some change) is = stream_of_a_directory_is_kept_by_outside_changes tree folder disk dir given coming is change

    asked_keeps : (disk : Volume) (asked : Asked) (change : Option Change) → LeavesStream dir asked → IsStreamOf tree folder disk dir given coming
        → IsStreamOf tree folder (disk_after_asked disk asked change) dir given coming
    asked_keeps disk OfNothing change leaves is = changed_keeps disk change is
    asked_keeps disk (OfCore store seat event answer) change leaves is = changed_keeps disk change is
    asked_keeps disk (OfNewCore slots folders store seat answer) change leaves is = changed_keeps disk change is
    asked_keeps disk (OfDisk ask answer) change leaves is =
        stream_of_a_directory_is_kept_by_another_state tree folder _ dir given coming
        (stream_of_a_directory_is_kept_by_other_calls tree folder disk dir given coming is ask leaves) _

    -- it stays as it was over an event that isn't on it
    pub kept_stream : LeavesStream dir e.asked → IsStreamOf tree folder (disk_after first past) dir given coming → IsStreamOf tree folder (disk_after first now) dir given coming
    kept_stream leaves is =
        subst (λ d. IsStreamOf tree folder d dir given coming) (sym (disk_after-push first past e)) (asked_keeps (disk_after first past) e.asked e.entry.change leaves is)

  pub kept_open : (was running : Running) (stream : Stream) → was.begun ≡ running.begun → was.store ≡ running.store → LeavesStream stream.dir e.asked
      → StandsOpen first past was stream → StandsOpen first now running stream
  kept_open was running stream begun store leaves stands =
      let from = stands.from in
      let to = stands.to in
      let longer = length_push past e in
      record {
        folder = stands.folder;
        among = subst (λ (s : Store). Contains (folder_list s.parts) stands.folder) store stands.among;
        of_packs = stands.of_packs;
        moment = stands.moment;
        from = omega (arith, from, begun);
        to = omega (arith, to, longer);
        coming = stands.coming;
        is =
            subst (λ t. IsStreamOf t stream.folder (disk_after first now) stream.dir stream.entries stands.coming)
            (sym (tree_at-before first past e stands.moment stands.to))
            (kept_stream (tree_at first past stands.moment) stream.folder stream.dir stream.entries stands.coming leaves stands.is);
      }

  -- ---- the handles at work

  abbrev table : ℕ → Status
  table = status_of past

  -- a handle that is at work then was at it before
  pub record WasAt (handle : ℕ) (running : Running) : Type 0 where
    pub was : Running
    pub status : table handle ≡ Working was
    pub begun : was.begun ≡ running.begun
    pub store : was.store ≡ running.store

  -- or its task was set by the event
  abbrev pub Goes : (handle : ℕ) → Status → Type 0
  Goes handle Free = Unit {0}
  Goes handle (Resting store modes) = Unit {0}
  Goes handle (Working running) = (running.begun ≡ length past + 1) ⊎ WasAt handle running

  goes_same : (handle : ℕ) (status : Status) → table handle ≡ status → Goes handle status
  goes_same handle Free is = tt
  goes_same handle (Resting store modes) is = tt
  goes_same handle (Working running) is = inr (record { was = running; status = is; begun = refl; store = refl })

  goes_set : (number : ℕ) (status : Status) → Goes number status → (handle : ℕ) → Goes handle (with_status table number status handle)
  goes_set number status here handle = by (handle == number) refl
    where
      by : (b : Bool) → (handle == number) ≡ b → Goes handle (if b then status else table handle)
      by true is = subst (λ h. Goes h status) (sym (eqb-true handle number is)) here
      by false is = goes_same handle (table handle) refl

  goes_rest : (handle : ℕ) (reply : Reply) (rest : Status) → Goes handle rest → Goes handle (after_reply Free rest reply)
  goes_rest handle reply rest goes = by (refuses_opening reply)
    where
      by : (b : Bool) → Goes handle (if b then Free else rest)
      by true = tt
      by false = goes

  goes_cloned : (handle : ℕ) (asked : Asked) (parent : Status) → Goes handle (cloned asked parent)
  goes_cloned handle asked Free = tt
  goes_cloned handle asked (Resting store modes) = tt
  goes_cloned handle asked (Working running) = tt

  goes_frozen : (handle : ℕ) (status : Status) → table handle ≡ status → Goes handle (frozen_from status)
  goes_frozen handle Free is = tt
  goes_frozen handle (Resting store modes) is = tt
  goes_frozen handle (Working running) is = goes_same handle (Working running) is

  goes_ignoring : (handle : ℕ) (status : Status) → table handle ≡ status → Goes handle (ignoring_from status)
  goes_ignoring handle Free is = tt
  goes_ignoring handle (Resting store modes) is = tt
  goes_ignoring handle (Working running) is = goes_same handle (Working running) is

  goes_started : (handle : ℕ) (call : Call) (status : Status) → table handle ≡ status → Goes handle (started (length past + 1) call status)
  goes_started handle call Free is = tt
  goes_started handle call (Resting store modes) is = inl refl
  goes_started handle call (Working running) is = goes_same handle (Working running) is

  goes_come : (handle : ℕ) (asked : Asked) (running : Running) → table handle ≡ Working running → (result : Result Reply Work) → Goes handle (come_to asked running result)
  goes_come handle asked running is (Ok reply) = goes_rest handle reply _ tt
  goes_come handle asked running is (Err left) = inr (record { was = running; status = is; begun = refl; store = refl })

  goes_turned : (handle : ℕ) (asked : Asked) (status : Status) → table handle ≡ status → Goes handle (turned asked status)
  goes_turned handle asked Free is = tt
  goes_turned handle asked (Resting store modes) is = tt
  goes_turned handle asked (Working running) is = goes_come handle asked running is (fed_in running.store running.work (answered asked))

  goes_replied : (handle : ℕ) (asked : Asked) (reply : Reply) (status : Status) → table handle ≡ status → Goes handle (replied asked reply status)
  goes_replied handle asked reply Free is = tt
  goes_replied handle asked reply (Resting store modes) is = tt
  goes_replied handle asked reply (Working running) is = goes_rest handle reply _ tt

  goes_by : (step : Step) (outcome : Outcome) (asked : Asked) (handle : ℕ) → Goes handle (status_after (length past + 1) step outcome asked table handle)
  goes_by (steps.Open number path folders hash replacements options) outcomes.Applied asked handle = goes_set number _ (inl refl) handle
  goes_by (steps.Clone number from) outcomes.Applied asked handle = goes_set number _ (goes_cloned number asked (table from)) handle
  goes_by (steps.Close number) outcomes.Applied asked handle = goes_set number Free tt handle
  goes_by (steps.Never number) outcomes.Applied asked handle = goes_set number _ (goes_frozen number (table number) refl) handle
  goes_by (steps.Ignore number) outcomes.Applied asked handle = goes_set number _ (goes_ignoring number (table number) refl) handle
  goes_by (steps.Start number call) outcomes.Applied asked handle = goes_set number _ (goes_started number call (table number) refl) handle
  goes_by (steps.Turn number) outcomes.Applied asked handle = goes_same handle (table handle) refl
  goes_by (steps.Disk change) outcomes.Applied asked handle = goes_same handle (table handle) refl
  goes_by (steps.Turn number) outcomes.Pending asked handle = goes_set number _ (goes_turned number asked (table number) refl) handle
  goes_by (steps.Turn number) (outcomes.Reply reply) asked handle = goes_set number _ (goes_replied number asked reply (table number) refl) handle
  goes_by step outcomes.Pending asked handle = goes_same handle (table handle) refl
  goes_by step (outcomes.Reply reply) asked handle = goes_same handle (table handle) refl
  goes_by step (outcomes.Misuse why) asked handle = goes_same handle (table handle) refl

  -- each handle that is at work after the event was at it before, or its task was set by the event
  pub goes : (handle : ℕ) → Goes handle (status_of now handle)
  goes handle = subst (λ (t : ℕ → Status). Goes handle (t handle)) (sym (status_of-push past e)) (goes_by e.step e.outcome e.asked handle)
