-- What is kept of watched paths is what they have shown, from event to event.
use Rattle.std.proofs.Common.{◌≡◌, ℕ, ◌+◌, ◌<◌, ◌≤◌, get_or, Bool, true, false, List, [], ◌∷◌, ◌++◌, length, take, Option, Some, None, refl, sym, ap, ◌∙◌, subst, arith}
use Rattle.std.specs.Prelude.{if◌then◌else◌}
use Rattle.std.specs.FinSet as set
use Rattle.std.specs.Option.{option_or}
use Rattle.std.specs.Ordering.{eq_by_cmp}
use Rattle.std.proofs.lemmas.List.{length_push, take_more}
use Rattle.std.proofs.lemmas.List.Sums.{fold_push}
use Rattle.odb_base.specs.Path.{Path, path_cmp}
use Rattle.odb_disk.specs.MemDisk.{Volume}
use Rattle.odb_disk.specs.Tree.{IsTree, Tree, tree_of}
use Rattle.odb_disk.specs.Tree.Change.{changed}
use Rattle.odb_disk.specs.Tree.Write.{written}
use Rattle.odb_disk.specs.declared.change.Change.{Change}
use Rattle.odb_disk.proofs.WriteLaws.{tree_of-written}
use Rattle.gix_odb_watch.specs.HasShown.{AreBegun, HasShown, Keeps, Since, with_since}
use Rattle.gix_odb_watch.specs.Kept.{Fits, Kept, Notes, nothing_kept}
use Rattle.gix_odb_watch.specs.Watched.{Shows}
use Rattle.gix_odb_watch.proofs.KeepsLaws.{keeps_nothing, keeps_on, keeps_still, keeps_watched}
use Rattle.gix_odb_calls.specs.declared.step.Outcome.{Outcome}
use Rattle.gix_odb_calls.specs.declared.step.Outcome.TheVariants as outcomes
use Rattle.gix_odb_calls.specs.declared.step.Step.{Step}
use Rattle.gix_odb_calls.specs.declared.step.Step.TheVariants as steps
use Rattle.gix_odb_calls.specs.declared.step.Why.{Why}
use Rattle.gix_odb_history.specs.Event.{Event}
use Rattle.gix_odb_events.specs.declared.answer.Ask.{Ask}
use Rattle.gix_odb_events.specs.declared.answer.Ask.TheVariants as asks
use Rattle.gix_odb_history.specs.Run.{Stand, change_asked, change_by, disk_after, disk_after_asked, disk_after_event, told_now, tree_at}
use Rattle.gix_odb_world.specs.TwoContents.{watched_after, watched_by, watched_from, watched_too}
use Rattle.gix_odb_world.specs.Watch.{NotesChange, NotesMade, Watches}
use Rattle.gix_odb_world.proofs.HistoryLemmas.{tree_at-all, tree_at-before, tree_at-now}
use Rattle.gix_odb_world.proofs.RunSteps.{IsLeft}

-- ---- other trees that are the same up to now

over_trees : (trees others : ℕ → Tree) (since : Since) (now : ℕ) → ((moment : ℕ) → moment ≤ now → trees moment ≡ others moment) → (path : Path) (time : ℕ) (bytes : List ℕ)
    → HasShown trees since now path time bytes → HasShown others since now path time bytes
over_trees trees others since now same path time bytes h = record {
  folder = h.folder;
  begun = h.begun;
  watched = h.watched;
  moment = h.moment;
  from = h.from;
  to = h.to;
  shows = subst (λ (t : Tree). Shows h.folder t path time bytes) (same h.moment h.to) h.shows;
}

same_trees : (trees others : ℕ → Tree) (since : Since) (now : ℕ) (kept : Kept) → ((moment : ℕ) → moment ≤ now → trees moment ≡ others moment) → Keeps trees since now kept
    → Keeps others since now kept
same_trees trees others since now kept same k = record {
  folders = k.folders;
  only = λ path time bytes known. over_trees trees others since now same path time bytes (k.only path time bytes known);
  whole = λ path time bytes h. k.whole path time bytes (over_trees others trees since now (λ moment within. sym (same moment within)) path time bytes h);
  fits = subst (Fits kept) (same now (omega arith)) k.fits;
}

-- ---- since when folders are watched

pub begun_later : (since : Since) (now later : ℕ) → now ≤ later → AreBegun since now → AreBegun since later
begun_later since now later within begun folder first watched = let early = begun folder first watched in omega (arith, early, within)

pub begun_one : (since : Since) (now : ℕ) (folder : Path) → AreBegun since now → AreBegun (with_since since now folder) now
begun_one since now folder begun other first watched = by (since other) refl (eq_by_cmp path_cmp other folder) watched
  where
    by : (o : Option ℕ) → since other ≡ o → (b : Bool) → option_or o (if b then Some now else None) ≡ Some first → first ≤ now
    by (Some early) is b e = begun other first (is ∙ e)
    by None is true e = let same : now ≡ first = cc e in omega (arith, same)
    by None is false e = absurd (cc e)

pub begun_too : (since : Since) (now : ℕ) (folders : List Path) → AreBegun since now → AreBegun (watched_too since now folders) now
unfolding watched_too
begun_too since now [] begun = begun
begun_too since now (folder ∷ folders) begun = begun_too (with_since since now folder) now folders (begun_one since now folder begun)

begun_by : (number : ℕ) (step : Step) (outcome : Outcome) (since : Since) → AreBegun since number → AreBegun (watched_by number step outcome since) number
begun_by number (steps.Open handle path folders hash replacements options) outcomes.Applied since begun = begun_too since number (path ∷ folders) begun
begun_by number step outcome since begun = begun

begun_from : (number : ℕ) (since : Since) (events : List Event) (now : ℕ) → AreBegun since now → number ≡ now + 1 → AreBegun (watched_from number since events) (now + length events)
unfolding watched_from
begun_from number since [] now begun next = begun_later since now (now + 0) (omega arith) begun
begun_from number since (e ∷ events) now begun next =
    let here : AreBegun since number = begun_later since now number (omega (arith, next)) begun in
    let rest = begun_from (number + 1) (watched_by number e.step e.outcome since) events number (begun_by number e.step e.outcome since here) refl in
    begun_later (watched_from (number + 1) (watched_by number e.step e.outcome since) events) (number + length events) (now + length (e ∷ events)) (omega (arith, next)) rest

pub are_begun : (events : List Event) → AreBegun (watched_after events) (length events)
are_begun events =
    begun_later (watched_after events) (0 + length events) (length events) (omega arith)
    (begun_from 1 (λ folder. None) events 0 (λ folder begun watched. absurd (cc watched)) (omega arith))

watched_from-push : (number : ℕ) (since : Since) (events : List Event) (e : Event)
    → watched_from number since (events ++ e ∷ []) ≡ watched_by (number + length events) e.step e.outcome (watched_from number since events)
unfolding watched_from
watched_from-push number since [] e = let same : number ≡ number + 0 = omega arith in ap (λ n. watched_by n e.step e.outcome since) same
watched_from-push number since (x ∷ events) e =
    let later : number + 1 + length events ≡ number + length (x ∷ events) = omega arith in
    watched_from-push (number + 1) (watched_by number x.step x.outcome since) events e
    ∙ ap (λ n. watched_by n e.step e.outcome (watched_from (number + 1) (watched_by number x.step x.outcome since) events)) later

pub watched_after-push : (events : List Event) (e : Event) → watched_after (events ++ e ∷ []) ≡ watched_by (length events + 1) e.step e.outcome (watched_after events)
watched_after-push events e =
    let later : 1 + length events ≡ length events + 1 = omega arith in
    watched_from-push 1 (λ folder. None) events e ∙ ap (λ n. watched_by n e.step e.outcome (watched_after events)) later

pub watched_misused : (number : ℕ) (step : Step) (why : Why) (since : Since) → watched_by number step (outcomes.Misuse why) since ≡ since
watched_misused number (steps.Open handle path folders hash replacements options) why since = refl
watched_misused number step why since = refl

-- ---- nothing has happened

pub keeps_none : (first : Volume) → IsTree (tree_of first.state) → Keeps (tree_at first []) (watched_after []) 0 nothing_kept
unfolding watched_from disk_after
keeps_none first is_tree = keeps_nothing (tree_at first []) 0 is_tree

-- ---- one more event

module _ (first : Volume) (events : List Event) (e : Event) where
  abbrev whole : List Event
  whole = events ++ e ∷ []

  abbrev now : ℕ
  now = length events

  abbrev before : Tree
  before = tree_of (disk_after first events).state

  abbrev after : Tree
  after = tree_of (disk_after_event (disk_after first events) e).state

  long : now + 1 ≡ length whole
  long = sym (length_push events e)

  -- the tree after all events so far
  pub tree_now : tree_at first events now ≡ before
  tree_now = tree_at-all first events

  carried : (kept : Kept) → Keeps (tree_at first events) (watched_after events) now kept → Keeps (tree_at first whole) (watched_after events) now kept
  carried kept k = same_trees (tree_at first events) (tree_at first whole) (watched_after events) now kept (λ moment within. sym (tree_at-before first events e moment within)) k

  next_tree : tree_at first whole (now + 1) ≡ after
  next_tree = tree_at-now first events e

  this_tree : tree_at first whole now ≡ before
  this_tree = tree_at-before first events e now (omega arith) ∙ tree_now

  -- what is kept is right about the next state, given what its event says
  as_pushed : (kept : Kept) → Keeps (tree_at first whole) (watched_by (now + 1) e.step e.outcome (watched_after events)) (now + 1) kept
      → Keeps (tree_at first whole) (watched_after whole) (length whole) kept
  as_pushed kept k =
      subst (λ n. Keeps (tree_at first whole) (watched_after whole) n kept) long
      (subst (λ since. Keeps (tree_at first whole) since (now + 1) kept) (sym (watched_after-push events e)) k)

  -- an event that leaves the tree, and after which these are watched too
  pub keeps_left : (old new : Kept) → Keeps (tree_at first events) (watched_after events) now old → after ≡ before
      → ((trees : ℕ → Tree) (since : Since) (number : ℕ) → trees number ≡ before → AreBegun since number → Keeps trees since number old
      → Keeps trees (watched_by number e.step e.outcome since) number new)
      → Keeps (tree_at first whole) (watched_after whole) (length whole) new
  keeps_left old new k left watches =
      let still = keeps_still (tree_at first whole) (watched_after events) now old (carried old k) (are_begun events) (next_tree ∙ left ∙ sym this_tree) in
      as_pushed new
      (watches (tree_at first whole) (watched_after events) (now + 1) (next_tree ∙ left) (begun_later (watched_after events) now (now + 1) (omega arith) (are_begun events)) still)

  -- an event that made a change, which was noted
  pub keeps_changed : (old new : Kept) (change : Change) → Keeps (tree_at first events) (watched_after events) now old → after ≡ changed before change
      → watched_by (now + 1) e.step e.outcome (watched_after events) ≡ watched_after events → NotesChange old before change new
      → Keeps (tree_at first whole) (watched_after whole) (length whole) new
  keeps_changed old new change k made same noted =
      let there : changed before change ≡ tree_at first whole (now + 1) = sym made ∙ sym next_tree in
      as_pushed new
      (subst (λ since. Keeps (tree_at first whole) since (now + 1) new) (sym same)
      (keeps_on (tree_at first whole) (watched_after events) now old new (carried old k) (are_begun events)
      (subst (λ (t : Tree). Notes old old.folders t new) there noted.notes) (subst (Fits new) there noted.fits)))

  -- an event that made a change, or none
  pub keeps_made : (old new : Kept) (change : Option Change) → Keeps (tree_at first events) (watched_after events) now old → IsLeft before after change
      → ((number : ℕ) (since : Since) → watched_by number e.step e.outcome since ≡ since) → NotesMade old before change new
      → Keeps (tree_at first whole) (watched_after whole) (length whole) new
  keeps_made old new None k left same noted =
      keeps_left old new k left
      (λ trees since number is begun kept. subst (λ s. Keeps trees s number new) (sym (same number since)) (subst (Keeps trees since number) (sym noted) kept))
  keeps_made old new (Some change) k left same noted = keeps_changed old new change k left (same (now + 1) (watched_after events)) noted

-- what a turn with this ask and answer leaves of the tree
pub turn_left : (place : Stand) (disk : Volume) (ask : Option Ask)
    → IsLeft (tree_of disk.state) (tree_of (disk_after_asked disk (told_now place disk ask) (change_asked disk ask)).state) (change_asked disk ask)
turn_left place disk None = refl
turn_left place disk (Some (asks.Disk ask)) = by (change_by disk ask)
  where
    by : (change : Option Change) → IsLeft (tree_of disk.state) (tree_of (written disk.state change)) change
    by None = refl
    by (Some change) = tree_of-written disk.state change
turn_left place disk (Some (asks.Core event)) = refl
turn_left place disk (Some (asks.NewCore slots folders)) = refl

-- ---- folders that are watched from now on

pub watches_none : (kept : Kept) (tree : Tree) → Watches kept kept tree []
unfolding watched_too
watches_none kept tree trees since now is begun k = k

-- one folder first
pub watches_first : (old mid new : Kept) (tree : Tree) (folder : Path) (folders : List Path) → Notes old (set.insert old.folders folder) tree mid → Fits mid tree
    → Watches mid new tree folders → Watches old new tree (folder ∷ folders)
unfolding watched_too
watches_first old mid new tree folder folders notes fits rest trees since now is begun k =
    rest trees (with_since since now folder) now is (begun_one since now folder begun)
    (keeps_watched trees since now folder old mid k (subst (λ t. Notes old (set.insert old.folders folder) t mid) (sym is) notes) (subst (Fits mid) (sym is) fits) begun)

-- and one more folder
watched_too-push : (since : Since) (now : ℕ) (folders : List Path) (folder : Path) → watched_too since now (folders ++ folder ∷ []) ≡ with_since (watched_too since now folders) now folder
unfolding watched_too
watched_too-push since now folders folder = fold_push (λ watched f. with_since watched now f) since folders folder

watches_push : (old mid new : Kept) (tree : Tree) (folders : List Path) (folder : Path) → Watches old mid tree folders → Notes mid (set.insert mid.folders folder) tree new → Fits new tree
    → Watches old new tree (folders ++ folder ∷ [])
watches_push old mid new tree folders folder before notes fits trees since now is begun k =
    subst (λ s. Keeps trees s now new) (sym (watched_too-push since now folders folder))
    (keeps_watched trees (watched_too since now folders) now folder mid new (before trees since now is begun k)
    (subst (λ t. Notes mid (set.insert mid.folders folder) t new) (sym is) notes) (subst (Fits new) (sym is) fits) (begun_too since now folders begun))

pub watches_more : (old mid new : Kept) (tree : Tree) (folders : List Path) (index : ℕ) (folder : Path) → index < length folders → folder ≡ get_or folders index folder
    → Notes mid (set.insert mid.folders folder) tree new → Fits new tree → Watches old mid tree (take index folders) → Watches old new tree (take (index + 1) folders)
watches_more old mid new tree folders index folder within is notes fits before =
    subst (Watches old new tree) (ap (λ f. take index folders ++ f ∷ []) is ∙ sym (take_more folders index folder within))
    (watches_push old mid new tree (take index folders) folder before notes fits)
