-- The rule of two contents: from the first open step on that names a folder, no path of an index or of a pack in its pack directory shows
-- two contents, and its multi-pack index shows no two at one time. Links are followed.
use Rattle.std.specs.Prelude.{◌≡◌, ℕ, ◌+◌, List, [], ◌∷◌, fold, length, Option, Some, None}
use Rattle.odb_base.specs.Path.{Path}
use Rattle.odb_disk.specs.MemDisk.{Volume}
use Rattle.odb_disk.specs.Tree.{tree_of}
use Rattle.odb_disk.specs.Tree.Change.{changed}
use Rattle.odb_disk.specs.declared.change.Change.{Change}
use Rattle.gix_odb_watch.specs.HasShown.{HasShown, Since, ShowsSecond, with_since}
use Rattle.gix_odb_calls.specs.declared.step.Step.{Step}
use Rattle.gix_odb_calls.specs.declared.step.Step.TheVariants as steps
use Rattle.gix_odb_calls.specs.declared.step.Outcome.{Outcome}
use Rattle.gix_odb_calls.specs.declared.step.Outcome.TheVariants as outcomes
use Rattle.gix_odb_history.specs.Event.{Event}
use Rattle.gix_odb_world.specs.Machines.{ask_in}
use Rattle.gix_odb_history.specs.Run.{change_asked, disk_after, tree_at}
use Rattle.gix_odb_world.specs.Status.{Status, Working, status_of}

-- ---- since when folders are watched

-- the folders are watched from a moment on, except those that are watched already
unfoldable pub watched_too : Since → (now : ℕ) → List Path → Since
watched_too since now folders = fold (λ watched folder. with_since watched now folder) since folders

-- after the event that has a number: an applied open step names its store's folders
abbrev pub watched_by : (number : ℕ) → Step → Outcome → Since → Since
watched_by number (steps.Open handle path folders hash replacements options) outcomes.Applied since = watched_too since number (path ∷ folders)
watched_by number step outcome since = since

-- after events, of which the first has a number
unfoldable pub watched_from : (number : ℕ) → Since → List Event → Since
watched_from number since [] = since
watched_from number since (e ∷ events) = watched_from (number + 1) (watched_by number e.step e.outcome since) events

-- The event since which a folder is watched, if it is, after all events of a run, which are numbered from 1.
abbrev pub watched_after : List Event → Since
watched_after events = watched_from 1 (λ folder. None) events

-- ---- a step that would break the rule

-- the change that the turn of a handle would make, by what its work asks for
abbrev pub would_change_in : Volume → Status → Option Change
would_change_in disk (Working running) = change_asked disk (ask_in running.store running.work)
would_change_in disk status = None

-- the change that a step would make after the events of a run: another program's, or a turn's
abbrev pub would_change : Volume → List Event → Step → Option Change
would_change first events (steps.Disk change) = Some change
would_change first events (steps.Turn handle) = would_change_in (disk_after first events) (status_of events handle)
would_change first events step = None

-- After the change a watched path would show a second content, besides one that it has shown at a state so far.
abbrev pub BreaksRule : Volume → List Event → Option Change → Type 0
BreaksRule first events None = ⊥
BreaksRule first events (Some change) =
    ShowsSecond (tree_at first events) (watched_after events) (length events) (changed (tree_of (disk_after first events).state) change)

-- ---- what the rule keeps

-- No path of an index or of a pack has shown two contents since its folder was watched, and no multi-pack index two at one time.
abbrev pub ShowOneContent : Volume → List Event → Type 0
ShowOneContent first events =
    (path : Path) (time : ℕ) (one other : List ℕ) → HasShown (tree_at first events) (watched_after events) (length events) path time one
    → HasShown (tree_at first events) (watched_after events) (length events) path time other → one ≡ other
