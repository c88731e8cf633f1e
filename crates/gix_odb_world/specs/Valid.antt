-- Which steps are valid, and the first reason why one isn't.
use Rattle.std.specs.Prelude.{◌≡◌, ℕ, Bool, true, false, ◌&&◌, ◌==◌, nat_le, List, ◌∷◌, length, Option, Some, None, if◌then◌else◌}
use Rattle.std.specs.List.{list_all}
use Rattle.std.specs.Map.{keys_of}
use Rattle.std.specs.Ordering.{eq_by_cmp}
use Rattle.std.specs.Set.{distinct_count}
use Rattle.std.specs.declared.cmp.Ordering.{Ordering}
use Rattle.odb_base.specs.Path.{Path, path_cmp}
use Rattle.gix_hash.specs.declared.kind.Kind.{Kind as HashKind}
use Rattle.gix_hash.specs.declared.object_id.ObjectId.{ObjectId}
use Rattle.gix_hash.specs.ObjectId.{id_cmp}
use Rattle.odb_disk.specs.MemDisk.{Volume}
use Rattle.odb_disk.specs.Tree.Change.{is_possible}
use Rattle.odb_disk.specs.declared.change.Change.{Change}
use Rattle.gix_odb_calls.specs.Hashes.{is_of_hash, is_pair_of}
use Rattle.gix_odb_calls.specs.declared.call.Call.{Call}
use Rattle.gix_odb_calls.specs.declared.step.Step.{Step}
use Rattle.gix_odb_calls.specs.declared.step.Step.TheVariants as steps
use Rattle.gix_odb_calls.specs.declared.step.Outcome.{Outcome}
use Rattle.gix_odb_calls.specs.declared.step.Outcome.TheVariants as outcomes
use Rattle.gix_odb_calls.specs.declared.step.Why.{Why}
use Rattle.gix_odb_calls.specs.declared.step.Why.TheVariants.{HandleTaken, BadOpen, NoHandle, NotRunning, Busy, WrongHash, ImpossibleChange, TwoContents}
use Rattle.gix_odb_world.specs.Bound.{most_changes}
use Rattle.gix_odb_history.specs.Event.{Event}
use Rattle.gix_odb_world.specs.Status.{Status, Free, Resting, Working, status_of}
use Rattle.gix_odb_history.specs.Run.{disk_after}
use Rattle.gix_odb_world.specs.TwoContents.{BreaksRule, would_change}

-- what matters of a handle for validity; for an idle one the hash of its store too
pub data Phase : Type 0 where
  NoneThere : Phase
  Idle : (hash : HashKind) → Phase
  Running : Phase

abbrev pub phase_of : Status → Phase
phase_of Free = NoneThere
phase_of (Resting store modes) = Idle store.parts.object_hash
phase_of (Working running) = Running

-- no two items of a list are equal by an order
abbrev pub are_distinct : {A : Type 0} → (A → A → Ordering) → List A → Bool
are_distinct cmp items = distinct_count (eq_by_cmp cmp) items == length items

-- The most folders of a store besides its objects directory: with it they are 256, so that the place of a folder has 8 bits, and the
-- bound of a call's turns, which has a sum over the folders, is a number of 128 bits.
abbrev pub most_folders : ℕ
most_folders = 255

-- not too many folders, all distinct and none of them the objects directory
abbrev pub are_good_folders : Path → List Path → Bool
are_good_folders objects folders = nat_le (length folders) most_folders && are_distinct path_cmp (objects ∷ folders)

-- distinct replaced ids, and all ids of the hash of the store
abbrev pub are_good_replacements : HashKind → List (ObjectId × ObjectId) → Bool
are_good_replacements hash replacements = are_distinct id_cmp (keys_of replacements) && list_all (is_pair_of hash) replacements

-- The conditions of opening: good folders, good replacements, and not too many changes that a call is to tolerate.
abbrev pub is_openable : Path → List Path → HashKind → List (ObjectId × ObjectId) → (changes : ℕ) → Bool
is_openable objects folders hash replacements changes =
    are_good_folders objects folders && (are_good_replacements hash replacements && nat_le changes most_changes)

abbrev pub why_not_openable : Bool → Option Why
why_not_openable true = None
why_not_openable false = Some BadOpen

-- an open step needs a free number, and the conditions of opening
abbrev pub why_not_open : Phase → (openable : Bool) → Option Why
why_not_open NoneThere openable = why_not_openable openable
why_not_open (Idle hash) openable = Some HandleTaken
why_not_open Running openable = Some HandleTaken

-- a close and the setting of a mode need an idle handle
abbrev pub why_not_idle : Phase → Option Why
why_not_idle NoneThere = Some NoHandle
why_not_idle (Idle hash) = None
why_not_idle Running = Some Busy

-- a start needs an idle handle, and a call whose ids are of the hash of its store
abbrev pub why_not_of_hash : Bool → Option Why
why_not_of_hash true = None
why_not_of_hash false = Some WrongHash

abbrev pub why_not_start : Phase → Call → Option Why
why_not_start NoneThere call = Some NoHandle
why_not_start (Idle hash) call = why_not_of_hash (is_of_hash hash call)
why_not_start Running call = Some Busy

-- a clone needs a free number, and an idle handle
abbrev pub why_not_clone : Phase → (parent : Phase) → Option Why
why_not_clone NoneThere parent = why_not_idle parent
why_not_clone (Idle hash) parent = Some HandleTaken
why_not_clone Running parent = Some HandleTaken

-- a turn needs a handle that runs a call
abbrev pub why_not_running : Phase → Option Why
why_not_running NoneThere = Some NoHandle
why_not_running (Idle hash) = Some NotRunning
why_not_running Running = None

-- another program's change needs a place in the tree
abbrev pub why_not_change : Volume → Change → Option Why
why_not_change disk change = if is_possible disk.state change then None else Some ImpossibleChange

-- what matters of a handle for validity after the events of a run
abbrev pub phase_after : List Event → (handle : ℕ) → Phase
phase_after events handle = phase_of (status_of events handle)

-- The first reason why a step isn't valid after the events of a run, without the rule of two contents, or nothing where there is none.
-- Each step sees the whole history.
abbrev pub why_not_after : Volume → List Event → Step → Option Why
why_not_after first events (steps.Open handle path folders hash replacements options) = why_not_open (phase_after events handle) (is_openable path folders hash replacements options.max_changes)
why_not_after first events (steps.Clone handle from) = why_not_clone (phase_after events handle) (phase_after events from)
why_not_after first events (steps.Close handle) = why_not_idle (phase_after events handle)
why_not_after first events (steps.Never handle) = why_not_idle (phase_after events handle)
why_not_after first events (steps.Ignore handle) = why_not_idle (phase_after events handle)
why_not_after first events (steps.Start handle call) = why_not_start (phase_after events handle) call
why_not_after first events (steps.Turn handle) = why_not_running (phase_after events handle)
why_not_after first events (steps.Disk change) = why_not_change (disk_after first events) change

-- The first reason of a step that breaks the rule of two contents or not, and that has another reason or none: the rule is the last reason.
abbrev pub IsFirstReason : (other : Option Why) → (breaks : Type 0) → Option Why → Type 0
IsFirstReason (Some other) breaks why = why ≡ Some other
IsFirstReason None breaks None = ¬ breaks
IsFirstReason None breaks (Some why) = (why ≡ TwoContents) × breaks

-- This is the first reason why a step isn't valid after the events of a run, or there is none and it is valid.
abbrev pub IsReason : Volume → List Event → Step → Option Why → Type 0
IsReason first events step why = IsFirstReason (why_not_after first events step) (BreaksRule first events (would_change first events step)) why

-- the reason that an outcome gives
abbrev pub misuse_of : Outcome → Option Why
misuse_of outcomes.Applied = None
misuse_of outcomes.Pending = None
misuse_of (outcomes.Reply reply) = None
misuse_of (outcomes.Misuse why) = Some why
