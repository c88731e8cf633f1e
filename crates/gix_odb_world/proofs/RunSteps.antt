-- Laws of the events of a lawful run, one by one: what each does to the tree, and that each tree is one.
pub mod Fronts
use Rattle.std.proofs.Common.{◌≡◌, inl, inr, ℕ, zero, suc, ◌+◌, Bool, true, false, List, take, Option, Some, None, refl, sym, ap, ◌∙◌, subst, arith}
use Rattle.std.specs.Prelude.{slice_get, if◌then◌else◌}
use Rattle.odb_base.specs.Path.{Path}
use Rattle.odb_disk.specs.Ask.{change_of_ask, fails_now}
use Rattle.odb_disk.specs.MemDisk.{Volume, after_outside_change}
use Rattle.odb_disk.specs.Tree.{IsTree, Tree, tree_of}
use Rattle.odb_disk.specs.Tree.Change.{changed, is_possible}
use Rattle.odb_disk.specs.Tree.Write.{written}
use Rattle.odb_disk.specs.declared.ask.DiskAsk.{DiskAsk}
use Rattle.odb_disk.specs.declared.change.Change.{Change}
use Rattle.odb_disk.proofs.TreeLemmas.Changed.{IsTree-changed, after_change-tree, is_possible-tree_of}
use Rattle.odb_disk.proofs.WriteLaws.{tree_of-written}
use Rattle.odb_disk.proofs.AskedLaws.{IsTree-asked}
use Rattle.gix_odb_core.specs.History.{History}
use Rattle.gix_odb_history.specs.Cores.{cores_after}
use Rattle.gix_odb_calls.specs.declared.step.Outcome.{Outcome}
use Rattle.gix_odb_calls.specs.declared.step.Outcome.TheVariants as outcomes
use Rattle.gix_odb_calls.specs.declared.step.Step.{Step}
use Rattle.gix_odb_calls.specs.declared.step.Step.TheVariants as steps
use Rattle.gix_odb_calls.specs.declared.step.Why.{Why}
use Rattle.gix_odb_history.specs.Event.{Asked, OfNothing, OfDisk, OfCore, OfNewCore, Event}
use Rattle.gix_odb_world.specs.Status.{Running, Status, Free, Resting, Working, status_of, status_after}
use Rattle.gix_odb_world.specs.Headline.{IsTurn, Law, LeavesDisk, Suits, Turns}
use Rattle.gix_odb_world.specs.Changes.{ChangesAs, change_applied}
use Rattle.gix_odb_history.specs.Run.{NoCall, change_by, did_of_asked, disk_after, disk_after_change, disk_after_event, disk_after_asked, tree_at}
use Rattle.gix_odb_world.specs.Undisturbed.{IsOutside}
use Rattle.gix_odb_world.specs.Valid.{misuse_of, phase_of, why_not_after, why_not_running}
use Rattle.gix_odb_world.proofs.LawfulRun.{LawfulRun}
use Rattle.gix_odb_world.proofs.DiskTurns.{CallsDisk, IsQuiet, called_or_quiet}
use Rattle.gix_odb_history.specs.Turned.{is_done}
use Rattle.gix_odb_world.proofs.HistoryLemmas.{disk_after-push, status_of-push}
use Rattle.gix_odb_world.proofs.ValidLaws.{valid_if_sound}
pub use Rattle.gix_odb_world.proofs.RunSteps.Fronts.{event_or_end, front_of_front, length_take, none_beyond, take_next, take_none, there_in_front, there_in_whole}

-- ---- what an event is

-- a handle was turned, and made the call of the disk that its work names
pub record IsTurned (first : Volume) (past : List Event) (e : Event) : Type 0 where
  pub handle : ℕ
  pub running : Running
  pub turn : Turns past e handle running
  pub works : CallsDisk first past handle running e

-- another program made a change, which was possible
pub record IsMade (first : Volume) (past : List Event) (e : Event) : Type 0 where
  pub change : Change
  pub outside : IsOutside e
  pub makes : e.entry.change ≡ Some change
  pub did : NoCall e.entry.did
  pub leaves : LeavesDisk e.asked
  pub possible : is_possible (disk_after first past).state change ≡ true

-- Where neither happened, nothing changed and the disk wasn't called: a step of a handle may have asked for an event of a core.
pub data Kind (first : Volume) (past : List Event) (e : Event) : Type 0 where
  Turned : IsTurned first past e → Kind first past e
  Made : IsMade first past e → Kind first past e
  Quiet : IsQuiet e → Kind first past e

pub at_work : (status : Status) → None ≡ why_not_running (phase_of status) → (running : Running) × (status ≡ Working running)
at_work Free valid = absurd (cc)
at_work (Resting store modes) valid = absurd (cc)
at_work (Working running) valid = (running, refl)

possible_by : (b : Bool) (why : Why) → None ≡ (if b then None else Some why) → b ≡ true
possible_by true why valid = refl
possible_by false why valid = absurd (cc)

left_disk : (opened : Option Path) (cores : List History) (asked : Asked) → LeavesDisk asked → NoCall (did_of_asked opened cores asked)
left_disk opened cores OfNothing left = tt
left_disk opened cores (OfDisk ask answer) left = absurd left
left_disk opened cores (OfCore store seat event answer) left = tt
left_disk opened cores (OfNewCore slots folders store seat answer) left = tt

pub turn_step : (step : Step) → IsTurn step → (handle : ℕ) × (step ≡ steps.Turn handle)
turn_step (steps.Turn handle) turn = (handle, refl)
turn_step step turn = absurd turn

module _ (first : Volume) (past : List Event) (e : Event) (law : Law first past e) where
  no_call : LeavesDisk e.asked → NoCall e.entry.did
  no_call leaves = subst NoCall (sym law.did.1) (left_disk law.did.0 (cores_after past) e.asked leaves)

  turned : IsTurn e.step → is_done e.outcome ≡ true → None ≡ why_not_after first past e.step → Kind first past e
  turned is done valid =
      let t = turn_step e.step is in
      let a = at_work (status_of past t.0) (subst (λ s. None ≡ why_not_after first past s) t.1 valid) in
      let turn : Turns past e t.0 a.0 = record { turn = record { step = t.1; done = done }; status = a.1 } in
      elim (called_or_quiet first past t.0 a.0 e (law.worked t.0 a.0 turn)) [
        | inl calls ↦ Turned (record { handle = t.0; running = a.0; turn = turn; works = calls })
        | inr quiet ↦ Quiet quiet
      ]

  kind_applied : (step : Step) → e.step ≡ step → e.outcome ≡ outcomes.Applied → ¬ (IsTurn step) → LeavesDisk e.asked
      → e.entry.change ≡ change_applied step → None ≡ why_not_after first past step → Kind first past e
  kind_applied (steps.Turn handle) s o other leaves made valid = absurd (other tt)
  kind_applied (steps.Disk change) s o other leaves made valid =
      Made (record { change = change; outside = (change, s, o); makes = made; did = no_call leaves; leaves = leaves; possible = possible_by _ _ valid })
  kind_applied step s o other leaves made valid = Quiet (record { none = made; did = no_call leaves; leaves = leaves })

  kind_by : (outcome : Outcome) → e.outcome ≡ outcome → Suits e.step outcome e.asked → ChangesAs e.step outcome e.entry.change
      → (misuse_of outcome ≡ None → None ≡ why_not_after first past e.step) → Kind first past e
  kind_by outcomes.Applied o suits made valid = kind_applied e.step refl o suits.0 suits.1 made (valid refl)
  kind_by outcomes.Pending o suits made valid = turned suits.0 (ap is_done o) (valid refl)
  kind_by (outcomes.Reply reply) o suits made valid = turned suits (ap is_done o) (valid refl)
  kind_by (outcomes.Misuse why) o suits made valid = Quiet (record { none = made; did = no_call (subst LeavesDisk (sym suits) tt); leaves = subst LeavesDisk (sym suits) tt })

  pub kind_of : Kind first past e
  kind_of = kind_by e.outcome refl law.suits law.change (valid_if_sound first past e law)

-- ---- what it does to the tree

-- a tree was left as it was, or changed
abbrev pub IsLeft : (before after : Tree) → Option Change → Type 0
IsLeft before after None = after ≡ before
IsLeft before after (Some change) = after ≡ changed before change

module _ (first : Volume) (past : List Event) (e : Event) where
  abbrev pub disk : Volume
  disk = disk_after first past

  abbrev pub after : Tree
  after = tree_of (disk_after_event disk e).state

  -- where the disk wasn't called, only the record's change changes it
  by_change_alone : (asked : Asked) (change : Option Change) → LeavesDisk asked → disk_after_asked disk asked change ≡ disk_after_change disk change
  by_change_alone OfNothing change leaves = refl
  by_change_alone (OfDisk ask answer) change leaves = absurd leaves
  by_change_alone (OfCore store seat event answer) change leaves = refl
  by_change_alone (OfNewCore slots folders store seat answer) change leaves = refl

  after_by : (change : Option Change) → LeavesDisk e.asked → e.entry.change ≡ change → after ≡ tree_of (disk_after_change disk change).state
  after_by change leaves is =
      ap (λ (d : Volume). tree_of d.state) (by_change_alone e.asked e.entry.change leaves) ∙ ap (λ c. tree_of (disk_after_change disk c).state) is

  quietly : IsQuiet e → after ≡ tree_of disk.state
  quietly q = after_by None q.leaves q.none

  made_outside : (m : IsMade first past e) → after ≡ changed (tree_of disk.state) m.change
  unfolding after_outside_change
  made_outside m = after_by (Some m.change) m.leaves m.makes ∙ after_change-tree disk.state m.change

  left_by_turn : (change : Option Change) → after ≡ tree_of (written disk.state change) → IsLeft (tree_of disk.state) after change
  left_by_turn None is = is
  left_by_turn (Some change) is = is ∙ tree_of-written disk.state change

  pub turned_left : (t : IsTurned first past e) → IsLeft (tree_of disk.state) after e.entry.change
  turned_left t = left_by_turn e.entry.change (ap (λ asked. tree_of (disk_after_asked disk asked e.entry.change).state) t.works.told)

  pub left : Kind first past e → IsLeft (tree_of disk.state) after e.entry.change
  left (Turned t) = turned_left t
  left (Made m) = subst (IsLeft (tree_of disk.state) after) (sym m.makes) (made_outside m)
  left (Quiet q) = subst (IsLeft (tree_of disk.state) after) (sym q.none) (quietly q)

pub change_by_some : (disk : Volume) (ask : DiskAsk) (change : Change) → change_by disk ask ≡ Some change
    → change_of_ask (tree_of disk.state) ask ≡ Some change
change_by_some disk ask change is = by_failing (fails_now disk ask) is
  where
    by_failing : (fails : Bool) → (if fails then None else change_of_ask (tree_of disk.state) ask) ≡ Some change
        → change_of_ask (tree_of disk.state) ask ≡ Some change
    by_failing true e = absurd (cc e)
    by_failing false e = e

tree_after : (first : Volume) (past : List Event) (e : Event) → IsTree (tree_of (disk_after first past).state) → Kind first past e
    → IsTree (after first past e)
tree_after first past e is_tree (Quiet q) = subst IsTree (sym (quietly first past e q)) is_tree
tree_after first past e is_tree (Made m) =
    subst IsTree (sym (made_outside first past e m))
    (IsTree-changed (tree_of (disk_after first past).state) m.change is_tree (sym (is_possible-tree_of (disk_after first past).state m.change) ∙ m.possible))
tree_after first past e is_tree (Turned t) = by_change e.entry.change refl (turned_left first past e t)
  where
    by_change : (change : Option Change) → e.entry.change ≡ change → IsLeft (tree_of (disk_after first past).state) (after first past e) change
        → IsTree (after first past e)
    by_change None is left = subst IsTree (sym left) is_tree
    by_change (Some c) is left =
        subst IsTree (sym left) (IsTree-asked (tree_of (disk_after first past).state) is_tree t.works.ask c (change_by_some (disk_after first past) t.works.ask c (sym t.works.changed ∙ is)))

-- ---- along a run

module _ (run : LawfulRun) where
  open run use {first, events, start, lawful}

  pub kind_at : (place : ℕ) (e : Event) → slice_get events place ≡ Some e → Kind first (take place events) e
  kind_at place e there = kind_of first (take place events) e (lawful place e there)

  pub tree_next : (place : ℕ) (e : Event) → slice_get events place ≡ Some e → tree_at first events (place + 1) ≡ after first (take place events) e
  tree_next place e there =
      ap (λ es. tree_of (disk_after first es).state) (take_next events place e there) ∙ ap (λ (d : Volume). tree_of d.state) (disk_after-push first (take place events) e)

  -- the tree after an event, by its change
  pub left_at : (place : ℕ) (e : Event) → slice_get events place ≡ Some e
      → IsLeft (tree_at first events place) (tree_at first events (place + 1)) e.entry.change
  left_at place e there = subst (λ u. IsLeft (tree_at first events place) u e.entry.change) (sym (tree_next place e there)) (left first (take place events) e (kind_at place e there))

  pub status_next : (place : ℕ) (e : Event) → slice_get events place ≡ Some e
      → status_of (take (place + 1) events) ≡ status_after (place + 1) e.step e.outcome e.asked (status_of (take place events))
  status_next place e there =
      ap status_of (take_next events place e there) ∙ status_of-push (take place events) e
      ∙ ap (λ n. status_after (n + 1) e.step e.outcome e.asked (status_of (take place events))) (length_take events place e there)

  tree_zero : IsTree (tree_at first events 0)
  unfolding disk_after
  tree_zero = start

  pub is_tree_at : (place : ℕ) → IsTree (tree_at first events place)
  is_tree_at zero = tree_zero
  is_tree_at (suc place) = elim (event_or_end events place) [
    | inl at ↦
        let next : suc place ≡ place + 1 = omega arith in
        subst (λ n. IsTree (tree_at first events n)) (sym next)
        (subst IsTree (sym (tree_next place at.0 at.1)) (tree_after first (take place events) at.0 (is_tree_at place) (kind_at place at.0 at.1)))
    | inr over ↦ subst (λ es. IsTree (tree_of (disk_after first es).state)) (sym (take_none events place over)) (is_tree_at place)
  ]
