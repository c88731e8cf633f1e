-- Pending turns of a handle, one after another: they leave it at its task, each with one more turn, and are fewer than the task's bound.
use Rattle.std.proofs.Common.{◌≡◌, ℕ, zero, suc, ◌+◌, ◌<◌, ◌≤◌, List, [], ◌∷◌, ◌++◌, length, take, Option, Some, None, refl, sym, ap, ◌∙◌, subst, arith}
use Rattle.std.specs.Prelude.{slice_get}
use Rattle.odb_disk.specs.MemDisk.{Volume}
use Rattle.odb_disk.specs.Tree.{Tree, tree_of}
use Rattle.odb_disk.specs.Tree.Follow.{listed}
use Rattle.gix_odb_calls.specs.declared.call.Call.{Call}
use Rattle.gix_odb.specs.Contents.{folder_list}
use Rattle.gix_odb_calls.specs.declared.store_parts.StoreParts.{StoreParts}
use Rattle.gix_odb_history.specs.Event.{Asked, Event}
use Rattle.gix_odb_events.specs.declared.answer.Ask.{Ask}
use Rattle.gix_odb_events.specs.declared.answer.Ask.TheVariants as work_asks
use Rattle.gix_odb_history.specs.Run.{Stand, disk_after, told_now, tree_at}
use Rattle.gix_odb_history.specs.Turned.{is_done}
use Rattle.gix_odb_world.specs.Asks.{AsksAsTask}
use Rattle.gix_odb_world.specs.AtWork.{MakeCall, Modes, OpenStore, Running, Store, Task, modes_after}
use Rattle.gix_odb_world.specs.Bound.{HasAtMost, bound_of_task, bytes_to_write, turn_bound}
use Rattle.gix_odb_world.specs.Headline.{IsLawful, Law, Turns, Works, stand_of}
use Rattle.gix_odb_world.specs.Status.{Working, gone_on, status_of}
use Rattle.gix_odb_world.specs.Valid.{misuse_of}
use Rattle.gix_odb_world.proofs.RunSteps.Fronts.{front_of_front, length_take, take_next}
use Rattle.gix_odb_world.specs.RunLaws.Pending.{AreInTime, ArePending, IsPendingTurn}
use Rattle.gix_odb_world.proofs.RunLaws.TurnsAtWork.{IsLeftBy, left_by_turn, turn_at_work}

-- ---- what a turn leaves of the bound

-- an ask leaves the number of slots, unless it is for a new core
slots_kept : (at : Stand) (disk : Volume) (ask : Option Ask) (modes : Modes) → ((slots folders : ℕ) → ¬ (ask ≡ Some (work_asks.NewCore slots folders)))
    → (modes_after (told_now at disk ask) modes).slots ≡ modes.slots
slots_kept at disk None modes never = refl
slots_kept at disk (Some (work_asks.Disk ask)) modes never = refl
slots_kept at disk (Some (work_asks.Core event)) modes never = refl
slots_kept at disk (Some (work_asks.NewCore slots folders)) modes never = absurd (never slots folders refl)

-- a call asks for none
no_new_core : (first : Volume) (past : List Event) (handle : ℕ) (store : Store) (modes : Modes) (begun turns : ℕ) (task : Task) (ask : Option Ask)
    → AsksAsTask first past handle store modes begun turns task ask → (call : Call) → task ≡ MakeCall call → (slots folders : ℕ) → ¬ (ask ≡ Some (work_asks.NewCore slots folders))
no_new_core first past handle store modes begun turns task ask asks call calls slots folders new =
    subst (λ (t : Task). AsksAsTask first past handle store modes begun turns t (Some (work_asks.NewCore slots folders))) calls
    (subst (AsksAsTask first past handle store modes begun turns task) new asks)

-- the bound of a call depends on the slots, and that of an opening doesn't
bound_kept : (store : Store) (modes next : Modes) (task : Task) (entries : ℕ) → ((call : Call) → task ≡ MakeCall call → next.slots ≡ modes.slots)
    → bound_of_task store next task entries ≡ bound_of_task store modes task entries
bound_kept store modes next OpenStore entries slots = refl
bound_kept store modes next (MakeCall call) entries slots =
    ap (λ (n : ℕ). turn_bound n (length (folder_list store.parts)) store.max_changes entries (bytes_to_write call)) (slots call refl)

-- ---- a handle at its task

-- a handle has taken so many more turns for its task
pub record GoesOn (before after : Running) (count : ℕ) : Type 0 where
  pub store : after.store ≡ before.store
  pub begun : after.begun ≡ before.begun
  pub turns : after.turns ≡ before.turns + count
  pub bound : (entries : ℕ) → bound_of_task after.store after.modes after.task entries ≡ bound_of_task before.store before.modes before.task entries

goes_none : (running : Running) → GoesOn running running 0
goes_none running = record { store = refl; begun = refl; turns = omega arith; bound = λ entries. refl }

more_turns : (a b c k : ℕ) → b ≡ a + k → c ≡ b + 1 → c ≡ a + suc k
more_turns a b c k one two = omega (arith, one, two)

goes_more : (before between after : Running) (count : ℕ) → GoesOn before between count → GoesOn between after 1 → GoesOn before after (suc count)
goes_more before between after count one two = record {
  store = two.store ∙ one.store;
  begun = two.begun ∙ one.begun;
  turns = more_turns before.turns between.turns after.turns count one.turns two.turns;
  bound = λ entries. two.bound entries ∙ one.bound entries;
}

module _ (first : Volume) (past : List Event) (e : Event) (law : Law first past e) (handle : ℕ) (running : Running) (turns : Turns past e handle running) where
  works : Works first past handle running e
  works = law.worked handle running turns

  same_slots : (call : Call) → running.task ≡ MakeCall call → (modes_after e.asked running.modes).slots ≡ running.modes.slots
  same_slots call calls =
      ap (λ (asked : Asked). (modes_after asked running.modes).slots) works.told
      ∙ slots_kept (stand_of past handle running) (disk_after first past) works.ask running.modes
      (no_new_core first past handle running.store running.modes running.begun running.turns running.task works.ask works.in_order call calls)

  turn_goes_on : (left : IsLeftBy past e handle running) → GoesOn running (gone_on e.asked running left.left) 1
  turn_goes_on left = record {
    store = refl;
    begun = refl;
    turns = refl;
    bound = λ entries. bound_kept running.store running.modes (modes_after e.asked running.modes) running.task entries same_slots;
  }

-- ---- entries of folders

-- no folder had more entries in the prefix of a run that ends with an event than it had in the run
most_in_front : (first : Volume) (events : List Event) (place : ℕ) (e : Event) → slice_get events place ≡ Some e → (parts : StoreParts) (begun now entries : ℕ)
    → place + 1 ≤ now → HasAtMost (tree_at first events) parts begun now entries
    → HasAtMost (tree_at first (take place events ++ e ∷ [])) parts begun (length (take place events) + 1) entries
most_in_front first events place e there parts begun now entries within most moment from to folder names among is =
    let long : length (take place events) ≡ place = length_take events place e there in
    let early : moment ≤ place + 1 = omega (arith, to, long) in
    let front : take place events ++ e ∷ [] ≡ take (place + 1) events = sym (take_next events place e there) in
    let same : tree_at first (take place events ++ e ∷ []) moment ≡ tree_at first events moment =
    ap (λ (es : List Event). tree_at first es moment) front
    ∙ ap (λ (es : List Event). tree_of (disk_after first es).state) (front_of_front events moment (place + 1) early) in
    most moment from (omega (arith, early, within)) folder names among (sym (ap (λ (tree : Tree). listed tree folder) same) ∙ is)

-- ---- one turn after another

one_less : (n : ℕ) → 0 < n → (k : ℕ) × (suc k ≡ n)
one_less zero some = absurd (omega (arith, some))
one_less (suc k) some = (k, refl)

below_bound : (before after k count bound same : ℕ) → after + 1 < bound → bound ≡ same → after ≡ before + k → suc k ≡ count → before + count < same
below_bound before after k count bound same less is turns counts = omega (arith, less, is, turns, counts)

module _ (first : Volume) (events : List Event) (lawful : IsLawful first events) (handle from count : ℕ) (pending : ArePending events handle from count) where
  -- the handle after so many of the turns
  record StandsBehind (running : Running) (k : ℕ) : Type 0 where
    after : Running
    status : status_of (take (from + k) events) handle ≡ Working after
    goes : GoesOn running after k

  turn_at : (k : ℕ) → k < count → IsPendingTurn events handle (from + k)
  turn_at k within = pending (from + k) (omega arith) (omega (arith, within))

  turns_at : (k : ℕ) (within : k < count) (running : Running) → status_of (take (from + k) events) handle ≡ Working running
      → Turns (take (from + k) events) (turn_at k within).event handle running
  turns_at k within running status = record { turn = record { step = (turn_at k within).step; done = ap is_done (turn_at k within).pending }; status = status }

  next : (running : Running) (k : ℕ) (within : k < count) → StandsBehind running k → StandsBehind running (suc k)
  next running k within before =
      let at : IsPendingTurn events handle (from + k) = turn_at k within in
      let past : List Event = take (from + k) events in
      let law : Law first past at.event = lawful (from + k) at.event at.there in
      let turns : Turns past at.event handle before.after = turns_at k within before.after before.status in
      let left : IsLeftBy past at.event handle before.after = left_by_turn first past at.event law handle before.after turns at.pending in
      let later : from + k + 1 ≡ from + suc k = omega arith in
      record {
        after = gone_on at.event.asked before.after left.left;
        status =
            ap (λ (n : ℕ). status_of (take n events) handle) (sym later)
            ∙ ap (λ (es : List Event). status_of es handle) (take_next events (from + k) at.event at.there)
            ∙ left.status;
        goes = goes_more running before.after (gone_on at.event.asked before.after left.left) k before.goes (turn_goes_on first past at.event law handle before.after turns left);
      }

  stands_behind : (running : Running) → status_of (take from events) handle ≡ Working running → (k : ℕ) → k ≤ count → StandsBehind running k
  stands_behind running status zero within =
      let here : from + zero ≡ from = omega arith in
      record { after = running; status = ap (λ (n : ℕ). status_of (take n events) handle) here ∙ status; goes = goes_none running }
  stands_behind running status (suc k) within = next running k (omega (arith, within)) (stands_behind running status k (omega (arith, within)))

  few : (running : Running) → status_of (take from events) handle ≡ Working running → (k : ℕ) → suc k ≡ count → (entries : ℕ)
      → HasAtMost (tree_at first events) running.store.parts running.begun (from + count) entries
      → running.turns + count < bound_of_task running.store running.modes running.task entries
  few running status k is entries most =
      let within : k < count = omega (arith, is) in
      let behind : StandsBehind running k = stands_behind running status k (omega (arith, is)) in
      let goes : GoesOn running behind.after k = behind.goes in
      let at : IsPendingTurn events handle (from + k) = turn_at k within in
      let past : List Event = take (from + k) events in
      let law : Law first past at.event = lawful (from + k) at.event at.there in
      let turns : Turns past at.event handle behind.after = turns_at k within behind.after behind.status in
      let here : HasAtMost (tree_at first events) behind.after.store.parts behind.after.begun (from + count) entries =
      subst (λ (s : Store). HasAtMost (tree_at first events) s.parts behind.after.begun (from + count) entries) (sym goes.store)
      (subst (λ (b : ℕ). HasAtMost (tree_at first events) running.store.parts b (from + count) entries) (sym goes.begun) most) in
      below_bound running.turns behind.after.turns k count (bound_of_task behind.after.store behind.after.modes behind.after.task entries)
      (bound_of_task running.store running.modes running.task entries)
      (law.in_time handle behind.after behind.after.task entries turns (law.worked handle behind.after turns).begins at.pending
      (most_in_front first events (from + k) at.event at.there behind.after.store.parts behind.after.begun (from + count) entries (omega (arith, is)) here))
      (goes.bound entries) goes.turns is

  -- the turns are fewer than the bound of the task that the handle was at
  pub in_time : 0 < count → AreInTime first events handle from count
  in_time some =
      let at : IsPendingTurn events handle from = pending from (omega arith) (omega (arith, some)) in
      let law : Law first (take from events) at.event = lawful from at.event at.there in
      let working = turn_at_work first (take from events) at.event law handle at.step (ap misuse_of at.pending) (ap is_done at.pending) in
      let less = one_less count some in
      record {
        running = working.0;
        status = working.1.status;
        begins = (law.worked handle working.0 working.1).begins;
        few = few working.0 working.1.status less.0 less.1;
      }
