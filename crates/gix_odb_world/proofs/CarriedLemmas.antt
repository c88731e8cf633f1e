-- The code of a turn carries out what the work asks for, a call of the disk, an event of a core, or a core for its store; and its handle is
-- fed the answer.
use Rattle.std.proofs.Common.{◌≡◌, ℕ, ◌<◌, ◌≤◌, List, [], length, Option, Some, None, Result, Ok, Err, refl, sym, ap, ◌∙◌, subst}
use Rattle.std.specs.Prelude.{IfOk, IsSome, OnOk}
use Rattle.odb_base.specs.Path.{Path}
use Rattle.odb_base.specs.declared.no_memory.NoMemory.{NoMemory}
use Rattle.odb_disk.specs.MemDisk.{Volume}
use Rattle.odb_disk.specs.Ask.{after_ask, answer_now}
use Rattle.odb_disk.specs.declared.ask.DiskAsk.{DiskAsk}
use Rattle.gix_odb_calls.specs.declared.call.Reply.TheVariants as replies
use Rattle.gix_odb.proofs.AskLaws.{calls_have_no_core_made}
use Rattle.gix_odb.specs.declared.open_state.OpenStage.TheVariants as opens
use Rattle.gix_odb_core.specs.History.{History, present}
use Rattle.gix_odb_core.specs.Replay.{CanHappen, number_behind}
use Rattle.gix_odb_events.specs.PackId.{most_slots}
use Rattle.gix_odb_events.specs.Answers.{view_in}
use Rattle.gix_odb_events.specs.declared.answer.Answer.TheVariants as told
use Rattle.gix_odb_events.specs.declared.answer.Ask.{Ask}
use Rattle.gix_odb_events.specs.declared.answer.Ask.TheVariants as asks
use Rattle.gix_odb_world.proofs.CoreLaws.{core_answers_suit_their_events}
use Rattle.gix_odb_history.proofs.WriteAsk.Quiet.{after_ask-change}
use Rattle.gix_odb_history.specs.Cores.{answer_behind, cores_after_asked, history_at, or_before, registered_at}
use Rattle.gix_odb_history.specs.Event.{Asked, CoreAnswer, CoreEvent, OfCore, OfDisk, OfNewCore, OfNothing, answered}
use Rattle.gix_odb_history.specs.Made.{first_answer}
use Rattle.gix_odb_history.specs.Run.{Stand, stand, told_now}
use Rattle.gix_odb_history.specs.declared.record.Did.TheVariants as dids
use Rattle.gix_odb_world.specs.Handle.{HandleParts, seen, seen_at}
use Rattle.gix_odb_world.specs.declared.handle.Handle.{Handle}
use Rattle.gix_odb_world.specs.declared.handle.HandleAt.{HandleAt}
use Rattle.gix_odb_world.specs.declared.handle.HandleAt.TheVariants as stands
use Rattle.gix_odb_world.specs.Table.{CanHappenAt, CarriesOut, IsTold, IsToldTo, TellsCore, did_now, new_core, opened_by, state_after, state_told, work_told}
use Rattle.gix_odb_world.specs.Work.{Work, Opening, Calling}
use Rattle.gix_odb_world.specs.WorkOrder.{ask_on, fed_after, fed_on}
use Rattle.gix_odb_world.specs.declared.turn.Carried.{Carried}
use Rattle.gix_odb_world.specs.declared.turn.Told.{Told}
use Rattle.gix_odb_world.specs.declared.turn.Told.TheVariants as tells

-- ---- what a handle is fed is what was asked and answered

-- a core that was made for it
told_core : (state : HandleParts) (store slots : ℕ) (answer : CoreAnswer) (own : Told) → TellsCore store slots answer own
    → record state { core = store; view = or_before (view_in answer) state.view } ≡ state_told state own
told_core state store slots answer tells.Nothing is = absurd is
told_core state store slots answer (tells.Answer other) is = absurd is
told_core state store slots answer (tells.Core number own view) is =
    ap (λ v. record state { core = store; view = or_before v state.view }) is.2 ∙ ap (λ n. record state { core = n; view = Some view }) (sym is.0)

-- the handle has what it is fed
pub told_state : (state : HandleParts) (asked : Asked) (own : Told) → IsTold asked own → state_after asked state ≡ state_told state own
told_state state OfNothing own is = sym (ap (state_told state) is)
told_state state (OfDisk ask answer) own is = sym (ap (state_told state) is)
told_state state (OfCore store seat event answer) own is = sym (ap (state_told state) is)
told_state state (OfNewCore slots folders store seat answer) own is = told_core state store slots answer own is

-- only an opening has a core made, which opens its store
opened_by_core : (state : HandleParts) (work : Work) (slots folders store : ℕ) (answer : CoreAnswer) → ask_on state work ≡ Some (asks.NewCore slots folders)
    → (own : Told) → TellsCore store slots answer own → fed_on state work (told.Core answer) ≡ work_told state work own
opened_by_core state work slots folders store answer is tells.Nothing here = absurd here
opened_by_core state work slots folders store answer is (tells.Answer other) here = absurd here
opened_by_core state (Calling stage) slots folders store answer is (tells.Core number own view) here = absurd (calls_have_no_core_made stage slots folders is)
opened_by_core state (Opening opens.Looking) slots folders store answer is (tells.Core number own view) here = absurd (cc is)
opened_by_core state (Opening (opens.Listing lister percent minimum)) slots folders store answer is (tells.Core number own view) here = absurd (cc is)
opened_by_core state (Opening (opens.Done reply)) slots folders store answer is (tells.Core number own view) here = absurd (cc is)
opened_by_core state (Opening (opens.Registering given)) slots folders store answer is (tells.Core number own view) here =
    let same : given ≡ slots = cc is in ap (λ n. Opening (opens.Done (replies.Opened n))) (same ∙ sym here.1)

-- and its work goes on with it
pub told_work : (place : Stand) (disk : Volume) (state : HandleParts) (work : Work) (ask : Option Ask) → ask_on state work ≡ ask → (own : Told)
    → IsTold (told_now place disk ask) own → fed_after state work (answered (told_now place disk ask)) ≡ work_told state work own
told_work place disk state work None asked own is = sym (ap (work_told state work) is)
told_work place disk state work (Some (asks.Disk ask)) asked own is = sym (ap (work_told state work) is)
told_work place disk state work (Some (asks.Core event)) asked own is = sym (ap (work_told state work) is)
told_work place disk state work (Some (asks.NewCore slots folders)) asked own is = opened_by_core state work slots folders _ _ asked own is

-- ---- it is carried out

suits_core : (number slots folders : ℕ) (answer : CoreAnswer) (own : Told) → TellsCore number slots answer own → IsToldTo (Some (asks.NewCore slots folders)) own
suits_core number slots folders answer tells.Nothing is = absurd is
suits_core number slots folders answer (tells.Answer other) is = absurd is
suits_core number slots folders answer (tells.Core own given view) is = is.1

-- the number of the core that a handle of the code has
core_at : (core : ℕ) (at : HandleAt) → (seen_at core at).state.core ≡ core
core_at core (stands.Opening opening) = refl
core_at core (stands.Resting state) = refl
core_at core (stands.Calling call) = refl

pub core_of : (handle : Handle) → (seen handle).state.core ≡ handle.core
core_of handle = core_at handle.core handle.at

-- an event of its core can happen there
pub can_at : (cores : List History) (seat : ℕ) (handle : Handle) (ask : Option Ask) (event : CoreEvent) → ask ≡ Some (asks.Core event)
    → CanHappenAt cores seat (seen handle).state ask
    → (handle.core < length cores) × CanHappen (present (history_at cores handle.core)) seat event × IsSome (registered_at cores handle.core seat)
can_at cores seat handle ask event is can =
    subst (λ core. (core < length cores) × CanHappen (present (history_at cores core)) seat event × IsSome (registered_at cores core seat)) (core_of handle)
    (subst (CanHappenAt cores seat (seen handle).state) is can)

-- and a core with so many slots can be made
pub few_at : (cores : List History) (seat : ℕ) (handle : Handle) (ask : Option Ask) (slots folders : ℕ) → ask ≡ Some (asks.NewCore slots folders)
    → CanHappenAt cores seat (seen handle).state ask → slots ≤ most_slots
few_at cores seat handle ask slots folders is can = subst (CanHappenAt cores seat (seen handle).state) is can

-- what a handle is fed about the core that it has
pub carried_by : (disk disk_then : Volume) (cores cores_then : List History) (seat : ℕ) (handle : Handle) (opened : Option Path) (ask own : Option Ask) (result : Result Carried NoMemory)
    → opened ≡ opened_by (seen handle).work → ask ≡ own
    → IfOk result (CarriesOut disk disk_then cores cores_then opened own (told_now (stand cores handle.core seat) disk own))
    → IfOk result (CarriesOut disk disk_then cores cores_then (opened_by (seen handle).work) ask (told_now (stand cores (seen handle).state.core seat) disk ask))
carried_by disk disk_then cores cores_then seat handle opened ask own result path is carried =
    subst (λ o. IfOk result (CarriesOut disk disk_then cores cores_then o ask (told_now (stand cores (seen handle).state.core seat) disk ask))) path
    (subst (λ a. IfOk result (CarriesOut disk disk_then cores cores_then opened a (told_now (stand cores (seen handle).state.core seat) disk a))) (sym is)
    (subst (λ core. IfOk result (CarriesOut disk disk_then cores cores_then opened own (told_now (stand cores core seat) disk own))) (sym (core_of handle)) carried))

module _ (disk : Volume) (cores : List History) (opened : Option Path) (core seat : ℕ) where
  -- the ask was carried out, at the core that has this number
  abbrev pub IsCarriedOut : Volume → List History → Option Ask → Carried → Type 0
  IsCarriedOut disk_then cores_then ask done = CarriesOut disk disk_then cores cores_then opened ask (told_now (stand cores core seat) disk ask) done

  pub carries_nothing : IsCarriedOut disk cores None (record { did = dids.Nothing; told = tells.Nothing })
  carries_nothing = record { did = refl; told_is = refl; suits = refl; disk_is = refl; cores_are = refl }

  -- a call of the disk
  pub carries_call : (ask : DiskAsk) (disk_then : Volume) (result : Result Carried NoMemory)
      → IfOk result (λ done. done.did ≡ did_now opened disk ask) → IfOk result (λ done. done.told ≡ tells.Answer (told.Disk (answer_now disk ask)))
      → OnOk result (disk_then ≡ after_ask disk ask) → IfOk result (IsCarriedOut disk_then cores (Some (asks.Disk ask)))
  carries_call ask disk_then (Ok done) did_is told_is disk_is = record {
    did = did_is;
    told_is = told_is;
    suits = subst (IsToldTo (Some (asks.Disk ask))) (sym told_is) tt;
    disk_is = disk_is ∙ after_ask-change disk ask;
    cores_are = refl;
  }
  carries_call ask disk_then (Err error) did_is told_is disk_is = tt

  -- an event of a core
  pub carries_event : (event : CoreEvent) (cores_then : List History) (result : Result Carried NoMemory)
      → IfOk result (λ done. done.did ≡ dids.Core core (number_behind (history_at cores core).entries))
      → IfOk result (λ done. done.told ≡ tells.Answer (told.Core (answer_behind (history_at cores core) seat event)))
      → OnOk result (cores_then ≡ cores_after_asked cores (OfCore core seat event (answer_behind (history_at cores core) seat event)))
      → IfOk result (IsCarriedOut disk cores_then (Some (asks.Core event)))
  carries_event event cores_then (Ok done) did_is told_is cores_are = record {
    did = did_is;
    told_is = told_is;
    suits = subst (IsToldTo (Some (asks.Core event))) (sym told_is)
        (core_answers_suit_their_events (history_at cores core).opening (history_at cores core).entries seat event (answer_behind (history_at cores core) seat event) refl);
    disk_is = refl;
    cores_are = cores_are;
  }
  carries_event event cores_then (Err error) did_is told_is cores_are = tt

  -- a core
  pub carries_core : (slots folders : ℕ) (cores_then : List History) (result : Result Carried NoMemory)
      → IfOk result (λ done. done.did ≡ dids.Core (length cores) (number_behind []))
      → IfOk result (λ done. TellsCore (length cores) slots (first_answer slots folders seat) done.told)
      → OnOk result (cores_then ≡ cores_after_asked cores (new_core cores slots folders seat))
      → IfOk result (IsCarriedOut disk cores_then (Some (asks.NewCore slots folders)))
  carries_core slots folders cores_then (Ok done) did_is told_is cores_are = record {
    did = did_is;
    told_is = told_is;
    suits = suits_core (length cores) slots folders (first_answer slots folders seat) done.told told_is;
    disk_is = refl;
    cores_are = cores_are;
  }
  carries_core slots folders cores_then (Err error) did_is told_is cores_are = tt
