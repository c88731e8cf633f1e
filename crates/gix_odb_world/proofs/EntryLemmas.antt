-- The records of a lawful run name the entries of the journals of its cores.
use Rattle.std.proofs.Common.{◌≡◌, ℕ, zero, suc, ◌+◌, ◌≤◌, Bool, true, false, List, [], ◌∷◌, ◌++◌, length, map, min, Option, Some, None, refl, sym, ◌∙◌, ap, subst, arith, inl, inr}
use Rattle.std.specs.Prelude.{◌==◌, if◌then◌else◌, slice_get, unwrap_or}
use Rattle.std.specs.List.{cons_option, range_with_len}
use Rattle.std.proofs.lemmas.Bool.{eqb-true, eqb-false}
use Rattle.std.proofs.lemmas.List.{append-nil, length_push, map-append}
use Rattle.std.proofs.lemmas.List.Elements.{filter_map-append}
use Rattle.std.proofs.lemmas.List.FromFn.{length-map-range_with_len, map-range_with_len_more}
use Rattle.std.proofs.lemmas.Option.{slice_get_past}
use Rattle.odb_base.specs.Path.{Path}
use Rattle.odb_disk.specs.MemDisk.{Volume}
use Rattle.gix_odb_core.specs.History.{History, opened}
use Rattle.gix_odb_core.specs.Replay.{number_behind}
use Rattle.gix_odb_events.specs.View.{last_state}
use Rattle.gix_odb_events.specs.declared.event.Event.TheVariants as core_events
use Rattle.gix_odb_history.specs.declared.record.Did.{Did}
use Rattle.gix_odb_history.specs.declared.record.Record.{Record}
use Rattle.gix_odb_calls.specs.declared.step.Outcome.{Outcome}
use Rattle.gix_odb_calls.specs.declared.step.Outcome.TheVariants as outcomes
use Rattle.gix_odb_calls.specs.declared.step.Step.{Step}
use Rattle.gix_odb_calls.specs.declared.step.Step.TheVariants as steps
use Rattle.gix_odb_world.specs.Asks.{AsksAsTask, MayAskCore}
use Rattle.gix_odb_history.specs.Cores.{cores_after, cores_after_asked, entered, history_at}
use Rattle.gix_odb_history.specs.Entries.{TellsEachEntry, entries_told, entry_told}
use Rattle.gix_odb_history.specs.Event.{Asked, CoreAnswer, CoreEvent, Event, OfCore, OfDisk, OfNewCore, OfNothing}
use Rattle.gix_odb_events.specs.declared.answer.Ask.{Ask}
use Rattle.gix_odb_events.specs.declared.answer.Ask.TheVariants as parts
use Rattle.gix_odb_world.specs.Headline.{IsLawful, IsTurn, Law, Suits, asked_applied, asked_by_clone, asked_by_close, stand_of}
use Rattle.gix_odb_history.specs.Run.{did_of_asked, disk_after, told_now}
use Rattle.gix_odb_world.specs.Status.{Free, MakeCall, OpenStore, Resting, Running, Status, Task, Working, status_after, status_of}
use Rattle.gix_odb_world.specs.Valid.{misuse_of}
use Rattle.gix_odb_world.proofs.AlongRun.{along_run}
use Rattle.gix_odb_world.proofs.HistoryLemmas.{cores_after-push, slice_get-last}
use Rattle.gix_odb_world.proofs.RunSteps.{turn_step}
use Rattle.gix_odb_world.proofs.SeatLemmas.{nowhere_at_first, stands_by, worked}
use Rattle.gix_odb_world.proofs.SeatLemmas.Applied.{Stands, StandsAt}
use Rattle.gix_odb_world.proofs.SeatLemmas.Elsewhere.{history_at-push, history_at-set, slice_get-set_same}

-- ---- of which core an event is

-- an event of a core is one of a core that is there, and a new core has the next number
abbrev OfItsCore : List History → Asked → Type 0
OfItsCore cores OfNothing = Unit {0}
OfItsCore cores (OfDisk ask answer) = Unit {0}
OfItsCore cores (OfCore store seat event answer) = (history : History) × (slice_get cores store ≡ Some history)
OfItsCore cores (OfNewCore slots folders store seat answer) = store ≡ length cores

module _ (past : List Event) (e : Event) (before : (handle : ℕ) → Stands past handle (status_of past handle)) where
  abbrev cores : List History
  cores = cores_after past

  of_close : (number : ℕ) (status : Status) → Stands past number status → OfItsCore cores (asked_by_close cores number status)
  of_close number Free stands = tt
  of_close number (Resting store modes) stands = (stands.history, stands.there)
  of_close number (Working running) stands = tt

  of_clone : (number from : ℕ) (parent : Status) → Stands past from parent → OfItsCore cores (asked_by_clone cores number parent)
  of_clone number from Free stands = tt
  of_clone number from (Resting store modes) stands = (stands.history, stands.there)
  of_clone number from (Working running) stands = tt

  of_applied : (step : Step) → OfItsCore cores (asked_applied past step)
  of_applied (steps.Open number path folders hash replacements options) = tt
  of_applied (steps.Clone number from) = of_clone number from (status_of past from) (before from)
  of_applied (steps.Close number) = of_close number (status_of past number) (before number)
  of_applied (steps.Never number) = tt
  of_applied (steps.Ignore number) = tt
  of_applied (steps.Start number call) = tt
  of_applied (steps.Turn number) = tt
  of_applied (steps.Disk change) = tt

  module _ (first : Volume) (law : Law first past e) where
    -- a task that asks for an event of a core is seated there
    of_seat : (number : ℕ) (running : Running) (task : Task) (event : CoreEvent)
        → MayAskCore past number running.store running.modes running.begun task event → StandsAt cores number running.modes running.work task
        → (history : History) × (slice_get cores running.modes.core ≡ Some history)
    of_seat number running OpenStore event may stands = absurd may
    of_seat number running (MakeCall call) event may stands = (stands.history, stands.there)

    of_ask : (number : ℕ) (running : Running) → StandsAt cores number running.modes running.work running.task → (ask : Option Ask)
        → AsksAsTask first past number running.store running.modes running.begun running.turns running.task ask
        → OfItsCore cores (told_now (stand_of past number running) (disk_after first past) ask)
    of_ask number running stands None order = tt
    of_ask number running stands (Some (parts.Disk ask)) order = tt
    of_ask number running stands (Some (parts.Core event)) order = of_seat number running running.task event order stands
    of_ask number running stands (Some (parts.NewCore slots folders)) order = refl

    of_turn : IsTurn e.step → misuse_of e.outcome ≡ None → OfItsCore cores e.asked
    of_turn turn sound =
        let t = turn_step e.step turn in
        let w = worked past e before first law t.0 t.1 sound in
        subst (OfItsCore cores) (sym w.2.told) (of_ask t.0 w.0 (subst (Stands past t.0) w.1 (before t.0)) w.2.ask w.2.in_order)

    of_event : (outcome : Outcome) → e.outcome ≡ outcome → Suits e.step outcome e.asked → OfItsCore cores e.asked
    of_event outcomes.Applied out suits = subst (OfItsCore cores) (sym (law.applied out)) (of_applied e.step)
    of_event outcomes.Pending out suits = of_turn suits.0 (ap misuse_of out)
    of_event (outcomes.Reply reply) out suits = of_turn suits (ap misuse_of out)
    of_event (outcomes.Misuse why) out suits = subst (OfItsCore cores) (sym suits) tt

-- ---- one more event

-- the numbers of so many entries
abbrev number_at : ℕ → ℕ
number_at place = min (place + 1) last_state

abbrev numbers : ℕ → List ℕ
numbers count = map number_at (range_with_len 0 count)

abbrev records_of : List Event → List Record
records_of events = map (λ (e : Event). e.entry) events

abbrev Told : List History → List Record → (store : ℕ) → Type 0
Told cores records store = entries_told store records ≡ numbers (length (history_at cores store).entries)

module _ (cores : List History) (records : List Record) (store : ℕ) (told : Told cores records store) (record_of : Record) where
  abbrev records_then : List Record
  records_then = records ++ record_of ∷ []

  told_more : (o : Option ℕ) → entry_told store record_of.did ≡ o → entries_told store records_then ≡ entries_told store records ++ cons_option o []
  told_more o is =
      filter_map-append (λ (r : Record). entry_told store r.did) records (record_of ∷ [])
      ∙ ap (λ n. entries_told store records ++ cons_option n []) is

  -- none of this store
  told_none : (cores_then : List History) → entry_told store record_of.did ≡ None → history_at cores_then store ≡ history_at cores store → Told cores_then records_then store
  told_none cores_then none same =
      told_more None none ∙ (append-nil (entries_told store records) ∙ (told ∙ ap (λ (h : History). numbers (length h.entries)) (sym same)))

  -- the next one of this store
  told_next : (cores_then : List History) → entry_told store record_of.did ≡ Some (number_behind (history_at cores store).entries)
      → length (history_at cores_then store).entries ≡ length (history_at cores store).entries + 1 → Told cores_then records_then store
  told_next cores_then next more =
      let count : ℕ = length (history_at cores store).entries in
      told_more (Some (number_at count)) next
      ∙ (ap (λ xs. xs ++ number_at count ∷ []) told
      ∙ (sym (map-range_with_len_more number_at 0 count count (omega arith)) ∙ ap numbers (sym more)))

module _ (cores : List History) (records : List Record) (record_of : Record) (opened_with : Option Path) (place : ℕ) (told : Told cores records place) where
  abbrev Tells : Asked → Type 0
  Tells asked = record_of.did ≡ did_of_asked opened_with cores asked → OfItsCore cores asked → Told (cores_after_asked cores asked) (records ++ record_of ∷ []) place

  entry_by : (did : Did) → record_of.did ≡ did → entry_told place record_of.did ≡ entry_told place did
  entry_by did is = ap (entry_told place) is

  of_core : (store seat : ℕ) (event : CoreEvent) (answer : CoreAnswer) (same : Bool) → (store == place) ≡ same → Tells (OfCore store seat event answer)
  of_core store seat event answer true is did_is own =
      let here : store ≡ place = eqb-true store place is in
      let new : History = entered (history_at cores store) seat event answer in
      let now : List History = cores_after_asked cores (OfCore store seat event answer) in
      let at_store : history_at now store ≡ new = ap (λ o. unwrap_or o (opened 0 0 0 0)) (slice_get-set_same cores store new own.0 own.1) in
      let number : entry_told place record_of.did ≡ (if store == place then Some (number_behind (history_at cores store).entries) else None) = entry_by _ did_is in
      told_next cores records place told record_of now
      (number ∙ (ap (λ b. if b then Some (number_behind (history_at cores store).entries) else None) is ∙ ap (λ n. Some (number_behind (history_at cores n).entries)) here))
      (subst (λ n. length (history_at now n).entries ≡ length (history_at cores n).entries + 1) here
      (ap (λ (h : History). length h.entries) at_store ∙ length_push (history_at cores store).entries _))
  of_core store seat event answer false is did_is own =
      let now : List History = cores_after_asked cores (OfCore store seat event answer) in
      let number : entry_told place record_of.did ≡ (if store == place then Some (number_behind (history_at cores store).entries) else None) = entry_by _ did_is in
      told_none cores records place told record_of now
      (number ∙ ap (λ b. if b then Some (number_behind (history_at cores store).entries) else None) is)
      (elim (history_at-set cores store (entered (history_at cores store) seat event answer) place) [
        | inl old ↦ old
        | inr there ↦ absurd (eqb-false store place is (sym there.0))
      ])

  of_new_core : (slots folders store seat : ℕ) (answer : CoreAnswer) (same : Bool) → (store == place) ≡ same → Tells (OfNewCore slots folders store seat answer)
  of_new_core slots folders store seat answer true is did_is own =
      let here : place ≡ length cores = sym (eqb-true store place is) ∙ own in
      let new : History = entered (opened slots folders 0 0) seat (core_events.Register false) answer in
      let number : entry_told place record_of.did ≡ (if store == place then Some (number_behind []) else None) = entry_by _ did_is in
      let none : history_at cores place ≡ opened 0 0 0 0 = ap (λ o. unwrap_or o (opened 0 0 0 0)) (ap (slice_get cores) here ∙ slice_get_past cores (length cores) (omega arith)) in
      let now : history_at (cores ++ new ∷ []) place ≡ new =
      ap (λ o. unwrap_or o (opened 0 0 0 0)) (ap (slice_get (cores ++ new ∷ [])) here ∙ slice_get-last cores new) in
      told_next cores records place told record_of (cores ++ new ∷ [])
      (number ∙ (ap (λ b. if b then Some (number_behind []) else None) is ∙ ap (λ (h : History). Some (number_behind h.entries)) (sym none)))
      (ap (λ (h : History). length h.entries) now ∙ ap (λ (h : History). length h.entries + 1) (sym none))
  of_new_core slots folders store seat answer false is did_is own =
      let new : History = entered (opened slots folders 0 0) seat (core_events.Register false) answer in
      let number : entry_told place record_of.did ≡ (if store == place then Some (number_behind []) else None) = entry_by _ did_is in
      told_none cores records place told record_of (cores ++ new ∷ []) (number ∙ ap (λ b. if b then Some (number_behind []) else None) is)
      (elim (history_at-push cores new place) [
        | inl old ↦ old
        | inr there ↦ absurd (eqb-false store place is (own ∙ sym there.0))
      ])

  tells : (asked : Asked) → Tells asked
  tells OfNothing did_is own = told_none cores records place told record_of cores (entry_by _ did_is) refl
  tells (OfDisk ask answer) did_is own = told_none cores records place told record_of cores (entry_by _ did_is) refl
  tells (OfCore store seat event answer) did_is own = of_core store seat event answer (store == place) refl did_is own
  tells (OfNewCore slots folders store seat answer) did_is own = of_new_core slots folders store seat answer (store == place) refl did_is own

-- ---- along a run

abbrev ToldAfter : List Event → (store : ℕ) → Status → Type 0
ToldAfter events store status = Stands events store status × Told (cores_after events) (records_of events) store

told_at_first : (store : ℕ) → ToldAfter [] store Free
unfolding cores_after
told_at_first store = (nowhere_at_first store, refl)

told_over : (first : Volume) (past : List Event) (e : Event) → Law first past e → ((store : ℕ) → ToldAfter past store (status_of past store)) → (store : ℕ)
    → ToldAfter (past ++ e ∷ []) store (status_after (length past + 1) e.step e.outcome e.asked (status_of past) store)
told_over first past e law before store =
    let stands : (handle : ℕ) → Stands past handle (status_of past handle) = λ handle. (before handle).0 in
    let now = tells (cores_after past) (records_of past) e.entry law.did.0 store (before store).1 e.asked law.did.1 (of_event past e stands first law e.outcome refl law.suits) in (
      stands_by past e stands first law e.outcome refl law.suits store,
      subst (λ cs. Told cs (records_of (past ++ e ∷ [])) store) (sym (cores_after-push past e))
          (subst (λ rs. Told (cores_after_asked (cores_after past) e.asked) rs store) (sym (map-append (λ (x : Event). x.entry) past (e ∷ []))) now),
    )

told_now_so : (first : Volume) (events : List Event) → IsLawful first events → (store : ℕ) → Told (cores_after events) (records_of events) store
told_now_so first events lawful store = (along_run ToldAfter first events lawful told_at_first (told_over first) store).1

-- ---- the numbers from 1 on

counted : (from count : ℕ) → from + count ≤ last_state → map number_at (range_with_len from count) ≡ range_with_len (from + 1) count
counted from zero small = refl
counted from (suc count) small =
    let here : number_at from ≡ from + 1 = omega (arith, small) in
    let rest : map number_at (range_with_len (from + 1) count) ≡ range_with_len (from + 1 + 1) count = counted (from + 1) count (omega (arith, small)) in
    λ i. here i ∷ rest i

-- a list has at least as many items as it has entries of a store
length-told : (store : ℕ) (records : List Record) → length (entries_told store records) ≤ length records
length-told store [] = omega arith
length-told store (r ∷ records) = by (entry_told store r.did) (length-told store records)
  where
    by : (o : Option ℕ) → length (entries_told store records) ≤ length records → length (cons_option o (entries_told store records)) ≤ length (r ∷ records)
    by None less = omega (arith, less)
    by (Some entry) less = omega (arith, less)

pub each_entry_told : (first : Volume) (events : List Event) (records : List Record) → IsLawful first events → map (λ e. e.entry) events ≡ records → length records ≤ last_state
    → TellsEachEntry (cores_after events) records
each_entry_told first events records lawful are few store =
    let count : ℕ = length (history_at (cores_after events) store).entries in
    let told : entries_told store records ≡ numbers count = ap (entries_told store) (sym are) ∙ told_now_so first events lawful store in
    let long : length (entries_told store records) ≡ count = ap length told ∙ length-map-range_with_len number_at 0 count in
    let less = length-told store records in
    told ∙ counted 0 count (omega (arith, few, long, less))
