-- A turn of an opening: what it asks for, and how it ends.
use Rattle.std.proofs.Common.{◌≡◌, inl, ℕ, ◌+◌, ◌*◌, ◌<◌, ◌≤◌, Bool, true, false, cond, List, [], ◌∷◌, ◌++◌, length, Some, None, refl, sym, ◌∙◌, ap, subst, arith}
use Rattle.std.specs.List.{IsDistinct}
use Rattle.std.proofs.lemmas.List.{length_push}
use Rattle.odb_base.specs.Path.{Path}
use Rattle.odb_disk.specs.Tree.{tree_of}
use Rattle.odb_disk.specs.declared.disk_error.DiskError.TheVariants as disk_errors
use Rattle.odb_disk.specs.Ask.{answer_now, answer_of, fails_now}
use Rattle.odb_disk.specs.MemDisk.{Volume}
use Rattle.odb_disk.specs.declared.ask.DiskAnswer.{DiskAnswer}
use Rattle.odb_disk.specs.declared.ask.DiskAnswer.TheVariants as answers
use Rattle.odb_disk.specs.declared.ask.DiskAsk.{DiskAsk}
use Rattle.odb_disk.specs.declared.ask.DiskAsk.TheVariants as asks
use Rattle.gix_odb_core.specs.History.{opened}
use Rattle.gix_odb_events.specs.declared.event.Event.TheVariants as core_events
use Rattle.gix_odb_events.specs.PackFiles.{same_path}
use Rattle.gix_odb_search.specs.ListOrder as lists
use Rattle.gix_odb_events.specs.declared.answer.Answer.TheVariants as told
use Rattle.gix_odb_events.specs.declared.answer.Ask.TheVariants as parts
use Rattle.gix_odb_search.specs.declared.lister.Lister.{Lister}
use Rattle.gix_odb_calls.specs.declared.call.CallError.TheVariants as call_errors
use Rattle.gix_odb_calls.specs.declared.call.Reply.{Reply}
use Rattle.gix_odb_calls.specs.declared.call.Reply.TheVariants as replies
use Rattle.gix_odb_calls.specs.declared.init.Error as opening_error
use Rattle.gix_odb_calls.specs.declared.init.Error.TheVariants as opening_errors
use Rattle.gix_odb_calls.specs.declared.init.Slots.{Slots}
use Rattle.gix_odb.specs.LookExchanges.{Exchange}
use Rattle.gix_odb.specs.LookUpOrder.{Setting}
use Rattle.gix_odb.proofs.HandedLaws.{IsOwnStream}
use Rattle.gix_odb.specs.Asked.{AreSuited}
use Rattle.gix_odb.proofs.AskedLemmas.{asked-push, behind-push}
use Rattle.gix_odb.specs.Contents.{folder_list}
use Rattle.gix_odb.specs.OpenExchanges.{AreAsked, IsCaused, IsNumber, asks_of, behind, fed_by}
use Rattle.gix_odb.specs.OpenOrder as openings
use Rattle.gix_odb.specs.declared.open_state.OpenStage.{OpenStage}
use Rattle.gix_odb.specs.declared.open_state.OpenStage.TheVariants as opens
use Rattle.gix_odb.proofs.OpenLaws.{an_opening_takes_at_most_a_lap, openings_change_no_file, openings_register_few_slots, openings_register_their_number}
use Rattle.gix_odb.proofs.OpenLaws.{refused_openings_have_causes, streams_of_openings_are_their_own}
use Rattle.gix_odb_world.specs.AtWork.{OpenStore, Running, Store, setting_in}
use Rattle.gix_odb.specs.Laps.{turns_of_lap}
use Rattle.gix_odb_world.specs.Bound.{HasAtMost, laps_without_change}
use Rattle.gix_odb_world.specs.Causes.{Sometime, ShowsDirectory}
use Rattle.gix_odb_history.specs.Cores.{answer_behind, cores_after}
use Rattle.gix_odb_history.specs.Event.{Event, OfDisk}
use Rattle.gix_odb_world.specs.Promise.{MadeCore, OpeningPromise, Promise}
use Rattle.gix_odb_history.specs.Run.{FailedSince, change_by, disk_after, tree_at}
use Rattle.gix_odb_world.specs.Running.Answered.{IsAnsweredWell}
use Rattle.gix_odb_world.specs.Running.Listed.{AreGiven}
use Rattle.gix_odb_world.specs.Running.Opening.{IsOpening, opening}
use Rattle.gix_odb_world.specs.Told.{opening_now, told_since}
use Rattle.gix_odb_world.proofs.AnsweredLemmas.{answered_on_disk, told_call}
use Rattle.gix_odb_world.proofs.BegunLemmas.{stems_now}
use Rattle.gix_odb_world.proofs.BegunLemmas.OneEvent.{Stems}
use Rattle.gix_odb_world.proofs.CountedFiles.{number_is_counted}
use Rattle.gix_odb_world.proofs.CountedFiles.OneTurn.{given_as_before, given_on_disk}
use Rattle.gix_odb_world.proofs.HistoryLemmas.{tree_at-before}
use Rattle.gix_odb_world.proofs.MachineLaws.{HasTurn, IsRunning, IsTurnAsking, MachineComes, quiet_turn}
use Rattle.gix_odb_world.proofs.OpenFacts.{openable}
use Rattle.gix_odb_world.proofs.OpeningMachine.Look.{Looks, listing_keeps, look_keeps}
use Rattle.gix_odb_world.proofs.QuietTurn.{failed_now, shown_now}
use Rattle.gix_odb_world.proofs.ToldLemmas.{told_none}
use Rattle.gix_odb_history.proofs.WriteAsk.Quiet.{change_by-quiet}
use Rattle.gix_odb.specs.Store.{listed_for}

-- what held at some moment before an event held before and with it
pub shown_before : (first : Volume) (events : List Event) (e : Event) (begun : ℕ) (objects : Path)
    → Sometime begun (length events) (λ moment. ShowsDirectory (tree_at first events moment) objects)
    → Sometime begun (length (events ++ e ∷ [])) (λ moment. ShowsDirectory (tree_at first (events ++ e ∷ []) moment) objects)
shown_before first events e begun objects was =
    let whole : length (events ++ e ∷ []) ≡ length events + 1 = length_push events e in
    let to = was.to in
    record {
      moment = was.moment;
      from = was.from;
      to = omega (arith, to, whole);
      was = subst (λ tree. ShowsDirectory tree objects) (sym (tree_at-before first events e was.moment was.to)) was.was;
    }

-- a lap has room for the turns of an opening
within_laps : (turns lap : ℕ) → turns + 2 ≤ lap → turns + 1 < (0 + laps_without_change) * lap + 0
within_laps turns lap few = omega arith

module _ (first : Volume) (events : List Event) (handle : ℕ) (running : Running) (state : OpenStage) (knows : IsOpening first events handle running state) where
  abbrev store : Store
  store = running.store

  abbrev objects : Path
  objects = store.parts.objects

  abbrev setting : Setting
  setting = setting_in store

  abbrev slots : Slots
  slots = store.parts.slots

  abbrev exchanges : List Exchange
  exchanges = told_since events handle running.begun

  -- ---- what it asks for

  module _ (ask : DiskAsk) (is : asks_of setting state ≡ Some (parts.Disk ask)) where
    asks_now : asks_of setting (opening_now events handle store running.begun) ≡ Some (parts.Disk ask)
    asks_now = ap (asks_of setting) (sym knows.is) ∙ is

    pub quiet : change_by (disk_after first events) ask ≡ None
    quiet =
        change_by-quiet (disk_after first events) ask
        (openings_change_no_file setting slots exchanges knows.asked knows.well.suited ask asks_now (tree_of (disk_after first events).state))

    pub takes_call : HasTurn first events handle running running.task ask
    takes_call =
        subst (λ task. HasTurn first events handle running task ask) (sym knows.task)
        (quiet_turn first events handle running OpenStore ask asks_now quiet)

    -- a stream that it reads on is its own
    own_stream : (dir : ℕ) → ask ≡ asks.NextEntry dir → IsOwnStream exchanges dir
    own_stream dir same =
        streams_of_openings_are_their_own setting slots exchanges knows.asked knows.well.suited dir (inl (asks_now ∙ ap (λ a. Some (parts.Disk a)) same))

  -- ---- how its turn ends

  module _ (e : Event) (ran : IsRunning first events handle running) where
    abbrev whole : List Event
    whole = events ++ e ∷ []

    abbrev Failed : Type 0
    Failed = FailedSince whole handle running.begun

    abbrev Promised : Reply → Type 0
    Promised reply =
        OpeningPromise whole (tree_at first whole) Failed (told_since whole handle running.begun) store running.begun (length whole) reply

    keeps : (reply : Reply) → Promised reply → Promise first whole handle store running.modes running.begun running.task reply
    keeps reply p = subst (λ task. Promise first whole handle store running.modes running.begun task reply) (sym knows.task) p

    pub now_is : running.begun ≤ length whole
    now_is = let since = knows.since in let more = length_push events e in omega (arith, since, more)

    -- what it says of the stage after it, at the moment after its turn
    abbrev LooksNow : OpenStage → Type 0
    LooksNow next = Looks (tree_at first whole) Failed store running.begun (length whole) now_is next

    -- ---- a call of the disk

    module _ (ask : DiskAsk) (is : asks_of setting state ≡ Some (parts.Disk ask)) (turn : IsTurnAsking first events e handle running (Some (parts.Disk ask))) where
      abbrev answer : DiskAnswer
      answer = answer_now (disk_after first events) ask

      abbrev call : Exchange
      call = record { ask = parts.Disk ask; answer = told.Disk answer }

      abbrev next : OpenStage
      next = openings.fed objects (listed_for store.parts) slots state (told.Disk answer)

      told_is : told_since whole handle running.begun ≡ exchanges ++ call ∷ []
      told_is = told_call first events e handle running knows.since knows.well ran ask (own_stream ask is) turn

      well : IsAnsweredWell first whole handle store running.begun
      well = answered_on_disk first events e handle running knows.since knows.well ran ask (own_stream ask is) turn

      gives : AreGiven first whole handle running.begun
      gives = given_on_disk first events e handle running ran knows.since knows.given ask (own_stream ask is) turn told_is

      -- it is at the stage after all answers to its handle by then
      stands : next ≡ opening_now whole handle store running.begun
      stands =
          ap (λ s. openings.fed objects (listed_for store.parts) slots s (told.Disk answer)) knows.is
          ∙ (sym (behind-push (asks_of setting) (fed_by setting slots) opens.Looking exchanges call)
          ∙ ap (behind setting slots opens.Looking) (sym told_is))

      all_asked : AreAsked setting slots opens.Looking (told_since whole handle running.begun)
      all_asked =
          subst (AreAsked setting slots opens.Looking) (sym told_is)
          (asked-push (asks_of setting) (fed_by setting slots) opens.Looking exchanges call knows.asked (asks_now ask is))

      longer : length (told_since whole handle running.begun) ≡ running.turns + 1
      longer = let had = knows.turns in let more = length_push exchanges call in ap length told_is ∙ omega (arith, had, more)

      caused : (error : opening_error.Error) → next ≡ opens.Done (replies.Refused (call_errors.Open error))
          → IsCaused setting slots (told_since whole handle running.begun) error
      caused error same =
          refused_openings_have_causes setting slots (told_since whole handle running.begun) all_asked well.suited error (sym stands ∙ same)

      -- it is within its bound
      in_time : (entries : ℕ) → HasAtMost (tree_at first whole) store.parts running.begun (length events + 1) entries
          → running.turns + 1 < (0 + laps_without_change) * turns_of_lap 0 (length (folder_list store.parts)) entries + 0
      in_time entries most =
          let long = longer in
          let within = well.within entries (subst (λ n. HasAtMost (tree_at first whole) store.parts running.begun n entries) (sym (length_push events e)) most) in
          let few : length (told_since whole handle running.begun) + 1 ≤ turns_of_lap 0 (length (folder_list store.parts)) entries =
          an_opening_takes_at_most_a_lap setting slots (told_since whole handle running.begun) all_asked well.suited entries within well.answered in
          within_laps running.turns (turns_of_lap 0 (length (folder_list store.parts)) entries) (omega (arith, long, few))

      refused : (error : opening_error.Error) → next ≡ opens.Done (replies.Refused (call_errors.Open error))
          → LooksNow (opens.Done (replies.Refused (call_errors.Open error))) → Promised (replies.Refused (call_errors.Open error))
      refused opening_errors.NotADirectory same looks = looks
      refused (opening_errors.TooManySlots asked) same looks = let why = caused (opening_errors.TooManySlots asked) same in (why.0, why.1, looks)
      refused opening_errors.Io same looks = looks
      refused (opening_errors.LoadIndex error) same looks = caused (opening_errors.LoadIndex error) same
      refused opening_errors.NoMemory same looks = absurd looks

      goes : (own : OpenStage) → next ≡ own → LooksNow own → MachineComes first events e handle running opening IsOpening (OfDisk ask answer) (openings.result_of own)
      goes opens.Looking same looks = absurd looks
      goes (opens.Listing lister percent minimum) same looks = (
        record { task = knows.task; since = now_is; is = sym same ∙ stands; asked = all_asked; turns = sym longer; well = record { suited = well.suited; answered = well.answered; within = well.within; met = well.met }; given = record { given = gives.given; of_tree = gives.of_tree }; seen = looks },
        in_time,
      )
      goes (opens.Registering number) same looks = (
        record { task = knows.task; since = now_is; is = sym same ∙ stands; asked = all_asked; turns = sym longer; well = record { suited = well.suited; answered = well.answered; within = well.within; met = well.met }; given = record { given = gives.given; of_tree = gives.of_tree }; seen = looks },
        in_time,
      )
      goes (opens.Done (replies.Refused (call_errors.Open error))) same looks = keeps (replies.Refused (call_errors.Open error)) (refused error same looks)
      goes (opens.Done reply) same looks = absurd looks

      pub comes_to : LooksNow next → MachineComes first events e handle running opening IsOpening (OfDisk ask answer) (openings.result_of next)
      comes_to looks = goes next refl looks

-- ---- its turns

module _ (first : Volume) (events : List Event) (e : Event) (handle : ℕ) (running : Running) (ran : IsRunning first events handle running) where
  -- the turn of the stat
  module _ (knows : IsOpening first events handle running opens.Looking) where
    abbrev pub look : DiskAsk
    look = asks.Look running.store.parts.objects true

    module _ (turn : IsTurnAsking first events e handle running (Some (parts.Disk look))) where
      abbrev fails : Bool
      fails = fails_now (disk_after first events) look

      look_shows : Looks (tree_at first (events ++ e ∷ [])) (FailedSince (events ++ e ∷ []) handle running.begun) running.store running.begun (length (events ++ e ∷ []))
          (now_is first events handle running opens.Looking knows e ran)
          (openings.looked running.store.parts.objects running.store.parts.slots (answer_now (disk_after first events) look))
      look_shows =
          subst (λ tree. Looks (tree_at first (events ++ e ∷ [])) (FailedSince (events ++ e ∷ []) handle running.begun) running.store running.begun (length (events ++ e ∷ []))
          (now_is first events handle running opens.Looking knows e ran)
          (openings.looked running.store.parts.objects running.store.parts.slots (cond fails (answers.Refused disk_errors.Failed) (answer_of tree look))))
          (ap (tree_at first (events ++ e ∷ [])) (length_push events e)
          ∙ shown_now first events e handle running knows.since look turn (quiet first events handle running opens.Looking knows look refl))
          (look_keeps (tree_at first (events ++ e ∷ [])) (FailedSince (events ++ e ∷ []) handle running.begun) running.store running.begun (length (events ++ e ∷ []))
          (now_is first events handle running opens.Looking knows e ran) fails (failed_now first events e handle running knows.since look turn))

      pub look_comes : MachineComes first events e handle running opening IsOpening (OfDisk look (answer_now (disk_after first events) look))
          (openings.result_of (openings.looked running.store.parts.objects running.store.parts.slots (answer_now (disk_after first events) look)))
      look_comes = comes_to first events handle running opens.Looking knows e ran look refl turn look_shows

  -- a turn of the listing
  pub listing_comes : (lister : Lister) (percent minimum : ℕ) → IsOpening first events handle running (opens.Listing lister percent minimum)
      → IsTurnAsking first events e handle running (Some (parts.Disk (lists.ask_of lister)))
      → MachineComes first events e handle running opening IsOpening (OfDisk (lists.ask_of lister) (answer_now (disk_after first events) (lists.ask_of lister)))
      (openings.result_of (openings.listed_on percent minimum (lists.fed (listed_for running.store.parts) lister (answer_now (disk_after first events) (lists.ask_of lister)))))
  listing_comes lister percent minimum knows turn =
      comes_to first events handle running (opens.Listing lister percent minimum) knows e ran (lists.ask_of lister) refl turn
      (listing_keeps (tree_at first (events ++ e ∷ [])) (FailedSince (events ++ e ∷ []) handle running.begun) running.store running.begun (length (events ++ e ∷ []))
      (now_is first events handle running (opens.Listing lister percent minimum) knows e ran)
      (shown_before first events e running.begun running.store.parts.objects knows.seen) percent minimum
      (lists.fed (listed_for running.store.parts) lister (answer_now (disk_after first events) (lists.ask_of lister))))

  -- the turn that registers
  module _ (slots : ℕ) (knows : IsOpening first events handle running (opens.Registering slots))
      (turn : IsTurnAsking first events e handle running (Some (parts.NewCore slots (length (folder_list running.store.parts))))) where
    abbrev folders : ℕ
    folders = length (folder_list running.store.parts)

    told_same : told_since (events ++ e ∷ []) handle running.begun ≡ told_since events handle running.begun
    told_same = told_none events e handle running.begun knows.since turn.turn _ turn.asked refl

    made : MadeCore (events ++ e ∷ []) slots folders
    made = record {
      past = events;
      event = e;
      last = refl;
      core = length (cores_after events);
      seat = handle;
      answer = answer_behind (opened slots folders 0 0) handle (core_events.Register false);
      asked = turn.asked;
    }

    -- no folder occurs twice in its store
    distinct : IsDistinct same_path (folder_list running.store.parts)
    distinct =
        let stems = subst (Stems events handle) ran.status (stems_now first events ran.lawful handle) in
        (openable first running.store events handle running.modes ran.lawful stems.0).distinct

    pub registered : Promise first (events ++ e ∷ []) handle running.store running.modes running.begun running.task (replies.Opened slots)
    registered =
        let setting = setting_in running.store in
        let asked = told_since events handle running.begun in
        keeps first events handle running (opens.Registering slots) knows e ran (replies.Opened slots)
        (record {
          number =
              number_is_counted first (events ++ e ∷ []) handle running.store running.begun distinct
              (given_as_before first events e handle running.begun told_same knows.given)
              (subst (AreAsked setting running.store.parts.slots opens.Looking) (sym told_same) knows.asked) (subst AreSuited (sym told_same) knows.well.suited)
              running.store.parts.slots slots
              (subst (λ xs. IsNumber setting running.store.parts.slots xs slots) (sym told_same)
              (openings_register_their_number setting running.store.parts.slots asked knows.asked knows.well.suited slots (sym knows.is)));
          core = made;
          not_too_many = openings_register_few_slots setting running.store.parts.slots asked knows.asked knows.well.suited slots (sym knows.is);
          directory = shown_before first events e running.begun running.store.parts.objects knows.seen;
        })
