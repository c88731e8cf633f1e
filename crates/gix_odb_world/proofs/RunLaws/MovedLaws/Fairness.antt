-- While an object lies in a pack, from some moment of a call on, the answers to its handle from then on are fair to it.
use Rattle.std.proofs.Common.{◌≡◌, inl, inr, ℕ, zero, suc, ◌<◌, ◌≤◌, true, false, List, [], ◌∷◌, ◌++◌, length, take, Contains, Option, Some, None, refl, sym, ap, ◌∙◌, subst, append-nil, append_assoc, arith}
use Rattle.std.specs.Prelude.{slice_get, unwrap_or}
use Rattle.std.proofs.lemmas.Bool.{cases_lt, false_from_ne_true}
use Rattle.odb_disk.specs.Tree.{Tree, tree_of}
use Rattle.odb_disk.specs.Tree.Follow.{looked}
use Rattle.odb_disk.specs.Ask.{answer_now, fails_now}
use Rattle.odb_disk.specs.MemDisk.{Volume}
use Rattle.odb_disk.specs.declared.ask.DiskAsk.{DiskAsk}
use Rattle.odb_disk.specs.declared.ask.DiskAsk.TheVariants as asks
use Rattle.gix_hash.specs.declared.object_id.ObjectId.{ObjectId}
use Rattle.odb_base.specs.Path.{Path}
use Rattle.gix_odb_core.specs.History.{History, opened, present}
use Rattle.gix_odb_core.specs.Replay.{CanHappen}
use Rattle.gix_odb_core.specs.declared.shape.Shape.{Shape}
use Rattle.gix_odb_loose.specs.LooseOrder.{disk_ask_of}
use Rattle.gix_odb_search.specs.PackFolder.{is_index_name, pack_folder}
use Rattle.gix_odb_events.specs.declared.answer.Answer.TheVariants as told
use Rattle.gix_odb_events.specs.declared.answer.Ask.TheVariants as parts
use Rattle.gix_odb.specs.LookExchanges.{Exchange}
use Rattle.gix_odb.specs.Fair.{AreFair, Carrier, IsCarried, IsCarriedBy, IsDiskFair, IsFair, IsIndexSound, ItsIndex, PackedPlace, carrier_name, index_at}
use Rattle.gix_odb.specs.Found.{Gives}
use Rattle.gix_odb.specs.LookUpOrder as looks
use Rattle.gix_odb.specs.OpenStream.{IsOnStream, ListsFile}
use Rattle.gix_odb.specs.Shown.{IsHanded, ShowedBytes}
use Rattle.gix_odb.specs.Store.{listed_for}
use Rattle.gix_odb.specs.Stream.{Stream, stream_by, stream_in}
use Rattle.gix_odb_world.proofs.CoreLaws.{core_answers_are_fair}
use Rattle.gix_odb_world.proofs.CoreLaws.MultiRows.{MultisHaveOne}
use Rattle.gix_odb.proofs.FoundLaws.{what_is_handed_was_shown}
use Rattle.gix_odb.proofs.StreamLaws.Directories.{looked_file_is_listed}
use Rattle.gix_odb.proofs.StreamLaws.Exchanges.{next_answer_is_fair}
use Rattle.gix_odb.proofs.ListerLaws.Streams.{stream_in-push}
use Rattle.gix_odb.specs.RefreshOrder as refreshes
use Rattle.gix_odb.proofs.RefreshLaws.{what_a_refresh_hands_on_is_of_the_folders}
use Rattle.gix_odb.specs.Contents.{ShowsFile, folder_list, sought}
use Rattle.gix_odb.specs.Held.{WasShownAt}
use Rattle.gix_odb.proofs.OpenLaws.{openings_ask_no_event}
use Rattle.gix_odb.specs.declared.call_state.CallStage.TheVariants.{Looking, Refreshing, Refused, Writing}
use Rattle.gix_odb_world.specs.Work.{Work}
use Rattle.gix_odb_world.specs.Work.{Calling, Opening}
use Rattle.gix_odb_world.specs.AtWork.{MakeCall, Running, Store, Task, setting_in}
use Rattle.gix_odb_history.specs.Cores.{answer_behind, cores_after, history_at}
use Rattle.gix_odb_history.specs.Event.{CoreAnswer, CoreEvent, Event, OfCore, OfDisk, OfNothing}
use Rattle.gix_odb_events.specs.declared.answer.Ask.{Ask}
use Rattle.gix_odb_world.specs.Headline.{Works, stand_of}
use Rattle.gix_odb_world.specs.Machines.{ask_in}
use Rattle.gix_odb_world.specs.Recorded.{opened_in}
use Rattle.gix_odb_history.specs.Run.{Fails, FailedSince, IsTurnOf, Stand, did_asked, disk_after, told_now, tree_at}
use Rattle.gix_odb_world.specs.Running.{Knows, Runs}
use Rattle.gix_odb_world.specs.Running.PackedStill.{LiesBy, LiesIndexed, LiesPacked}
use Rattle.gix_odb_world.specs.Status.{Working, status_of}
use Rattle.gix_odb_world.specs.Told.{call_of, exchange_of, told_since, view_then}
use Rattle.gix_odb_history.specs.Writing.{call_to_write}
use Rattle.gix_odb_world.proofs.MachineLaws.{IsRunning}
use Rattle.gix_odb_world.proofs.PackedStill.{AreFair-push}
use Rattle.gix_odb_world.proofs.PackedStill.Answers.{calls_are_fair}
use Rattle.gix_odb_world.proofs.PackedStill.Contents.{carrier_itself}
use Rattle.gix_odb_world.proofs.PackedStill.Rule.{indices_show_one, multis_show_one}
use Rattle.gix_odb_world.proofs.ReadsShown.{reads_were_shown, shown_at}
use Rattle.gix_odb_world.proofs.RefreshHappenLaws.{what_a_refresh_hands_on_can_happen}
use Rattle.gix_odb_world.proofs.HappenLaws.{what_is_handed_can_happen}
use Rattle.gix_odb_world.proofs.RunSteps.Fronts.{event_or_end, length_take, none_beyond, take_suc, there_in_front}
use Rattle.gix_odb_world.proofs.Stock.{HasStock, HasStockAt, stocked}
use Rattle.gix_odb_world.proofs.Stock.OneCore.{IsStocked, ShownSince}
use Rattle.gix_odb_world.proofs.Stock.Snapshots.{is_opened}
use Rattle.gix_odb_world.proofs.Streams.Apart.{AsksOwn, asks_own}
use Rattle.gix_odb_world.proofs.Streams.OneEvent.{Goes, LeavesStream, goes}
use Rattle.gix_odb_world.proofs.ToldLemmas.{told_kept, told_none, told_turn, turn_or_not}
use Rattle.gix_odb_world.proofs.RunLaws.CallTurns.{no_event}
use Rattle.gix_odb_world.proofs.RunLaws.KnownRun.{IsKnownRun}
use Rattle.gix_odb_world.proofs.RunLaws.QueryTurns.{lawful_front, runs_up_to, tree_in_front}
use Rattle.gix_odb_world.proofs.RunLaws.MovedLaws.PackedStream.{IsOpenedSince, called_stream, others_leave, stays_open}

module _ (first : Volume) (events : List Event) (is : IsKnownRun first events) (handle begun : ℕ) (store : Store) (id : ObjectId) (place : PackedPlace)
    (carried : IsCarried (listed_for store.parts).multi place) (among : Contains (folder_list store.parts) place.folder) (since last : ℕ) (started : begun ≤ since) (early : store.opened ≤ begun) (until : last ≤ length events)
    (lies : (moment : ℕ) → since ≤ moment → moment ≤ last → LiesPacked store.parts (tree_at first events moment) id place)
    (works : ¬ (FailedSince (take last events) handle begun)) where
  abbrev pub before : List Exchange
  before = told_since (take since events) handle begun

  abbrev HasStream : (now : ℕ) → Type 0
  HasStream now =
      (stream : Stream) → stream_in (told_since (take now events) handle begun) ≡ Some stream → IsOpenedSince first events since last (disk_after first (take now events)) stream

  -- the answers to the handle after the first ones are fair
  pub record IsFairTo (now : ℕ) : Type 0 where
    pub behind : List Exchange
    pub told_is : told_since (take now events) handle begun ≡ before ++ behind
    pub fair : AreFair (listed_for store.parts).multi store.parts.object_hash id place before behind
    pub stream : HasStream now

  abbrev Holds : (now : ℕ) → Type 0
  Holds now = (running : Running) → status_of (take now events) handle ≡ Working running → running.begun ≡ begun → running.store ≡ store → IsFairTo now

  pub starts_fair : stream_in before ≡ None → Holds since
  starts_fair closed running status same here = record {
    behind = [];
    told_is = sym (append-nil before);
    fair = tt;
    stream = λ stream has. let wrong : None ≡ Some stream = sym closed ∙ has in absurd (cc wrong);
  }

  -- ---- one event

  module _ (now : ℕ) (later : since ≤ now) (up : now < last) (e : Event) (there : slice_get events now ≡ Some e) (holds : Holds now) where
    abbrev past : List Event
    past = take now events

    abbrev whole : List Event
    whole = past ++ e ∷ []

    abbrev disk : Volume
    disk = disk_after first past

    within : now ≤ length events
    within = let end = until in let lt = up in omega (arith, end, lt)

    long : length past ≡ now
    long = length_take events now e there

    module _ (was : Running) (status : status_of past handle ≡ Working was) (same : was.begun ≡ begun) (own : was.store ≡ store) where
      one : IsFairTo now
      one = holds was status same own

      abbrev exchanges : List Exchange
      exchanges = told_since past handle begun

      runs : Runs first past handle (Working was)
      runs = subst (Runs first past handle) status (is.throughout now handle within)

      behind_begun : begun ≤ length past
      behind_begun = let a = started in let b = later in let c = long in omega (arith, a, b, c)

      lies_now : LiesPacked store.parts (tree_of disk.state) id place
      lies_now = lies now later (let lt = up in omega (arith, lt))

      -- what holds after one more event
      pub record GoesOn : Type 0 where
        pub behind : List Exchange
        pub told_is : told_since whole handle begun ≡ before ++ behind
        pub fair : AreFair (listed_for store.parts).multi store.parts.object_hash id place before behind
        pub stream : (stream : Stream) → stream_in (told_since whole handle begun) ≡ Some stream → IsOpenedSince first events since last (disk_after first whole) stream

      -- nothing was answered
      silent : told_since whole handle begun ≡ exchanges → ((stream : Stream) → stream_in exchanges ≡ Some stream → LeavesStream stream.dir e.asked) → GoesOn
      silent nothing leaves = record {
        behind = one.behind;
        told_is = nothing ∙ one.told_is;
        fair = one.fair;
        stream = λ stream has.
            let old : stream_in exchanges ≡ Some stream = sym (ap stream_in nothing) ∙ has in
            stays_open first events is since last now later (let lt = up in omega (arith, lt)) e there stream (leaves stream old) (one.stream stream old);
      }

      -- there was an exchange
      told_one : (x : Exchange) → told_since whole handle begun ≡ exchanges ++ x ∷ [] → IsFair (listed_for store.parts).multi store.parts.object_hash id place exchanges x.ask x.answer
          → ((stream : Stream) → stream_in (exchanges ++ x ∷ []) ≡ Some stream → IsOpenedSince first events since last (disk_after first whole) stream) → GoesOn
      told_one x more fair stream = record {
        behind = one.behind ++ x ∷ [];
        told_is = more ∙ ap (λ (es : List Exchange). es ++ x ∷ []) one.told_is ∙ append_assoc before one.behind (x ∷ []);
        fair = AreFair-push (listed_for store.parts).multi store.parts.object_hash id place before one.behind x one.fair (subst (λ (es : List Exchange). IsFair (listed_for store.parts).multi store.parts.object_hash id place es x.ask x.answer) one.told_is fair);
        stream = λ s has. stream s (sym (ap stream_in more) ∙ has);
      }

      -- ---- its own turn

      module _ (turn : IsTurnOf handle e) where
        turned : Works first past handle was e
        turned = (is.lawful now e there).worked handle was (record { turn = turn; status = status })

        abbrev at : Stand
        at = stand_of past handle was

        told_so : (ask : Option Ask) → turned.ask ≡ ask → e.asked ≡ told_now at disk ask
        told_so ask same_ask = turned.told ∙ ap (told_now at disk) same_ask

        -- ---- a call of the disk

        module _ (ask : DiskAsk) (same_ask : turned.ask ≡ Some (parts.Disk ask)) where
          asks_its : AsksOwn past handle was ask
          asks_its = asks_own first past handle was was.work runs.1 ask (turned.asks ∙ same_ask)

          unfailed : fails_now disk ask ≡ false
          unfailed =
              false_from_ne_true (fails_now disk ask)
              (λ fails.
              works
              (record {
                place = now;
                later = (let a = started in let b = later in omega (arith, a, b));
                at = record {
                  event = e;
                  there = there_in_front events now last e up there;
                  turn = turn;
                  failed = subst Fails (sym (turned.asked ∙ ap (did_asked (opened_in was.work) at disk) same_ask)) fails;
                };
              }))

          lists : (stream : Stream) (s : IsOpenedSince first events since last disk stream) → stream.folder ≡ pack_folder place.folder
              → ListsFile (tree_at first events s.moment) stream.folder (carrier_name place)
          lists stream s here =
              let itself = carrier_itself store.parts (tree_at first events s.moment) id place (lies s.moment s.from s.to) in
              looked_file_is_listed (tree_at first events s.moment) stream.folder (stream.entries ++ s.coming) (carrier_name place) itself.meta s.is.fixed
              (ap (λ f. looked (tree_at first events s.moment) (f ++ carrier_name place ∷ []) false) here ∙ itself.looks) itself.is_file

          next_fair : (dir : ℕ) → ask ≡ asks.NextEntry dir → IsDiskFair (listed_for store.parts).multi store.parts.object_hash id place exchanges (asks.NextEntry dir) (answer_now disk (asks.NextEntry dir))
          next_fair dir is_next =
              let two = asks_its.on dir (subst (λ (a : DiskAsk). IsOnStream dir a) (sym is_next) refl) in
              let has : stream_in exchanges ≡ Some two.0 = sym (ap (λ n. stream_in (told_since past handle n)) same) ∙ two.1 in
              let s = one.stream two.0 has in
              subst (λ (n : ℕ). IsDiskFair (listed_for store.parts).multi store.parts.object_hash id place exchanges (asks.NextEntry n) (answer_now disk (asks.NextEntry n))) two.2
              (next_answer_is_fair (listed_for store.parts).multi store.parts.object_hash id place (tree_at first events s.moment) disk two.0 s.coming s.is (lists two.0 s) exchanges has)

          called : GoesOn
          called =
              let x : Exchange = record { ask = parts.Disk ask; answer = told.Disk (answer_now disk ask) } in
              let asked : e.asked ≡ OfDisk ask (answer_now disk ask) = told_so (Some (parts.Disk ask)) same_ask in
              told_one x (told_turn past e handle begun behind_begun turn (OfDisk ask (answer_now disk ask)) asked x refl)
              (calls_are_fair store.parts id place disk lies_now exchanges ask unfailed next_fair)
              (λ stream has.
              called_stream first events is since last now later (let lt = up in omega (arith, lt)) e there handle was status ask asks_its asked
              (λ s old. one.stream s (sym (ap (λ n. stream_in (told_since past handle n)) same) ∙ old)) stream
              (ap (λ n. stream_by (stream_in (told_since past handle n)) (parts.Disk ask) (told.Disk (answer_now disk ask))) same ∙ sym (stream_in-push exchanges x) ∙ has))

        -- ---- an event of the core

        module _ (event : CoreEvent) (same_ask : turned.ask ≡ Some (parts.Core event)) where
          abbrev answer : CoreAnswer
          answer = answer_behind (history_at (cores_after past) was.modes.core) handle event

          asks_it : ask_in was.store was.work ≡ Some (parts.Core event)
          asks_it = turned.asks ∙ same_ask

          ran : IsRunning first past handle was
          ran = record {
            lawful = lawful_front first events now is.lawful;
            throughout = runs_up_to first events now within is.throughout;
            start = is.start;
            status = status;
          }

          -- the core is that of its store, and gets only what was shown, and what can happen
          record IsHandedWell : Type 0 where
            stock : IsStocked first past was.modes.core was.store
            handed : IsHanded (ShownSince first past was.store) (setting_in was.store) was.store.parts.object_hash event
            can : (shape : Shape) → CanHappen shape handle event

          stock_at : (task : Task) → was.task ≡ task → HasStockAt first past was.store was.modes task
          stock_at task is_task =
              subst (HasStockAt first past was.store was.modes) is_task (subst (HasStock first past) status (stocked first past ran.lawful ran.throughout handle))

          by : (work : Work) → Knows first past handle was work → ask_in was.store work ≡ Some (parts.Core event) → IsHandedWell
          by (Opening state) knows asked = absurd (openings_ask_no_event (setting_in was.store) state event asked)
          by (Calling (Looking look)) knows asked =
              let setting = setting_in was.store in
              let view = view_then past handle was.modes.core was.begun in
              let id = sought was.store.parts was.modes.ignoring knows.query in
              let asks_now = ap looks.ask_of (sym knows.is) ∙ asked in
              record {
                stock = stock_at (MakeCall (call_of knows.query)) knows.task;
                handed =
                    what_is_handed_was_shown (ShownSince first past was.store) setting was.store.parts.object_hash knows.query.want id
                    knows.fits.hashed was.modes.refresh view knows.well.snapshot (told_since past handle was.begun) knows.asked knows.well.truth (parts.Core event) asks_now;
                can = λ shape.
                    what_is_handed_can_happen setting knows.fits.distinct was.modes.refresh view knows.query.want id (told_since past handle was.begun) knows.asked event asks_now shape handle;
              }
          by (Calling (Refreshing refresh call)) knows asked =
              let setting = setting_in was.store in
              let view = view_then past handle was.modes.core was.begun in
              let asks_now = ap refreshes.asked_of (sym knows.refresh_is) ∙ asked in
              record {
                stock = stock_at (MakeCall (call_to_write knows.write)) knows.of.task;
                handed =
                    what_a_refresh_hands_on_is_of_the_folders setting view (told_since past handle was.begun) knows.asked
                    (ShownSince first past was.store) was.store.parts.object_hash (reads_were_shown first past ran.lawful handle was.begun was.store.opened knows.opened) event
                    asks_now;
                can = λ shape. what_a_refresh_hands_on_can_happen setting view (told_since past handle was.begun) knows.asked knows.distinct event asks_now shape handle;
              }
          by (Calling (Writing call)) knows asked = absurd (no_event (disk_ask_of call) event asked)
          by (Calling (Refused error)) knows asked = absurd knows

          handed_well : IsHandedWell
          handed_well = by was.work runs.1 asks_it

          -- what was shown as the index since the store was opened is what it shows now
          index_sound : place.carrier ≡ ItsIndex → (bytes : List ℕ) → ShowedBytes (ShownSince first past was.store) (index_at place) bytes
              → IsIndexSound (listed_for was.store.parts).multi was.store.parts.object_hash id place bytes
          index_sound by_index bytes was_shown =
              let count = long in
              let opened_early : was.store.opened ≤ now = subst (λ (s : Store). s.opened ≤ now) (sym own) (let a = early in let b = started in let c = later in omega (arith, a, b, c)) in
              let lies_here : LiesIndexed store.parts (tree_of disk.state) id place =
              subst (λ (carrier : Carrier). LiesBy carrier store.parts (tree_of disk.state) id place) by_index lies_now.by_carrier in
              let named : is_index_name place.name ≡ true = subst (IsCarriedBy (listed_for store.parts).multi place.name) by_index carried in
              let here : WasShownAt (tree_at first past) was.store.opened (length past) (index_at place) lies_here.index =
              record {
                moment = now;
                from = opened_early;
                to = omega (arith, count);
                was = subst (λ (t : Tree). ShowsFile t (index_at place) lies_here.index) (sym (tree_in_front first events now now (omega arith))) lies_here.shows_index;
              } in
              let its : Contains (folder_list was.store.parts) place.folder = subst (λ (s : Store). Contains (folder_list s.parts) place.folder) (sym own) among in
              let one_content : lies_here.index ≡ bytes =
              indices_show_one first past handle was ran place.folder its place.name named lies_here.index bytes here
              (shown_at (tree_at first past) was.store.opened (length past) (index_at place) bytes was_shown) in
              subst (λ (s : Store). IsIndexSound (listed_for s.parts).multi s.parts.object_hash id place bytes) (sym own)
              (subst (λ bs. Gives store.parts.object_hash bs id place.offset) one_content lies_here.gives)

          rule : MultisHaveOne (ShownSince first past was.store) (setting_in was.store)
          rule path at_multi time one other was_one was_other =
              multis_show_one first past handle was ran at_multi.folder at_multi.among time one other
              (subst (λ (p : Path). ShownSince first past was.store p time one) at_multi.is was_one)
              (subst (λ (p : Path). ShownSince first past was.store p time other) at_multi.is was_other)

          core_fair : IsFair (listed_for store.parts).multi store.parts.object_hash id place exchanges (parts.Core event) (told.Core answer)
          core_fair =
              let stock = handed_well.stock in
              let is_there : history_at (cores_after past) was.modes.core ≡ stock.history = ap (λ o. unwrap_or o (opened 0 0 0 0)) stock.there in
              subst (λ (s : Store). IsFair (listed_for s.parts).multi s.parts.object_hash id place exchanges (parts.Core event) (told.Core answer)) own
              (core_answers_are_fair stock.history.opening stock.history.entries handle event answer (ap (λ (h : History). answer_behind h handle event) is_there)
              (is_opened first past was.store stock.history stock.of) stock.of.legal stock.of.possible (handed_well.can (present stock.history)) (ShownSince first past was.store) (setting_in was.store)
              was.store.parts.object_hash stock.of.handed handed_well.handed rule id place
              (subst (λ (s : Store). IsCarried (listed_for s.parts).multi place) (sym own) carried) index_sound exchanges)

          entered : GoesOn
          entered =
              let x : Exchange = record { ask = parts.Core event; answer = told.Core answer } in
              let asked : e.asked ≡ OfCore was.modes.core handle event answer = told_so (Some (parts.Core event)) same_ask in
              told_one x (told_turn past e handle begun behind_begun turn (OfCore was.modes.core handle event answer) asked x refl) core_fair
              (λ stream has.
              stays_open first events is since last now later (let lt = up in omega (arith, lt)) e there stream (subst (LeavesStream stream.dir) (sym asked) tt)
              (one.stream stream (sym (stream_in-push exchanges x) ∙ has)))

        by_ask : (ask : Option Ask) → turned.ask ≡ ask → GoesOn
        by_ask None same_ask =
            let asked : e.asked ≡ OfNothing = told_so None same_ask in
            silent (told_none past e handle begun behind_begun turn OfNothing asked refl) (λ stream has. subst (LeavesStream stream.dir) (sym asked) tt)
        by_ask (Some (parts.NewCore slots folders)) same_ask =
            let asked = told_so (Some (parts.NewCore slots folders)) same_ask in
            silent (told_none past e handle begun behind_begun turn e.asked refl (ap exchange_of asked)) (λ stream has. subst (LeavesStream stream.dir) (sym asked) tt)
        by_ask (Some (parts.Core event)) same_ask = entered event same_ask
        by_ask (Some (parts.Disk ask)) same_ask = called ask same_ask

      pub goes_on : GoesOn
      goes_on = elim (turn_or_not handle e) [
        | inl turn ↦ by_ask turn (turned turn).ask refl
        | inr other ↦
            silent (told_kept past e handle begun behind_begun other)
            (λ stream has.
            others_leave first events is since last now later (let lt = up in omega (arith, lt)) e there handle was status other stream
            (ap (λ n. stream_in (told_since past handle n)) same ∙ has))
      ]

    over : Holds (suc now)
    over running status same own =
        let front : take (suc now) events ≡ whole = take_suc events now e there in
        let now_is : status_of whole handle ≡ Working running = sym (ap (λ (es : List Event). status_of es handle) front) ∙ status in
        by front (subst (Goes first past e handle) now_is (goes first past e handle))
      where
        by : take (suc now) events ≡ whole → Goes first past e handle (Working running) → IsFairTo (suc now)
        by front (inl fresh) = let a = started in let b = later in let c = long in absurd (omega (arith, a, b, c, fresh, same))
        by front (inr before_it) =
            let on : GoesOn before_it.was before_it.status (before_it.begun ∙ same) (before_it.store ∙ own) = goes_on before_it.was before_it.status (before_it.begun ∙ same) (before_it.store ∙ own) in
            record {
              behind = on.behind;
              told_is = ap (λ (es : List Event). told_since es handle begun) front ∙ on.told_is;
              fair = on.fair;
              stream = λ s has.
                  subst (λ (es : List Event). IsOpenedSince first events since last (disk_after first es) s) (sym front)
                  (on.stream s (sym (ap (λ (es : List Event). stream_in (told_since es handle begun)) front) ∙ has));
            }

  -- ---- along the call

  pub fair_to : stream_in before ≡ None → (now : ℕ) → since ≤ now → now ≤ last → Holds now
  fair_to closed zero later up =
      let none : since ≡ zero = omega (arith, later) in subst Holds none (starts_fair closed)
  fair_to closed (suc now) later up =
      elim (cases_lt now since) [
        | inl less ↦ let here : since ≡ suc now = omega (arith, later, less) in subst Holds here (starts_fair closed)
        | inr more ↦
            elim (event_or_end events now) [
              | inl at ↦ over now more (omega (arith, up)) at.0 at.1 (fair_to closed now more (omega (arith, up)))
              | inr none ↦ let beyond = none_beyond events now none in let end = until in absurd (omega (arith, beyond, up, end))
            ]
      ]
