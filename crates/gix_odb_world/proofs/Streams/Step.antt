-- One event leaves the streams of the handles at work open, and apart.
use Rattle.std.proofs.Common.{◌≡◌, ◌≢◌, ◌⊎◌, ℕ, ◌+◌, ◌≤◌, Bool, true, false, List, [], ◌∷◌, ◌++◌, length, Contains, Option, Some, None, inl, inr, refl, sym, ◌∙◌, ap, subst, arith}
use Rattle.std.specs.Prelude.{if◌then◌else◌}
use Rattle.std.specs.List.{cons_option}
use Rattle.std.proofs.lemmas.List.{append-nil, length_push}
use Rattle.std.proofs.Math.Seq.{take-length}
use Rattle.odb_base.specs.Path.{Path}
use Rattle.odb_disk.specs.Tree.{tree_of}
use Rattle.odb_disk.specs.Tree.Write.{written}
use Rattle.odb_disk.specs.declared.entry.Entry.{Entry}
use Rattle.odb_disk.specs.Ask.{after_ask, answer_now}
use Rattle.odb_disk.specs.MemDisk.{Volume}
use Rattle.odb_disk.specs.declared.ask.DiskAnswer.{DiskAnswer}
use Rattle.odb_disk.specs.declared.ask.DiskAnswer.TheVariants as answers
use Rattle.odb_disk.specs.declared.ask.DiskAsk.{DiskAsk}
use Rattle.odb_disk.specs.declared.ask.DiskAsk.TheVariants as asks
use Rattle.gix_odb_calls.specs.declared.step.Step.TheVariants as steps
use Rattle.gix_odb_events.specs.declared.answer.Answer.TheVariants as told
use Rattle.gix_odb_events.specs.declared.answer.Ask.TheVariants as parts
use Rattle.gix_odb.specs.LookExchanges.{Exchange}
use Rattle.gix_odb.specs.OpenStream.{IsOnStream, IsStreamOf, given_by}
use Rattle.gix_odb.specs.Stream.{Stream, opens, reads, stream_by, stream_in}
use Rattle.gix_odb.proofs.StreamLaws.Calls.{new_stream_is_another}
use Rattle.gix_odb.proofs.StreamLaws.Exchanges.{reads-given}
use Rattle.gix_odb.proofs.ListerLaws.Streams.{stream_in-push}
use Rattle.gix_odb.proofs.StreamLaws.Directories.{stream_of_a_directory_begins, stream_of_a_directory_goes_on, stream_of_a_directory_is_kept_by_another_state}
use Rattle.gix_odb.specs.Contents.{folder_list}
use Rattle.gix_odb_world.specs.AtWork.{Running, Store}
use Rattle.gix_odb_history.specs.Event.{Asked, Event, OfCore, OfDisk, OfNewCore, OfNothing}
use Rattle.gix_odb_world.specs.Headline.{Law, LeavesDisk}
use Rattle.gix_odb_history.specs.Run.{IsTurnOf, disk_after, disk_after_asked, tree_at}
use Rattle.gix_odb_world.specs.Running.{Runs}
use Rattle.gix_odb_world.specs.Status.{Working, status_of}
use Rattle.gix_odb_world.specs.Told.{exchange_in, exchange_of, told_since}
use Rattle.gix_odb_history.specs.Turned.{is_turn_of}
use Rattle.gix_odb_world.proofs.DiskTurns.{CallsDisk, called_or_quiet}
use Rattle.gix_odb_world.proofs.HistoryLemmas.{disk_after-push, tree_at-before}
use Rattle.gix_odb_world.proofs.RunSteps.{IsTurned, Kind, Made, Quiet, Turned, kind_of}
use Rattle.gix_odb_world.proofs.Streams.Apart.{AreOpen, AsksOwn, asks_own}
use Rattle.gix_odb_world.proofs.Streams.OneEvent.{Goes, LeavesStream, StandsOpen, WasAt, goes, kept_open}
use Rattle.gix_odb_world.proofs.ToldLemmas.{told_by, told_first, told_kept, told_turn, turn_or_not}

-- what leaves the disk is on no stream
leaves_stream : (dir : ℕ) (asked : Asked) → LeavesDisk asked → LeavesStream dir asked
leaves_stream dir OfNothing leaves = tt
leaves_stream dir (OfDisk ask answer) leaves = absurd leaves
leaves_stream dir (OfCore store seat event answer) leaves = tt
leaves_stream dir (OfNewCore slots folders store seat answer) leaves = tt

-- the stream after an exchange, if there was one
abbrev streamed : Option Stream → Option Exchange → Option Stream
streamed before None = before
streamed before (Some exchange) = stream_by before exchange.ask exchange.answer

-- the stream after an answer to a call for its next entry
abbrev read_by : Stream → DiskAnswer → Stream
read_by stream answer = record { folder = stream.folder; dir = stream.dir; entries = given_by stream.entries answer }

module _ (first : Volume) (past : List Event) (e : Event) (law : Law first past e) (runs : (handle : ℕ) → Runs first past handle (status_of past handle))
    (before : AreOpen first past) where
  abbrev now : List Event
  now = past ++ e ∷ []

  abbrev disk : Volume
  disk = disk_after first past

  knows_at : (handle : ℕ) (was : Running) → status_of past handle ≡ Working was → Runs first past handle (Working was)
  knows_at handle was status = subst (Runs first past handle) status (runs handle)

  -- ---- what its exchanges show of the stream of a handle

  module _ (handle begun : ℕ) (since : begun ≤ length past) where
    abbrev old : Option Stream
    old = stream_in (told_since past handle begun)

    streamed_by : (o : Option Exchange) → told_since now handle begun ≡ told_since past handle begun ++ cons_option o []
        → stream_in (told_since now handle begun) ≡ streamed old o
    streamed_by None is = ap stream_in (is ∙ append-nil (told_since past handle begun))
    streamed_by (Some exchange) is = ap stream_in is ∙ stream_in-push (told_since past handle begun) exchange

    kept_by : (turn : Bool) (asked : Asked) → LeavesDisk asked → streamed old (if turn then exchange_of asked else None) ≡ old
    kept_by false asked leaves = refl
    kept_by true OfNothing leaves = refl
    kept_by true (OfDisk ask answer) leaves = absurd leaves
    kept_by true (OfCore store seat event answer) leaves = refl
    kept_by true (OfNewCore slots folders store seat answer) leaves = refl

    -- it stays where the event leaves the disk
    left_stream : LeavesDisk e.asked → stream_in (told_since now handle begun) ≡ old
    left_stream leaves =
        streamed_by (exchange_in handle e) (told_by past e handle begun since (exchange_in handle e) refl) ∙ kept_by (is_turn_of handle e) e.asked leaves

  -- ---- the stream of one handle

  -- a stream of this number was open before the event
  record Had (handle dir : ℕ) : Type 0 where
    was : Running
    status : status_of past handle ≡ Working was
    old : Stream
    is : stream_in (told_since past handle was.begun) ≡ Some old
    number : old.dir ≡ dir

  -- or was opened in it, by the turn of the handle
  record OpenedNow (handle dir : ℕ) : Type 0 where
    turn : IsTurnOf handle e
    path : Path
    opened : answer_now disk (asks.OpenDir path) ≡ answers.Dir dir

  -- it is open after the event
  record Stays (handle : ℕ) (running : Running) (stream : Stream) : Type 0 where
    stands : StandsOpen first now running stream
    came : Had handle stream.dir ⊎ OpenedNow handle stream.dir

  module _ (handle : ℕ) (running : Running) (at : WasAt first past e handle running) (stream : Stream) where
    since : at.was.begun ≤ length past
    since = (knows_at handle at.was at.status).0

    abbrev had : Option Stream
    had = stream_in (told_since past handle at.was.begun)

    -- a stream that the event isn't on
    kept : had ≡ Some stream → LeavesStream stream.dir e.asked → Stays handle running stream
    kept is leaves = record {
      stands = kept_open first past e at.was running stream at.begun at.store leaves (before.stands handle at.was at.status stream is);
      came = inl (record { was = at.was; status = at.status; old = stream; is = is; number = refl });
    }

    -- the turn of another handle isn't on it
    other_turn : ¬ (IsTurnOf handle e) → had ≡ Some stream → IsTurned first past e → LeavesStream stream.dir e.asked
    other_turn other is t = subst (LeavesStream stream.dir) (sym t.works.told) on_other
      where
        own : AsksOwn past t.handle t.running t.works.ask
        own = asks_own first past t.handle t.running t.running.work (knows_at t.handle t.running t.turn.status).1 t.works.ask t.works.asks

        on_other : ¬ (IsOnStream stream.dir t.works.ask)
        on_other on =
            let two = own.on stream.dir on in
            before.apart handle t.handle at.was t.running (λ same. other (subst (λ h. IsTurnOf h e) (sym same) t.turn.turn)) at.status t.turn.status stream two.0 is two.1
            (sym two.2)

    untold : ¬ (IsTurnOf handle e) → stream_in (told_since now handle at.was.begun) ≡ Some stream → Stays handle running stream
    untold other is = by (kind_of first past e law)
      where
        same : had ≡ Some stream
        same = sym (ap stream_in (told_kept past e handle at.was.begun since other)) ∙ is

        by : Kind first past e → Stays handle running stream
        by (Turned t) = kept same (other_turn other same t)
        by (Made m) = kept same (leaves_stream stream.dir e.asked m.leaves)
        by (Quiet q) = kept same (leaves_stream stream.dir e.asked q.leaves)

    -- ---- its own call of the disk

    module _ (turn : IsTurnOf handle e) (calls : CallsDisk first past handle at.was e) where
      own_call : AsksOwn past handle at.was calls.ask
      own_call = asks_own first past handle at.was at.was.work (knows_at handle at.was at.status).1 calls.ask calls.asks

      after_call : (ask : DiskAsk) → calls.ask ≡ ask → disk_after first now ≡ record (after_ask disk ask) { state = written disk.state e.entry.change }
      after_call ask same =
          disk_after-push first past e ∙ ap (λ asked. disk_after_asked disk asked e.entry.change) (calls.told ∙ ap (λ a. OfDisk a (answer_now disk a)) same)

      settled : (ask : DiskAsk) → calls.ask ≡ ask → (moment : ℕ) → moment ≤ length past → (folder : Path) (dir : ℕ) (given coming : List Entry)
          → IsStreamOf (tree_at first past moment) folder (after_ask disk ask) dir given coming
          → IsStreamOf (tree_at first now moment) folder (disk_after first now) dir given coming
      settled ask same moment within folder dir given coming is =
          subst (λ t. IsStreamOf t folder (disk_after first now) dir given coming) (sym (tree_at-before first past e moment within))
          (subst (λ d. IsStreamOf (tree_at first past moment) folder d dir given coming) (sym (after_call ask same))
          (stream_of_a_directory_is_kept_by_another_state (tree_at first past moment) folder (after_ask disk ask) dir given coming is (written disk.state e.entry.change)))

      in_store : (folder : Path) → Contains (folder_list at.was.store.parts) folder → Contains (folder_list running.store.parts) folder
      in_store folder among = subst (λ (s : Store). Contains (folder_list s.parts) folder) at.store among

      -- it opens a folder of packs
      begins : (path : Path) (dir : ℕ) → calls.ask ≡ asks.OpenDir path → answer_now disk (asks.OpenDir path) ≡ answers.Dir dir
          → Stays handle running (record { folder = path; dir = dir; entries = [] })
      begins path dir same answered =
          let packs = own_call.opens path same in
          let opened = stream_of_a_directory_begins disk path dir answered in
          let here : tree_at first past (length past) ≡ tree_of disk.state = ap (λ es. tree_of (disk_after first es).state) (take-length past) in
          let began = since in
          let begun = at.begun in
          let longer = length_push past e in
          record {
            stands = record {
              folder = packs.0;
              among = in_store packs.0 packs.1;
              of_packs = packs.2;
              moment = length past;
              from = omega (arith, began, begun);
              to = omega (arith, longer);
              coming = opened.0;
              is =
                  settled (asks.OpenDir path) same (length past) (omega arith) path dir [] opened.0
                  (subst (λ t. IsStreamOf t path (after_ask disk (asks.OpenDir path)) dir [] opened.0) (sym here) opened.1);
            };
            came = inr (record { turn = turn; path = path; opened = answered });
          }

      opened_so : (path : Path) → calls.ask ≡ asks.OpenDir path → (answer : DiskAnswer) → answer_now disk (asks.OpenDir path) ≡ answer
          → opens path answer ≡ Some stream → Stays handle running stream
      opened_so path same (answers.Dir dir) answered is =
          let here : record { folder = path; dir = dir; entries = [] } ≡ stream = cc is in subst (Stays handle running) here (begins path dir same answered)
      opened_so path same (answers.Refused error) answered is = absurd (cc is)
      opened_so path same (answers.Entry entry) answered is = absurd (cc is)
      opened_so path same answers.End answered is = absurd (cc is)
      opened_so path same answers.Done answered is = absurd (cc is)
      opened_so path same (answers.Meta meta) answered is = absurd (cc is)
      opened_so path same (answers.File bytes time) answered is = absurd (cc is)

      -- it reads the stream that it had
      goes_on : (two : Stream) → had ≡ Some two → calls.ask ≡ asks.NextEntry two.dir
          → Stays handle running (read_by two (answer_now disk (asks.NextEntry two.dir)))
      goes_on two there same =
          let s = before.stands handle at.was at.status two there in
          let read = stream_of_a_directory_goes_on (tree_at first past s.moment) two.folder disk two.dir two.entries s.coming s.is in
          let from = s.from in
          let to = s.to in
          let begun = at.begun in
          let longer = length_push past e in
          record {
            stands = record {
              folder = s.folder;
              among = in_store s.folder s.among;
              of_packs = s.of_packs;
              moment = s.moment;
              from = omega (arith, from, begun);
              to = omega (arith, to, longer);
              coming = read.left;
              is =
                  settled (asks.NextEntry two.dir) same s.moment s.to two.folder two.dir (given_by two.entries (answer_now disk (asks.NextEntry two.dir))) read.left
                  read.after;
            };
            came = inl (record { was = at.was; status = at.status; old = two; is = there; number = refl });
          }

      reads_on : (two : Stream) → had ≡ Some two → calls.ask ≡ asks.NextEntry two.dir
          → reads had (answer_now disk (asks.NextEntry two.dir)) ≡ Some stream → Stays handle running stream
      reads_on two there same is =
          let answer : DiskAnswer = answer_now disk (asks.NextEntry two.dir) in
          let both : Some (read_by two answer) ≡ Some stream =
          sym (reads-given two.folder two.dir two.entries answer) ∙ (ap (λ o. reads o answer) (sym there) ∙ is) in
          let here : read_by two answer ≡ stream = cc both in
          subst (Stays handle running) here (goes_on two there same)

      untouched : (ask : DiskAsk) → calls.ask ≡ ask → ¬ (IsOnStream stream.dir ask) → LeavesStream stream.dir e.asked
      untouched ask same none =
          subst (LeavesStream stream.dir) (sym calls.told) (λ (on : IsOnStream stream.dir calls.ask). none (subst (IsOnStream stream.dir) same on))

      by_ask : (ask : DiskAsk) → calls.ask ≡ ask → stream_by had (parts.Disk ask) (told.Disk (answer_now disk ask)) ≡ Some stream → Stays handle running stream
      by_ask (asks.OpenDir path) same is = opened_so path same (answer_now disk (asks.OpenDir path)) refl is
      by_ask (asks.NextEntry dir) same is =
          let two = own_call.on dir (subst (IsOnStream dir) (sym same) refl) in
          reads_on two.0 two.1 (same ∙ ap asks.NextEntry (sym two.2)) (subst (λ n. reads had (answer_now disk (asks.NextEntry n)) ≡ Some stream) (sym two.2) is)
      by_ask (asks.CloseDir dir) same is = absurd (cc is)
      by_ask (asks.Look path follow) same is = kept is (untouched (asks.Look path follow) same (λ on. on))
      by_ask (asks.Read path) same is = kept is (untouched (asks.Read path) same (λ on. on))
      by_ask (asks.MakeDir path) same is = kept is (untouched (asks.MakeDir path) same (λ on. on))
      by_ask (asks.NewFile path) same is = kept is (untouched (asks.NewFile path) same (λ on. on))
      by_ask (asks.Append path bytes) same is = kept is (untouched (asks.Append path bytes) same (λ on. on))
      by_ask (asks.Rename from to) same is = kept is (untouched (asks.Rename from to) same (λ on. on))
      by_ask (asks.Remove path) same is = kept is (untouched (asks.Remove path) same (λ on. on))

      stream_then : stream_in (told_since now handle at.was.begun) ≡ stream_by had (parts.Disk calls.ask) (told.Disk (answer_now disk calls.ask))
      stream_then =
          let exchange : Exchange = record { ask = parts.Disk calls.ask; answer = told.Disk (answer_now disk calls.ask) } in
          ap stream_in (told_turn past e handle at.was.begun since turn (OfDisk calls.ask (answer_now disk calls.ask)) calls.told exchange refl)
          ∙ stream_in-push (told_since past handle at.was.begun) exchange

    stays_on : stream_in (told_since now handle at.was.begun) ≡ Some stream → Stays handle running stream
    stays_on is = elim (turn_or_not handle e) [
      | inl turn ↦ elim (called_or_quiet first past handle at.was e (law.worked handle at.was (record { turn = turn; status = at.status }))) [
        | inl calls ↦ by_ask turn calls calls.ask refl (sym (stream_then turn calls) ∙ is)
        | inr quiet ↦
            kept (sym (left_stream handle at.was.begun since quiet.leaves) ∙ is) (leaves_stream stream.dir e.asked quiet.leaves)
      ]
      | inr other ↦ untold other is
    ]

  -- ---- all streams

  -- a handle that began now was answered nothing
  none_yet : (handle begun : ℕ) (stream : Stream) → begun ≡ length past + 1 → ¬ (stream_in (told_since now handle begun) ≡ Some stream)
  none_yet handle begun stream fresh is =
      let all : begun ≡ length now = fresh ∙ sym (length_push past e) in
      let none : stream_in (told_since now handle begun) ≡ None = ap (λ n. stream_in (told_since now handle n)) all ∙ ap stream_in (told_first now handle) in
      cc (sym none ∙ is)

  stays : (handle : ℕ) (running : Running) → status_of now handle ≡ Working running → (stream : Stream)
      → stream_in (told_since now handle running.begun) ≡ Some stream → Stays handle running stream
  stays handle running status stream is = by (subst (Goes first past e handle) status (goes first past e handle))
    where
      by : Goes first past e handle (Working running) → Stays handle running stream
      by (inl fresh) = absurd (none_yet handle running.begun stream fresh is)
      by (inr at) = stays_on handle running at stream (subst (λ n. stream_in (told_since now handle n) ≡ Some stream) (sym at.begun) is)

  differ : (handle other one two : ℕ) → handle ≢ other → Had handle one ⊎ OpenedNow handle one → Had other two ⊎ OpenedNow other two → one ≢ two
  differ handle other one two apart (inl had) (inl further) same =
      before.apart handle other had.was further.was apart had.status further.status had.old further.old had.is further.is
      (had.number ∙ (same ∙ sym further.number))
  differ handle other one two apart (inr new) (inl further) same =
      let s = before.stands other further.was further.status further.old further.is in
      new_stream_is_another disk new.path one new.opened further.old.dir s.coming s.is.now (same ∙ sym further.number)
  differ handle other one two apart (inl had) (inr new) same =
      let s = before.stands handle had.was had.status had.old had.is in
      new_stream_is_another disk new.path two new.opened had.old.dir s.coming s.is.now (sym same ∙ sym had.number)
  differ handle other one two apart (inr new) (inr further) same =
      let turns : steps.Turn handle ≡ steps.Turn other = sym new.turn.step ∙ further.turn.step in apart (cc turns)

  pub open_on : AreOpen first now
  open_on = record {
    stands = λ handle running status stream is. (stays handle running status stream is).stands;
    apart = λ handle other running further apart status working one two is there.
        differ handle other one.dir two.dir apart (stays handle running status one is).came (stays other further working two there).came;
  }
