-- The stream of a handle at work that was opened while an object lay in a pack, over one more event.
use Rattle.std.proofs.Common.{◌≡◌, ℕ, ◌≤◌, List, [], ◌∷◌, ◌++◌, length, take, Option, Some, refl, sym, ap, ◌∙◌, subst, arith}
use Rattle.std.specs.Prelude.{slice_get}
use Rattle.std.proofs.lemmas.Option.{same_Some, slice_get_within}
use Rattle.odb_base.specs.Path.{Path}
use Rattle.odb_disk.specs.Tree.Write.{written}
use Rattle.odb_disk.specs.declared.entry.Entry.{Entry}
use Rattle.odb_disk.specs.Ask.{after_ask, answer_now}
use Rattle.odb_disk.specs.MemDisk.{Volume}
use Rattle.odb_disk.specs.declared.ask.DiskAnswer.{DiskAnswer}
use Rattle.odb_disk.specs.declared.ask.DiskAnswer.TheVariants as answers
use Rattle.odb_disk.specs.declared.ask.DiskAsk.{DiskAsk}
use Rattle.odb_disk.specs.declared.ask.DiskAsk.TheVariants as asks
use Rattle.gix_odb_events.specs.declared.answer.Answer.TheVariants as told
use Rattle.gix_odb_events.specs.declared.answer.Ask.TheVariants as parts
use Rattle.gix_odb.specs.OpenStream.{IsOnStream, IsStreamOf, given_by}
use Rattle.gix_odb.specs.Stream.{Stream, opens, reads, stream_by, stream_in}
use Rattle.gix_odb.proofs.StreamLaws.Directories.{stream_of_a_directory_begins, stream_of_a_directory_goes_on, stream_of_a_directory_is_kept_by_another_state}
use Rattle.gix_odb.proofs.StreamLaws.Exchanges.{reads-given}
use Rattle.gix_odb_world.specs.AtWork.{Running}
use Rattle.gix_odb_history.specs.Event.{Asked, Event, OfCore, OfDisk, OfNewCore, OfNothing}
use Rattle.gix_odb_world.specs.Headline.{LeavesDisk}
use Rattle.gix_odb_history.specs.Run.{IsTurnOf, disk_after, disk_after_asked, tree_at}
use Rattle.gix_odb_world.specs.Running.{Runs}
use Rattle.gix_odb_world.specs.Status.{Working, status_of}
use Rattle.gix_odb_world.specs.Told.{told_since}
use Rattle.gix_odb_world.proofs.HistoryLemmas.{disk_after-push}
use Rattle.gix_odb_world.proofs.RunSteps.{IsTurned, Kind, Made, Quiet, Turned, kind_of}
use Rattle.gix_odb_world.proofs.Streams.{are_open}
use Rattle.gix_odb_world.proofs.Streams.Apart.{AreOpen, AsksOwn, asks_own}
use Rattle.gix_odb_world.proofs.Streams.OneEvent.{LeavesStream, kept_stream}
use Rattle.gix_odb_world.proofs.RunLaws.KnownRun.{IsKnownRun}
use Rattle.gix_odb_world.proofs.RunLaws.QueryTurns.{lawful_front, runs_up_to}

-- what leaves the disk is on no stream
pub leaves_stream : (dir : ℕ) (asked : Asked) → LeavesDisk asked → LeavesStream dir asked
leaves_stream dir OfNothing leaves = tt
leaves_stream dir (OfDisk ask answer) leaves = absurd leaves
leaves_stream dir (OfCore store seat event answer) leaves = tt
leaves_stream dir (OfNewCore slots folders store seat answer) leaves = tt

-- the stream after an answer to a call for its next entry
abbrev read_by : Stream → DiskAnswer → Stream
read_by stream answer = record { folder = stream.folder; dir = stream.dir; entries = given_by stream.entries answer }

-- A stream is open after so many events, and was opened at a moment from one to another, on what its folder listed then.
pub record IsOpenedSince (first : Volume) (events : List Event) (since last : ℕ) (disk : Volume) (stream : Stream) : Type 0 where
  pub moment : ℕ
  pub from : since ≤ moment
  pub to : moment ≤ last
  pub coming : List Entry
  pub is : IsStreamOf (tree_at first events moment) stream.folder disk stream.dir stream.entries coming

module _ (first : Volume) (events : List Event) (is : IsKnownRun first events) (since last now : ℕ) (later : since ≤ now) (before : now ≤ last) (e : Event)
    (there : slice_get events now ≡ Some e) where
  abbrev past : List Event
  past = take now events

  abbrev whole : List Event
  whole = past ++ e ∷ []

  abbrev disk : Volume
  disk = disk_after first past

  abbrev Stays : Stream → Type 0
  Stays stream = IsOpenedSince first events since last (disk_after first whole) stream

  abbrev Had : Stream → Type 0
  Had stream = IsOpenedSince first events since last disk stream

  early : now ≤ length events
  early = let lt = slice_get_within events now e there in omega (arith, lt)

  open_now : AreOpen first past
  open_now = are_open first past (lawful_front first events now is.lawful) (runs_up_to first events now early is.throughout)

  knows_at : (handle : ℕ) (was : Running) → status_of past handle ≡ Working was → Runs first past handle (Working was)
  knows_at handle was status = subst (Runs first past handle) status (is.throughout now handle early)

  -- the event isn't on it
  pub stays_open : (stream : Stream) → LeavesStream stream.dir e.asked → Had stream → Stays stream
  stays_open stream leaves had = record {
    moment = had.moment;
    from = had.from;
    to = had.to;
    coming = had.coming;
    is = kept_stream first past e (tree_at first events had.moment) stream.folder stream.dir stream.entries had.coming leaves had.is;
  }

  module _ (handle : ℕ) (was : Running) (status : status_of past handle ≡ Working was) where
    abbrev old : Option Stream
    old = stream_in (told_since past handle was.begun)

    -- the turn of another handle isn't on it, nor is what leaves the disk
    pub others_leave : ¬ (IsTurnOf handle e) → (stream : Stream) → old ≡ Some stream → LeavesStream stream.dir e.asked
    others_leave other stream has = by (kind_of first past e (is.lawful now e there))
      where
        of_other : (t : IsTurned first past e) → ¬ (IsOnStream stream.dir t.works.ask)
        of_other t on =
            let own : AsksOwn past t.handle t.running t.works.ask =
            asks_own first past t.handle t.running t.running.work (knows_at t.handle t.running t.turn.status).1 t.works.ask t.works.asks in
            let two = own.on stream.dir on in
            open_now.apart handle t.handle was t.running (λ same. other (subst (λ (h : ℕ). IsTurnOf h e) (sym same) t.turn.turn)) status t.turn.status stream two.0 has two.1
            (sym two.2)

        by : Kind first past e → LeavesStream stream.dir e.asked
        by (Turned t) = subst (LeavesStream stream.dir) (sym t.works.told) (of_other t)
        by (Made m) = leaves_stream stream.dir e.asked m.leaves
        by (Quiet q) = leaves_stream stream.dir e.asked q.leaves

    -- ---- its own call of the disk

    module _ (ask : DiskAsk) (own : AsksOwn past handle was ask) (asked : e.asked ≡ OfDisk ask (answer_now disk ask)) (had : (stream : Stream) → old ≡ Some stream → Had stream) where
      after_call : (call : DiskAsk) → ask ≡ call → disk_after first whole ≡ record (after_ask disk call) { state = written disk.state e.entry.change }
      after_call call same =
          disk_after-push first past e ∙ ap (λ (a : Asked). disk_after_asked disk a e.entry.change) (asked ∙ ap (λ (a : DiskAsk). OfDisk a (answer_now disk a)) same)

      settled : (call : DiskAsk) → ask ≡ call → (moment : ℕ) → (folder : Path) (dir : ℕ) (given coming : List Entry)
          → IsStreamOf (tree_at first events moment) folder (after_ask disk call) dir given coming
          → IsStreamOf (tree_at first events moment) folder (disk_after first whole) dir given coming
      settled call same moment folder dir given coming stands =
          subst (λ (d : Volume). IsStreamOf (tree_at first events moment) folder d dir given coming) (sym (after_call call same))
          (stream_of_a_directory_is_kept_by_another_state (tree_at first events moment) folder (after_ask disk call) dir given coming stands (written disk.state e.entry.change))

      begins : (path : Path) (dir : ℕ) → ask ≡ asks.OpenDir path → answer_now disk (asks.OpenDir path) ≡ answers.Dir dir
          → Stays (record { folder = path; dir = dir; entries = [] })
      begins path dir same answered =
          let opened = stream_of_a_directory_begins disk path dir answered in
          record {
            moment = now;
            from = later;
            to = before;
            coming = opened.0;
            is = settled (asks.OpenDir path) same now path dir [] opened.0 opened.1;
          }

      opened_so : (stream : Stream) (path : Path) → ask ≡ asks.OpenDir path → (answer : DiskAnswer) → answer_now disk (asks.OpenDir path) ≡ answer
          → opens path answer ≡ Some stream → Stays stream
      opened_so stream path same (answers.Dir dir) answered gives =
          subst Stays (same_Some (record { folder = path; dir = dir; entries = [] }) stream gives) (begins path dir same answered)
      opened_so stream path same (answers.Refused error) answered gives = absurd (cc gives)
      opened_so stream path same (answers.Entry entry) answered gives = absurd (cc gives)
      opened_so stream path same answers.End answered gives = absurd (cc gives)
      opened_so stream path same answers.Done answered gives = absurd (cc gives)
      opened_so stream path same (answers.Meta meta) answered gives = absurd (cc gives)
      opened_so stream path same (answers.File bytes time) answered gives = absurd (cc gives)

      goes_on : (two : Stream) → old ≡ Some two → ask ≡ asks.NextEntry two.dir → Stays (read_by two (answer_now disk (asks.NextEntry two.dir)))
      goes_on two has same =
          let s = had two has in
          let read = stream_of_a_directory_goes_on (tree_at first events s.moment) two.folder disk two.dir two.entries s.coming s.is in
          record {
            moment = s.moment;
            from = s.from;
            to = s.to;
            coming = read.left;
            is = settled (asks.NextEntry two.dir) same s.moment two.folder two.dir (given_by two.entries (answer_now disk (asks.NextEntry two.dir))) read.left read.after;
          }

      reads_on : (stream two : Stream) → old ≡ Some two → ask ≡ asks.NextEntry two.dir → reads old (answer_now disk (asks.NextEntry two.dir)) ≡ Some stream → Stays stream
      reads_on stream two has same gives =
          let answer : DiskAnswer = answer_now disk (asks.NextEntry two.dir) in
          let both : Some (read_by two answer) ≡ Some stream =
          sym (reads-given two.folder two.dir two.entries answer) ∙ (ap (λ (o : Option Stream). reads o answer) (sym has) ∙ gives) in
          subst Stays (same_Some (read_by two answer) stream both) (goes_on two has same)

      kept : (stream : Stream) (call : DiskAsk) → ask ≡ call → ¬ (IsOnStream stream.dir call) → old ≡ Some stream → Stays stream
      kept stream call same none has =
          stays_open stream
          (subst (LeavesStream stream.dir) (sym asked) (λ (on : IsOnStream stream.dir ask). none (subst (IsOnStream stream.dir) same on))) (had stream has)

      by_call : (stream : Stream) (call : DiskAsk) → ask ≡ call → stream_by old (parts.Disk call) (told.Disk (answer_now disk call)) ≡ Some stream → Stays stream
      by_call stream (asks.OpenDir path) same gives = opened_so stream path same (answer_now disk (asks.OpenDir path)) refl gives
      by_call stream (asks.NextEntry dir) same gives =
          let two = own.on dir (subst (IsOnStream dir) (sym same) refl) in
          reads_on stream two.0 two.1 (same ∙ ap asks.NextEntry (sym two.2)) (subst (λ (n : ℕ). reads old (answer_now disk (asks.NextEntry n)) ≡ Some stream) (sym two.2) gives)
      by_call stream (asks.CloseDir dir) same gives = absurd (cc gives)
      by_call stream (asks.Look path follow) same gives = kept stream (asks.Look path follow) same (λ on. on) gives
      by_call stream (asks.Read path) same gives = kept stream (asks.Read path) same (λ on. on) gives
      by_call stream (asks.MakeDir path) same gives = kept stream (asks.MakeDir path) same (λ on. on) gives
      by_call stream (asks.NewFile path) same gives = kept stream (asks.NewFile path) same (λ on. on) gives
      by_call stream (asks.Append path bytes) same gives = kept stream (asks.Append path bytes) same (λ on. on) gives
      by_call stream (asks.Rename from to) same gives = kept stream (asks.Rename from to) same (λ on. on) gives
      by_call stream (asks.Remove path) same gives = kept stream (asks.Remove path) same (λ on. on) gives

      -- after its own call of the disk
      pub called_stream : (stream : Stream) → stream_by old (parts.Disk ask) (told.Disk (answer_now disk ask)) ≡ Some stream → Stays stream
      called_stream stream gives = by_call stream ask refl gives
