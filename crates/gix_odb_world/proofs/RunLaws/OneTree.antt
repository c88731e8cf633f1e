-- While the tree stays the same, one tree answers all that a handle at work asks of the disk.
use Rattle.std.proofs.Common.{◌≡◌, inl, inr, ℕ, zero, suc, ◌+◌, ◌≤◌, Bool, true, false, List, [], ◌∷◌, ◌++◌, length, take, Option, Some, None, Result, Ok, Err, refl, sym, ap, ◌∙◌, subst, arith}
use Rattle.std.specs.Prelude.{slice_get, if◌then◌else◌}
use Rattle.std.proofs.lemmas.List.{length_push}
use Rattle.std.proofs.lemmas.Option.{same_Some, slice_get_within}
use Rattle.odb_base.specs.Path.{Path}
use Rattle.odb_disk.specs.Ask.{answer_now, answer_of, dir_answer, fails_now}
use Rattle.odb_disk.specs.MemDisk.{Volume}
use Rattle.odb_disk.specs.StreamAsks.{least_closed}
use Rattle.odb_disk.specs.declared.ask.DiskAnswer.{DiskAnswer}
use Rattle.odb_disk.specs.declared.ask.DiskAnswer.TheVariants as answers
use Rattle.odb_disk.specs.declared.ask.DiskAsk.{DiskAsk}
use Rattle.odb_disk.specs.declared.ask.DiskAsk.TheVariants as asks
use Rattle.odb_disk.specs.Entries.{opened}
use Rattle.odb_disk.specs.Tree.{Tree, tree_of}
use Rattle.odb_disk.specs.Tree.Follow.{Absent, LinkLoop, Refusal, WrongKind}
use Rattle.odb_disk.specs.declared.disk_error.DiskError.TheVariants as errors
use Rattle.odb_disk.specs.declared.entry.Entry.{Entry}
use Rattle.gix_odb_events.specs.declared.answer.Answer.TheVariants as told
use Rattle.gix_odb_events.specs.declared.answer.Ask.TheVariants as parts
use Rattle.gix_odb.specs.LookExchanges.{Exchange}
use Rattle.gix_odb.specs.OpenStream.{IsOnStream, IsStreamOf, given_by}
use Rattle.gix_odb.specs.Stream.{Stream, opens, reads, stream_by, stream_in}
use Rattle.gix_odb.proofs.StreamLaws.Directories.{stream_of_a_directory_goes_on}
use Rattle.gix_odb.proofs.StreamLaws.Exchanges.{reads-given}
use Rattle.gix_odb.proofs.ListerLaws.Streams.{stream_in-push}
use Rattle.gix_odb.specs.ListedFiles.{AreOfTree, IsOrFails, IsToldOfTree, Opens}
use Rattle.gix_odb_world.specs.AtWork.{Running}
use Rattle.gix_odb_history.specs.Cores.{answer_behind, history_at}
use Rattle.gix_odb_history.specs.Event.{CoreAnswer, Event, OfCore, OfDisk}
use Rattle.gix_odb_events.specs.declared.answer.Ask.{Ask}
use Rattle.gix_odb_world.specs.Headline.{Works, stand_of}
use Rattle.gix_odb_world.specs.Machines.{ask_in}
use Rattle.gix_odb_history.specs.Run.{IsTurnOf, Stand, disk_after, told_now, tree_at}
use Rattle.gix_odb_world.specs.Running.{Runs}
use Rattle.gix_odb_world.specs.Status.{Free, Working, status_of, statuses_from}
use Rattle.gix_odb_world.specs.Told.{exchange_of, told_since}
use Rattle.gix_odb_world.proofs.RunSteps.Fronts.{event_or_end, length_take, take_none, take_suc}
use Rattle.gix_odb_world.proofs.Streams.{streams_stand}
use Rattle.gix_odb_world.proofs.Streams.Apart.{asks_own}
use Rattle.gix_odb_world.proofs.Streams.OneEvent.{Goes, goes}
use Rattle.gix_odb_world.proofs.ToldLemmas.{told_first, told_kept, told_none, told_turn, turn_or_not}
use Rattle.gix_odb_world.proofs.RunLaws.KnownRun.{IsKnownRun}
use Rattle.gix_odb_world.proofs.RunLaws.QueryTurns.{lawful_front, runs_up_to, tree_in_front}

-- ---- lists

cancel : (xs ys zs : List Entry) → xs ++ ys ≡ xs ++ zs → ys ≡ zs
cancel [] ys zs is = is
cancel (x ∷ xs) ys zs is = cancel xs ys zs (cc is)

same_entries : (one other : List Entry) → ◌≡◌ {A = Result (List Entry) Refusal} (Ok one) (Ok other) → one ≡ other
same_entries one other is = cc is

-- ---- an answer, or a failure

same_answer : (own : DiskAnswer) → IsOrFails own own
same_answer (answers.Refused errors.Failed) = tt
same_answer (answers.Refused errors.Absent) = refl
same_answer (answers.Refused errors.WrongKind) = refl
same_answer (answers.Refused errors.LinkLoop) = refl
same_answer (answers.Refused errors.Exists) = refl
same_answer (answers.Refused errors.NotEmpty) = refl
same_answer (answers.Refused errors.NoMemory) = refl
same_answer (answers.Meta meta) = refl
same_answer (answers.File bytes time) = refl
same_answer (answers.Dir dir) = refl
same_answer (answers.Entry entry) = refl
same_answer answers.End = refl
same_answer answers.Done = refl

or_fails : (b : Bool) (own : DiskAnswer) → IsOrFails (if b then answers.Refused errors.Failed else own) own
or_fails true own = tt
or_fails false own = same_answer own

module _ (tree : Tree) where
  -- one tree answers exchanges, and these entries are left after them
  abbrev AreOfTreeTo : (coming : List Entry) → List Exchange → (left : List Entry) → Type 0
  AreOfTreeTo coming [] left = coming ≡ left
  AreOfTreeTo coming (x ∷ xs) left = (mid : List Entry) × IsToldOfTree tree coming x.ask x.answer mid × AreOfTreeTo mid xs left

  to-push : (coming : List Entry) (xs : List Exchange) (left : List Entry) → AreOfTreeTo coming xs left → (x : Exchange) (next : List Entry)
      → IsToldOfTree tree left x.ask x.answer next → AreOfTreeTo coming (xs ++ x ∷ []) next
  to-push coming [] left are x next is = (next, subst (λ (c : List Entry). IsToldOfTree tree c x.ask x.answer next) (sym are) is, refl)
  to-push coming (y ∷ ys) left are x next is = (are.0, are.1, to-push are.0 ys left are.2 x next is)

  pub to_some : (coming : List Entry) (xs : List Exchange) (left : List Entry) → AreOfTreeTo coming xs left → AreOfTree tree coming xs
  to_some coming [] left are = tt
  to_some coming (x ∷ xs) left are = (are.0, are.1, to_some are.0 xs left are.2)

  -- the open stream is still to give what is left
  abbrev IsLeft : Option Stream → (left : List Entry) → Type 0
  IsLeft stream left = (s : Stream) → stream ≡ Some s → opened tree s.folder ≡ Ok (s.entries ++ left)

  -- one tree gave a handle's answers, and its stream is still to give what is left
  pub record IsOneTree (exchanges : List Exchange) : Type 0 where
    pub left : List Entry
    pub are : AreOfTreeTo [] exchanges left
    pub stream : IsLeft (stream_in exchanges) left

  nothing_told : (exchanges : List Exchange) → exchanges ≡ [] → IsOneTree exchanges
  nothing_told exchanges none =
      subst IsOneTree (sym none) (record { left = []; are = refl; stream = λ s is. let wrong : None ≡ Some s = is in absurd (cc wrong) })

  -- what one more exchange leaves
  record Leaves (old : Option Stream) (left : List Entry) (x : Exchange) : Type 0 where
    next : List Entry
    of : IsToldOfTree tree left x.ask x.answer next
    is_left : IsLeft (stream_by old x.ask x.answer) next

  told_more : (exchanges : List Exchange) (one : IsOneTree exchanges) (x : Exchange) → Leaves (stream_in exchanges) one.left x → IsOneTree (exchanges ++ x ∷ [])
  told_more exchanges one x leaves = record {
    left = leaves.next;
    are = to-push [] exchanges one.left one.are x leaves.next leaves.of;
    stream = λ s is. leaves.is_left s (sym (stream_in-push exchanges x) ∙ is);
  }

  -- ---- a call of a disk that shows the tree

  module _ (disk : Volume) (shows : tree_of disk.state ≡ tree) (old : Option Stream) (left : List Entry) (is_left : IsLeft old left) where
    abbrev call : DiskAsk → Exchange
    call ask = record { ask = parts.Disk ask; answer = told.Disk (answer_now disk ask) }

    -- a call that isn't of streams
    still : (ask : DiskAsk) → IsOrFails (answer_now disk ask) (answer_of (tree_of disk.state) ask) → IsOrFails (answer_now disk ask) (answer_of tree ask)
    still ask is = subst (λ (t : Tree). IsOrFails (answer_now disk ask) (answer_of t ask)) shows is

    opened_next : (path : Path) (b : Bool) (o : Result (List Entry) Refusal) (dir : ℕ) → opened tree path ≡ o
        → (next : List Entry) × Opens o (if b then answers.Refused errors.Failed else dir_answer dir o) next
        × IsLeft (opens path (if b then answers.Refused errors.Failed else dir_answer dir o)) next
    opened_next path true o dir is = ([], tt, λ s none. let wrong : None ≡ Some s = none in absurd (cc wrong))
    opened_next path false (Ok entries) dir is = (
      entries,
      refl,
      λ s own. subst (λ (t : Stream). opened tree t.folder ≡ Ok (t.entries ++ entries)) (same_Some (record { folder = path; dir = dir; entries = [] }) s own) is,
    )
    opened_next path false (Err Absent) dir is = ([], refl, λ s none. let wrong : None ≡ Some s = none in absurd (cc wrong))
    opened_next path false (Err WrongKind) dir is = ([], refl, λ s none. let wrong : None ≡ Some s = none in absurd (cc wrong))
    opened_next path false (Err LinkLoop) dir is = ([], refl, λ s none. let wrong : None ≡ Some s = none in absurd (cc wrong))

    opens_so : (path : Path) → Leaves old left (call (asks.OpenDir path))
    opens_so path =
        let next : (next : List Entry) × Opens (opened tree path) (answer_now disk (asks.OpenDir path)) next × IsLeft (opens path (answer_now disk (asks.OpenDir path))) next =
        subst (λ (o : Result (List Entry) Refusal). (next : List Entry) × Opens (opened tree path) (if fails_now disk (asks.OpenDir path) then answers.Refused errors.Failed else dir_answer (least_closed disk.streams) o) next
        × IsLeft (opens path (if fails_now disk (asks.OpenDir path) then answers.Refused errors.Failed else dir_answer (least_closed disk.streams) o)) next)
        (sym (ap (λ (t : Tree). opened t path) shows))
        (opened_next path (fails_now disk (asks.OpenDir path)) (opened tree path) (least_closed disk.streams) refl) in
        record { next = next.0; of = next.1; is_left = next.2 }

    -- its own stream is read on
    reads_so : (stream : Stream) → old ≡ Some stream → (coming : List Entry) → IsStreamOf tree stream.folder disk stream.dir stream.entries coming
        → Leaves old left (call (asks.NextEntry stream.dir))
    reads_so stream is coming stands =
        let same : coming ≡ left = cancel stream.entries coming left (same_entries (stream.entries ++ coming) (stream.entries ++ left) (sym stands.fixed ∙ is_left stream is)) in
        let own : IsStreamOf tree stream.folder disk stream.dir stream.entries left = subst (IsStreamOf tree stream.folder disk stream.dir stream.entries) same stands in
        let read = stream_of_a_directory_goes_on tree stream.folder disk stream.dir stream.entries left own in
        let answer : DiskAnswer = answer_now disk (asks.NextEntry stream.dir) in
        record {
          next = read.left;
          of = read.next;
          is_left = λ s own_is.
              let there : Some (record { folder = stream.folder; dir = stream.dir; entries = given_by stream.entries answer }) ≡ Some s =
              sym (reads-given stream.folder stream.dir stream.entries answer) ∙ ap (λ (o : Option Stream). reads o answer) (sym is) ∙ own_is in
              subst (λ (t : Stream). opened tree t.folder ≡ Ok (t.entries ++ read.left))
              (same_Some (record { folder = stream.folder; dir = stream.dir; entries = given_by stream.entries answer }) s there) read.after.fixed;
        }

    abbrev HasOwn : DiskAsk → Type 0
    HasOwn ask = (dir : ℕ) → ask ≡ asks.NextEntry dir
        → (stream : Stream) × (old ≡ Some stream) × (stream.dir ≡ dir) × (coming : List Entry) × IsStreamOf tree stream.folder disk stream.dir stream.entries coming

    leaves_so : (ask : DiskAsk) → HasOwn ask → Leaves old left (call ask)
    leaves_so (asks.OpenDir path) own = opens_so path
    leaves_so (asks.NextEntry dir) own =
        let has = own dir refl in subst (λ (n : ℕ). Leaves old left (call (asks.NextEntry n))) has.2 (reads_so has.0 has.1 has.3 has.4)
    leaves_so (asks.CloseDir dir) own = record {
      next = left;
      of = (still (asks.CloseDir dir) (or_fails (fails_now disk (asks.CloseDir dir)) (answer_of (tree_of disk.state) (asks.CloseDir dir))), refl);
      is_left = λ s none. let wrong : None ≡ Some s = none in absurd (cc wrong);
    }
    leaves_so (asks.Look path follow) own = record {
      next = left;
      of = (still (asks.Look path follow) (or_fails (fails_now disk (asks.Look path follow)) (answer_of (tree_of disk.state) (asks.Look path follow))), refl);
      is_left = is_left;
    }
    leaves_so (asks.Read path) own = record {
      next = left;
      of = (still (asks.Read path) (or_fails (fails_now disk (asks.Read path)) (answer_of (tree_of disk.state) (asks.Read path))), refl);
      is_left = is_left;
    }
    leaves_so (asks.MakeDir path) own = record {
      next = left;
      of = (still (asks.MakeDir path) (or_fails (fails_now disk (asks.MakeDir path)) (answer_of (tree_of disk.state) (asks.MakeDir path))), refl);
      is_left = is_left;
    }
    leaves_so (asks.NewFile path) own = record {
      next = left;
      of = (still (asks.NewFile path) (or_fails (fails_now disk (asks.NewFile path)) (answer_of (tree_of disk.state) (asks.NewFile path))), refl);
      is_left = is_left;
    }
    leaves_so (asks.Append path bytes) own = record {
      next = left;
      of = (still (asks.Append path bytes) (or_fails (fails_now disk (asks.Append path bytes)) (answer_of (tree_of disk.state) (asks.Append path bytes))), refl);
      is_left = is_left;
    }
    leaves_so (asks.Rename from to) own = record {
      next = left;
      of = (still (asks.Rename from to) (or_fails (fails_now disk (asks.Rename from to)) (answer_of (tree_of disk.state) (asks.Rename from to))), refl);
      is_left = is_left;
    }
    leaves_so (asks.Remove path) own = record {
      next = left;
      of = (still (asks.Remove path) (or_fails (fails_now disk (asks.Remove path)) (answer_of (tree_of disk.state) (asks.Remove path))), refl);
      is_left = is_left;
    }

  -- ---- along a run

  module _ (first : Volume) (events : List Event) (is : IsKnownRun first events) where
    -- the run shows the tree from the start of the task of a handle on
    abbrev pub Stays : (begun now : ℕ) → Type 0
    Stays begun now = (moment : ℕ) → begun ≤ moment → moment ≤ now → tree_at first events moment ≡ tree

    abbrev Holds : (now : ℕ) → Type 0
    Holds now =
        (handle : ℕ) (running : Running) → status_of (take now events) handle ≡ Working running → Stays running.begun now
        → IsOneTree (told_since (take now events) handle running.begun)

    at_first : Holds 0
    unfolding statuses_from
    at_first handle running status stays = let free : Free ≡ Working running = status in absurd (cc free)

    module _ (now : ℕ) (e : Event) (there : slice_get events now ≡ Some e) (before : Holds now) where
      abbrev past : List Event
      past = take now events

      abbrev whole : List Event
      whole = past ++ e ∷ []

      long : length past ≡ now
      long = length_take events now e there

      early_now : now ≤ length events
      early_now = let lt = slice_get_within events now e there in omega (arith, lt)

      shown : (begun : ℕ) → begun ≤ now → Stays begun now → tree_of (disk_after first past).state ≡ tree
      shown begun since stays = stays now since (omega arith)

      module _ (handle : ℕ) (was : Running) (status : status_of past handle ≡ Working was) (stays : Stays was.begun now) where
        abbrev exchanges : List Exchange
        exchanges = told_since past handle was.begun

        one : IsOneTree exchanges
        one = before handle was status stays

        runs : Runs first past handle (Working was)
        runs = subst (Runs first past handle) status (is.throughout now handle early_now)

        begun_early : was.begun ≤ length past
        begun_early = runs.0

        early : was.begun ≤ now
        early = let since = begun_early in let count = long in omega (arith, since, count)

        own_stream : (ask : DiskAsk) → ask_in was.store was.work ≡ Some (parts.Disk ask) → HasOwn (disk_after first past) (shown was.begun early stays) (stream_in exchanges) one.left one.stream ask
        own_stream ask asked dir same =
            let own = (asks_own first past handle was was.work runs.1 ask asked).on dir (subst (λ (a : DiskAsk). IsOnStream dir a) (sym same) refl) in
            let stands = streams_stand first past (lawful_front first events now is.lawful) (runs_up_to first events now early_now is.throughout) handle was status own.0 own.1 in
            let count = long in
            let to = stands.to in
            let from = stands.from in
            let late : stands.moment ≤ now = omega (arith, to, count) in (
              own.0,
              own.1,
              own.2,
              stands.coming,
              subst (λ (t : Tree). IsStreamOf t own.0.folder (disk_after first past) own.0.dir own.0.entries stands.coming)
                  (tree_in_front first events now stands.moment late ∙ stays stands.moment from late) stands.is,
            )

        module _ (turn : IsTurnOf handle e) where
          works : Works first past handle was e
          works = (is.lawful now e there).worked handle was (record { turn = turn; status = status })

          abbrev at : Stand
          at = stand_of past handle was

          by_ask : (ask : Option Ask) → works.ask ≡ ask → IsOneTree (told_since whole handle was.begun)
          by_ask None same = subst IsOneTree (sym (told_none past e handle was.begun begun_early turn e.asked refl (ap exchange_of (works.told ∙ ap (told_now at (disk_after first past)) same)))) one
          by_ask (Some (parts.NewCore slots folders)) same =
              subst IsOneTree (sym (told_none past e handle was.begun begun_early turn e.asked refl (ap exchange_of (works.told ∙ ap (told_now at (disk_after first past)) same)))) one
          by_ask (Some (parts.Core event)) same =
              let answer : CoreAnswer = answer_behind (history_at at.cores at.store) at.seat event in
              let x : Exchange = record { ask = parts.Core event; answer = told.Core answer } in
              subst IsOneTree
              (sym (told_turn past e handle was.begun begun_early turn (OfCore at.store at.seat event answer) (works.told ∙ ap (told_now at (disk_after first past)) same) x refl))
              (told_more exchanges one x (record { next = one.left; of = refl; is_left = one.stream }))
          by_ask (Some (parts.Disk ask)) same =
              let x : Exchange = record { ask = parts.Disk ask; answer = told.Disk (answer_now (disk_after first past) ask) } in
              subst IsOneTree
              (sym (told_turn past e handle was.begun begun_early turn (OfDisk ask (answer_now (disk_after first past) ask)) (works.told ∙ ap (told_now at (disk_after first past)) same) x refl))
              (told_more exchanges one x
              (leaves_so (disk_after first past) (shown was.begun early stays) (stream_in exchanges) one.left one.stream ask (own_stream ask (works.asks ∙ same))))

        goes_on : IsOneTree (told_since whole handle was.begun)
        goes_on = elim (turn_or_not handle e) [
          | inl turn ↦ by_ask turn (works turn).ask refl
          | inr other ↦ subst IsOneTree (sym (told_kept past e handle was.begun begun_early other)) one
        ]

      over : (handle : ℕ) (running : Running) → status_of whole handle ≡ Working running → Stays running.begun (now + 1)
          → IsOneTree (told_since whole handle running.begun)
      over handle running status stays = by (subst (Goes first past e handle) status (goes first past e handle))
        where
          by : Goes first past e handle (Working running) → IsOneTree (told_since whole handle running.begun)
          by (inl fresh) =
              let all : running.begun ≡ length whole = fresh ∙ sym (length_push past e) in
              nothing_told (told_since whole handle running.begun) (ap (told_since whole handle) all ∙ told_first whole handle)
          by (inr at) =
              subst (λ (n : ℕ). IsOneTree (told_since whole handle n)) at.begun
              (goes_on handle at.was at.status
              (λ moment from to. let begun = at.begun in stays moment (omega (arith, from, begun)) (omega (arith, to))))

    pub one_tree : (now : ℕ) → Holds now
    one_tree zero = at_first
    one_tree (suc now) =
        elim (event_or_end events now) [
          | inl here ↦ λ handle running status stays.
              let front : take (suc now) events ≡ take now events ++ here.0 ∷ [] = take_suc events now here.0 here.1 in
              subst (λ (es : List Event). IsOneTree (told_since es handle running.begun)) (sym front)
              (over now here.0 here.1 (one_tree now) handle running (sym (ap (λ (es : List Event). status_of es handle) front) ∙ status)
              (λ moment from to. stays moment from (omega (arith, to))))
          | inr end ↦ λ handle running status stays.
              let front : take (suc now) events ≡ take now events = take_none events now end in
              subst (λ (es : List Event). IsOneTree (told_since es handle running.begun)) (sym front)
              (one_tree now handle running (sym (ap (λ (es : List Event). status_of es handle) front) ∙ status) (λ moment from to. stays moment from (omega (arith, to))))
        ]
