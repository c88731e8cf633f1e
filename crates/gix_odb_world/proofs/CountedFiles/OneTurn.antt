-- What a handle that lists folders of packs was answered: where its work begins, and after one more event.
use Rattle.std.proofs.Common.{◌≡◌, inl, inr, ℕ, ◌≤◌, Bool, true, false, List, [], ◌∷◌, ◌++◌, length, Option, None, Result, Ok, Err, refl, sym, ap, ◌∙◌, subst, arith}
use Rattle.std.specs.Prelude.{if◌then◌else◌}
use Rattle.std.proofs.lemmas.List.{append_cancel_left, length_push}
use Rattle.odb_disk.specs.Ask.{answer_now, answer_of, dir_answer, fails_now}
use Rattle.odb_disk.specs.MemDisk.{Volume}
use Rattle.odb_disk.specs.StreamAsks.{least_closed}
use Rattle.odb_disk.specs.declared.ask.DiskAnswer.{DiskAnswer}
use Rattle.odb_disk.specs.declared.ask.DiskAnswer.TheVariants as answers
use Rattle.odb_disk.specs.declared.ask.DiskAsk.{DiskAsk}
use Rattle.odb_disk.specs.declared.ask.DiskAsk.TheVariants as asks
use Rattle.odb_disk.specs.Entries.{opened}
use Rattle.odb_disk.specs.Tree.{Tree, tree_of}
use Rattle.odb_disk.specs.Tree.Follow.{Refusal, Absent, WrongKind, LinkLoop}
use Rattle.odb_disk.specs.declared.disk_error.DiskError.TheVariants as errors
use Rattle.odb_disk.specs.declared.entry.Entry.{Entry}
use Rattle.gix_odb_events.specs.declared.answer.Answer.{Answer}
use Rattle.gix_odb_events.specs.declared.answer.Answer.TheVariants as told
use Rattle.gix_odb_events.specs.declared.answer.Ask.{Ask}
use Rattle.gix_odb_events.specs.declared.answer.Ask.TheVariants as parts
use Rattle.gix_odb.specs.LookExchanges.{Exchange, WasTold}
use Rattle.gix_odb.specs.OpenStream.{GivesNext, IsRead}
use Rattle.gix_odb.specs.Stream.{Stream}
use Rattle.gix_odb.proofs.HandedLaws.{IsOwnStream}
use Rattle.gix_odb.proofs.StreamLaws.Calls.{stream_gives_what_is_coming}
use Rattle.gix_odb.specs.ListedFiles.{IsOfTree, IsOrFails, Opens}
use Rattle.gix_odb.specs.Moments.{Throughout}
use Rattle.gix_odb_world.specs.AtWork.{Running}
use Rattle.gix_odb_history.specs.Event.{Event}
use Rattle.gix_odb_history.specs.Run.{disk_after, tree_at}
use Rattle.gix_odb_world.specs.Running.Listed.{AreGiven, AreOfTreeTo}
use Rattle.gix_odb_world.specs.Running.Query.{IsGiven}
use Rattle.gix_odb_world.specs.Told.{told_since}
use Rattle.gix_odb_world.proofs.CountedFiles.OfTree.{AreOfTreeTo-push, GivesAll, streams_give_all}
use Rattle.gix_odb_world.proofs.HistoryLemmas.{tree_at-all, tree_at-before}
use Rattle.gix_odb_world.proofs.MachineLaws.{IsRunning}
use Rattle.gix_odb_world.proofs.QuietTurn.{failed_now}
use Rattle.gix_odb_world.proofs.Streams.{streams_stand}
use Rattle.gix_odb_world.proofs.Streams.OneEvent.{StandsOpen}
use Rattle.gix_odb_world.proofs.ToldLists.{nothing_among, one_of_more}
use Rattle.gix_odb_world.proofs.ToldWell.{given_later}
use Rattle.gix_odb_world.proofs.WriteTurn.Common.{IsTurnWith}

same_listed : (one other : List Entry) → ◌≡◌ {A = Result (List Entry) Refusal} (Ok one) (Ok other) → one ≡ other
same_listed one other is = cc is

-- ---- the answers of a disk that has a tree

-- an answer is itself, whether the call failed or not
is_itself : (answer : DiskAnswer) → IsOrFails answer answer
is_itself (answers.Refused errors.Failed) = tt
is_itself answer = refl

or_fails : (b : Bool) (answer : DiskAnswer) → IsOrFails (if b then answers.Refused errors.Failed else answer) answer
or_fails true answer = tt
or_fails false answer = is_itself answer

opened_as_told : (b : Bool) (dir : ℕ) (listed : Result (List Entry) Refusal)
    → (left : List Entry) × Opens listed (if b then answers.Refused errors.Failed else dir_answer dir listed) left
opened_as_told true dir listed = ([], tt)
opened_as_told false dir (Ok entries) = (entries, refl)
opened_as_told false dir (Err Absent) = ([], refl)
opened_as_told false dir (Err WrongKind) = ([], refl)
opened_as_told false dir (Err LinkLoop) = ([], refl)

module _ (tree : Tree) (disk : Volume) (here : tree_of disk.state ≡ tree) (coming : List Entry) where
  -- a call that is on no stream
  still_told : (ask : DiskAsk) → IsOrFails (if fails_now disk ask then answers.Refused errors.Failed else answer_of (tree_of disk.state) ask) (answer_of tree ask)
  still_told ask =
      subst (λ (t : Tree). IsOrFails (if fails_now disk ask then answers.Refused errors.Failed else answer_of t ask) (answer_of tree ask)) (sym here)
      (or_fails (fails_now disk ask) (answer_of tree ask))

  -- a call is answered by the tree, where the open stream gives the entries that are coming
  told_of_tree : (ask : DiskAsk)
      → ((dir : ℕ) → ask ≡ asks.NextEntry dir → (left : List Entry) × GivesNext coming (answer_now disk (asks.NextEntry dir)) left)
      → (left : List Entry) × IsOfTree tree coming ask (answer_now disk ask) left
  told_of_tree (asks.OpenDir path) next =
      subst (λ (t : Tree). (left : List Entry) × Opens (opened t path) (answer_now disk (asks.OpenDir path)) left) here
      (opened_as_told (fails_now disk (asks.OpenDir path)) (least_closed disk.streams) (opened (tree_of disk.state) path))
  told_of_tree (asks.NextEntry dir) next = next dir refl
  told_of_tree (asks.CloseDir dir) next = (coming, (still_told (asks.CloseDir dir), refl))
  told_of_tree (asks.Look path follow) next = (coming, (still_told (asks.Look path follow), refl))
  told_of_tree (asks.Read path) next = (coming, (still_told (asks.Read path), refl))
  told_of_tree (asks.MakeDir path) next = (coming, (still_told (asks.MakeDir path), refl))
  told_of_tree (asks.NewFile path) next = (coming, (still_told (asks.NewFile path), refl))
  told_of_tree (asks.Append path bytes) next = (coming, (still_told (asks.Append path bytes), refl))
  told_of_tree (asks.Rename from to) next = (coming, (still_told (asks.Rename from to), refl))
  told_of_tree (asks.Remove path) next = (coming, (still_told (asks.Remove path), refl))

-- ---- one more event

module _ (first : Volume) (events : List Event) (e : Event) where
  abbrev whole : List Event
  whole = events ++ e ∷ []

  -- the tree was this one from then until now
  abbrev Stands : List Event → (begun : ℕ) → Tree → Type 0
  Stands history begun tree = Throughout begun (length history) (λ moment. tree_at first history moment ≡ tree)

  -- a tree that was there until the event was there before it
  stood_before : (begun : ℕ) (tree : Tree) → Stands whole begun tree → Stands events begun tree
  stood_before begun tree stood moment from to =
      let longer = length_push events e in
      sym (tree_at-before first events e moment to) ∙ stood moment from (omega (arith, to, longer))

  -- where nothing was answered
  pub given_at_first : (handle begun : ℕ) → told_since whole handle begun ≡ [] → AreGiven first whole handle begun
  given_at_first handle begun none = record {
    given = λ ask answer was.
        absurd (nothing_among (record { ask = parts.Disk ask; answer = told.Disk answer })
        (subst (λ (xs : List Exchange). WasTold xs (parts.Disk ask) (told.Disk answer)) none was));
    of_tree = λ tree stood. ([], subst (λ (xs : List Exchange). AreOfTreeTo tree [] xs []) (sym none) refl);
  }

  -- where nothing more is answered
  pub given_as_before : (handle begun : ℕ) → told_since whole handle begun ≡ told_since events handle begun → AreGiven first events handle begun
      → AreGiven first whole handle begun
  given_as_before handle begun same before = record {
    given = λ ask answer was.
        given_later first events e handle begun ask answer
        (before.given ask answer (subst (λ (xs : List Exchange). WasTold xs (parts.Disk ask) (told.Disk answer)) same was));
    of_tree = λ tree stood.
        let old = before.of_tree tree (stood_before begun tree stood) in
        (old.0, subst (λ (xs : List Exchange). AreOfTreeTo tree [] xs old.0) (sym same) old.1);
  }

  -- ---- its own turn

  module _ (handle : ℕ) (running : Running) (ran : IsRunning first events handle running) (since : running.begun ≤ length events)
      (well : AreGiven first events handle running.begun) (ask : DiskAsk)
      (own : (dir : ℕ) → ask ≡ asks.NextEntry dir → IsOwnStream (told_since events handle running.begun) dir)
      (turn : IsTurnWith first events e handle ask) where
    abbrev begun : ℕ
    begun = running.begun

    abbrev before : List Exchange
    before = told_since events handle begun

    abbrev disk : Volume
    disk = disk_after first events

    abbrev call : Exchange
    call = record { ask = parts.Disk ask; answer = told.Disk (answer_now disk ask) }

    given_now : IsGiven first whole handle begun ask (answer_now disk ask)
    given_now =
        let longer = length_push events e in
        record {
          moment = length events;
          from = since;
          to = omega (arith, longer);
          disk = disk;
          shown = tree_at-before first events e (length events) (omega arith) ∙ tree_at-all first events;
          is = refl;
          failed = λ fails. failed_now first events e handle running since ask turn fails;
        }

    -- what the disk gave, of what was asked and answered
    abbrev IsGivenPart : Ask → Answer → Type 0
    IsGivenPart (parts.Disk asked) (told.Disk answer) = IsGiven first whole handle begun asked answer
    IsGivenPart asked answer = Unit {0}

    module _ (tree : Tree) (stood : Stands events begun tree) (coming : List Entry) (of : AreOfTreeTo tree [] before coming) where
      -- the open stream gives the entries that are coming
      next_of_tree : (dir : ℕ) → IsOwnStream before dir → (left : List Entry) × GivesNext coming (answer_now disk (asks.NextEntry dir)) left
      next_of_tree dir mine =
          let gives : GivesNext coming (answer_now disk (asks.NextEntry mine.stream.dir)) read.left =
          subst (λ (es : List Entry). GivesNext es (answer_now disk (asks.NextEntry mine.stream.dir)) read.left) is_coming read.next in
          (read.left, subst (λ (n : ℕ). GivesNext coming (answer_now disk (asks.NextEntry n)) read.left) mine.number gives)
        where
          stands : StandsOpen first events running mine.stream
          stands = streams_stand first events ran.lawful ran.throughout handle running ran.status mine.stream mine.told

          listed_now : opened tree mine.stream.folder ≡ Ok (mine.stream.entries ++ coming)
          listed_now =
              subst (λ (o : Option Stream). GivesAll tree o coming) mine.told (streams_give_all tree None [] before coming tt of)

          listed_then : opened tree mine.stream.folder ≡ Ok (mine.stream.entries ++ stands.coming)
          listed_then = sym (ap (λ (t : Tree). opened t mine.stream.folder) (stood stands.moment stands.from stands.to)) ∙ stands.is.fixed

          is_coming : stands.coming ≡ coming
          is_coming =
              append_cancel_left mine.stream.entries stands.coming coming
              (same_listed (mine.stream.entries ++ stands.coming) (mine.stream.entries ++ coming) (sym listed_then ∙ listed_now))

          read : IsRead disk mine.stream.dir stands.coming
          read = stream_gives_what_is_coming disk mine.stream.dir stands.coming stands.is.now

      call_of_tree : (left : List Entry) × IsOfTree tree coming ask (answer_now disk ask) left
      call_of_tree =
          told_of_tree tree disk (sym (tree_at-all first events) ∙ stood (length events) since (omega arith)) coming ask
          (λ dir is. next_of_tree dir (own dir is))

    -- with a call of the disk, on its own stream if it is on one
    pub given_on_disk : told_since whole handle begun ≡ before ++ call ∷ [] → AreGiven first whole handle begun
    given_on_disk same = record {
      given = λ asked answer was.
          elim (one_of_more before call (record { ask = parts.Disk asked; answer = told.Disk answer })
          (subst (λ (xs : List Exchange). WasTold xs (parts.Disk asked) (told.Disk answer)) same was)) [
            | inl old ↦ given_later first events e handle begun asked answer (well.given asked answer old)
            | inr is ↦ subst (λ (x : Exchange). IsGivenPart x.ask x.answer) (sym is) given_now
          ];
      of_tree = λ tree stood.
          let old = well.of_tree tree (stood_before begun tree stood) in
          let more = call_of_tree tree (stood_before begun tree stood) old.0 old.1 in (
            more.0,
            subst (λ (xs : List Exchange). AreOfTreeTo tree [] xs more.0) (sym same)
                (AreOfTreeTo-push tree [] before old.0 call more.0 old.1 more.1),
          );
    }
