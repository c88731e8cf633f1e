-- A turn of a write: what follows its ask and the answer.
use Rattle.std.specs.Prelude.{◌≡◌, ◌⊎◌, ℕ, ◌≤◌, List, [], ◌∷◌, ◌++◌, length, All, Option, Some, Ok, Err, IfSome, refl}
use Rattle.std.proofs.Common.{inl, inr, sym, ap, ◌∙◌, subst, arith}
use Rattle.std.proofs.lemmas.List.Elements.{All-append, All-cons, All-nil}
use Rattle.odb_base.specs.Faults.{Rose}
use Rattle.odb_disk.specs.Ask.{AnswersAsk, answer_of, state_told_after}
use Rattle.odb_disk.specs.Tree.{State, IsTree, tree_of}
use Rattle.odb_disk.specs.declared.ask.DiskAsk.{DiskAsk}
use Rattle.odb_disk.specs.declared.ask.DiskAnswer.{DiskAnswer}
use Rattle.odb_disk.specs.declared.ask.DiskAnswer.TheVariants as answers
use Rattle.odb_disk.specs.declared.disk_error.DiskError.TheVariants as disk_errors
use Rattle.gix_odb_loose.specs.Exchanges.{Exchange, exchanged, left_by, FailByFaults}
use Rattle.gix_odb_loose.proofs.ExchangeLaws.{left_by-push, AreGiven-push}
use Rattle.gix_odb_loose.specs.WriteHistory.Refused.{IsFailedRead}
use Rattle.gix_odb_loose.specs.WriteHistory.{data_after}
use Rattle.gix_odb_loose.proofs.WriteHistoryLaws.{IsHistory-next}
use Rattle.gix_odb_loose.specs.WriteOrder.{write_ask, next_write}
use Rattle.gix_odb_loose.specs.WritePieces.{room_behind}
use Rattle.gix_odb_loose.specs.StreamJobs.Progress.{Begun, NamedBy, SourceFailed, IsSpared, FailedAt, Did, WentToWanted, WentTo}
use Rattle.gix_odb_loose.specs.StreamJobs.AtStage.{Holds}
use Rattle.gix_odb_loose.specs.StreamJobs.Standing.{StandsAt}
use Rattle.gix_odb_loose.specs.StreamJobs.{AnsweredTo}
use Rattle.gix_odb_loose.specs.WriteStreams.{Draws, OtherLength}
use Rattle.gix_odb_loose.specs.declared.write_streamed.StreamJob.{StreamJob}
use Rattle.gix_odb_loose.specs.declared.write.Message.TheVariants as messages
use Rattle.gix_odb_loose.specs.declared.write_order.WriteAsk.{WriteAsk}
use Rattle.gix_odb_loose.specs.declared.write_order.WriteAsk.TheVariants as wants
use Rattle.gix_odb_loose.specs.declared.write_order.Refusal.TheVariants as refusals
use Rattle.gix_odb_loose.specs.declared.write_order.WriteHead.{WriteHead}
use Rattle.gix_odb_loose.specs.declared.write_order.WriteStage.{WriteStage}
use Rattle.gix_odb_loose.specs.declared.write_order.WriteStage.TheVariants as stages
use Rattle.gix_odb_loose.proofs.StreamJobsLemmas.SameAsks.{IsNextOf, FollowsTo, piece_next, follows_next}
use Rattle.gix_odb_loose.proofs.StreamJobsLemmas.Kept.{Kept, kept, counts, next_piece}

-- ---- the exchanges

pub all_more : {X : Type 0} (P : X → Type 0) (xs : List X) (x : X) → All P xs → P x → All P (xs ++ x ∷ [])
all_more P xs x all last = All-append P xs (x ∷ []) all (All-cons P x [] last (All-nil P))

faults_later : (before now later : ℕ) (past : List Exchange) → now ≤ later → FailByFaults before now past → FailByFaults before later past
faults_later before now later past more failed = λ k d l e. let rose = failed k d l e in grind (arith, more, rose)

module _ (w : Begun) (state new : Option State) (now later : ℕ) (ask : DiskAsk) (answer : DiskAnswer) (given : IfSome state (λ s. AnswersAsk answer (answer_of (tree_of s) ask)))
    (left : new ≡ state_told_after state ask answer)
    (more : now ≤ later) (cause : answer ≡ answers.Refused disk_errors.Failed → Rose now later) (tree : IfSome state (λ s. IsTree (tree_of s))) where
  first_tree : (past : List Exchange) → Did w state now past → IfSome w.state (λ s. IsTree (tree_of s))
  unfolding left_by
  first_tree past did = elim did.tree [ inl none ↦ subst (λ (s : Option State). IfSome s (λ t. IsTree (tree_of t))) (did.left ∙ ap (left_by w.state) none) tree | inr is ↦ is ]

  pub did_next : (past : List Exchange) → Did w state now past → Did w new later (past ++ exchanged ask answer ∷ [])
  did_next past did =
      record {
        given = AreGiven-push w.state past (exchanged ask answer) did.given (subst (λ (s : Option State). IfSome s (λ t. AnswersAsk answer (answer_of (tree_of t) ask))) did.left given);
        left = left ∙ ap (λ (s : Option State). state_told_after s ask answer) did.left ∙ sym (left_by-push w.state past (exchanged ask answer));
        failed = all_more (λ (x : Exchange). x.answer ≡ answers.Refused disk_errors.Failed → Rose w.faults later) past (exchanged ask answer)
            (faults_later w.faults now later past more did.failed) (λ e. let rose = cause e in grind (arith, rose, did.later));
        later = omega (arith, did.later, more);
        tree = inr (first_tree past did);
      }

-- ---- a whole turn

module _ (w : Begun) (state new : Option State) (now later : ℕ) (past : List Exchange) (rest : Option (List ℕ)) (source_now : ℕ) (job fed : StreamJob) (stage : WriteStage) (ask : DiskAsk) (answer : DiskAnswer)
    (given : IfSome state (λ s. AnswersAsk answer (answer_of (tree_of s) ask))) (left : new ≡ state_told_after state ask answer) (more : now ≤ later)
    (cause : answer ≡ answers.Refused disk_errors.Failed → Rose now later) (tree : IfSome state (λ s. IsTree (tree_of s)))
    (removal : fed.removal ≡ job.removal) (naming : fed.naming ≡ job.naming) (ended : fed.has_ended ≡ job.has_ended) (head : fed.head ≡ job.head) (none : fed.piece ≡ [])
    (at : StandsAt w state now past rest source_now job stage) where
  abbrev past' : List Exchange
  past' = past ++ exchanged ask answer ∷ []

  did' : Did w new later past'
  did' = did_next w state new now later ask answer given left more cause tree past at.did

  -- a piece that is to be appended is the next of the data
  is_next : (stage : WriteStage) (bytes : List ℕ) → w.left ≡ Some bytes → WentTo w source_now at.appended stage past → Holds w rest at.appended at.all job stage → IsNextOf w bytes stage job.piece
  is_next (stages.Making number) bytes told history holds = tt
  is_next (stages.Heading number) bytes told history holds = tt
  is_next (stages.Filling number written) bytes told history holds =
      piece_next bytes at.appended job.piece at.all rest (room_behind w.head.size written) written job.has_ended
      (subst (λ (l : Option (List ℕ)). Draws l rest at.all) told at.took.drawn) holds.0.is history.0 holds.1.few holds.0.ended holds.1.full
  is_next (stages.Foldering number id) bytes told history holds = tt
  is_next (stages.Moving number id) bytes told history holds = tt
  is_next (stages.Removing number refusal) bytes told history holds = tt

  abbrev Followed : WriteAsk → Type 0
  Followed wanted = (bytes : List ℕ) → w.left ≡ Some bytes → FollowsTo w bytes (SourceFailed w source_now) wanted past'

  followed : ask ≡ write_ask w.head job.piece stage → Followed (next_write w.head.size (length job.piece) stage answer)
  followed is = λ bytes told.
      subst (λ (a : DiskAsk). FollowsTo w bytes (SourceFailed w source_now) (next_write w.head.size (length job.piece) stage answer) (past ++ exchanged a answer ∷ [])) (sym is)
      (follows_next w bytes (SourceFailed w source_now) stage job.piece past answer (is_next stage bytes told at.history at.holds) (at.follows bytes told))

  -- where the source failed, the removal came next, and ended the write
  abbrev SparedTo : WriteAsk → Type 0
  SparedTo (wants.Disk onward) = IsSpared w source_now
  SparedTo (wants.Data number written) = IsSpared w source_now
  SparedTo (wants.Done end) = IsSpared w source_now ⊎ ((end ≡ Err (refusals.Io messages.StreamData)) × IsFailedRead w.head past')

  spared_to : (wanted : WriteAsk) → IsSpared w source_now → SparedTo wanted
  spared_to (wants.Disk onward) spared = spared
  spared_to (wants.Data number written) spared = spared
  spared_to (wants.Done end) spared = inl spared

  failed_to : ask ≡ write_ask w.head job.piece stage → FailedAt w stage past → SparedTo (next_write w.head.size (length job.piece) stage answer)
  failed_to is failed =
      subst (λ (s : WriteStage). SparedTo (next_write w.head.size (length job.piece) s answer)) (sym failed.is)
      (inr (
        refl,
        record {
          number = failed.number;
          appended = failed.appended;
          before = past;
          answer = answer;
          filled = failed.filled;
          removed = ap (λ (a : DiskAsk). past ++ exchanged a answer ∷ []) (is ∙ ap (write_ask w.head job.piece) failed.is);
        },
      ))

  spared_next : ask ≡ write_ask w.head job.piece stage → SparedTo (next_write w.head.size (length job.piece) stage answer)
  spared_next is = elim at.spared [ inl spared ↦ spared_to (next_write w.head.size (length job.piece) stage answer) spared | inr failed ↦ failed_to is failed ]

  answered_by : (appended : List ℕ) (wanted : WriteAsk) → WentToWanted w source_now appended wanted past' → Kept w rest job fed removal naming ended appended at.all wanted → Followed wanted
      → SparedTo wanted
      → AnsweredTo w new later past' rest source_now fed wanted
  answered_by appended (wants.Disk onward) history kept follows spared =
      record {
        appended = appended;
        all = at.all;
        did = did';
        took = at.took;
        head = head ∙ at.head;
        removal = kept.1;
        history = history;
        holds = kept.0;
        spared = inl spared;
        follows = λ bytes told. inl (follows bytes told);
      }
  answered_by appended (wants.Data number written) history kept follows spared =
      record {
        appended = appended;
        all = at.all;
        did = did';
        took = at.took;
        head = head ∙ at.head;
        none = none;
        removal = kept.1;
        history = history;
        holds = kept.0;
        spared = spared;
        follows = follows;
      }
  answered_by appended (wants.Done (Ok id)) history kept follows spared =
      (head ∙ at.head, record { appended = appended; all = at.all; did = did'; took = at.took; ends = (history, kept); spared = spared; follows = follows })
  answered_by appended (wants.Done (Err refusal)) history kept follows spared =
      (head ∙ at.head, record { appended = appended; all = at.all; did = did'; took = at.took; ends = history; spared = spared; follows = follows })

  pub answered_to : ask ≡ write_ask w.head job.piece stage → AnsweredTo w new later past' rest source_now fed (next_write w.head.size (length job.piece) stage answer)
  answered_to is =
      answered_by (data_after stage job.piece answer at.appended) (next_write w.head.size (length job.piece) stage answer)
      (subst (λ (a : DiskAsk). WentToWanted w source_now (data_after stage job.piece answer at.appended) (next_write w.head.size (length job.piece) stage answer)
      (past ++ exchanged a answer ∷ [])) (sym is)
      (IsHistory-next w.head (NamedBy w) (SourceFailed w source_now) (OtherLength w.left w.head.size) stage at.appended job.piece past answer
      (counts w rest job fed removal naming ended source_now at.appended at.all past stage at.history at.holds at.took)
      (next_piece w rest job fed removal naming ended source_now at.appended at.all past stage at.holds) at.history))
      (kept w rest job fed removal naming ended source_now at.appended at.all past stage answer at.history at.holds at.removal) (followed is) (spared_next is)

-- ---- a turn in the form of the code

module _ (w : Begun) (state new : Option State) (now later : ℕ) (past : List Exchange) (rest : Option (List ℕ)) (source_now : ℕ) (job fed : StreamJob) (stage : WriteStage) (ask : DiskAsk) (answer : DiskAnswer) (len : ℕ)
    (wanted : WriteAsk)
    (at : StandsAt w state now past rest source_now job stage) (len_is : len ≡ length job.piece) (asked : ask ≡ write_ask job.head job.piece stage) (same : fed ≡ record job { piece = [] })
    (is : wanted ≡ next_write fed.head.size len stage answer) where
  head_is : fed.head ≡ job.head
  head_is = ap (λ (j : StreamJob). j.head) same

  wanted_is : wanted ≡ next_write w.head.size (length job.piece) stage answer
  wanted_is = is ∙ ap (λ (h : WriteHead). next_write h.size len stage answer) (head_is ∙ at.head) ∙ ap (λ (n : ℕ). next_write w.head.size n stage answer) len_is

  pub turn_answered : IfSome state (λ s. AnswersAsk answer (answer_of (tree_of s) ask)) → new ≡ state_told_after state ask answer → now ≤ later
      → (answer ≡ answers.Refused disk_errors.Failed → Rose now later) → IfSome state (λ s. IsTree (tree_of s))
      → AnsweredTo w new later (past ++ exchanged ask answer ∷ []) rest source_now fed wanted
  turn_answered given left more cause tree =
      subst (λ (a : WriteAsk). AnsweredTo w new later (past ++ exchanged ask answer ∷ []) rest source_now fed a) (sym wanted_is)
      (answered_to w state new now later past rest source_now job fed stage ask answer given left more cause tree (ap (λ (j : StreamJob). j.removal) same)
      (ap (λ (j : StreamJob). j.naming) same) (ap (λ (j : StreamJob). j.has_ended) same) head_is
      (ap (λ (j : StreamJob). j.piece) same) at (asked ∙ ap (λ (h : WriteHead). write_ask h job.piece stage) at.head))
