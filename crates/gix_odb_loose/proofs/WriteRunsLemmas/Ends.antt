-- From the end of a write to the promises of its run.
use Rattle.std.specs.Result.{IsErrAnd}
use Rattle.std.specs.Prelude.{◌≡◌, ◌⊎◌, ⊤, ℕ, List, [], ◌∷◌, length, Option, Some, None, Result, Ok, Err, IfOk, IfSome, refl}
use Rattle.std.proofs.Common.{inl, inr, sym, ap, ◌∙◌, subst, arith}
use Rattle.odb_base.specs.Faults.{Rose}
use Rattle.odb_disk.specs.Tree.{State, IsTree, tree_of}
use Rattle.odb_disk.specs.declared.ask.DiskAsk.TheVariants as asks
use Rattle.odb_disk.specs.declared.ask.DiskAnswer.TheVariants as answers
use Rattle.gix_hash.specs.declared.object_id.ObjectId.{ObjectId}
use Rattle.gix_odb_loose.specs.Causes.{WriteCause}
use Rattle.gix_odb_loose.proofs.CauseLaws.Write.{WriteCause-wider}
use Rattle.gix_odb_loose.specs.Exchanges.{Exchange, exchanged, left_by, AreGiven, RenamedNothing}
use Rattle.std.proofs.lemmas.List.{length-append}
use Rattle.gix_odb_loose.specs.LooseFile.{loose_path}
use Rattle.gix_odb_loose.specs.WriteRuns.ReadBack.{ReadsBack}
use Rattle.gix_odb_loose.proofs.ReadBackLaws.{moved_reads_back}
use Rattle.gix_odb_loose.specs.WriteAsks.{RunsAlong}
use Rattle.gix_odb_loose.specs.WriteHistory.WentWell.{IsMoved, tried}
use Rattle.gix_odb_loose.specs.WriteHistory.Refused.{RefusedIn, TakenIn, DoneIn, WantedIn, HasCauseIn}
use Rattle.gix_odb_loose.specs.WriteHistory.{IsRefusedRun}
use Rattle.gix_odb_loose.specs.WriteOwn.{AreOwn, LeavesNothing}
use Rattle.gix_odb_loose.specs.WriteOrder.{error_from, temp_path}
use Rattle.gix_odb_loose.specs.WriteRuns.RefusedAsks.{Refuses, FoundThere}
use Rattle.gix_odb_loose.specs.WriteRuns.{IsRefusedWrite, IsStoppedBySource, Writes, WriteRuns}
use Rattle.gix_odb_loose.specs.StreamJobs.Progress.{write_made, Begun, NamedBy, SourceFailed, IsSpared, Did, Took, BrokeOff}
use Rattle.gix_odb_loose.specs.StreamJobs.SameAsks.{at_hand}
use Rattle.gix_odb_loose.specs.StreamJobs.Standing.{IsAtItsEnd, IsBrokenOff}
use Rattle.gix_odb_loose.specs.StreamJobs.{IsToldBy}
use Rattle.gix_odb_loose.specs.WriteStreams.{IsAtEnd, OtherLength, TakesFrom}
use Rattle.gix_odb_loose.proofs.WriteShownLaws.{refused_unnamed, refused_cleared, broken_unnamed, broken_cleared}
use Rattle.gix_odb_loose.proofs.WriteShownLaws.Own.{refused_own, broken_own, moved_own}
use Rattle.gix_odb_loose.proofs.WriteMadeLaws.{moved_below}
use Rattle.gix_odb_loose.proofs.WriteShownLaws.Unmade.{unmade_left}
use Rattle.gix_odb_loose.proofs.WriteCauseLaws.{refused_cause}
use Rattle.gix_odb_loose.specs.declared.write.Error.{Error}
use Rattle.gix_odb_loose.specs.declared.write.Error.TheVariants as errors
use Rattle.gix_odb_loose.specs.declared.write_order.Refusal.{Refusal}
use Rattle.gix_odb_loose.specs.declared.write_order.Refusal.TheVariants as refusals
use Rattle.gix_odb_loose.specs.declared.write_order.WriteHead.{WriteHead}
use Rattle.gix_odb_loose.specs.declared.write_order.WriteStage.TheVariants as stages
use Rattle.gix_odb_loose.specs.declared.write.Message.TheVariants as messages
use Rattle.odb_base.specs.Path.{Path}
use Rattle.gix_odb_loose.proofs.AskLaws.{IsAlong-start}
use Rattle.gix_odb_loose.proofs.WriteStreamsLemmas.{Draws-end}
use Rattle.gix_odb_loose.proofs.StreamJobsLemmas.SameAsks.{runs_end}
use Rattle.gix_odb_loose.proofs.WriteRunsLemmas.RefusedAsks.{refuses_in}

-- an object that got its name is read back, where the states are reported
reads_back : (first new : Option State) (head : WriteHead) (number : ℕ) (id : ObjectId) (bytes : List ℕ) (past : List Exchange) → (moved : IsMoved head number id bytes past) → AreGiven first past
    → new ≡ left_by first past
    → (past ≡ []) ⊎ IfSome first (λ s. IsTree (tree_of s)) → IfSome first (λ _. ReadsBack head number id bytes (left_by first moved.before) new)
reads_back None new head number id bytes past moved given left tree = tt
reads_back (Some s) new head number id bytes past moved given left tree =
    elim tree [
      | inl none ↦ absurd
          (let long = ap length (sym moved.is ∙ none) in omega
          (arith, long, length-append moved.before (exchanged (asks.Rename (temp_path head.objects number) (loose_path head.objects id)) answers.Done ∷ [])))
      | inr is ↦ subst (ReadsBack head number id bytes (left_by (Some s) moved.before)) (sym left) (moved_reads_back head number id bytes s is past moved given)
    ]

module _ (AreCalls : List Exchange → Type 0) (w : Begun) (state : Option State) (now : ℕ) (past : List Exchange) (rest : Option (List ℕ)) (source_now : ℕ) (made : AreCalls past) where
  abbrev Runs : Result ObjectId Error → Type 0
  Runs result = WriteRuns (write_made w AreCalls state now source_now result)

  abbrev Refused : Error → Type 0
  Refused error =
      WriteCause w.head (NamedBy w) (Refuses w.state (Rose w.faults now) past) (FoundThere past) (DoneIn past) (Rose w.source_faults source_now) ⊤ (OtherLength w.left w.head.size) error

  abbrev Stopped : Error → Type 0
  Stopped error = IsRefusedWrite w.head (NamedBy w) (SourceFailed w source_now) (OtherLength w.left w.head.size) past error

  -- the cause, as the disk reported it
  cause_told : (error : Error) → Did w state now past → HasCauseIn w.head (NamedBy w) (SourceFailed w source_now) (OtherLength w.left w.head.size) past error
      → Refused error
  cause_told error did h =
      WriteCause-wider w.head (RefusedIn past) (Refuses w.state (Rose w.faults now) past) (TakenIn past) (FoundThere past) (DoneIn past) (DoneIn past)
      (refuses_in w.state w.faults now past did.given did.failed) (λ ask t. t) (λ ask d. d) (Rose w.source_faults source_now)
      (Rose w.source_faults source_now) (λ f. f) (NamedBy w) (NamedBy w) (λ id n. n) (WantedIn past) ⊤ (λ m. tt) (OtherLength w.left w.head.size) (OtherLength w.left w.head.size) (λ n k. k) error h

  -- what a refused write shows
  record Shows (error : Error) : Type 0 where
    own : AreOwn w.head (NamedBy w) past
    stopped : Stopped error
    unnamed : RenamedNothing past
    cleared : LeavesNothing w.head past
    untouched : (at : Path) → error ≡ errors.Io messages.CreateTempFile at → left_by w.state past ≡ w.state
    cause : Refused error

  -- its asks, where the source reports its data
  abbrev Asked : Result ObjectId Error → Type 0
  Asked result = (bytes : List ℕ) → w.left ≡ Some bytes → RunsAlong (at_hand w bytes) (SourceFailed w source_now) past result

  abbrev SparedBy : Result ObjectId Error → Type 0
  SparedBy result = IsSpared w source_now ⊎ IsStoppedBySource w.head past result

  runs_refused : (error : Error) (result : Result ObjectId Error) → result ≡ Err error → Did w state now past → Shows error → Asked result → SparedBy result
      → Runs result
  runs_refused error result is did shows asked spared =
      record {
        exchanges = past;
        made = made;
        given = did.given;
        left = did.left;
        own = shows.own;
        asks = asked;
        spared = spared;
        wrote = λ id e. absurd (let both : Ok id ≡ Err error = sym e ∙ is in cc both);
        stopped = λ other e. let same : error ≡ other = cc (sym is ∙ e) in subst Stopped same shows.stopped;
        unnamed = λ other e. shows.unnamed;
        cleared = λ other e. shows.cleared;
        untouched = λ at e. did.left ∙ shows.untouched at (let same : error ≡ errors.Io messages.CreateTempFile at = cc (sym is ∙ e) in same);
        refused = λ other e. let same : error ≡ other = cc (sym is ∙ e) in subst Refused same shows.cause;
      }

  -- a write that got its name
  pub runs_wrote : (id : ObjectId) → IsAtItsEnd w state now past rest source_now (Ok id) → (result : Result ObjectId Error) → result ≡ Ok id → Runs result
  runs_wrote id at result is =
      record {
        exchanges = past;
        made = made;
        given = at.did.given;
        left = at.did.left;
        own = moved_own w.head (NamedBy w) at.ends.0.2.0 id at.appended past at.ends.0.1 at.ends.0.2.1;
        asks = λ bytes told. runs_end w bytes (SourceFailed w source_now) (Ok id) past result (inl is) (at.follows bytes told);
        spared = elim at.spared [ inl spared ↦ inl spared | inr failed ↦ absurd (let both = failed.0 in cc both) ];
        wrote = λ other e. let same : id ≡ other = cc (sym is ∙ e) in subst (λ (i : ObjectId). Writes w.head w.hash w.known w.left w.state state past i) same writes;
        stopped = λ error e. absurd (let both : Err error ≡ Ok id = sym e ∙ is in cc both);
        unnamed = λ error e. absurd (let both : Err error ≡ Ok id = sym e ∙ is in cc both);
        cleared = λ error e. absurd (let both : Err error ≡ Ok id = sym e ∙ is in cc both);
        untouched = λ at e. absurd (let both : Err (errors.Io messages.CreateTempFile at) ≡ Ok id = sym e ∙ is in cc both);
        refused = λ error e. absurd (let both : Err error ≡ Ok id = sym e ∙ is in cc both);
      }
    where
      writes : Writes w.head w.hash w.known w.left w.state state past id
      writes =
          record {
            bytes = at.appended;
            number = at.ends.0.2.0;
            below = moved_below w.head at.ends.0.2.0 id at.appended past at.ends.0.2.1;
            moved = at.ends.0.2.1;
            size = at.ends.0.0;
            name = at.ends.1.2;
            whole = subst (λ (xs : List ℕ). IfSome w.left (λ all. all ≡ xs)) at.ends.1.1 (Draws-end w.left rest at.all at.took.drawn at.ends.1.0);
            read_back = reads_back w.state state w.head at.ends.0.2.0 id at.appended past at.ends.0.2.1 at.did.given at.did.left at.did.tree;
          }

  -- a write that was refused, or had no memory for its error
  module _ (refusal : Refusal) (at : IsAtItsEnd w state now past rest source_now (Err refusal)) where
    abbrev run : IsRefusedRun w.head (NamedBy w) (SourceFailed w source_now) (OtherLength w.left w.head.size) refusal past
    run = at.ends

    spared_by : (result : Result ObjectId Error) → (refusal ≡ refusals.Io messages.StreamData → (result ≡ Err (errors.Io messages.StreamData w.head.objects)) ⊎ (result ≡ Err errors.NoMemory))
        → SparedBy result
    spared_by result told = elim at.spared [ inl spared ↦ inl spared | inr failed ↦ inr (failed.1, told (let both = failed.0 in cc both)) ]

    shown : (error : Error) → (error ≡ error_from w.head refusal) ⊎ (error ≡ errors.NoMemory) → ((path : Path) → error ≡ errors.Io messages.CreateTempFile path → left_by w.state past ≡ w.state)
        → Refused error → Shows error
    shown error is untouched cause =
        record {
          own = refused_own w.head (NamedBy w) (SourceFailed w source_now) (OtherLength w.left w.head.size) refusal past run;
          stopped = inl (refusal, run, is);
          unnamed = refused_unnamed w.head (NamedBy w) (SourceFailed w source_now) (OtherLength w.left w.head.size) refusal past run;
          cleared = refused_cleared w.head (NamedBy w) (SourceFailed w source_now) (OtherLength w.left w.head.size) refusal past run;
          untouched = untouched;
          cause = cause;
        }

    pub runs_ended : (result : Result ObjectId Error) → result ≡ Err (error_from w.head refusal) → Runs result
    runs_ended result is =
        runs_refused (error_from w.head refusal) result is at.did
        (shown (error_from w.head refusal) (inl refl) (λ path e. unmade_left w.head (NamedBy w) (SourceFailed w source_now) (OtherLength w.left w.head.size) w.state refusal path past e run)
        (cause_told (error_from w.head refusal) at.did (refused_cause w.head (NamedBy w) (SourceFailed w source_now) (OtherLength w.left w.head.size) refusal past run)))
        (λ bytes told. runs_end w bytes (SourceFailed w source_now) (Err refusal) past result (inl is) (at.follows bytes told))
        (spared_by result (λ same. inl (is ∙ ap (λ (r : Refusal). Err (error_from w.head r)) same)))

    pub runs_untold : (result : Result ObjectId Error) → result ≡ Err errors.NoMemory → Runs result
    runs_untold result is =
        runs_refused errors.NoMemory result is at.did (shown errors.NoMemory (inr refl) (λ path e. absurd (cc e)) tt)
        (λ bytes told. runs_end w bytes (SourceFailed w source_now) (Err refusal) past result (inr is) (at.follows bytes told)) (spared_by result (λ same. inr is))

  shown_broken : BrokeOff w source_now past → Shows errors.NoMemory
  shown_broken run =
      record {
        own = broken_own w.head (NamedBy w) (SourceFailed w source_now) (OtherLength w.left w.head.size) past run;
        stopped = inr (run, refl);
        unnamed = broken_unnamed w.head (NamedBy w) (SourceFailed w source_now) (OtherLength w.left w.head.size) past run;
        cleared = broken_cleared w.head (NamedBy w) (SourceFailed w source_now) (OtherLength w.left w.head.size) past run;
        untouched = λ path e. absurd (cc e);
        cause = tt;
      }

  pub runs_broken : IsBrokenOff w state now past rest source_now → (result : Result ObjectId Error) → result ≡ Err errors.NoMemory → Runs result
  runs_broken off result is = runs_refused errors.NoMemory result is off.did (shown_broken off.run) (λ bytes told. inr (off.follows bytes told, inr is))
      (elim off.spared [ inl spared ↦ inl spared | inr failed ↦ inr (failed, inr is) ])

  -- by its end, in its result
  pub runs_told : (end : Result ObjectId Refusal) → IsAtItsEnd w state now past rest source_now end → (result : Result ObjectId Error) → IsToldBy w.head end result → Runs result
  runs_told (Ok id) at result told = runs_wrote id at result told
  runs_told (Err refusal) at result told = elim told [ inl is ↦ runs_ended refusal at result is | inr is ↦ runs_untold refusal at result is ]

-- and its source is at the end then, where the object was written
pub ended_told : (w : Begun) (state : Option State) (now : ℕ) (past : List Exchange) (rest : Option (List ℕ)) (source_now : ℕ) (end : Result ObjectId Refusal)
    → IsAtItsEnd w state now past rest source_now end → (result : Result ObjectId Error) → IsToldBy w.head end result → IfOk result (λ _. IsAtEnd rest)
ended_told w state now past rest source_now (Ok id) at result told = subst (λ (r : Result ObjectId Error). IfOk r (λ _. IsAtEnd rest)) (sym told) at.ends.1.0
ended_told w state now past rest source_now (Err refusal) at result told =
    elim told [
      | inl is ↦ subst (λ (r : Result ObjectId Error). IfOk r (λ _. IsAtEnd rest)) (sym is) tt
      | inr is ↦ subst (λ (r : Result ObjectId Error). IfOk r (λ _. IsAtEnd rest)) (sym is) tt
    ]

-- what it took
pub took_from : (w : Begun) (rest : Option (List ℕ)) (source_now : ℕ) (all : List ℕ) → Took w rest source_now all → TakesFrom w.head.size w.left rest w.source_faults source_now
took_from w rest source_now all took = record { all = all; drawn = took.drawn; few = took.few; later = took.later }

-- a write that didn't begin
pub runs_nothing : (AreCalls : List Exchange → Type 0) (w : Begun) (made : AreCalls []) (result : Result ObjectId Error) → result ≡ Err errors.NoMemory
    → Runs AreCalls w w.state w.faults [] w.left w.source_faults made result
unfolding AreGiven left_by tried
runs_nothing AreCalls w made result is =
    runs_refused AreCalls w w.state w.faults [] w.left w.source_faults made errors.NoMemory result is
    (record { given = tt; left = refl; failed = λ k d l. absurd (omega (arith, l)); later = omega arith; tree = inl refl })
    (shown_broken AreCalls w w.state w.faults [] w.left w.source_faults made
    (record { stage = stages.Making 0; appended = []; before = []; history = (omega arith, refl, refl); removed = refl }))
    (λ bytes told. inr (record { stage = stages.Making 0; before = []; along = IsAlong-start (at_hand w bytes); removed = refl }, inr is)) (inl refl)

-- a call that was refused because memory ran out
pub for_memory : {A : Type 0} (result : Result A Error) → IsErrAnd result (λ e. e ≡ errors.NoMemory) → result ≡ Err errors.NoMemory
for_memory (Ok x) h = absurd h
for_memory (Err error) h = ap (λ (e : Error). Err e) h
