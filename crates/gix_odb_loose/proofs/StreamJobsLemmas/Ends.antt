-- The result of a turn of a write from a source, and what follows where memory runs out.
use Rattle.std.specs.Result.{IsErr}
use Rattle.std.specs.Prelude.{is_some, ◌≡◌, ◌⊎◌, ℕ, ◌≤◌, true, false, List, [], ◌∷◌, ◌++◌, Option, Some, None, Result, Ok, Err, IfSome, refl}
use Rattle.std.proofs.Common.{inl, inr, sym, ap, ◌∙◌, subst, arith}
use Rattle.odb_base.specs.Faults.{Rose}
use Rattle.odb_disk.specs.Ask.{AnswersAsk, answer_of, state_told_after}
use Rattle.odb_disk.specs.Tree.{State, IsTree, tree_of}
use Rattle.odb_disk.specs.declared.ask.DiskAsk.{DiskAsk}
use Rattle.odb_disk.specs.declared.ask.DiskAsk.TheVariants as asks
use Rattle.odb_disk.specs.declared.ask.DiskAnswer.{DiskAnswer}
use Rattle.odb_disk.specs.declared.ask.DiskAnswer.TheVariants as answers
use Rattle.odb_disk.specs.declared.disk_error.DiskError.TheVariants as disk_errors
use Rattle.gix_hash.specs.declared.object_id.ObjectId.{ObjectId}
use Rattle.gix_odb_loose.specs.Exchanges.{Exchange, exchanged, left_by, AreGiven}
use Rattle.gix_odb_loose.specs.WriteHistory.Refused.{IsFailedRead}
use Rattle.gix_odb_loose.specs.WriteHistory.{IsRemovedAfter}
use Rattle.gix_odb_loose.specs.WriteHistory.WentWell.{tried}
use Rattle.gix_odb_loose.specs.WriteNames.{Names}
use Rattle.gix_odb_loose.specs.WriteOrder.{temp_path, number_made}
use Rattle.gix_odb_loose.specs.StreamJobs.Progress.{Begun, SourceFailed, IsSpared, LostAt}
use Rattle.gix_odb_loose.specs.StreamJobs.SameAsks.{at_hand}
use Rattle.gix_odb_loose.specs.StreamJobs.Standing.{StandsAt, IsAtItsEnd, BreaksAt, IsBrokenOff}
use Rattle.gix_odb_loose.specs.StreamJobs.{IsUnderway, IsBroken, AsksTo, TurnsTo, RunsTo}
use Rattle.gix_odb_loose.specs.StreamJobs.AtStage.{IsReady, removal_at}
use Rattle.gix_odb_loose.specs.declared.write_streamed.StreamJob.{StreamJob}
use Rattle.gix_odb_loose.specs.declared.write_order.WriteAsk.{WriteAsk}
use Rattle.gix_odb_loose.specs.declared.write_order.Refusal.{Refusal}
use Rattle.gix_odb_loose.specs.declared.write_order.WriteStage.{WriteStage}
use Rattle.gix_odb_loose.specs.declared.write_order.WriteStage.TheVariants as stages
use Rattle.gix_odb_loose.proofs.AskLaws.{IsAlong-start}
use Rattle.gix_odb_loose.proofs.WriteStreamsLemmas.{Draws-none}
use Rattle.gix_odb_loose.proofs.StreamJobsLemmas.SameAsks.{cuts_at, cut_off}
use Rattle.gix_odb_loose.proofs.StreamJobsLemmas.Turn.{did_next}

-- ---- the result of a turn

pub turns_broken : {E : Type 0} (w : Begun) (state : Option State) (now : ℕ) (past : List Exchange) (rest : Option (List ℕ)) (source_now : ℕ) (job : StreamJob) (result : Result (Option (Result ObjectId Refusal)) E)
    → IsErr result → IsBroken w state now past rest source_now job
    → TurnsTo w state now past rest source_now job result
turns_broken w state now past rest source_now job (Ok x) err broken = absurd (cc err)
turns_broken w state now past rest source_now job (Err error) err broken = broken

pub asks_broken : {E : Type 0} (w : Begun) (state : Option State) (now : ℕ) (past : List Exchange) (rest : Option (List ℕ)) (source_now : ℕ) (job : StreamJob) (result : Result WriteAsk E) → IsErr result
    → IsBroken w state now past rest source_now job
    → AsksTo w state now past rest source_now job result
asks_broken w state now past rest source_now job (Ok x) err broken = absurd (cc err)
asks_broken w state now past rest source_now job (Err error) err broken = broken

-- memory ran out before the next ask
pub broken_first : (w : Begun) (state : Option State) (now : ℕ) (past : List Exchange) (rest : Option (List ℕ)) (source_now : ℕ) (job fed : StreamJob) → fed ≡ record job { piece = [] }
    → IsUnderway w state now past rest source_now job
    → IsBroken w state now past rest source_now fed
broken_first w state now past rest source_now job fed same at =
    subst (λ (s : WriteStage). BreaksAt w state now past rest source_now fed s) (sym (ap (λ (j : StreamJob). j.stage) same))
    (record {
      appended = at.appended;
      all = at.all;
      did = at.did;
      took = at.took;
      removal = ready job.stage (ap (λ (j : StreamJob). j.removal) same ∙ at.removal);
      history = at.history;
      spared = lost;
      follows = λ bytes told. cuts_at w bytes (SourceFailed w source_now) job.stage past (at.follows bytes told);
    })
  where
    lost : IsSpared w source_now ⊎ LostAt w job.stage past
    lost = elim at.spared [ inl spared ↦ inl spared | inr failed ↦ inr (record { number = failed.number; appended = failed.appended; filled = failed.filled; made = ap number_made failed.is }) ]

    ready : (stage : WriteStage) → fed.removal ≡ removal_at w stage → IsReady w fed.removal stage
    ready (stages.Making number) e = tt
    ready (stages.Heading number) e = e
    ready (stages.Filling number written) e = e
    ready (stages.Foldering number id) e = e
    ready (stages.Moving number id) e = e
    ready (stages.Removing number refusal) e = e

-- ---- where memory ran out

module _ (w : Begun) (state : Option State) (now : ℕ) (past : List Exchange) (rest : Option (List ℕ)) (source_now : ℕ) (job : StreamJob) where
  -- no file was made
  pub clear_unmade : (stage : WriteStage) → is_some (number_made stage) ≡ false → BreaksAt w state now past rest source_now job stage → IsBrokenOff w state now past rest source_now
  clear_unmade (stages.Making number) e at =
      record {
        all = at.all;
        did = at.did;
        run = record { stage = stages.Making number; appended = at.appended; before = past; history = at.history; removed = refl };
        took = at.took;
        spared = elim at.spared [ inl spared ↦ inl spared | inr lost ↦ absurd (let none = lost.made in cc none) ];
        follows = λ bytes told. cut_off w bytes (stages.Making number) past past (at.follows bytes told) refl;
      }
  clear_unmade (stages.Heading number) e at = absurd (cc e)
  clear_unmade (stages.Filling number written) e at = absurd (cc e)
  clear_unmade (stages.Foldering number id) e at = absurd (cc e)
  clear_unmade (stages.Moving number id) e at = absurd (cc e)
  clear_unmade (stages.Removing number refusal) e at = absurd (cc e)

  module _ (new : Option State) (later : ℕ) (answer : DiskAnswer) (given : IfSome state (λ s. AnswersAsk answer (answer_of (tree_of s) job.removal)))
      (left : new ≡ state_told_after state job.removal answer) (more : now ≤ later)
      (cause : answer ≡ answers.Refused disk_errors.Failed → Rose now later) (tree : IfSome state (λ s. IsTree (tree_of s))) where
    removed : (number : ℕ) (stage : WriteStage) → job.removal ≡ asks.Remove (temp_path w.head.objects number) → number_made stage ≡ Some number → BreaksAt w state now past rest source_now job stage
        → IsBrokenOff w new later (past ++ exchanged job.removal answer ∷ []) rest source_now
    removed number stage ready made at =
        record {
          all = at.all;
          did = did_next w state new now later job.removal answer given left more cause tree past at.did;
          run =
              record {
                stage = stage;
                appended = at.appended;
                before = past;
                history = at.history;
                removed = removal_asked;
              };
          took = at.took;
          spared = elim at.spared [ inl spared ↦ inl spared | inr lost ↦ inr (failed lost) ];
          follows = λ bytes told. cut_off w bytes stage past (past ++ exchanged job.removal answer ∷ []) (at.follows bytes told) removal_asked;
        }
      where
        failed : LostAt w stage past → IsFailedRead w.head (past ++ exchanged job.removal answer ∷ [])
        failed lost =
            let same : number ≡ lost.number = let both = sym made ∙ lost.made in cc both in
            record {
              number = lost.number;
              appended = lost.appended;
              before = past;
              answer = answer;
              filled = lost.filled;
              removed = ap (λ (a : DiskAsk). past ++ exchanged a answer ∷ []) (ready ∙ ap (λ (n : ℕ). asks.Remove (temp_path w.head.objects n)) same);
            }

        removal_asked : IsRemovedAfter w.head (number_made stage) past (past ++ exchanged job.removal answer ∷ [])
        removal_asked =
            subst (λ (n : Option ℕ). IsRemovedAfter w.head n past (past ++ exchanged job.removal answer ∷ [])) (sym made) (answer, ap (λ (a : DiskAsk). past ++ exchanged a answer ∷ []) ready)

    -- the file that was made was asked to be removed
    pub clear_removed : (stage : WriteStage) → is_some (number_made stage) ≡ true → BreaksAt w state now past rest source_now job stage → IsBrokenOff w new later (past ++ exchanged job.removal answer ∷ []) rest source_now
    clear_removed (stages.Making number) e at = absurd (cc e)
    clear_removed (stages.Heading number) e at = removed number (stages.Heading number) at.removal refl at
    clear_removed (stages.Filling number written) e at = removed number (stages.Filling number written) at.removal refl at
    clear_removed (stages.Foldering number id) e at = removed number (stages.Foldering number id) at.removal refl at
    clear_removed (stages.Moving number id) e at = removed number (stages.Moving number id) at.removal refl at
    clear_removed (stages.Removing number refusal) e at = removed number (stages.Removing number refusal) at.removal refl at

-- ---- the start

pub stands_first : (w : Begun) (job : StreamJob) → job.head ≡ w.head → job.stage ≡ stages.Making 0 → job.has_ended ≡ false → Names w.known w.hash w.head [] job.naming
    → job.removal ≡ asks.Remove (temp_path w.head.objects 0)
    → IsUnderway w w.state w.faults [] w.left w.source_faults job
unfolding tried AreGiven left_by
stands_first w job head stage ended named removal =
    subst (λ (s : WriteStage). StandsAt w w.state w.faults [] w.left w.source_faults job s) (sym stage)
    (record {
      appended = [];
      all = [];
      did = record { given = tt; left = refl; failed = λ k d l. absurd (omega (arith, l)); later = omega arith; tree = inl refl };
      took = record { drawn = Draws-none w.left; few = omega arith; later = omega arith };
      head = head;
      removal = removal;
      history = (omega arith, refl, refl);
      holds = (refl, ended, named);
      spared = inl refl;
      follows = λ bytes told. inl (IsAlong-start (at_hand w bytes));
    })

-- ---- a turn, by its result

module _ {E : Type 0} (w : Begun) (state : Option State) (now : ℕ) (past : List Exchange) (rest : Option (List ℕ)) (source_now : ℕ) (job : StreamJob) (result : Result (Option (Result ObjectId Refusal)) E)
    (turned : TurnsTo w state now past rest source_now job result) where
  pub came_on : result ≡ Ok None → IsUnderway w state now past rest source_now job
  came_on e = subst (λ (r : Result (Option (Result ObjectId Refusal)) E). TurnsTo w state now past rest source_now job r) e turned

  pub came_to : (end : Result ObjectId Refusal) → result ≡ Ok (Some end) → IsAtItsEnd w state now past rest source_now end
  came_to end e = subst (λ (r : Result (Option (Result ObjectId Refusal)) E). TurnsTo w state now past rest source_now job r) e turned

  pub came_to_want : (error : E) → result ≡ Err error → IsBroken w state now past rest source_now job
  came_to_want error e = subst (λ (r : Result (Option (Result ObjectId Refusal)) E). TurnsTo w state now past rest source_now job r) e turned

-- ---- all turns, by their result

module _ {E : Type 0} (w : Begun) (state : Option State) (now : ℕ) (past : List Exchange) (rest : Option (List ℕ)) (source_now : ℕ) (result : Result (Result ObjectId Refusal) E)
    (ran : RunsTo w state now past rest source_now result) where
  pub ran_to : (end : Result ObjectId Refusal) → result ≡ Ok end → IsAtItsEnd w state now past rest source_now end
  ran_to end e = subst (RunsTo w state now past rest source_now) e ran

  pub ran_off : (error : E) → result ≡ Err error → IsBrokenOff w state now past rest source_now
  ran_off error e = subst (RunsTo w state now past rest source_now) e ran
