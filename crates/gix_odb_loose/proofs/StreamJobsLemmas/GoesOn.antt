-- How a write reads on, and how it goes on to what an answer led to, in the form of the code.
use Rattle.std.specs.Result.{IsErr}
use Rattle.std.specs.Prelude.{◌≡◌, ◌≢◌, ℕ, true, false, nat_lt, List, [], ◌++◌, length, Option, Result, Ok, Err}
use Rattle.std.proofs.Common.{inl, inr, sym, ap, ◌∙◌, subst}
use Rattle.odb_base.specs.Faults.{Rose}
use Rattle.odb_disk.specs.Tree.{State}
use Rattle.odb_disk.specs.declared.ask.DiskAsk.{DiskAsk}
use Rattle.gix_hash.specs.declared.kind.Kind.{Kind as HashKind}
use Rattle.gix_hash.specs.declared.object_id.ObjectId.{ObjectId}
use Rattle.gix_odb_loose.specs.Exchanges.{Exchange}
use Rattle.gix_odb_loose.specs.WriteNames.{Names}
use Rattle.gix_odb_loose.specs.WriteOrder.{number_made, source_failed}
use Rattle.gix_odb_loose.specs.WritePieces.{room_behind}
use Rattle.gix_odb_loose.specs.StreamJobs.Progress.{Begun, SourceFailed}
use Rattle.gix_odb_loose.specs.StreamJobs.Reads.{Loses, Takes}
use Rattle.gix_odb_loose.specs.StreamJobs.AtStage.{IsReady}
use Rattle.gix_odb_loose.specs.StreamJobs.Standing.{StandsAt, StandsBefore, WaitsAt, BreaksAt, IsEnded}
use Rattle.gix_odb_loose.specs.StreamJobs.{IsUnderway, IsBroken, GoesOn}
use Rattle.gix_odb_loose.specs.declared.write_streamed.StreamJob.{StreamJob}
use Rattle.gix_odb_loose.specs.declared.write_order.WriteHead.{WriteHead}
use Rattle.gix_odb_loose.specs.declared.write_order.WriteStage.{WriteStage}
use Rattle.gix_odb_loose.specs.declared.write_order.WriteStage.TheVariants as stages
use Rattle.gix_odb_loose.proofs.StreamJobsLemmas.SameAsks.{cuts_at}
use Rattle.gix_odb_loose.proofs.StreamJobsLemmas.ReadsOn.{stands_ended, breaks_lost, stands_failed, stands_piece, fed_nothing, at_end_nothing}

-- ---- where data are asked for

module _ (w : Begun) (state : Option State) (now : ℕ) (past : List Exchange) (rest : Option (List ℕ)) (source_now : ℕ) (job : StreamJob) (number written : ℕ)
    (waits : WaitsAt w state now past rest source_now job number written) where
  abbrev size_is : job.head.size ≡ w.head.size
  size_is = ap (λ (h : WriteHead). h.size) waits.head

  -- the source is at its end
  pub on_end : job.has_ended ≡ true → (new : StreamJob) → new.head ≡ job.head → new.removal ≡ job.removal → IsEnded number written job.head.size job.naming new.stage
      → IsUnderway w state now past rest source_now new
  on_end last new head removal ended =
      stands_ended w state now past rest source_now job number written waits (waits.holds.0.ended last) new head removal
      (ended w.known w.hash w.head waits.all waits.holds.0.named)

  module _ (most : ℕ) (room : most ≡ room_behind job.head.size written) (last : Option (List ℕ)) (later : ℕ) where
    abbrev room_is : most ≡ room_behind w.head.size written
    room_is = room ∙ ap (λ (n : ℕ). room_behind n written) size_is

    pub on_lost : Loses most rest last source_now later → (new : StreamJob) → new.removal ≡ job.removal → new.stage ≡ stages.Filling number written → IsBroken w state now past last later new
    on_lost loses new removal is =
        subst (λ (s : WriteStage). BreaksAt w state now past last later new s) (sym is)
        (breaks_lost w state now past rest source_now job number written waits last later (subst (λ (n : ℕ). Loses n rest last source_now later) room_is loses) new removal)

    pub on_failed : Rose source_now later → Loses most rest last source_now later → (new : StreamJob) → new.head ≡ job.head → new.removal ≡ job.removal → new.stage ≡ source_failed number
        → IsUnderway w state now past last later new
    on_failed rose loses new head removal is =
        subst (λ (s : WriteStage). StandsAt w state now past last later new s) (sym is)
        (stands_failed w state now past rest source_now job number written waits last later (subst (λ (n : ℕ). Loses n rest last source_now later) room_is loses) rose new head removal)

    module _ (piece : List ℕ) (takes : Takes most rest last source_now later piece) (taken : StreamJob) (head : taken.head ≡ job.head) (removal : taken.removal ≡ job.removal)
        (is : taken.piece ≡ piece)
        (ended : taken.has_ended ≡ nat_lt (length piece) most)
        (named : (known : Option ObjectId) (hash : HashKind) (head : WriteHead) (before : List ℕ) → Names known hash head before job.naming → Names known hash head (before ++ piece) taken.naming)
        (open' : job.has_ended ≡ false) where
      takes_room : Takes (room_behind w.head.size written) rest last source_now later piece
      takes_room = subst (λ (n : ℕ). Takes n rest last source_now later piece) room_is takes

      ended_is : taken.has_ended ≡ nat_lt (length piece) (room_behind w.head.size written)
      ended_is = ended ∙ ap (nat_lt (length piece)) room_is

      abbrev names : Names w.known w.hash w.head (waits.all ++ piece) taken.naming
      names = named w.known w.hash w.head waits.all waits.holds.0.named

      pub on_piece : taken.piece ≢ [] → taken.stage ≡ stages.Filling number written → IsUnderway w state now past last later taken
      on_piece some at =
          subst (λ (s : WriteStage). StandsAt w state now past last later taken s) (sym at)
          (stands_piece w state now past rest source_now job number written waits last later piece takes_room taken head removal is ended_is names open' some)

      pub on_nothing : taken.piece ≡ [] → (new : StreamJob) → new.head ≡ taken.head → new.removal ≡ taken.removal → IsEnded number written taken.head.size taken.naming new.stage
          → IsUnderway w state now past last later new
      unfolding fed_nothing
      on_nothing none new head' removal' ended' =
          let waits' = fed_nothing w state now past rest source_now job number written waits last later piece takes_room taken head removal is ended_is names open' none in
          let at_end = at_end_nothing w state now past rest source_now job number written waits last later piece takes_room taken head removal is ended_is names open' none in
          stands_ended w state now past last later taken number written waits' at_end new head' removal'
          (ended' w.known w.hash w.head waits'.all names)

pub goes_on_broken : {E : Type 0} (w : Begun) (state : Option State) (now : ℕ) (past : List Exchange) (rest : Option (List ℕ)) (source_now : ℕ) (job : StreamJob) (result : Result (Unit {0}) E) → IsErr result
    → IsBroken w state now past rest source_now job → GoesOn w state now past rest source_now job result
goes_on_broken w state now past rest source_now job (Ok x) err broken = absurd (cc err)
goes_on_broken w state now past rest source_now job (Err error) err broken = broken

-- ---- what an answer led to

-- memory ran out for it
pub before_broken : (w : Begun) (state : Option State) (now : ℕ) (past : List Exchange) (rest : Option (List ℕ)) (source_now : ℕ) (job new : StreamJob) (stage : WriteStage) → new.removal ≡ job.removal → new.stage ≡ stage
    → StandsBefore w state now past rest source_now job stage
    → IsBroken w state now past rest source_now new
before_broken w state now past rest source_now job new stage same is led =
    subst (λ (s : WriteStage). BreaksAt w state now past rest source_now new s) (sym is)
    (record {
      appended = led.appended;
      all = led.all;
      did = led.did;
      took = led.took;
      removal = subst (λ (r : DiskAsk). IsReady w r stage) (sym same) led.removal;
      history = led.history;
      spared = elim led.spared [ inl spared ↦ inl spared | inr failed ↦ inr (record { number = failed.number; appended = failed.appended; filled = failed.filled; made = ap number_made failed.is }) ];
      follows = λ bytes told. cuts_at w bytes (SourceFailed w source_now) stage past (led.follows bytes told);
    })
