-- What a write reads: the end, a piece, bytes that are lost.
use Rattle.std.specs.Prelude.{◌≡◌, ◌≢◌, ℕ, ◌+◌, ◌<◌, ◌≤◌, ◌==◌, Bool, true, false, nat_lt, List, [], ◌∷◌, ◌++◌, length, Option, Some, None, IfSome, if◌then◌else◌, refl}
use Rattle.std.proofs.Common.{inl, inr, sym, ap, ◌∙◌, subst, arith, append-nil}
use Rattle.std.proofs.lemmas.Grind.{common_steps}
use Rattle.std.proofs.lemmas.List.{length-append}
use Rattle.odb_base.specs.Faults.{Rose}
use Rattle.odb_disk.specs.Tree.{State}
use Rattle.gix_hash.specs.declared.kind.Kind.{Kind as HashKind}
use Rattle.gix_hash.specs.declared.object_id.ObjectId.{ObjectId}
use Rattle.gix_odb_loose.specs.WriteAsks.{IsAlong}
use Rattle.gix_odb_loose.proofs.WriteHistoryLaws.{IsHistory-ended}
use Rattle.gix_odb_loose.specs.Exchanges.{Exchange}
use Rattle.gix_odb_loose.specs.WriteNames.{name_for, Names}
use Rattle.gix_odb_loose.specs.WriteOrder.{ended_with, source_failed}
use Rattle.gix_odb_loose.specs.WritePieces.{room_behind}
use Rattle.gix_odb_loose.specs.StreamJobs.Progress.{Begun, NamedBy, SourceFailed, Took, WentTo}
use Rattle.gix_odb_loose.specs.StreamJobs.SameAsks.{at_hand}
use Rattle.gix_odb_loose.specs.StreamJobs.Reads.{Loses, Takes}
use Rattle.gix_odb_loose.specs.StreamJobs.AtStage.{HasPiece, Holds, IsNext, removal_at}
use Rattle.gix_odb_loose.specs.StreamJobs.Standing.{StandsAt, WaitsAt, BreaksAt}
use Rattle.gix_odb_loose.specs.StreamJobs.{IsUnderway}
use Rattle.gix_odb_loose.specs.WriteStreams.{Draws, IsAtEnd, OtherLength}
use Rattle.gix_odb_loose.specs.declared.write_streamed.StreamJob.{StreamJob}
use Rattle.gix_odb_loose.specs.declared.write_at_hand.Onward.TheVariants.{Stage}
use Rattle.gix_odb_loose.specs.declared.write_order.Refusal.TheVariants as refusals
use Rattle.gix_odb_loose.specs.declared.write_order.WriteHead.{WriteHead}
use Rattle.gix_odb_loose.specs.declared.write_order.WriteStage.{WriteStage}
use Rattle.gix_odb_loose.specs.declared.write_order.WriteStage.TheVariants as stages
use Rattle.gix_odb_loose.proofs.RoomLemmas.{has_room, room_within}
use Rattle.gix_odb_loose.proofs.WriteStreamsLemmas.{Draws-more, Draws-end, Draws-length}
use Rattle.gix_odb_loose.proofs.StreamJobsLemmas.SameAsks.{cuts_fed, follows_piece, follows_end}

-- ---- the name and the length of all data

named_from : (left : Option (List ℕ)) (known : Option ObjectId) (hash : HashKind) (head : WriteHead) (all : List ℕ) → IfSome left (λ bytes. bytes ≡ all)
    → IfSome left (λ bytes. name_for known hash head all ≡ name_for known hash head bytes)
named_from None known hash head all h = tt
named_from (Some bytes) known hash head all h = ap (name_for known hash head) (sym h)

counts_from : (left : Option (List ℕ)) (size written : ℕ) (all : List ℕ) → IfSome left (λ bytes. bytes ≡ all) → written ≡ length all → written ≤ size → (written ≡ size → ⊥)
    → (written < size) × OtherLength left size written
counts_from None size written all h is within differs = (omega (arith, within, differs), tt)
counts_from (Some bytes) size written all h is within differs =
    let long : length bytes ≡ length all = ap length h in (omega (arith, within, differs), inl (omega (arith, within, differs, is, long), is ∙ sym long))

some_bytes : (piece : List ℕ) → piece ≢ [] → 1 ≤ length piece
some_bytes [] some = absurd (some refl)
some_bytes (b ∷ bs) some = omega arith

module _ (w : Begun) (state : Option State) (now : ℕ) where
  took_more : (rest last : Option (List ℕ)) (source_now later : ℕ) (all more : List ℕ) → Took w rest source_now all → Draws rest last more → length all + length more ≤ w.head.size + 1
      → source_now ≤ later → Took w last later (all ++ more)
  took_more rest last source_now later all more took drawn few on =
      record {
        drawn = Draws-more w.left rest last all more took.drawn drawn;
        few = omega (arith, few, length-append all more);
        later = omega (arith, took.later, on);
      }

  module _ (past : List Exchange) (rest : Option (List ℕ)) (source_now : ℕ) (job : StreamJob) (number written : ℕ) (fed : WaitsAt w state now past rest source_now job number written) where
    all_appended : fed.all ≡ fed.appended
    all_appended = fed.holds.0.is ∙ append-nil fed.appended

    so_far : written ≡ length fed.all
    so_far = fed.history.0 ∙ ap length (sym all_appended)

    few_more : (more : List ℕ) → length more ≤ room_behind w.head.size written → length fed.all + length more ≤ w.head.size + 1
    few_more more few = let room = room_within w.head.size written fed.holds.0.within in omega (arith, room, few, so_far)

    -- the data end
    module _ (at_end : IsAtEnd rest) (new : StreamJob) (head : new.head ≡ job.head) (removal : new.removal ≡ job.removal) where
      abbrev id : ObjectId
      id = name_for w.known w.hash w.head fed.all

      whole : IfSome w.left (λ bytes. bytes ≡ fed.all)
      whole = Draws-end w.left rest fed.all fed.took.drawn at_end

      ended_history : WentTo w source_now fed.appended (ended_with w.head.size id number written) past
      ended_history =
          IsHistory-ended w.head (NamedBy w) (SourceFailed w source_now) (OtherLength w.left w.head.size) number written id fed.appended past
          (named_from w.left w.known w.hash w.head fed.all whole)
          (counts_from w.left w.head.size written fed.all whole so_far fed.holds.0.within) fed.history

      ended_follows : (bytes : List ℕ) → w.left ≡ Some bytes → IsAlong (at_hand w bytes) (Stage (ended_with w.head.size id number written)) past
      ended_follows bytes is = follows_end w bytes number written past fed.all (subst (λ (left : Option (List ℕ)). IfSome left (λ bytes. bytes ≡ fed.all)) is whole) so_far (fed.follows bytes is)

      -- where the length of the data leads
      abbrev stage_by : (same : Bool) → WriteStage
      stage_by same = if same then stages.Foldering number id else stages.Removing number (refusals.SizeMismatch written)

      stands_by : (same : Bool) → (written == w.head.size) ≡ same → new.removal ≡ removal_at w (stage_by same) → Holds w rest fed.appended fed.all new (stage_by same)
          → StandsAt w state now past rest source_now new (stage_by same)
      stands_by same e ready holds =
          record {
            appended = fed.appended;
            all = fed.all;
            did = fed.did;
            took = fed.took;
            head = head ∙ fed.head;
            removal = ready;
            history = subst (λ (b : Bool). WentTo w source_now fed.appended (stage_by b) past) e ended_history;
            holds = holds;
            spared = inl fed.spared;
            follows = λ bytes told. inl (subst (λ (b : Bool). IsAlong (at_hand w bytes) (Stage (stage_by b)) past) e (ended_follows bytes told));
          }

      by_length : (same : Bool) → (written == w.head.size) ≡ same → StandsAt w state now past rest source_now new (stage_by same)
      by_length true e = stands_by true e (removal ∙ fed.removal) (at_end, all_appended, ap (name_for w.known w.hash w.head) all_appended)
      by_length false e = stands_by false e (removal ∙ fed.removal) tt

      pub stands_ended : new.stage ≡ ended_with job.head.size id number written → IsUnderway w state now past rest source_now new
      stands_ended is =
          let size : job.head.size ≡ w.head.size = ap (λ (h : WriteHead). h.size) fed.head in
          subst (λ (s : WriteStage). StandsAt w state now past rest source_now new s) (sym (is ∙ ap (λ (n : ℕ). ended_with n id number written) size)) (by_length (written == w.head.size) refl)

    -- bytes are lost
    module _ (last : Option (List ℕ)) (later : ℕ) (loses : Loses (room_behind w.head.size written) rest last source_now later) where
      took_lost : Took w last later (fed.all ++ loses.lost)
      took_lost = took_more rest last source_now later fed.all loses.lost fed.took loses.drawn (few_more loses.lost loses.few) loses.later

      -- because memory ran out
      pub breaks_lost : (new : StreamJob) → new.removal ≡ job.removal → BreaksAt w state now past last later new (stages.Filling number written)
      breaks_lost new removal =
          record {
            appended = fed.appended;
            all = fed.all ++ loses.lost;
            did = fed.did;
            took = took_lost;
            removal = removal ∙ fed.removal;
            history = fed.history;
            spared = inr (record { number = number; appended = fed.appended; filled = fed.history.1; made = refl });
            follows = λ bytes is. cuts_fed w bytes number written past (fed.follows bytes is);
          }

      -- because the source failed
      pub stands_failed : Rose source_now later → (new : StreamJob) → new.head ≡ job.head → new.removal ≡ job.removal → StandsAt w state now past last later new (source_failed number)
      stands_failed rose new head removal =
          record {
            appended = fed.appended;
            all = fed.all ++ loses.lost;
            did = fed.did;
            took = took_lost;
            head = head ∙ fed.head;
            removal = removal ∙ fed.removal;
            history = inl (grind (arith, rose, fed.took.later), (fed.appended, fed.history.1));
            holds = tt;
            spared = inr (record { number = number; appended = fed.appended; filled = fed.history.1; is = refl });
            follows =
                λ bytes is.
                let cuts = cuts_fed w bytes number written past (fed.follows bytes is) in
                inr (record { number = number; failed = grind (arith, rose, fed.took.later); is = refl; cuts = record { reached = cuts.reached; made = cuts.made; along = cuts.along } });
          }

    -- a piece is taken
    module _ (last : Option (List ℕ)) (later : ℕ) (piece : List ℕ) (takes : Takes (room_behind w.head.size written) rest last source_now later piece) (new : StreamJob) (head : new.head ≡ job.head)
        (removal : new.removal ≡ job.removal)
        (is : new.piece ≡ piece) (ended : new.has_ended ≡ nat_lt (length piece) (room_behind w.head.size written)) (named : Names w.known w.hash w.head (fed.all ++ piece) new.naming)
        (open' : job.has_ended ≡ false) where
      pub took_piece : Took w last later (fed.all ++ piece)
      took_piece = took_more rest last source_now later fed.all piece fed.took takes.drawn (few_more piece takes.few) (let same = takes.same in omega (arith, same))

      shorter : new.has_ended ≡ true → IsAtEnd last
      shorter e = takes.at_end (let less = sym ended ∙ e in grind (arith, common_steps, less))

      pub has_piece : HasPiece w last written fed.appended (fed.all ++ piece) new.piece new.naming new.has_ended
      has_piece =
          record { is = ap (λ (xs : List ℕ). xs ++ piece) all_appended ∙ ap (λ (xs : List ℕ). fed.appended ++ xs) (sym is); named = named; within = fed.holds.0.within; ended = shorter }

      next : new.piece ≢ [] → IsNext w written new.piece new.has_ended
      next some =
          record {
            some = some;
            few = subst (λ (p : List ℕ). length p ≤ room_behind w.head.size written) (sym is) takes.few;
            in_pieces = fed.holds.1 open';
            full = λ e. ap length is ∙ (let whole = sym ended ∙ e in grind (arith, common_steps, whole, takes.few));
          }

      -- a piece with some bytes was left
      more_left : (bytes : List ℕ) → w.left ≡ Some bytes → new.piece ≢ [] → written < length bytes
      more_left bytes told some =
          let all = subst (λ (left : Option (List ℕ)). IfSome left (λ bytes. length (fed.all ++ piece) ≤ length bytes)) told (Draws-length w.left last (fed.all ++ piece) took_piece.drawn) in
          let one = some_bytes piece (λ e. some (is ∙ e)) in
          omega (arith, all, one, so_far, length-append fed.all piece)

      pub stands_piece : new.piece ≢ [] → StandsAt w state now past last later new (stages.Filling number written)
      stands_piece some =
          record {
            appended = fed.appended;
            all = fed.all ++ piece;
            did = fed.did;
            took = took_piece;
            head = head ∙ fed.head;
            removal = removal ∙ fed.removal;
            history = fed.history;
            holds = (has_piece, next some);
            spared = inl (takes.same ∙ fed.spared);
            follows = λ bytes told. inl (follows_piece w bytes number written past (more_left bytes told some) (fed.follows bytes told));
          }

      unfoldable pub fed_nothing : new.piece ≡ [] → WaitsAt w state now past last later new number written
      fed_nothing none =
          record {
            appended = fed.appended;
            all = fed.all ++ piece;
            did = fed.did;
            took = took_piece;
            head = head ∙ fed.head;
            none = none;
            removal = removal ∙ fed.removal;
            history = fed.history;
            holds = (subst (λ (p : List ℕ). HasPiece w last written fed.appended (fed.all ++ piece) p new.naming new.has_ended) none has_piece, λ e. fed.holds.1 open');
            spared = takes.same ∙ fed.spared;
            follows = fed.follows;
          }

      pub at_end_nothing : new.piece ≡ [] → IsAtEnd last
      at_end_nothing none = let some = has_room w.head.size written in let short : length piece ≡ 0 = ap length (sym is ∙ none) in takes.at_end (omega (arith, some, short))
