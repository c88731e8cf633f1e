-- The answer to a write's ask keeps what the write holds.
use Rattle.std.specs.Prelude.{◌≡◌, ◌≢◌, ℕ, ◌+◌, ◌-◌, ◌^◌, ◌≤◌, true, false, min, List, [], ◌∷◌, ◌++◌, length, Option, Some, None, Ok, Err, IfSome, refl}
use Rattle.std.proofs.Common.{inr, sym, ap, ◌∙◌, subst, arith, append-nil}
use Rattle.std.proofs.lemmas.Grind.{common_steps}
use Rattle.std.proofs.lemmas.List.{length-append}
use Rattle.odb_disk.specs.declared.ask.DiskAsk.{DiskAsk}
use Rattle.odb_disk.specs.declared.ask.DiskAsk.TheVariants as asks
use Rattle.odb_disk.specs.declared.ask.DiskAnswer.{DiskAnswer}
use Rattle.gix_hash.specs.declared.object_id.ObjectId.{ObjectId}
use Rattle.gix_odb_loose.specs.Exchanges.{Exchange}
use Rattle.gix_odb_loose.specs.WriteHistory.{data_after}
use Rattle.gix_odb_loose.specs.WritePieces.{IsInPieces, room_behind}
use Rattle.gix_odb_loose.proofs.WriteHistoryLaws.{CountsTooMany, IsNextPiece}
use Rattle.gix_odb_loose.specs.WriteNames.{Names}
use Rattle.gix_odb_loose.specs.WriteOrder.{temp_path, next_write, made_by, headed_by, filled_by, foldered_by, moved_by, grown}
use Rattle.gix_odb_loose.specs.StreamJobs.Progress.{Begun, NamedBy, SourceFailed, Took, WentTo}
use Rattle.gix_odb_loose.specs.StreamJobs.AtStage.{HasPiece, IsNext, Named, Holds, HoldsNone, IsReady, removal_at}
use Rattle.gix_odb_loose.specs.WriteStreams.{OtherLength}
use Rattle.gix_odb_loose.specs.declared.write_streamed.StreamJob.{StreamJob}
use Rattle.gix_odb_loose.specs.declared.write_order.WriteAsk.{WriteAsk}
use Rattle.gix_odb_loose.specs.declared.write_order.WriteAsk.TheVariants as wants
use Rattle.gix_odb_loose.specs.declared.write_order.WriteStage.{WriteStage}
use Rattle.gix_odb_loose.specs.declared.write_order.WriteStage.TheVariants as stages
use Rattle.gix_odb_loose.proofs.WriteStreamsLemmas.{Draws-length}
use Rattle.gix_odb_loose.proofs.RoomLemmas.{room_few, whole_piece}
use Rattle.gix_odb_loose.proofs.WriteOrderLemmas.{by_made, by_headed, by_filled, by_foldered, by_moved}

module _ (w : Begun) (rest : Option (List ℕ)) (job fed : StreamJob) (removal : fed.removal ≡ job.removal) (naming : fed.naming ≡ job.naming) (ended : fed.has_ended ≡ job.has_ended) where
  -- what holds of each ask that an answer leads to
  abbrev pub Kept : List ℕ → List ℕ → WriteAsk → Type 0
  Kept appended all (wants.Disk stage) = Holds w rest appended all fed stage × IsReady w fed.removal stage
  Kept appended all (wants.Data number written) = HoldsNone w rest written appended all fed × (fed.removal ≡ removal_at w (stages.Filling number written))
  Kept appended all (wants.Done (Ok id)) = Named w rest appended all id
  Kept appended all (wants.Done (Err refusal)) = Unit {0}

  module _ (number : ℕ) (ready : job.removal ≡ asks.Remove (temp_path w.head.objects number)) where
    abbrev stays : fed.removal ≡ asks.Remove (temp_path w.head.objects number)
    stays = removal ∙ ready

    abbrev new_file : DiskAsk
    new_file = asks.NewFile (temp_path w.head.objects number)

    module _ (appended all : List ℕ) (none : appended ≡ []) (unread : all ≡ []) (open' : job.has_ended ≡ false) (named : Names w.known w.hash w.head [] job.naming) where
      still : Names w.known w.hash w.head [] fed.naming
      still = subst (Names w.known w.hash w.head []) (sym naming) named

      kept_made : (answer : DiskAnswer) → Kept appended all (made_by number answer)
      kept_made = by_made (λ held wanted. Kept held all wanted) appended number ((unread, ended ∙ open', still), stays) (λ more. ((unread, ended ∙ open', still), tt)) (λ refusal. tt)

      begins : HasPiece w rest 0 appended all [] fed.naming fed.has_ended
      begins =
          record {
            is = unread ∙ sym (append-nil appended ∙ none);
            named = subst (λ (xs : List ℕ). Names w.known w.hash w.head xs fed.naming) (sym unread) still;
            within = omega arith;
            ended = λ e. absurd (let both : false ≡ true = sym (ended ∙ open') ∙ e in cc both);
          }

      kept_headed : (answer : DiskAnswer) → Kept appended all (headed_by number answer)
      kept_headed = by_headed (λ held wanted. Kept held all wanted) appended number (λ held refusal. (tt, stays)) ((begins, λ e. (0, omega arith)), stays)

    module _ (written : ℕ) (appended all piece : List ℕ) (has : HasPiece w rest written appended all piece job.naming job.has_ended) (next : IsNext w written job.piece job.has_ended)
        (is_piece : piece ≡ job.piece) where
      more_pieces : length piece ≡ room_behind w.head.size written → written + length piece ≤ w.head.size → IsInPieces (written + length piece)
      more_pieces full fits =
          let whole = whole_piece w.head.size written (length piece) full fits in
          (next.in_pieces.0 + 1, omega (arith, next.in_pieces.1, whole))

      kept_filled : (answer : DiskAnswer) → Kept (data_after (stages.Filling number written) piece answer appended) all (filled_by number written w.head.size (length piece) answer)
      kept_filled =
          by_filled (λ held wanted. Kept held all wanted) appended number (λ held refusal. (tt, stays)) w.head.size written (length piece) piece (λ e. (
            (
              record {
                is = has.is ∙ sym (append-nil (appended ++ piece));
                named = subst (Names w.known w.hash w.head all) (sym naming) has.named;
                within = grind (arith, common_steps, e);
                ended = λ d. has.ended (sym ended ∙ d);
              },
              λ d. more_pieces (ap length is_piece ∙ next.full (sym ended ∙ d)) (grind (arith, common_steps, e)),
            ),
            stays,
          ))

    module _ (id : ObjectId) (appended all : List ℕ) (named : Named w rest appended all id) where
      kept_foldered : (answer : DiskAnswer) → Kept appended all (foldered_by number id answer)
      kept_foldered = by_foldered (λ held wanted. Kept held all wanted) appended number (λ held refusal. (tt, stays)) id (named, stays)

      kept_moved : (answer : DiskAnswer) → Kept appended all (moved_by number id answer)
      kept_moved = by_moved (λ held wanted. Kept held all wanted) appended number (λ held refusal. (tt, stays)) id named

  module _ (source_now : ℕ) (appended all : List ℕ) (past : List Exchange) where
    pub kept : (stage : WriteStage) (answer : DiskAnswer) → WentTo w source_now appended stage past → Holds w rest appended all job stage → job.removal ≡ removal_at w stage
        → Kept (data_after stage job.piece answer appended) all (next_write w.head.size (length job.piece) stage answer)
    kept (stages.Making number) answer history holds ready = kept_made number ready appended all history.1 holds.0 holds.1 holds.2 answer
    kept (stages.Heading number) answer history holds ready = kept_headed number ready appended all history.0 holds.0 holds.1 holds.2 answer
    kept (stages.Filling number written) answer history holds ready = kept_filled number ready written appended all job.piece holds.0 holds.1 refl answer
    kept (stages.Foldering number id) answer history holds ready = kept_foldered number ready id appended all holds answer
    kept (stages.Moving number id) answer history holds ready = kept_moved number ready id appended all holds answer
    kept (stages.Removing number refusal) answer history holds ready = tt

    -- one byte more than the size is counted
    pub counts : (stage : WriteStage) → WentTo w source_now appended stage past → Holds w rest appended all job stage → Took w rest source_now all
        → CountsTooMany w.head (NamedBy w) (SourceFailed w source_now) (OtherLength w.left w.head.size) stage job.piece
    counts (stages.Making number) history holds took = tt
    counts (stages.Heading number) history holds took = tt
    counts (stages.Filling number written) history holds took =
        λ more.
        let long : written + length job.piece ≡ length all = rw (history.0) (sym (length-append appended job.piece)) ∙ ap length (sym holds.0.is) in
        let exact : written + length job.piece ≡ w.head.size + 1 = omega (arith, more, long, took.few) in
        (exact, by_left w.left (Draws-length w.left rest all took.drawn) long exact)
      where
        by_left : (left : Option (List ℕ)) → IfSome left (λ bytes. length all ≤ length bytes) → written + length job.piece ≡ length all → written + length job.piece ≡ w.head.size + 1
            → OtherLength left w.head.size (grown written (length job.piece))
        by_left None h long exact = tt
        by_left (Some bytes) h long exact = inr (omega (arith, h, long, exact), ap (λ (n : ℕ). min n (2 ^ 64 - 1)) exact)
    counts (stages.Foldering number id) history holds took = tt
    counts (stages.Moving number id) history holds took = tt
    counts (stages.Removing number refusal) history holds took = tt

    -- the piece that is appended is the next
    pub next_piece : (stage : WriteStage) → Holds w rest appended all job stage → IsNextPiece w.head (NamedBy w) (SourceFailed w source_now) (OtherLength w.left w.head.size) stage job.piece
    next_piece (stages.Making number) holds = tt
    next_piece (stages.Heading number) holds = tt
    next_piece (stages.Filling number written) holds = (holds.1.in_pieces, some_bytes job.piece holds.1.some, (let most = room_few w.head.size written in omega (arith, most, holds.1.few)))
      where
        some_bytes : (piece : List ℕ) → piece ≢ [] → 1 ≤ length piece
        some_bytes [] some = absurd (some refl)
        some_bytes (b ∷ bs) some = omega arith
    next_piece (stages.Foldering number id) holds = tt
    next_piece (stages.Moving number id) holds = tt
    next_piece (stages.Removing number refusal) holds = tt
