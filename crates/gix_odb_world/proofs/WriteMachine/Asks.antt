-- A write asks in its turn what its stage asks.
use Rattle.std.proofs.Common.{◌≡◌, inr, ℕ, ◌+◌, ◌*◌, ◌<◌, List, length, Some, refl, sym, ap, ◌∙◌, subst, arith}
use Rattle.odb_disk.specs.MemDisk.{Volume}
use Rattle.odb_disk.specs.declared.ask.DiskAsk.{DiskAsk}
use Rattle.odb_disk.specs.declared.ask.DiskAsk.TheVariants as asks
use Rattle.gix_odb_loose.specs.LooseFile.{loose_path}
use Rattle.gix_odb_loose.specs.WriteJobs.{piece_at, pieces_of}
use Rattle.gix_odb_loose.proofs.WriteDoneLaws.{HasDone-asked}
use Rattle.gix_odb_loose.specs.WriteDone.{HasAsked, HasDone}
use Rattle.gix_odb_loose.specs.WriteOrder.{number_made, prefix_path, temp_path}
use Rattle.gix_odb_loose.specs.WritePieces.{IsInPieces, piece_size}
use Rattle.gix_odb_loose.specs.declared.call.LooseCall.{LooseCall}
use Rattle.gix_odb_loose.specs.declared.write_order.WriteStage.{WriteStage}
use Rattle.gix_odb_loose.specs.declared.write_order.WriteStage.TheVariants as stages
use Rattle.gix_odb_world.specs.Asks.{AppendsHeader, AppendsPiece, AsksInOrder, AsksToWrite, MakesDirectory, MakesFile, Removes, Renames}
use Rattle.gix_odb_history.specs.Event.{Event}
use Rattle.gix_odb_world.specs.Status.{Running, MakeCall}
use Rattle.gix_odb_world.specs.Running.Write.{IsAtOwnWrite, IsWriting, StandsAt, job_to_write}
use Rattle.gix_odb_history.specs.Writing.{DoneSince, ToWrite, call_to_write, to_write}
use Rattle.gix_odb_world.proofs.WriteFive.{below, made_before}
use Rattle.gix_odb_world.proofs.WriteTurn.{ask_at_stage, done_at}

module _ (first : Volume) (events : List Event) (handle begun turns : ℕ) (w : ToWrite) where
  abbrev Asks : DiskAsk → Type 0
  Asks ask = AsksToWrite first events handle begun turns w ask

  whole_pieces : (count : ℕ) → pieces_of (piece_size * count) ≡ count
  whole_pieces count = omega arith

  abbrev Stands : WriteStage → Type 0
  Stands stage = StandsAt first events handle begun turns w stage

  abbrev made : (stage : WriteStage) (number : ℕ) → number_made stage ≡ Some number → Stands stage → DoneSince first events handle begun (asks.NewFile (temp_path w.objects number))
  made stage number is s = made_before first events handle begun turns w stage number is s

  abbrev done : (stage : WriteStage) (s : Stands stage) → HasDone (job_to_write w) stage s.past
  done stage s = done_at first events handle begun turns w stage s

  -- a write has had a turn for each call that it made
  had : (stage : WriteStage) → Stands stage → HasAsked (length w.bytes) turns stage
  had stage s = subst (λ n. HasAsked (length w.bytes) n stage) (sym s.had) (HasDone-asked (job_to_write w) stage s.past (done stage s))

  by_pieces : (number written : ℕ) (s : Stands (stages.Filling number written)) → written < length w.bytes → IsInPieces written
      → Asks (asks.Append (temp_path w.objects number) (piece_at w.size w.bytes written))
  by_pieces number written s more pieces =
      let turn : turns ≡ number + 2 + pieces.0 = had (stages.Filling number written) s ∙ (ap (λ n. number + 2 + pieces_of n) pieces.1 ∙ ap (λ n. number + 2 + n) (whole_pieces pieces.0)) in
      subst (λ n. Asks (asks.Append (temp_path w.objects number) (piece_at w.size w.bytes n))) (sym pieces.1)
      (AppendsPiece number (made (stages.Filling number written) number refl s) pieces.0 turn (subst (λ n. n < length w.bytes) pieces.1 more))

  -- each stage of a write asks in its turn
  at_stage : (stage : WriteStage) → Stands stage → Asks (ask_at_stage w stage)
  at_stage (stages.Making number) s = MakesFile number (below first events handle begun turns w (stages.Making number) s) (had (stages.Making number) s)
  at_stage (stages.Heading number) s = AppendsHeader number (made (stages.Heading number) number refl s) (had (stages.Heading number) s)
  at_stage (stages.Filling number written) s = let next = (done (stages.Filling number written) s).next in by_pieces number written s next.1 next.2
  at_stage (stages.Foldering number id) s =
      subst (λ i. Asks (asks.MakeDir (prefix_path w.objects i))) (sym (done (stages.Foldering number id) s).history.1)
      (MakesDirectory number (made (stages.Foldering number id) number refl s) (had (stages.Foldering number id) s))
  at_stage (stages.Moving number id) s =
      subst (λ i. Asks (asks.Rename (temp_path w.objects number) (loose_path w.objects i))) (sym (done (stages.Moving number id) s).history.1)
      (Renames number (made (stages.Moving number id) number refl s) (had (stages.Moving number id) s))
  at_stage (stages.Removing number refusal) s = Removes number (made (stages.Removing number refusal) number refl s)

-- a running write asks in its turn, which is counted from where the refresh before it is ready
pub in_order_write : (first : Volume) (events : List Event) (handle : ℕ) (running : Running) (call : LooseCall)
    → (at : IsAtOwnWrite first events handle running call)
    → AsksInOrder first events handle running.store running.modes running.begun running.turns (MakeCall (call_to_write at.writing.write)) (ask_at_stage at.writing.write at.writing.stage)
in_order_write first events handle running call at =
    let writes : IsWriting first events handle running call = at.writing in
    let w : ToWrite = writes.write in
    inr (
      at.ready,
      record {
        own = writes.own;
        turn = at.turns;
        asks = subst (λ hash. AsksToWrite first events handle running.begun writes.own (to_write running.store.parts.objects hash w.kind w.size w.bytes w.known) (ask_at_stage w writes.stage)) writes.hashed
            (subst (λ objects. AsksToWrite first events handle running.begun writes.own (to_write objects w.hash w.kind w.size w.bytes w.known) (ask_at_stage w writes.stage)) writes.into
            (at_stage first events handle running.begun writes.own w writes.stage writes.stands));
      },
    )
