-- A turn of a write: it knows as much after it, or its end keeps its promise.
pub mod Common
pub mod Comes
pub mod Making
pub mod Filling
pub mod Naming
use Rattle.std.proofs.Common.{◌≡◌, ℕ, List, length}
use Rattle.odb_disk.specs.Ask.{answer_now}
use Rattle.odb_disk.specs.MemDisk.{Volume}
use Rattle.odb_disk.specs.declared.ask.DiskAnswer.{DiskAnswer}
use Rattle.odb_disk.specs.declared.ask.DiskAsk.{DiskAsk}
use Rattle.gix_odb_loose.proofs.AskLaws.{IsAlong-next}
use Rattle.gix_odb_loose.proofs.WriteDoneLaws.{IsAlong-done}
use Rattle.gix_odb_loose.specs.WriteDone.{HasDone}
use Rattle.gix_odb_loose.specs.WriteJobs.{next_in, piece_of}
use Rattle.gix_odb_loose.specs.WriteOrder.{next_write, write_ask, written_in}
use Rattle.gix_odb_loose.specs.declared.write_at_hand.Onward.TheVariants.{Stage}
use Rattle.gix_odb_loose.specs.declared.write_order.WriteStage.{WriteStage}
use Rattle.gix_odb_loose.specs.declared.write_order.WriteStage.TheVariants as stages
use Rattle.gix_odb_history.specs.Event.{Event}
use Rattle.gix_odb_history.specs.Run.{disk_after}
use Rattle.gix_odb_world.specs.Running.Write.{StandsAt, job_to_write}
use Rattle.gix_odb_history.specs.Writing.{ToWrite, head_to_write}
use Rattle.gix_odb_world.proofs.WriteTurn.Common.{Makes, Stands, TurnOfWrite, call_at}
use Rattle.gix_odb_world.proofs.WriteTurn.Comes.{Goes, PartsTo, goes, supplied_parts}
use Rattle.gix_odb_world.proofs.WriteTurn.Making.{making}
use Rattle.gix_odb_world.proofs.WriteTurn.Filling.{filling, heading}
use Rattle.gix_odb_world.proofs.WriteTurn.Naming.{foldering, moving, removing}

-- the call of the disk that a write makes at a stage
abbrev pub ask_at_stage : ToWrite → WriteStage → DiskAsk
ask_at_stage w stage = write_ask (head_to_write w) (piece_of w.size w.bytes (written_in stage)) stage

-- what a write has done that is at a stage
pub done_at : (first : Volume) (events : List Event) (handle begun turns : ℕ) (w : ToWrite) (stage : WriteStage) (s : StandsAt first events handle begun turns w stage)
    → HasDone (job_to_write w) stage s.past
done_at first events handle begun turns w stage s = IsAlong-done (head_to_write w) (w.hash) w.known w.bytes (Stage stage) s.past s.along

module _ (t : TurnOfWrite) where
  open t use {first, events, handle, begun, turns, w}

  abbrev disk : Volume
  disk = disk_after first events

  parts_at : (stage : WriteStage) (s : Stands t stage) (is : Makes t (ask_at_stage w stage)) (answer : DiskAnswer) (given : answer ≡ answer_now disk (ask_at_stage w stage))
      → PartsTo t (call_at t stage s (ask_at_stage w stage) is answer given) (next_write w.size (length (piece_of w.size w.bytes (written_in stage))) stage answer)
  parts_at (stages.Making number) s is answer given = making t number s is answer given
  parts_at (stages.Heading number) s is answer given = heading t number s is answer given
  parts_at (stages.Filling number written) s is answer given = filling t number written s (done_at first events handle begun turns w (stages.Filling number written) s).next is answer given
  parts_at (stages.Foldering number id) s is answer given = foldering t number id s is answer given
  parts_at (stages.Moving number id) s is answer given = moving t number id s is answer given
  parts_at (stages.Removing number refusal) s is answer given = removing t number refusal s is answer given

  -- A write that is at a stage knows as much after the answer, or its end keeps its promise.
  pub stage_goes : (stage : WriteStage) (s : Stands t stage) (is : Makes t (ask_at_stage w stage)) (answer : DiskAnswer) (given : answer ≡ answer_now disk (ask_at_stage w stage))
      → Goes t (call_at t stage s (ask_at_stage w stage) is answer given) (next_in (record (job_to_write w) { stage = stage }) answer)
  stage_goes stage s is answer given =
      goes t (call_at t stage s (ask_at_stage w stage) is answer given) s.unnamed s.had (next_in (record (job_to_write w) { stage = stage }) answer)
      (IsAlong-next (job_to_write w) stage s.past answer s.along)
      (supplied_parts t (call_at t stage s (ask_at_stage w stage) is answer given) (next_write w.size (length (piece_of w.size w.bytes (written_in stage))) stage answer)
      (parts_at stage s is answer given))
