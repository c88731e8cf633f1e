-- Which calls of the disk a write of these data makes, by the answers that it gets: the same from a source as from memory.
use Rattle.std.specs.Prelude.{◌≡◌, ◌⊎◌, ℕ, List, [], ◌∷◌, ◌++◌, map, Option, Result, Err}
use Rattle.odb_disk.specs.declared.ask.DiskAsk.{DiskAsk}
use Rattle.odb_disk.specs.declared.ask.DiskAnswer.{DiskAnswer}
use Rattle.gix_hash.specs.declared.kind.Kind.{Kind as HashKind}
use Rattle.gix_hash.specs.declared.object_id.ObjectId.{ObjectId}
use Rattle.gix_odb_loose.specs.Exchanges.{Exchange}
use Rattle.gix_odb_loose.specs.WriteHistory.{IsRemovedAfter}
use Rattle.gix_odb_loose.specs.WriteJobs.{ask_in, next_in}
use Rattle.gix_odb_loose.specs.WriteOrder.{number_made, wrote_by}
use Rattle.gix_odb_loose.specs.declared.call.LooseReply.{LooseReply}
use Rattle.gix_odb_loose.specs.declared.call.LooseReply.TheVariants as replies
use Rattle.gix_odb_loose.specs.declared.call.Stage.{Stage as CallStage}
use Rattle.gix_odb_loose.specs.declared.call.Stage.TheVariants as calls
use Rattle.gix_odb_loose.specs.declared.write.Error.{Error}
use Rattle.gix_odb_loose.specs.declared.write.Error.TheVariants as errors
use Rattle.gix_odb_loose.specs.declared.write.Message.TheVariants as messages
use Rattle.gix_odb_loose.specs.declared.write_order.Refusal.{Refusal}
use Rattle.gix_odb_loose.specs.declared.write_at_hand.Onward.{Onward}
use Rattle.gix_odb_loose.specs.declared.write_at_hand.Onward.TheVariants.{Stage, End}
use Rattle.gix_odb_loose.specs.declared.write_order.WriteHead.{WriteHead}
use Rattle.gix_odb_loose.specs.declared.write_order.WriteStage.{WriteStage}
use Rattle.gix_odb_loose.specs.declared.write_order.WriteStage.TheVariants as stages
use Rattle.gix_odb_loose.specs.declared.write_at_hand.WriteJob.{WriteJob}

-- a write of these data that has asked nothing yet
abbrev pub write_of : WriteHead → HashKind → Option ObjectId → List ℕ → WriteJob
write_of head hash known bytes = record { head = head; stage = stages.Making 0; bytes = bytes; hash = hash; known = known }

-- ---- by the answers

-- the next call of a write, if it goes on
abbrev pub next_asks : WriteJob → Onward → List DiskAsk
next_asks job (Stage stage) = ask_in (record job { stage = stage }) ∷ []
next_asks job (End end) = []

-- what the answer to that call leads to
abbrev pub onward_by : WriteJob → Onward → DiskAnswer → Onward
onward_by job (Stage stage) answer = next_in (record job { stage = stage }) answer
onward_by job (End end) answer = End end

-- what a list of answers leads to
unfoldable pub onward_along : WriteJob → Onward → List DiskAnswer → Onward
onward_along job onward [] = onward
onward_along job onward (answer ∷ given) = onward_along job (onward_by job onward answer) given

-- the calls of the disk with these answers
unfoldable pub asks_along : WriteJob → Onward → List DiskAnswer → List DiskAsk
asks_along job onward [] = []
asks_along job onward (answer ∷ given) = next_asks job onward ++ asks_along job (onward_by job onward answer) given

-- ---- of exchanges

abbrev pub asks_in : List Exchange → List DiskAsk
asks_in past = map (λ (x : Exchange). x.ask) past

abbrev pub answers_in : List Exchange → List DiskAnswer
answers_in past = map (λ (x : Exchange). x.answer) past

-- Exchanges lead a write to a stage, or to its end: each call is the one that the answers before it led to.
pub record IsAlong (job : WriteJob) (onward : Onward) (past : List Exchange) : Type 0 where
  pub reached : onward ≡ onward_along job (Stage job.stage) (answers_in past)
  pub asked : asks_in past ≡ asks_along job (Stage job.stage) (answers_in past)

-- The exchanges of a write that was broken off: its answers led it to a stage, and then the temporary file was asked to be
-- removed, if it had made one.
pub record IsCutOff (job : WriteJob) (past : List Exchange) : Type 0 where
  pub stage : WriteStage
  pub before : List Exchange
  pub along : IsAlong job (Stage stage) before
  pub removed : IsRemovedAfter job.head (number_made stage) before past

-- The exchanges of a write with this result: they lead to its end, or it was broken off because the source of its data failed
-- or memory ran out. Memory may also run out for the paths of an error.
abbrev pub RunsAlong : WriteJob → (SourceFailed : Type 0) → List Exchange → Result ObjectId Error → Type 0
RunsAlong job SourceFailed past result =
    ((end : Result ObjectId Refusal) × IsAlong job (End end) past × ((result ≡ wrote_by job.head end) ⊎ (result ≡ Err errors.NoMemory)))
    ⊎ (IsCutOff job past × ((SourceFailed × (result ≡ Err (errors.Io messages.StreamData job.head.objects))) ⊎ (result ≡ Err errors.NoMemory)))

-- ---- a call with its data in memory

abbrev pub IsReplyAlong : WriteJob → LooseReply → List Exchange → Type 0
IsReplyAlong job (replies.Wrote result) past = (end : Result ObjectId Refusal) × (result ≡ wrote_by job.head end) × IsAlong job (End end) past
IsReplyAlong job reply past = ⊥

-- the exchanges of a call that began with this write lead to its stage, or to its reply
abbrev pub IsCallAlong : WriteJob → CallStage → List Exchange → Type 0
IsCallAlong job (calls.Writing now) past = (now ≡ record job { stage = now.stage }) × IsAlong job (Stage now.stage) past
IsCallAlong job (calls.Done reply) past = IsReplyAlong job reply past
IsCallAlong job stage past = ⊥
