-- Each answer leaves a call that reads no directory with fewer asks, for callers: a call with n asks left has at most n turns.
use Rattle.std.proofs.Common.{◌≡◌, ◌<◌, ◌≤◌, ◌+◌, ◌-◌, ℕ, Bool, true, false, length, drop, Some, None, refl, sym, ap, ◌∙◌, subst, arith}
use Rattle.std.specs.Prelude.{nat_le, min, if◌then◌else◌}
use Rattle.std.proofs.lemmas.Grind.{common_steps}
use Rattle.std.proofs.lemmas.List.{length-take, length-drop}
use Rattle.odb_disk.specs.declared.ask.DiskAsk.{DiskAsk}
use Rattle.odb_disk.specs.declared.ask.DiskAnswer.{DiskAnswer}
use Rattle.odb_disk.specs.declared.ask.DiskAnswer.TheVariants as answers
use Rattle.gix_odb_loose.specs.LooseOrder.{IsStreamless, fed, disk_ask_of, stage_ask, next_stage, asks_left, written_to}
use Rattle.gix_odb_loose.specs.WriteOrder.{made_by, headed_by, filled_by, foldered_by, moved_by, next_write, ended_with, written_in, grown}
use Rattle.gix_odb_loose.specs.WritePieces.{piece_size, room_behind}
use Rattle.gix_odb_loose.proofs.RoomLemmas.{whole_piece}
use Rattle.gix_odb_loose.proofs.WriteJobsLemmas.{fewer_left, ended_fewer}
use Rattle.gix_odb_loose.specs.WriteJobs.{supplied, name_of, piece_at, piece_of, next_in, advance_to, pieces_of, onward_ask, writes_left}
use Rattle.gix_odb_loose.specs.declared.call.LooseCall.{LooseCall}
use Rattle.gix_odb_loose.specs.declared.call.Stage.{Stage as CallStage}
use Rattle.gix_odb_loose.specs.declared.call.Stage.TheVariants as calls
use Rattle.gix_odb_loose.specs.declared.write_at_hand.Onward.{Onward}
use Rattle.gix_odb_loose.specs.declared.write_at_hand.Onward.TheVariants.{Stage, End}
use Rattle.gix_odb_loose.specs.declared.write_order.WriteAsk.{WriteAsk}
use Rattle.gix_odb_loose.specs.declared.write_order.WriteAsk.TheVariants as wants
use Rattle.gix_odb_loose.specs.declared.write_order.WriteStage.{WriteStage}
use Rattle.gix_odb_loose.specs.declared.write_order.WriteStage.TheVariants as stages
use Rattle.gix_odb_loose.specs.declared.write_order.Refusal.TheVariants as refusals
use Rattle.gix_odb_loose.specs.declared.write_at_hand.WriteJob.{WriteJob}

advance_left : (job : WriteJob) (onward : Onward) → asks_left (written_to job (advance_to job onward)) ≡ writes_left (length job.bytes) (onward_ask onward)
advance_left job (Stage stage) = refl
advance_left job (End end) = refl

-- a whole piece less
pieces_fewer : (len : ℕ) → piece_size < len → pieces_of (len - piece_size) < pieces_of len
pieces_fewer len more = omega (arith, more)

module _ (job : WriteJob) where
  abbrev n : ℕ
  n = length job.bytes

  -- ---- the end of the data takes no more asks

  supply_fill : (number written : ℕ) (b : Bool) → nat_le n written ≡ b
      → writes_left n (wants.Disk (if b then ended_with job.head.size (name_of job) number written else stages.Filling number written)) ≤ 4 + pieces_of (n - written)
  supply_fill number written true e = omega (arith, ended_fewer n job.head.size (name_of job) number written)
  supply_fill number written false e = omega arith

  supply_strict : (number written : ℕ) (b : Bool) → nat_le n written ≡ b → n ≤ written
      → writes_left n (wants.Disk (if b then ended_with job.head.size (name_of job) number written else stages.Filling number written)) < 4
  supply_strict number written true e past = ended_fewer n job.head.size (name_of job) number written
  supply_strict number written false e past = absurd (grind (arith, common_steps, e, past))

  supplied_left : (wanted : WriteAsk) → writes_left n (onward_ask (supplied job wanted)) ≤ writes_left n wanted
  supplied_left (wants.Disk stage) = omega arith
  supplied_left (wants.Data number written) = supply_fill number written (nat_le n written) refl
  supplied_left (wants.Done end) = omega arith

  -- ---- each answer

  abbrev pub piece : ℕ → ℕ
  piece written = length (piece_at job.head.size job.bytes written)

  pub piece_is : (written : ℕ) → piece written ≡ min (room_behind job.head.size written) (n - written)
  piece_is written = length-take (room_behind job.head.size written) (drop written job.bytes) ∙ ap (min (room_behind job.head.size written)) (length-drop written job.bytes)

  grown_left : (number written : ℕ) (past : Bool) → nat_le n (written + piece written) ≡ past → written + piece written ≤ job.head.size
      → writes_left n (onward_ask (supplied job (wants.Data number (written + piece written)))) < 4 + pieces_of (n - written)
  grown_left number written true e fits =
      let inside : n ≤ written + piece written = grind (arith, common_steps, e) in
      let less = supply_strict number (written + piece written) (nat_le n (written + piece written)) refl inside in omega (arith, less)
  grown_left number written false e fits =
      let below : written + piece written < n = grind (arith, common_steps, e) in
      let whole = whole_piece job.head.size written (piece written) (omega (arith, piece_is written, below)) fits in
      let least = supply_fill number (written + piece written) (nat_le n (written + piece written)) refl in
      let fewer = pieces_fewer (n - written) (omega (arith, below, whole)) in
      let rest : n - (written + piece written) ≡ n - written - piece_size = omega (arith, whole) in
      let least' = rw rest at least in
      omega (arith, least', fewer)

  fits_left : (number written : ℕ) (b : Bool) → nat_le (written + piece written) job.head.size ≡ b
      → writes_left n (onward_ask (supplied job (if b then wants.Data number (written + piece written) else wants.Disk
      (stages.Removing number (refusals.SizeMismatch (grown written (piece written))))))) < 4 + pieces_of (n - written)
  fits_left number written true e = grown_left number written (nat_le n (written + piece written)) refl (grind (arith, common_steps, e))
  fits_left number written false e = omega arith

  filled_left : (number written : ℕ) (given : DiskAnswer) → writes_left n (onward_ask (supplied job (filled_by number written job.head.size (piece written) given))) < 4 + pieces_of (n - written)
  filled_left number written answers.Done = fits_left number written (nat_le (written + piece written) job.head.size) refl
  filled_left number written (answers.Meta meta) = omega arith
  filled_left number written (answers.Dir dir) = omega arith
  filled_left number written (answers.Entry entry) = omega arith
  filled_left number written answers.End = omega arith
  filled_left number written (answers.File bytes time) = omega arith
  filled_left number written (answers.Refused error) = omega arith

  -- what is asked next, at a stage that appends no piece
  other_left : (stage : WriteStage) (given : DiskAnswer) → written_in stage ≡ None
      → writes_left n (onward_ask (supplied job (next_write job.head.size 0 stage given))) < writes_left n (wants.Disk stage)
  other_left (stages.Making number) given none = omega (arith, supplied_left (made_by number given), fewer_left n job.head.size (stages.Making number) 0 given tt)
  other_left (stages.Heading number) given none = omega (arith, supplied_left (headed_by number given), fewer_left n job.head.size (stages.Heading number) 0 given tt)
  other_left (stages.Filling number written) given none = absurd (cc none)
  other_left (stages.Foldering number id) given none = omega (arith, supplied_left (foldered_by number id given), fewer_left n job.head.size (stages.Foldering number id) 0 given tt)
  other_left (stages.Moving number id) given none = omega (arith, supplied_left (moved_by number id given), fewer_left n job.head.size (stages.Moving number id) 0 given tt)
  other_left (stages.Removing number refusal) given none = omega arith

  pub stage_left : (stage : WriteStage) (given : DiskAnswer)
      → writes_left n (onward_ask (supplied job (next_write job.head.size (length (piece_of job.head.size job.bytes (written_in stage))) stage given))) < writes_left n (wants.Disk stage)
  stage_left (stages.Making number) given = other_left (stages.Making number) given refl
  stage_left (stages.Heading number) given = other_left (stages.Heading number) given refl
  stage_left (stages.Filling number written) given = filled_left number written given
  stage_left (stages.Foldering number id) given = other_left (stages.Foldering number id) given refl
  stage_left (stages.Moving number id) given = other_left (stages.Moving number id) given refl
  stage_left (stages.Removing number refusal) given = other_left (stages.Removing number refusal) given refl

pub fewer : (stage : CallStage) (ask : DiskAsk) (given : DiskAnswer) → IsStreamless stage → stage_ask stage ≡ Some ask → asks_left (next_stage stage given) < asks_left stage
fewer (calls.Asking want path limit) ask given streamless is = omega arith
fewer (calls.Searching search) ask given streamless is = absurd streamless
fewer (calls.Writing job) ask given streamless is = rw (advance_left job (next_in job given)) (stage_left job job.stage given)
fewer (calls.Done reply) ask given streamless is = absurd (cc is)

-- a call that reads no directory has fewer asks left after the answer to its ask
pub asks_fewer : (call after : LooseCall) (ask : DiskAsk) (given : DiskAnswer) → IsStreamless call.stage → Some ask ≡ disk_ask_of call → after ≡ fed call given
    → asks_left after.stage < asks_left call.stage
asks_fewer call after ask given streamless asked is = subst (λ c. asks_left c.stage < asks_left call.stage) (sym is) (fewer call.stage ask given streamless (sym asked))
