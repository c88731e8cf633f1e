-- Each run of a write with its data in memory is a history, for callers: what it has done, and how many calls that took.
pub mod Data
mod Lengths
use Rattle.std.specs.Prelude.{◌≡◌, ℕ, ◌+◌, ◌<◌, ◌≤◌, ◌==◌, Bool, true, false, nat_le, List, [], ◌∷◌, ◌++◌, length, take, Option, Ok, Err, Result, if◌then◌else◌, refl}
use Rattle.std.proofs.Common.{inl, sym, ap, ◌∙◌, subst, arith, append-nil, append_assoc}
use Rattle.std.proofs.lemmas.Grind.{common_steps}
use Rattle.std.proofs.lemmas.List.{length-append, take_all}
use Rattle.odb_disk.specs.declared.ask.DiskAnswer.{DiskAnswer}
use Rattle.odb_disk.specs.declared.ask.DiskAsk.{DiskAsk}
use Rattle.odb_disk.specs.declared.ask.DiskAsk.TheVariants as asks
use Rattle.gix_hash.specs.declared.kind.Kind.{Kind as HashKind}
use Rattle.gix_hash.specs.declared.object_id.ObjectId.{ObjectId}
use Rattle.gix_odb_loose.specs.Exchanges.{Exchange, exchanged}
use Rattle.gix_odb_loose.specs.WriteAsks.{write_of, onward_along, asks_along, asks_in, answers_in, IsAlong}
use Rattle.gix_odb_loose.specs.WriteDone.{GetsNameOf, CountsOf, data_at, HasDone, HasDoneTo, HasAsked}
use Rattle.gix_odb_loose.specs.WriteHistory.WentWell.{tried, IsFoldered}
use Rattle.gix_odb_loose.specs.WriteHistory.{IsHistory, IsHistoryOnward, IsHistoryOfEnd, data_after}
use Rattle.gix_odb_loose.specs.WriteJobs.{ask_in, name_of, next_in, onward_ask, piece_of, pieces_of, supplied, supplied_with, writes_left}
use Rattle.gix_odb_loose.specs.WriteOrder.{ended_with, next_write, prefix_path, write_ask, written_in}
use Rattle.gix_odb_loose.specs.declared.write_at_hand.Onward.{Onward}
use Rattle.gix_odb_loose.specs.declared.write_at_hand.Onward.TheVariants.{Stage, End}
use Rattle.gix_odb_loose.specs.declared.write_at_hand.WriteJob.{WriteJob}
use Rattle.gix_odb_loose.specs.declared.write_order.Refusal.{Refusal}
use Rattle.gix_odb_loose.specs.declared.write_order.Refusal.TheVariants as refusals
use Rattle.gix_odb_loose.specs.declared.write_order.WriteAsk.{WriteAsk}
use Rattle.gix_odb_loose.specs.declared.write_order.WriteAsk.TheVariants as wants
use Rattle.gix_odb_loose.specs.declared.write_order.WriteHead.{WriteHead}
use Rattle.gix_odb_loose.specs.declared.write_order.WriteStage.{WriteStage}
use Rattle.gix_odb_loose.specs.declared.write_order.WriteStage.TheVariants as stages
use Rattle.gix_odb_loose.proofs.AskLaws.{nothing_behind}
use Rattle.gix_odb_loose.proofs.AsksLeftLemmas.{stage_left}
use Rattle.gix_odb_loose.proofs.WriteHistoryLaws.{IsHistory-next, IsHistory-ended}
use Rattle.gix_odb_loose.proofs.WriteDoneLaws.Data.{Fed, FedTo, counts, fed_next, next_piece}
use Rattle.gix_odb_loose.proofs.WriteDoneLaws.Lengths.{tried_length, made_length, filled_asked}

module _ (job : WriteJob) where
  abbrev Past : List ℕ → WriteStage → List Exchange → Type 0
  Past appended stage past = IsHistory job.head (GetsNameOf job) ⊥ (CountsOf job) appended stage past

  abbrev PastTo : List ℕ → WriteAsk → List Exchange → Type 0
  PastTo appended wanted past = IsHistoryOnward job.head (GetsNameOf job) ⊥ (CountsOf job) appended wanted past

  -- ---- the next piece, or the end of the data

  ended : (number written : ℕ) (past : List Exchange) (same : Bool)
      → Past job.bytes (if same then stages.Foldering number (name_of job) else stages.Removing number (refusals.SizeMismatch written)) past
      → HasDone job (if same then stages.Foldering number (name_of job) else stages.Removing number (refusals.SizeMismatch written)) past
  ended number written past true history = record { history = history; next = tt }
  ended number written past false history = record { history = history; next = tt }

  module _ (number written : ℕ) (appended : List ℕ) (past : List Exchange) (fed : Fed job appended number written) (history : Past appended (stages.Filling number written) past) where
    by_end : (ends : Bool) → nat_le (length job.bytes) written ≡ ends → HasDone job (if ends then ended_with job.head.size (name_of job) number written else stages.Filling number written) past
    by_end true e =
        let short : length job.bytes ≤ written = grind (arith, common_steps, e) in
        let all : written ≡ length job.bytes = omega (arith, short, fed.2) in
        let whole : appended ≡ job.bytes = fed.0 ∙ take_all written job.bytes short in
        ended number written past (written == job.head.size)
        (IsHistory-ended job.head (GetsNameOf job) ⊥ (CountsOf job) number written (name_of job) job.bytes past refl
        (λ other. (omega (arith, fed.1, other), inl (omega (arith, fed.1, other, all), all)))
        (subst (λ (xs : List ℕ). Past xs (stages.Filling number written) past) whole history))
    by_end false e =
        let more : written < length job.bytes = grind (arith, common_steps, e) in
        record { history = subst (λ (xs : List ℕ). Past xs (stages.Filling number written) past) fed.0 history; next = (fed.1, more, fed.3 more) }

    settled : HasDone job (supplied_with job number written) past
    settled = by_end (nat_le (length job.bytes) written) refl

  -- what is asked for is passed at once
  settled_at : (appended : List ℕ) (stage : WriteStage) (past : List Exchange) → FedTo job appended (wants.Disk stage) → Past appended stage past → HasDone job stage past
  settled_at appended (stages.Making number) past fed history = record { history = (history.0, refl, history.2); next = tt }
  settled_at appended (stages.Heading number) past fed history = record { history = (refl, history.1, history.2); next = tt }
  settled_at appended (stages.Filling number written) past fed history = absurd fed
  settled_at appended (stages.Foldering number id) past fed history = record { history = subst (λ (xs : List ℕ). Past xs (stages.Foldering number id) past) fed history; next = tt }
  settled_at appended (stages.Moving number id) past fed history = record { history = subst (λ (xs : List ℕ). Past xs (stages.Moving number id) past) fed history; next = tt }
  settled_at appended (stages.Removing number refusal) past fed history = record { history = history; next = tt }

  settled_to : (appended : List ℕ) (wanted : WriteAsk) (past : List Exchange) → FedTo job appended wanted → PastTo appended wanted past → HasDoneTo job (supplied job wanted) past
  settled_to appended (wants.Disk stage) past fed history = settled_at appended stage past fed history
  settled_to appended (wants.Data number written) past fed history = settled number written appended past fed history
  settled_to appended (wants.Done (Ok id)) past fed history = subst (λ (xs : List ℕ). IsHistoryOfEnd job.head (GetsNameOf job) ⊥ (CountsOf job) xs (Ok id) past) fed history
  settled_to appended (wants.Done (Err refusal)) past fed history = history

  -- ---- one exchange more

  abbrev piece : WriteStage → List ℕ
  piece stage = piece_of job.head.size job.bytes (written_in stage)

  -- the answer to its next call carries it on
  pub HasDone-next : (stage : WriteStage) (past : List Exchange) (answer : DiskAnswer) → HasDone job stage past
      → HasDoneTo job (next_in (record job { stage = stage }) answer) (past ++ exchanged (ask_in (record job { stage = stage })) answer ∷ [])
  HasDone-next stage past answer done =
      settled_to (data_after stage (piece stage) answer (data_at job.bytes stage)) (next_write job.head.size (length (piece stage)) stage answer)
      (past ++ exchanged (write_ask job.head (piece stage) stage) answer ∷ [])
      (fed_next job stage answer done.next)
      (IsHistory-next job.head (GetsNameOf job) ⊥ (CountsOf job) stage (data_at job.bytes stage) (piece stage) past answer (counts job stage done.next) (next_piece job stage done.next) done.history)

  -- ---- all exchanges

  abbrev Asked : Onward → List Exchange → Type 0
  Asked onward past = asks_in past ≡ asks_along job onward (answers_in past)

  none_asked : (end : Result ObjectId Refusal) (x : Exchange) (past : List Exchange) → Asked (End end) (x ∷ past) → ⊥
  none_asked end x past asked = let none : x.ask ∷ asks_in past ≡ [] = asked ∙ nothing_behind job end (answers_in (x ∷ past)) in cc none

  done_along : (onward : Onward) (before past : List Exchange) → HasDoneTo job onward before → Asked onward past → HasDoneTo job (onward_along job onward (answers_in past)) (before ++ past)
  unfolding onward_along asks_along
  done_along onward before [] done asked = subst (λ (xs : List Exchange). HasDoneTo job onward xs) (sym (append-nil before)) done
  done_along (Stage stage) before (x ∷ past) done asked =
      let first : x.ask ≡ ask_in (record job { stage = stage }) = cc asked in
      let behind : asks_in past ≡ asks_along job (next_in (record job { stage = stage }) x.answer) (answers_in past) = cc asked in
      let next : HasDoneTo job (next_in (record job { stage = stage }) x.answer) (before ++ x ∷ []) =
      subst (λ (a : DiskAsk). HasDoneTo job (next_in (record job { stage = stage }) x.answer) (before ++ exchanged a x.answer ∷ [])) (sym first) (HasDone-next stage before x.answer done) in
      subst (λ (xs : List Exchange). HasDoneTo job (onward_along job (next_in (record job { stage = stage }) x.answer) (answers_in past)) xs) (append_assoc before (x ∷ []) past)
      (done_along (next_in (record job { stage = stage }) x.answer) (before ++ x ∷ []) past next behind)
  done_along (End end) before (x ∷ past) done asked = absurd (none_asked end x past asked)

  left_along : (onward : Onward) (past : List Exchange) → Asked onward past
      → length past + writes_left (length job.bytes) (onward_ask (onward_along job onward (answers_in past))) ≤ writes_left (length job.bytes) (onward_ask onward)
  unfolding onward_along asks_along
  left_along onward [] asked = omega arith
  left_along (Stage stage) (x ∷ past) asked =
      let behind : asks_in past ≡ asks_along job (next_in (record job { stage = stage }) x.answer) (answers_in past) = cc asked in
      let less : writes_left (length job.bytes) (onward_ask (next_in (record job { stage = stage }) x.answer)) < writes_left (length job.bytes) (wants.Disk stage) = stage_left job stage x.answer in
      let more = left_along (next_in (record job { stage = stage }) x.answer) past behind in
      omega (arith, less, more)
  left_along (End end) (x ∷ past) asked = absurd (none_asked end x past asked)

module _ (head : WriteHead) (hash : HashKind) (known : Option ObjectId) (bytes : List ℕ) where
  abbrev job : WriteJob
  job = write_of head hash known bytes

  nothing_done : HasDone job (stages.Making 0) []
  unfolding tried
  nothing_done = record { history = (omega arith, refl, refl); next = tt }

  -- Exchanges that lead a write to a stage, or to its end, are its history.
  pub IsAlong-done : (onward : Onward) (past : List Exchange) → IsAlong job onward past → HasDoneTo job onward past
  IsAlong-done onward past along = subst (λ (o : Onward). HasDoneTo job o past) (sym along.reached) (done_along job (Stage (stages.Making 0)) [] past nothing_done along.asked)

  -- They are at most as many as the measure of its calls has gone down by.
  pub IsAlong-left : (onward : Onward) (past : List Exchange) → IsAlong job onward past
      → length past + writes_left (length bytes) (onward_ask onward) ≤ writes_left (length bytes) (wants.Disk (stages.Making 0))
  IsAlong-left onward past along =
      subst (λ (o : Onward). length past + writes_left (length bytes) (onward_ask o) ≤ writes_left (length bytes) (wants.Disk (stages.Making 0))) (sym along.reached)
      (left_along job (Stage (stages.Making 0)) past along.asked)

-- How many they are.
pub HasDone-asked : (job : WriteJob) (stage : WriteStage) (past : List Exchange) → HasDone job stage past → HasAsked (length job.bytes) (length past) stage
HasDone-asked job (stages.Making number) past done = ap length done.history.2 ∙ tried_length job.head number
HasDone-asked job (stages.Heading number) past done = ap length done.history.1 ∙ made_length job.head number
HasDone-asked job (stages.Filling number written) past done = filled_asked job.head number (take written job.bytes) past done.history.1 ∙ ap (λ (n : ℕ). number + 2 + pieces_of n) (sym done.history.0)
HasDone-asked job (stages.Foldering number id) past done = filled_asked job.head number job.bytes past done.history.2
HasDone-asked job (stages.Moving number id) past done = moved_asked done.history.2
  where
    moved_asked : (f : IsFoldered job.head number id job.bytes past) → length past ≡ number + 3 + pieces_of (length job.bytes)
    moved_asked f =
        let filled = filled_asked job.head number job.bytes f.before f.filled in
        let long = ap length f.is ∙ length-append f.before (exchanged (asks.MakeDir (prefix_path job.head.objects id)) f.answer ∷ []) in
        omega (arith, filled, long)
HasDone-asked job (stages.Removing number refusal) past done = tt
