-- The asks of a write from a source are those of a write with the same data in memory.
use Rattle.std.specs.Prelude.{◌≡◌, ◌⊎◌, ℕ, ◌<◌, ◌≤◌, ◌==◌, Bool, true, false, nat_le, List, [], ◌∷◌, ◌++◌, length, take, drop, Option, Some, None, Result, Err, if◌then◌else◌, refl}
use Rattle.std.proofs.Common.{inl, inr, sym, ap, ◌∙◌, subst, arith, append-nil, append_assoc}
use Rattle.std.proofs.Math.Seq.{drop-append_seam}
use Rattle.std.proofs.lemmas.Grind.{common_steps}
use Rattle.std.proofs.lemmas.List.{take_all, take_at}
use Rattle.odb_disk.specs.declared.ask.DiskAnswer.{DiskAnswer}
use Rattle.odb_disk.specs.declared.ask.DiskAsk.{DiskAsk}
use Rattle.odb_disk.specs.declared.ask.DiskAsk.TheVariants as asks
use Rattle.gix_hash.specs.declared.object_id.ObjectId.{ObjectId}
use Rattle.gix_odb_loose.specs.Exchanges.{Exchange, exchanged}
use Rattle.gix_odb_loose.specs.StreamJobs.Progress.{Begun}
use Rattle.gix_odb_loose.specs.StreamJobs.SameAsks.{at_hand, CutsAt, FailsAt, FollowsAt, FollowsToEnd}
use Rattle.gix_odb_loose.specs.WriteAsks.{IsAlong, IsCutOff, RunsAlong}
use Rattle.gix_odb_loose.specs.WriteHistory.{IsRemovedAfter}
use Rattle.gix_odb_loose.specs.WriteJobs.{piece_at, ask_in, next_in, supplied, supplied_with}
use Rattle.gix_odb_loose.specs.WriteNames.{name_for}
use Rattle.gix_odb_loose.specs.WriteOrder.{temp_path, write_ask, next_write, ended_with, number_made, wrote_by}
use Rattle.gix_odb_loose.specs.WriteStreams.{Draws, IsAtEnd}
use Rattle.gix_odb_loose.specs.declared.write.Error.{Error}
use Rattle.gix_odb_loose.specs.declared.write.Error.TheVariants as errors
use Rattle.gix_odb_loose.specs.declared.write_at_hand.Onward.{Onward}
use Rattle.gix_odb_loose.specs.declared.write_at_hand.Onward.TheVariants.{Stage}
use Rattle.gix_odb_loose.specs.declared.write_order.WriteAsk.{WriteAsk}
use Rattle.gix_odb_loose.specs.declared.write_order.WriteAsk.TheVariants as wants
use Rattle.gix_odb_loose.specs.declared.write_order.Refusal.{Refusal}
use Rattle.gix_odb_loose.specs.declared.write_order.Refusal.TheVariants as refusals
use Rattle.gix_odb_loose.specs.declared.write_order.WriteStage.{WriteStage}
use Rattle.gix_odb_loose.specs.declared.write_order.WriteStage.TheVariants as stages
use Rattle.gix_odb_loose.specs.declared.write_at_hand.WriteJob.{WriteJob}
use Rattle.gix_odb_loose.proofs.AskLaws.{IsAlong-next}

-- ---- the piece

-- a piece that fills the room, or is the last, is the next of the data
taken_piece : (room : ℕ) (ended : Bool) (piece left : List ℕ) → length piece ≤ room → (ended ≡ true → left ≡ []) → (ended ≡ false → length piece ≡ room) → piece ≡ take room (piece ++ left)
taken_piece room true piece left few at_end full =
    sym (take_all room piece few) ∙ ap (take room) (sym (append-nil piece)) ∙ ap (λ (xs : List ℕ). take room (piece ++ xs)) (sym (at_end refl))
taken_piece room false piece left few at_end full = sym (take_at piece left room (full refl))

pub piece_next : (bytes appended piece all : List ℕ) (rest : Option (List ℕ)) (room written : ℕ) (ended : Bool) → Draws (Some bytes) rest all → all ≡ appended ++ piece → written ≡ length appended
    → length piece ≤ room → (ended ≡ true → IsAtEnd rest)
    → (ended ≡ false → length piece ≡ room) → piece ≡ take room (drop written bytes)
piece_next bytes appended piece all None room written ended drawn is so_far few at_end full = absurd drawn
piece_next bytes appended piece all (Some left) room written ended drawn is so_far few at_end full = taken_piece room ended piece left few at_end full ∙ ap (take room) (sym behind)
  where
    whole : bytes ≡ appended ++ (piece ++ left)
    whole = sym drawn ∙ ap (λ (xs : List ℕ). xs ++ left) is ∙ append_assoc appended piece left

    behind : drop written bytes ≡ piece ++ left
    behind = ap (λ (n : ℕ). drop n bytes) so_far ∙ ap (drop (length appended)) whole ∙ drop-append_seam appended (piece ++ left)

module _ (w : Begun) (bytes : List ℕ) where
  abbrev job : WriteJob
  job = at_hand w bytes

  -- ---- one ask and its answer

  -- a piece that is to be appended is the next of the data
  abbrev pub IsNextOf : WriteStage → List ℕ → Type 0
  IsNextOf (stages.Filling number written) piece = piece ≡ piece_at w.head.size bytes written
  IsNextOf stage piece = Unit {0}

  ask_is : (stage : WriteStage) (piece : List ℕ) → IsNextOf stage piece → ask_in (record job { stage = stage }) ≡ write_ask w.head piece stage
  ask_is (stages.Making number) piece next = refl
  ask_is (stages.Heading number) piece next = refl
  ask_is (stages.Filling number written) piece next = ap (λ (p : List ℕ). write_ask w.head p (stages.Filling number written)) (sym next)
  ask_is (stages.Foldering number id) piece next = refl
  ask_is (stages.Moving number id) piece next = refl
  ask_is (stages.Removing number refusal) piece next = refl

  onward_is : (stage : WriteStage) (piece : List ℕ) (answer : DiskAnswer) → IsNextOf stage piece
      → next_in (record job { stage = stage }) answer ≡ supplied job (next_write w.head.size (length piece) stage answer)
  onward_is (stages.Making number) piece answer next = refl
  onward_is (stages.Heading number) piece answer next = refl
  onward_is (stages.Filling number written) piece answer next = ap (λ (p : List ℕ). supplied job (next_write w.head.size (length p) (stages.Filling number written) answer)) (sym next)
  onward_is (stages.Foldering number id) piece answer next = refl
  onward_is (stages.Moving number id) piece answer next = refl
  onward_is (stages.Removing number refusal) piece answer next = refl

  module _ (Stopped : Type 0) where
    abbrev pub FollowsTo : WriteAsk → List Exchange → Type 0
    FollowsTo (wants.Disk stage) past = IsAlong job (Stage stage) past
    FollowsTo (wants.Data number written) past = IsAlong job (Stage (supplied_with job number written)) past
    FollowsTo (wants.Done end) past = FollowsToEnd job Stopped end past

    by_wanted : (wanted : WriteAsk) (past : List Exchange) → IsAlong job (supplied job wanted) past → FollowsTo wanted past
    by_wanted (wants.Disk stage) past along = along
    by_wanted (wants.Data number written) past along = along
    by_wanted (wants.Done end) past along = inl along

    follows_on : (stage : WriteStage) (piece : List ℕ) (past : List Exchange) (answer : DiskAnswer) → IsNextOf stage piece → IsAlong job (Stage stage) past
        → FollowsTo (next_write w.head.size (length piece) stage answer) (past ++ exchanged (write_ask w.head piece stage) answer ∷ [])
    follows_on stage piece past answer next along =
        by_wanted (next_write w.head.size (length piece) stage answer) (past ++ exchanged (write_ask w.head piece stage) answer ∷ [])
        (subst (λ (o : Onward). IsAlong job o (past ++ exchanged (write_ask w.head piece stage) answer ∷ [])) (onward_is stage piece answer next)
        (subst (λ (a : DiskAsk). IsAlong job (next_in (record job { stage = stage }) answer) (past ++ exchanged a answer ∷ [])) (ask_is stage piece next) (IsAlong-next job stage past answer along)))

    removed_last : (stage : WriteStage) (piece : List ℕ) (past : List Exchange) (answer : DiskAnswer) → FailsAt job Stopped stage past
        → FollowsTo (next_write w.head.size (length piece) stage answer) (past ++ exchanged (write_ask w.head piece stage) answer ∷ [])
    removed_last stage piece past answer fails =
        subst (λ (s : WriteStage). FollowsTo (next_write w.head.size (length piece) s answer) (past ++ exchanged (write_ask w.head piece s) answer ∷ [])) (sym fails.is)
        (inr (
          fails.failed,
          refl,
          record {
            stage = fails.cuts.reached;
            before = past;
            along = fails.cuts.along;
            removed =
                subst (λ (n : Option ℕ). IsRemovedAfter w.head n past (past ++ exchanged (asks.Remove (temp_path w.head.objects fails.number)) answer ∷ []))
                (sym (fails.cuts.made ∙ ap number_made fails.is)) (answer, refl);
          },
        ))

    pub follows_next : (stage : WriteStage) (piece : List ℕ) (past : List Exchange) (answer : DiskAnswer) → IsNextOf stage piece → FollowsAt job Stopped stage past
        → FollowsTo (next_write w.head.size (length piece) stage answer) (past ++ exchanged (write_ask w.head piece stage) answer ∷ [])
    follows_next stage piece past answer next follows = elim follows [ inl along ↦ follows_on stage piece past answer next along | inr fails ↦ removed_last stage piece past answer fails ]

    -- ---- where it is broken off

    pub cuts_at : (stage : WriteStage) (past : List Exchange) → FollowsAt job Stopped stage past → CutsAt job stage past
    cuts_at stage past follows = elim follows [ inl along ↦ record { reached = stage; made = refl; along = along } | inr fails ↦ fails.cuts ]

    -- the end of a write
    pub runs_end : (end : Result ObjectId Refusal) (past : List Exchange) (result : Result ObjectId Error) → (result ≡ wrote_by w.head end) ⊎ (result ≡ Err errors.NoMemory)
        → FollowsToEnd job Stopped end past → RunsAlong job Stopped past result
    runs_end end past result is follows =
        elim follows [
          | inl along ↦ inl (end, along, is)
          | inr fails ↦ inr (fails.2, elim is [ inl ended ↦ inl (fails.0, ended ∙ ap (wrote_by w.head) fails.1) | inr none ↦ inr none ])
        ]

  made_ended : (number written : ℕ) (at_end same : Bool) (id : ObjectId)
      → number_made (if at_end then (if same then stages.Foldering number id else stages.Removing number (refusals.SizeMismatch written)) else stages.Filling number written) ≡ Some number
  made_ended number written true true id = refl
  made_ended number written true false id = refl
  made_ended number written false same id = refl

  made_supplied : (number written : ℕ) → number_made (supplied_with job number written) ≡ Some number
  made_supplied number written = made_ended number written (nat_le (length bytes) written) (written == w.head.size) (name_for w.known w.hash w.head bytes)

  pub cuts_fed : (number written : ℕ) (past : List Exchange) → IsAlong job (Stage (supplied_with job number written)) past → CutsAt job (stages.Filling number written) past
  cuts_fed number written past along = record { reached = supplied_with job number written; made = made_supplied number written; along = along }

  pub cut_off : (stage : WriteStage) (before past : List Exchange) → CutsAt job stage before → IsRemovedAfter w.head (number_made stage) before past → IsCutOff job past
  cut_off stage before past cuts removed =
      record { stage = cuts.reached; before = before; along = cuts.along; removed = subst (λ (n : Option ℕ). IsRemovedAfter w.head n before past) (sym cuts.made) removed }

  -- ---- where data are asked for

  module _ (number written : ℕ) (past : List Exchange) where
    abbrev Supplied : Bool → Type 0
    Supplied at_end = IsAlong job (Stage (if at_end then ended_with w.head.size (name_for w.known w.hash w.head bytes) number written else stages.Filling number written)) past

    waits : (at_end : Bool) → nat_le (length bytes) written ≡ at_end → written < length bytes → Supplied at_end → IsAlong job (Stage (stages.Filling number written)) past
    waits true e less along = absurd (grind (arith, common_steps, e, less))
    waits false e less along = along

    -- some are left
    pub follows_piece : written < length bytes → IsAlong job (Stage (supplied_with job number written)) past → IsAlong job (Stage (stages.Filling number written)) past
    follows_piece less along = waits (nat_le (length bytes) written) refl less along

    ends : (all : List ℕ) (at_end : Bool) → nat_le (length bytes) written ≡ at_end → bytes ≡ all → written ≡ length all → Supplied at_end
        → IsAlong job (Stage (ended_with w.head.size (name_for w.known w.hash w.head all) number written)) past
    ends all true e whole so_far along = subst (λ (xs : List ℕ). IsAlong job (Stage (ended_with w.head.size (name_for w.known w.hash w.head xs) number written)) past) whole along
    ends all false e whole so_far along = absurd (let long = ap length whole in grind (arith, common_steps, e, long, so_far))

    -- none are left
    pub follows_end : (all : List ℕ) → bytes ≡ all → written ≡ length all → IsAlong job (Stage (supplied_with job number written)) past
        → IsAlong job (Stage (ended_with w.head.size (name_for w.known w.hash w.head all) number written)) past
    follows_end all whole so_far along = ends all (nat_le (length bytes) written) refl whole so_far along
