-- Where a write made no file, the disk is unchanged.
use Rattle.std.specs.Prelude.{◌≡◌, ℕ, false, List, [], ◌∷◌, All, Option, Some, None, refl}
use Rattle.std.proofs.Common.{inl, inr, ap, ◌∙◌}
use Rattle.std.proofs.lemmas.List.Elements.{All-head, All-tail}
use Rattle.odb_base.specs.Path.{Path}
use Rattle.odb_disk.specs.Ask.{state_told_after}
use Rattle.odb_disk.specs.Tree.{State}
use Rattle.odb_disk.specs.declared.ask.DiskAsk.{DiskAsk}
use Rattle.odb_disk.specs.declared.ask.DiskAnswer.{DiskAnswer}
use Rattle.odb_disk.specs.declared.ask.DiskAnswer.TheVariants as answers
use Rattle.gix_hash.specs.declared.object_id.ObjectId.{ObjectId}
use Rattle.gix_odb_loose.specs.Exchanges.{Exchange, left_by, is_done}
use Rattle.gix_odb_loose.specs.WriteOrder.{error_from}
use Rattle.gix_odb_loose.specs.WriteHistory.{IsRefusedRun}
use Rattle.gix_odb_loose.specs.declared.write.Error.TheVariants as errors
use Rattle.gix_odb_loose.specs.declared.write.Message.TheVariants as messages
use Rattle.gix_odb_loose.specs.declared.write_order.Refusal.{Refusal}
use Rattle.gix_odb_loose.specs.declared.write_order.Refusal.TheVariants as refusals
use Rattle.gix_odb_loose.specs.declared.write_order.WriteHead.{WriteHead}
use Rattle.gix_odb_loose.proofs.WriteShownLaws.{unmade_all}

-- calls that weren't done leave the disk unchanged
undone_left : (state : Option State) (xs : List Exchange) → All (λ (x : Exchange). is_done x.answer ≡ false) xs → left_by state xs ≡ state
unfolding left_by
undone_left state [] all = refl
undone_left state (x ∷ xs) all =
    ap (λ (s : Option State). left_by s xs) (same state x.ask x.answer (All-head (λ (y : Exchange). is_done y.answer ≡ false) x xs all)) ∙ undone_left state xs
    (All-tail (λ (y : Exchange). is_done y.answer ≡ false) x xs all)
  where
    same : (s : Option State) (ask : DiskAsk) (answer : DiskAnswer) → is_done answer ≡ false → state_told_after s ask answer ≡ s
    same None ask answer isnt_done = refl
    same (Some s) ask answers.Done isnt_done = absurd (cc isnt_done)
    same (Some s) ask (answers.Meta meta) isnt_done = refl
    same (Some s) ask (answers.Dir dir) isnt_done = refl
    same (Some s) ask (answers.Entry entry) isnt_done = refl
    same (Some s) ask answers.End isnt_done = refl
    same (Some s) ask (answers.File bytes time) isnt_done = refl
    same (Some s) ask (answers.Refused error) isnt_done = refl

module _ (head : WriteHead) (Named : ObjectId → Type 0) (SourceFailed : Type 0) (Counted : ℕ → Type 0) (state : Option State) where
  unmade_run : (past : List Exchange) → IsRefusedRun head Named SourceFailed Counted (refusals.Io messages.CreateTempFile) past → left_by state past ≡ state
  unmade_run past run =
      elim run [
        | inl none ↦ undone_left state past (unmade_all head Named (λ (x : Exchange). is_done x.answer ≡ false) (λ n below answer isnt_done. isnt_done) (refusals.Io messages.CreateTempFile) past none)
        | inr one ↦ absurd one.2
      ]

  -- if no temporary file could be made, the disk is unchanged
  pub unmade_left : (refusal : Refusal) (path : Path) (past : List Exchange) → error_from head refusal ≡ errors.Io messages.CreateTempFile path
      → IsRefusedRun head Named SourceFailed Counted refusal past → left_by state past ≡ state
  unmade_left (refusals.Io messages.CreateTempFile) path past e run = unmade_run past run
  unmade_left (refusals.Io messages.WriteHeader) path past e run = absurd (cc e)
  unmade_left (refusals.Io messages.StreamData) path past e run = absurd (cc e)
  unmade_left refusals.IoRaw path past e run = absurd (cc e)
  unmade_left (refusals.Persist id) path past e run = absurd (cc e)
  unmade_left (refusals.SizeMismatch actual) path past e run = absurd (cc e)
  unmade_left refusals.NoMemory path past e run = absurd (cc e)
