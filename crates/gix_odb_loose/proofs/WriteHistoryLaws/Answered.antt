-- One exchange more: a name that was tried, a piece that was appended, an answer that refuses.
use Rattle.std.specs.Prelude.{◌≡◌, ℕ, ◌+◌, List, [], ◌∷◌, ◌++◌, refl}
use Rattle.std.proofs.Common.{sym, ap, ◌∙◌, subst, add-one, append_assoc}
use Rattle.std.proofs.lemmas.List.{map-append}
use Rattle.odb_disk.specs.declared.ask.DiskAsk.{DiskAsk}
use Rattle.odb_disk.specs.declared.ask.DiskAsk.TheVariants as asks
use Rattle.odb_disk.specs.declared.ask.DiskAnswer.{DiskAnswer}
use Rattle.odb_disk.specs.declared.ask.DiskAnswer.TheVariants as answers
use Rattle.odb_disk.specs.declared.disk_error.DiskError.TheVariants as disk_errors
use Rattle.gix_hash.specs.declared.object_id.ObjectId.{ObjectId}
use Rattle.gix_odb_loose.specs.Exchanges.{Exchange, exchanged}
use Rattle.gix_odb_loose.specs.WriteOrder.{temp_path, write_ask, refused_by}
use Rattle.gix_odb_loose.specs.WriteHistory.WentWell.{tried, headed, filled}
use Rattle.gix_odb_loose.specs.WriteHistory.Refused.{IsRefused, IsRefusedByExists}
use Rattle.gix_odb_loose.specs.WriteHistory.{GoesWell, IsAnswered, Wants}
use Rattle.gix_odb_loose.specs.declared.write_order.Refusal.{Refusal}
use Rattle.gix_odb_loose.specs.declared.write_order.Refusal.TheVariants as refusals
use Rattle.gix_odb_loose.specs.declared.write_order.WriteHead.{WriteHead}
use Rattle.gix_odb_loose.specs.declared.write_order.WriteStage.{WriteStage}

pub tried-next : (head : WriteHead) (number : ℕ) → tried head (number + 1) ≡ tried head number ++ exchanged (asks.NewFile (temp_path head.objects number)) (answers.Refused disk_errors.Exists) ∷ []
unfolding tried
tried-next head number = rw add-one refl

pub filled-next : (head : WriteHead) (number : ℕ) (pieces : List (List ℕ)) (piece : List ℕ)
    → filled head number pieces ++ exchanged (asks.Append (temp_path head.objects number) piece) answers.Done ∷ [] ≡ filled head number (pieces ++ piece ∷ [])
filled-next head number pieces piece =
    append_assoc (headed head number) _ _
    ∙ ap (λ (xs : List Exchange). headed head number ++ xs) (sym (map-append (λ (p : List ℕ). exchanged (asks.Append (temp_path head.objects number) p) answers.Done) pieces (piece ∷ [])))

module _ (head : WriteHead) (Named : ObjectId → Type 0) where
  -- the answer to the ask of a stage, and the write after it: it is refused because memory ran out, or for its own cause
  module _ (stage : WriteStage) (appended piece : List ℕ) (past : List Exchange) (well : GoesWell head Named appended stage past) where
    abbrev ask : DiskAsk
    ask = write_ask head piece stage

    abbrev after : DiskAnswer → List Exchange
    after answer = past ++ exchanged ask answer ∷ []

    answered : (So : DiskAsk → DiskAnswer → Type 0) (answer : DiskAnswer) → So ask answer → IsAnswered head Named So stage (after answer)
    answered So answer so = record { appended = appended; before = past; well = well; piece = piece; answer = answer; so = so; is = refl }

    module _ (Ends : Refusal → List Exchange → Type 0) (refusal : Refusal) (row : (xs : List Exchange) → IsAnswered head Named IsRefused stage xs → Ends refusal xs)
        (want : (xs : List Exchange) → IsAnswered head Named Wants stage xs → Ends refusals.NoMemory xs) where
      pub refused_as : (answer : DiskAnswer) → IsRefused ask answer → refused_by refusal answer ≡ refusal → Ends (refused_by refusal answer) (after answer)
      refused_as answer is same = subst (λ (r : Refusal). Ends r (after answer)) (sym same) (row (after answer) (answered IsRefused answer is))

      pub wanted : Ends refusals.NoMemory (after (answers.Refused disk_errors.NoMemory))
      wanted = want (after (answers.Refused disk_errors.NoMemory)) (answered Wants (answers.Refused disk_errors.NoMemory) refl)

      -- any answer but Done, where Exists refuses it too
      pub refused_any : IsRefusedByExists ask → (answer : DiskAnswer) → (answer ≡ answers.Done → ⊥) → Ends (refused_by refusal answer) (after answer)
      refused_any exists answers.Done undone = absurd (undone refl)
      refused_any exists (answers.Meta meta) undone = refused_as (answers.Meta meta) tt refl
      refused_any exists (answers.Dir dir) undone = refused_as (answers.Dir dir) tt refl
      refused_any exists (answers.Entry entry) undone = refused_as (answers.Entry entry) tt refl
      refused_any exists answers.End undone = refused_as answers.End tt refl
      refused_any exists (answers.File bytes time) undone = refused_as (answers.File bytes time) tt refl
      refused_any exists (answers.Refused disk_errors.Exists) undone = refused_as (answers.Refused disk_errors.Exists) exists refl
      refused_any exists (answers.Refused disk_errors.Absent) undone = refused_as (answers.Refused disk_errors.Absent) tt refl
      refused_any exists (answers.Refused disk_errors.WrongKind) undone = refused_as (answers.Refused disk_errors.WrongKind) tt refl
      refused_any exists (answers.Refused disk_errors.LinkLoop) undone = refused_as (answers.Refused disk_errors.LinkLoop) tt refl
      refused_any exists (answers.Refused disk_errors.NotEmpty) undone = refused_as (answers.Refused disk_errors.NotEmpty) tt refl
      refused_any exists (answers.Refused disk_errors.Failed) undone = refused_as (answers.Refused disk_errors.Failed) tt refl
      refused_any exists (answers.Refused disk_errors.NoMemory) undone = wanted
