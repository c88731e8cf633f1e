-- Each call of a write is one of its own.
use Rattle.std.specs.Prelude.{◌≡◌, ℕ, List, [], All, Some, refl}
use Rattle.std.proofs.Common.{inl, inr, sym, ◌∙◌, subst, arith}
use Rattle.gix_hash.specs.declared.object_id.ObjectId.{ObjectId}
use Rattle.gix_odb_loose.specs.Exchanges.{Exchange}
use Rattle.gix_odb_loose.specs.WriteOrder.{number_made}
use Rattle.gix_odb_loose.specs.WriteHistory.WentWell.{IsMoved}
use Rattle.gix_odb_loose.specs.WriteHistory.{IsRemovedAfter, IsRefusedRun, IsBrokenRun, IsHistory}
use Rattle.gix_odb_loose.specs.WriteOwn.{IsOwn, AreOwn}
use Rattle.gix_odb_loose.specs.declared.write_order.Refusal.{Refusal}
use Rattle.gix_odb_loose.specs.declared.write_order.WriteHead.{WriteHead}
use Rattle.gix_odb_loose.specs.declared.write_order.WriteStage.{WriteStage}
use Rattle.gix_odb_loose.specs.declared.write_order.WriteStage.TheVariants as stages
use Rattle.gix_odb_loose.proofs.WriteShownLaws.{tried_all, unmade_all, history_all, moved_all, removed_all}

module _ (head : WriteHead) (Named : ObjectId → Type 0) where
  module _ (SourceFailed : Type 0) (Counted : ℕ → Type 0) where
    abbrev Own : ℕ → Exchange → Type 0
    Own number x = IsOwn head Named number x.ask

    history_own : (stage : WriteStage) (number : ℕ) (appended : List ℕ) (past : List Exchange) → number_made stage ≡ Some number → IsHistory head Named SourceFailed Counted appended stage past
        → All (Own number) past
    history_own stage number appended past e h =
        history_all head Named (Own number) (λ n below answer isnt_done. (n, below, refl)) number (λ below. (number, below, refl)) (λ bytes answer. refl) (λ id named answer. (id, named, refl))
        (λ id named answer isnt_done. (refl, (id, named, refl))) SourceFailed Counted stage appended past e h

    pub refused_own : (refusal : Refusal) (past : List Exchange) → IsRefusedRun head Named SourceFailed Counted refusal past → AreOwn head Named past
    refused_own refusal past run =
        elim run [
          | inl none ↦ record { number = 0; each = unmade_all head Named (Own 0) (λ n below answer isnt_done. (n, below, refl)) refusal past none }
          | inr one ↦ record {
            number = one.0;
            each = removed_all head Named SourceFailed Counted (Own one.0) one.1 past one.0 (λ answer. refl)
                (history_own (stages.Removing one.0 refusal) one.0 [] one.1 refl one.2) one.3;
          }
        ]

    pub broken_own : (past : List Exchange) → IsBrokenRun head Named SourceFailed Counted past → AreOwn head Named past
    broken_own past run = by_stage run.stage run.history run.removed
      where
        by_number : (stage : WriteStage) (number : ℕ) → number_made stage ≡ Some number → IsHistory head Named SourceFailed Counted run.appended stage run.before
            → IsRemovedAfter head (Some number) run.before past → AreOwn head Named past
        by_number stage number e h removed =
            record {
              number = number;
              each = removed_all head Named SourceFailed Counted (Own number) run.before past number (λ answer. refl)
                  (history_own stage number run.appended run.before e h) removed;
            }

        by_stage : (stage : WriteStage) → IsHistory head Named SourceFailed Counted run.appended stage run.before → IsRemovedAfter head (number_made stage) run.before past → AreOwn head Named past
        by_stage (stages.Making number) h removed =
            record { number = 0; each = subst (All (Own 0)) (sym (removed ∙ h.2)) (tried_all head Named (Own 0) (λ n below answer isnt_done. (n, below, refl)) number (omega (arith, h.0))) }
        by_stage (stages.Heading number) h removed = by_number (stages.Heading number) number refl h removed
        by_stage (stages.Filling number written) h removed = by_number (stages.Filling number written) number refl h removed
        by_stage (stages.Foldering number id) h removed = by_number (stages.Foldering number id) number refl h removed
        by_stage (stages.Moving number id) h removed = by_number (stages.Moving number id) number refl h removed
        by_stage (stages.Removing number refusal) h removed = by_number (stages.Removing number refusal) number refl h removed

  pub moved_own : (number : ℕ) (id : ObjectId) (appended : List ℕ) (past : List Exchange) → Named id → IsMoved head number id appended past → AreOwn head Named past
  moved_own number id appended past named h =
      record {
        number = number;
        each =
            moved_all head Named (λ (x : Exchange). IsOwn head Named number x.ask) (λ n below answer isnt_done. (n, below, refl)) number (λ below. (number, below, refl)) (λ bytes answer. refl)
            (λ i n answer. (i, n, refl)) (λ i n answer isnt_done. (refl, (i, n, refl))) id appended past named
            (refl, (id, named, refl)) h;
      }
