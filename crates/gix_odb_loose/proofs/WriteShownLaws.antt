-- What the exchanges of a write show, for callers: its calls are its own, a refused one renamed nothing and left no file.
pub mod Own
pub mod Unmade
use Rattle.std.specs.Prelude.{◌≡◌, ◌⊎◌, ℕ, zero, suc, ◌<◌, ◌≤◌, ◌&&◌, false, List, [], All, Option, Some, None, refl}
use Rattle.std.proofs.Common.{inl, inr, sym, ap, ◌∙◌, subst, arith}
use Rattle.std.proofs.lemmas.List.Elements.{All-nil, All-append, All-push, All-map}
use Rattle.odb_base.specs.Path.{Path}
use Rattle.odb_disk.specs.declared.ask.DiskAsk.{DiskAsk}
use Rattle.odb_disk.specs.declared.ask.DiskAsk.TheVariants as asks
use Rattle.odb_disk.specs.declared.ask.DiskAnswer.{DiskAnswer}
use Rattle.odb_disk.specs.declared.ask.DiskAnswer.TheVariants as answers
use Rattle.odb_disk.specs.declared.disk_error.DiskError.TheVariants as disk_errors
use Rattle.gix_hash.specs.declared.object_id.ObjectId.{ObjectId}
use Rattle.gix_object.specs.Loose.{header_of}
use Rattle.gix_odb_loose.specs.Exchanges.{Exchange, exchanged, RenamedNothing, MadeOnly, file_made, is_rename, is_done}
use Rattle.gix_odb_loose.specs.LooseFile.{loose_path}
use Rattle.gix_odb_loose.specs.WriteOrder.{temp_names, temp_path, prefix_path, temporary_of, number_made, write_ask}
use Rattle.gix_odb_loose.specs.WriteHistory.WentWell.{tried, made, headed, IsFilled, IsFoldered, IsMoved}
use Rattle.gix_odb_loose.specs.WriteHistory.Refused.{IsRefused}
use Rattle.gix_odb_loose.specs.WriteHistory.{GoesWell, IsAnswered, Wants, IsStopped, IsUnmade, IsRemovedAfter, IsRefusedRun, IsBrokenRun, IsHistory}
use Rattle.gix_odb_loose.specs.WriteOwn.{IsOwn, AreOwn, LeavesNothing}
use Rattle.gix_odb_loose.specs.declared.write.Message.TheVariants as messages
use Rattle.gix_odb_loose.specs.declared.write_order.Refusal.{Refusal}
use Rattle.gix_odb_loose.specs.declared.write_order.Refusal.TheVariants as refusals
use Rattle.gix_odb_loose.specs.declared.write_order.WriteHead.{WriteHead}
use Rattle.gix_odb_loose.specs.declared.write_order.WriteStage.{WriteStage}
use Rattle.gix_odb_loose.specs.declared.write_order.WriteStage.TheVariants as stages

-- an answer that refuses isn't Done
undone : (ask : DiskAsk) (answer : DiskAnswer) → IsRefused ask answer → is_done answer ≡ false
undone ask answers.Done h = absurd h
undone ask (answers.Meta meta) h = refl
undone ask (answers.Dir dir) h = refl
undone ask (answers.Entry entry) h = refl
undone ask answers.End h = refl
undone ask (answers.File bytes time) h = refl
undone ask (answers.Refused error) h = refl

unwanted : (ask : DiskAsk) (answer : DiskAnswer) → Wants ask answer → is_done answer ≡ false
unwanted ask answer h = rw h refl

module _ (head : WriteHead) (Named : ObjectId → Type 0) where
  -- ---- what each exchange of a write has

  -- before a file is made
  module _ (P : Exchange → Type 0) (makes : (n : ℕ) → n < temp_names → (answer : DiskAnswer) → is_done answer ≡ false → P (exchanged (asks.NewFile (temp_path head.objects n)) answer)) where
    pub tried_all : (n : ℕ) → n ≤ temp_names → All P (tried head n)
    unfolding tried
    tried_all zero few = All-nil P
    tried_all (suc n) few = All-push P (tried head n) _ (tried_all n (omega (arith, few))) (makes n (omega (arith, few)) (answers.Refused disk_errors.Exists) refl)

    making_all : (number : ℕ) (So : DiskAsk → DiskAnswer → Type 0) → ((ask : DiskAsk) (answer : DiskAnswer) → So ask answer → is_done answer ≡ false) → (past : List Exchange)
        → IsAnswered head Named So (stages.Making number) past → All P past
    making_all number So isnt past h =
        subst (All P) (sym h.is)
        (All-push P h.before (exchanged (asks.NewFile (temp_path head.objects number)) h.answer) (subst (All P) (sym h.well.2) (tried_all number (omega (arith, h.well.0))))
        (makes number h.well.0 h.answer (isnt _ h.answer h.so)))

    pub unmade_all : (refusal : Refusal) (past : List Exchange) → IsUnmade head Named refusal past → All P past
    unmade_all (refusals.Io messages.CreateTempFile) past h =
        elim h [ inl all ↦ subst (All P) (sym all) (tried_all temp_names (omega arith)) | inr one ↦ making_all one.0 IsRefused undone past one.1 ]
    unmade_all (refusals.Io messages.WriteHeader) past h = absurd h
    unmade_all (refusals.Io messages.StreamData) past h = absurd h
    unmade_all refusals.IoRaw past h = absurd h
    unmade_all (refusals.Persist id) past h = absurd h
    unmade_all (refusals.SizeMismatch actual) past h = absurd h
    unmade_all refusals.NoMemory past h = making_all h.0 Wants unwanted past h.1

    -- after it is made
    module _ (number : ℕ) (is_made : number < temp_names → P (exchanged (asks.NewFile (temp_path head.objects number)) answers.Done))
        (appends : (bytes : List ℕ) (answer : DiskAnswer) → P (exchanged (asks.Append (temp_path head.objects number) bytes) answer))
        (folders : (id : ObjectId) → Named id → (answer : DiskAnswer) → P (exchanged (asks.MakeDir (prefix_path head.objects id)) answer))
        (renames : (id : ObjectId) → Named id → (answer : DiskAnswer) → is_done answer ≡ false → P (exchanged (asks.Rename (temp_path head.objects number) (loose_path head.objects id)) answer)) where
      made_all : number < temp_names → All P (made head number)
      made_all below = All-push P (tried head number) _ (tried_all number (omega (arith, below))) (is_made below)

      filled_all : (appended : List ℕ) (past : List Exchange) → IsFilled head number appended past → All P past
      filled_all appended past h =
          subst (All P) (sym h.is)
          (All-append P (headed head number) _ (All-push P (made head number) _ (made_all h.below) (appends (header_of head.kind head.size) answers.Done))
          (All-map P (λ (piece : List ℕ). exchanged (asks.Append (temp_path head.objects number) piece) answers.Done) h.pieces (λ k d l. appends _ answers.Done)))

      foldered_all : (id : ObjectId) (appended : List ℕ) (past : List Exchange) → Named id → IsFoldered head number id appended past → All P past
      foldered_all id appended past named h = subst (All P) (sym h.is) (All-push P h.before _ (filled_all appended h.before h.filled) (folders id named h.answer))

      well_all : (stage : WriteStage) (appended : List ℕ) (past : List Exchange) → number_made stage ≡ Some number → GoesWell head Named appended stage past → All P past
      well_all (stages.Making n) appended past e h = absurd (cc e)
      well_all (stages.Heading n) appended past e h = let same : n ≡ number = cc e in subst (All P) (sym (h.1 ∙ ap (made head) same)) (made_all (subst (λ (m : ℕ). m < temp_names) same h.2))
      well_all (stages.Filling n written) appended past e h = let same : n ≡ number = cc e in filled_all appended past (subst (λ (m : ℕ). IsFilled head m appended past) same h.1)
      well_all (stages.Foldering n id) appended past e h = let same : n ≡ number = cc e in filled_all appended past (subst (λ (m : ℕ). IsFilled head m appended past) same h.2)
      well_all (stages.Moving n id) appended past e h = let same : n ≡ number = cc e in foldered_all id appended past h.1 (subst (λ (m : ℕ). IsFoldered head m id appended past) same h.2)
      well_all (stages.Removing n refusal) appended past e h = absurd h

      last_of : (stage : WriteStage) (appended piece : List ℕ) (past : List Exchange) (answer : DiskAnswer) → number_made stage ≡ Some number → GoesWell head Named appended stage past
          → is_done answer ≡ false → P (exchanged (write_ask head piece stage) answer)
      last_of (stages.Making n) appended piece past answer e h isnt_done = absurd (cc e)
      last_of (stages.Heading n) appended piece past answer e h isnt_done =
          let same : n ≡ number = cc e in subst (λ (m : ℕ). P (exchanged (asks.Append (temp_path head.objects m) (header_of head.kind head.size)) answer)) (sym same)
          (appends (header_of head.kind head.size) answer)
      last_of (stages.Filling n written) appended piece past answer e h isnt_done =
          let same : n ≡ number = cc e in subst (λ (m : ℕ). P (exchanged (asks.Append (temp_path head.objects m) piece) answer)) (sym same) (appends piece answer)
      last_of (stages.Foldering n id) appended piece past answer e h isnt_done = folders id h.1 answer
      last_of (stages.Moving n id) appended piece past answer e h isnt_done =
          let same : n ≡ number = cc e in subst (λ (m : ℕ). P (exchanged (asks.Rename (temp_path head.objects m) (loose_path head.objects id)) answer)) (sym same) (renames id h.1 answer isnt_done)
      last_of (stages.Removing n refusal) appended piece past answer e h isnt_done = absurd h

      answered_all : (So : DiskAsk → DiskAnswer → Type 0) → ((ask : DiskAsk) (answer : DiskAnswer) → So ask answer → is_done answer ≡ false) → (stage : WriteStage) (past : List Exchange)
          → number_made stage ≡ Some number → IsAnswered head Named So stage past → All P past
      answered_all So isnt stage past e h =
          subst (All P) (sym h.is) (All-push P h.before _ (well_all stage h.appended h.before e h.well) (last_of stage h.appended h.piece h.before h.answer e h.well (isnt _ h.answer h.so)))

      pub stopped_all : (SourceFailed : Type 0) (Counted : ℕ → Type 0) (refusal : Refusal) (past : List Exchange) → IsStopped head Named SourceFailed Counted number refusal past → All P past
      stopped_all SourceFailed Counted (refusals.Io messages.CreateTempFile) past h = absurd h
      stopped_all SourceFailed Counted (refusals.Io messages.WriteHeader) past h = answered_all IsRefused undone (stages.Heading number) past refl h
      stopped_all SourceFailed Counted (refusals.Io messages.StreamData) past h =
          elim h [ inl failed ↦ filled_all failed.1.0 past failed.1.1 | inr one ↦ answered_all IsRefused undone (stages.Filling number one.0) past refl one.1 ]
      stopped_all SourceFailed Counted refusals.IoRaw past h = answered_all IsRefused undone (stages.Foldering number h.0) past refl h.1
      stopped_all SourceFailed Counted (refusals.Persist id) past h = answered_all IsRefused undone (stages.Moving number id) past refl h
      stopped_all SourceFailed Counted (refusals.SizeMismatch actual) past h = filled_all h.1.0 past h.1.1
      stopped_all SourceFailed Counted refusals.NoMemory past h = answered_all Wants unwanted h.0 past h.1 h.2

      pub history_all : (SourceFailed : Type 0) (Counted : ℕ → Type 0) (stage : WriteStage) (appended : List ℕ) (past : List Exchange) → number_made stage ≡ Some number
          → IsHistory head Named SourceFailed Counted appended stage past → All P past
      history_all SourceFailed Counted (stages.Making n) appended past e h = absurd (cc e)
      history_all SourceFailed Counted (stages.Heading n) appended past e h = well_all (stages.Heading n) appended past e h
      history_all SourceFailed Counted (stages.Filling n written) appended past e h = well_all (stages.Filling n written) appended past e h
      history_all SourceFailed Counted (stages.Foldering n id) appended past e h = well_all (stages.Foldering n id) appended past e h
      history_all SourceFailed Counted (stages.Moving n id) appended past e h = well_all (stages.Moving n id) appended past e h
      history_all SourceFailed Counted (stages.Removing n refusal) appended past e h =
          let same : n ≡ number = cc e in stopped_all SourceFailed Counted refusal past (subst (λ (m : ℕ). IsStopped head Named SourceFailed Counted m refusal past) same h)

      pub moved_all : (id : ObjectId) (appended : List ℕ) (past : List Exchange) → Named id → P (exchanged (asks.Rename (temp_path head.objects number) (loose_path head.objects id)) answers.Done)
          → IsMoved head number id appended past → All P past
      moved_all id appended past named last h = subst (All P) (sym h.is) (All-push P h.before _ (foldered_all id appended h.before named h.foldered) last)

  -- ---- no rename

  abbrev Unnamed : Exchange → Type 0
  Unnamed x = (is_rename x.ask && is_done x.answer) ≡ false

  abbrev Made : Option Path → Exchange → Type 0
  Made path x = (file_made x.ask x.answer ≡ None) ⊎ (file_made x.ask x.answer ≡ path)

  not_made : (path : Option Path) (to : Path) (answer : DiskAnswer) → is_done answer ≡ false → Made path (exchanged (asks.NewFile to) answer)
  not_made path to answers.Done isnt_done = absurd (cc isnt_done)
  not_made path to (answers.Meta meta) isnt_done = inl refl
  not_made path to (answers.Dir dir) isnt_done = inl refl
  not_made path to (answers.Entry entry) isnt_done = inl refl
  not_made path to answers.End isnt_done = inl refl
  not_made path to (answers.File bytes time) isnt_done = inl refl
  not_made path to (answers.Refused error) isnt_done = inl refl

  module _ (SourceFailed : Type 0) (Counted : ℕ → Type 0) where
    -- no rename was done before the end, and no file made but the temporary file
    module _ (appended : List ℕ) (past : List Exchange) where
      unnamed_by : (stage : WriteStage) (number : ℕ) → number_made stage ≡ Some number → IsHistory head Named SourceFailed Counted appended stage past → RenamedNothing past
      unnamed_by stage number e h =
          history_all Unnamed (λ n below answer isnt_done. refl) number (λ below. refl) (λ bytes answer. refl) (λ id named answer. refl)
          (λ id named answer isnt_done. isnt_done) SourceFailed Counted stage appended past e h

      made_by : (stage : WriteStage) (number : ℕ) → number_made stage ≡ Some number → IsHistory head Named SourceFailed Counted appended stage past
          → MadeOnly (Some (temp_path head.objects number)) past
      made_by stage number e h =
          history_all (Made (Some (temp_path head.objects number))) (λ n below answer isnt_done. not_made _ _ answer isnt_done) number (λ below. inr refl) (λ bytes answer. inl refl)
          (λ id named answer. inl refl) (λ id named answer isnt_done. inl refl) SourceFailed Counted stage appended past e h

      pub history_unnamed : (stage : WriteStage) → IsHistory head Named SourceFailed Counted appended stage past → RenamedNothing past
      history_unnamed (stages.Making number) h = subst (All Unnamed) (sym h.2) (tried_all Unnamed (λ n below answer isnt_done. refl) number (omega (arith, h.0)))
      history_unnamed (stages.Heading number) h = unnamed_by (stages.Heading number) number refl h
      history_unnamed (stages.Filling number written) h = unnamed_by (stages.Filling number written) number refl h
      history_unnamed (stages.Foldering number id) h = unnamed_by (stages.Foldering number id) number refl h
      history_unnamed (stages.Moving number id) h = unnamed_by (stages.Moving number id) number refl h
      history_unnamed (stages.Removing number refusal) h = unnamed_by (stages.Removing number refusal) number refl h

      pub history_made : (stage : WriteStage) → IsHistory head Named SourceFailed Counted appended stage past → MadeOnly (temporary_of head (number_made stage)) past
      history_made (stages.Making number) h = subst (All (Made None)) (sym h.2) (tried_all (Made None) (λ n below answer isnt_done. not_made None _ answer isnt_done) number (omega (arith, h.0)))
      history_made (stages.Heading number) h = made_by (stages.Heading number) number refl h
      history_made (stages.Filling number written) h = made_by (stages.Filling number written) number refl h
      history_made (stages.Foldering number id) h = made_by (stages.Foldering number id) number refl h
      history_made (stages.Moving number id) h = made_by (stages.Moving number id) number refl h
      history_made (stages.Removing number refusal) h = made_by (stages.Removing number refusal) number refl h

    -- some exchanges, and the removal
    module _ (P : Exchange → Type 0) (before past : List Exchange) where
      pub removed_all : (number : ℕ) → ((answer : DiskAnswer) → P (exchanged (asks.Remove (temp_path head.objects number)) answer)) → All P before → IsRemovedAfter head (Some number) before past
          → All P past
      removed_all number removes all h = subst (All P) (sym h.1) (All-push P before _ all (removes h.0))

    cleared : (number : ℕ) (before past : List Exchange) → MadeOnly (Some (temp_path head.objects number)) before → IsRemovedAfter head (Some number) before past → LeavesNothing head past
    cleared number before past made h = inr (record { number = number; before = before; answer = h.0; is = h.1; made = made })

    -- ---- a refused write

    module _ (refusal : Refusal) (past : List Exchange) (run : IsRefusedRun head Named SourceFailed Counted refusal past) where
      pub refused_unnamed : RenamedNothing past
      refused_unnamed =
          elim run [
            | inl none ↦ unmade_all Unnamed (λ n below answer isnt_done. refl) refusal past none
            | inr one ↦ removed_all Unnamed one.1 past one.0 (λ answer. refl) (history_unnamed [] one.1 (stages.Removing one.0 refusal) one.2) one.3
          ]

      pub refused_cleared : LeavesNothing head past
      refused_cleared =
          elim run [
            | inl none ↦ inl (unmade_all (Made None) (λ n below answer isnt_done. not_made None _ answer isnt_done) refusal past none)
            | inr one ↦ cleared one.0 one.1 past (history_made [] one.1 (stages.Removing one.0 refusal) one.2) one.3
          ]

    -- ---- a write that ran out of memory

    module _ (past : List Exchange) (run : IsBrokenRun head Named SourceFailed Counted past) where
      pub broken_unnamed : RenamedNothing past
      broken_unnamed = by_number (number_made run.stage) run.removed
        where
          by_number : (number : Option ℕ) → IsRemovedAfter head number run.before past → RenamedNothing past
          by_number None h = subst (All Unnamed) (sym h) (history_unnamed run.appended run.before run.stage run.history)
          by_number (Some number) h = removed_all Unnamed run.before past number (λ answer. refl) (history_unnamed run.appended run.before run.stage run.history) h

      pub broken_cleared : LeavesNothing head past
      broken_cleared = by_number (number_made run.stage) (history_made run.appended run.before run.stage run.history) run.removed
        where
          by_number : (number : Option ℕ) → MadeOnly (temporary_of head number) run.before → IsRemovedAfter head number run.before past → LeavesNothing head past
          by_number None made h = inl (subst (λ (xs : List Exchange). MadeOnly None xs) (sym h) made)
          by_number (Some number) made h = cleared number run.before past made h
