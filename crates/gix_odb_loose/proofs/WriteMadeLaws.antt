-- Laws of the temporary file of a write, for callers: a write at a stage after the creation of its file has asked for that
-- file, and got the answer that it is made.
use Rattle.std.proofs.Common.{◌≡◌, inl, inr, ℕ, ◌<◌, List, [], ◌∷◌, Contains, Some, refl, sym, ap, ◌∙◌, subst, arith}
use Rattle.std.proofs.lemmas.List.Elements.{Contains-append_left, Contains-append_right}
use Rattle.odb_disk.specs.declared.ask.DiskAsk.{DiskAsk}
use Rattle.odb_disk.specs.declared.ask.DiskAsk.TheVariants as asks
use Rattle.odb_disk.specs.declared.ask.DiskAnswer.{DiskAnswer}
use Rattle.odb_disk.specs.declared.ask.DiskAnswer.TheVariants as answers
use Rattle.gix_hash.specs.declared.object_id.ObjectId.{ObjectId}
use Rattle.gix_odb_loose.specs.Exchanges.{Exchange, exchanged}
use Rattle.gix_odb_loose.specs.WriteHistory.{GoesWell, IsAnswered, IsHistory, IsStopped, Wants}
use Rattle.gix_odb_loose.specs.WriteHistory.WentWell.{IsFilled, IsFoldered, IsMoved, made, tried}
use Rattle.gix_odb_loose.specs.WriteHistory.Refused.{IsRefused}
use Rattle.gix_odb_loose.specs.WriteOrder.{temp_names, number_in, number_made, temp_path}
use Rattle.gix_odb_loose.specs.declared.write.Message.TheVariants as messages
use Rattle.gix_odb_loose.specs.declared.write_order.Refusal.{Refusal}
use Rattle.gix_odb_loose.specs.declared.write_order.Refusal.TheVariants as refusals
use Rattle.gix_odb_loose.specs.declared.write_order.WriteHead.{WriteHead}
use Rattle.gix_odb_loose.specs.declared.write_order.WriteStage.{WriteStage}
use Rattle.gix_odb_loose.specs.declared.write_order.WriteStage.TheVariants as stages

module _ (head : WriteHead) (Named : ObjectId → Type 0) (number : ℕ) where
  abbrev making : Exchange
  making = exchanged (asks.NewFile (temp_path head.objects number)) answers.Done

  one : Contains (making ∷ []) making
  one = (0, omega arith, refl)

  in_made : Contains (made head number) making
  in_made = Contains-append_right (tried head number) (making ∷ []) making one

  in_filled : (appended : List ℕ) (past : List Exchange) → IsFilled head number appended past → Contains past making
  in_filled appended past h = subst (λ xs. Contains xs making) (sym h.is) (Contains-append_left _ _ making (Contains-append_left (made head number) _ making in_made))

  in_foldered : (id : ObjectId) (appended : List ℕ) (past : List Exchange) → IsFoldered head number id appended past → Contains past making
  in_foldered id appended past h = subst (λ xs. Contains xs making) (sym h.is) (Contains-append_left h.before _ making (in_filled appended h.before h.filled))

  in_well : (stage : WriteStage) (appended : List ℕ) (past : List Exchange) → number_made stage ≡ Some number → GoesWell head Named appended stage past → Contains past making
  in_well (stages.Making n) appended past e h = absurd (cc e)
  in_well (stages.Heading n) appended past e h = let same : n ≡ number = cc e in subst (λ xs. Contains xs making) (sym (h.1 ∙ ap (made head) same)) in_made
  in_well (stages.Filling n written) appended past e h = let same : n ≡ number = cc e in in_filled appended past (subst (λ (m : ℕ). IsFilled head m appended past) same h.1)
  in_well (stages.Foldering n id) appended past e h = let same : n ≡ number = cc e in in_filled appended past (subst (λ (m : ℕ). IsFilled head m appended past) same h.2)
  in_well (stages.Moving n id) appended past e h = let same : n ≡ number = cc e in in_foldered id appended past (subst (λ (m : ℕ). IsFoldered head m id appended past) same h.2)
  in_well (stages.Removing n refusal) appended past e h = absurd h

  in_answered : (So : DiskAsk → DiskAnswer → Type 0) (stage : WriteStage) (past : List Exchange) → number_made stage ≡ Some number → IsAnswered head Named So stage past → Contains past making
  in_answered So stage past e h = subst (λ xs. Contains xs making) (sym h.is) (Contains-append_left h.before _ making (in_well stage h.appended h.before e h.well))

  module _ (SourceFailed : Type 0) (Counted : ℕ → Type 0) where
    in_stopped : (refusal : Refusal) (past : List Exchange) → IsStopped head Named SourceFailed Counted number refusal past → Contains past making
    in_stopped (refusals.Io messages.CreateTempFile) past h = absurd h
    in_stopped (refusals.Io messages.WriteHeader) past h = in_answered IsRefused (stages.Heading number) past refl h
    in_stopped (refusals.Io messages.StreamData) past h =
        elim h [ inl failed ↦ in_filled failed.1.0 past failed.1.1 | inr one ↦ in_answered IsRefused (stages.Filling number one.0) past refl one.1 ]
    in_stopped refusals.IoRaw past h = in_answered IsRefused (stages.Foldering number h.0) past refl h.1
    in_stopped (refusals.Persist id) past h = in_answered IsRefused (stages.Moving number id) past refl h
    in_stopped (refusals.SizeMismatch actual) past h = in_filled h.1.0 past h.1.1
    in_stopped refusals.NoMemory past h = in_answered Wants h.0 past h.1 h.2

    pub history_makes : (stage : WriteStage) (appended : List ℕ) (past : List Exchange) → number_made stage ≡ Some number → IsHistory head Named SourceFailed Counted appended stage past
        → Contains past making
    history_makes (stages.Making n) appended past e h = absurd (cc e)
    history_makes (stages.Heading n) appended past e h = in_well (stages.Heading n) appended past e h
    history_makes (stages.Filling n written) appended past e h = in_well (stages.Filling n written) appended past e h
    history_makes (stages.Foldering n id) appended past e h = in_well (stages.Foldering n id) appended past e h
    history_makes (stages.Moving n id) appended past e h = in_well (stages.Moving n id) appended past e h
    history_makes (stages.Removing n refusal) appended past e h =
        let same : n ≡ number = cc e in in_stopped refusal past (subst (λ (m : ℕ). IsStopped head Named SourceFailed Counted m refusal past) same h)

-- the number of a file that was moved
pub moved_below : (head : WriteHead) (number : ℕ) (id : ObjectId) (appended : List ℕ) (past : List Exchange) → IsMoved head number id appended past → number < temp_names
moved_below head number id appended past h = h.foldered.filled.below

-- the number of each file that a write tries to make, or has made
module _ (head : WriteHead) (Named : ObjectId → Type 0) where
  well_below : (stage : WriteStage) (appended : List ℕ) (past : List Exchange) → GoesWell head Named appended stage past → number_in stage < temp_names
  well_below (stages.Making number) appended past well = well.0
  well_below (stages.Heading number) appended past well = well.2
  well_below (stages.Filling number written) appended past well = well.1.below
  well_below (stages.Foldering number id) appended past well = well.2.below
  well_below (stages.Moving number id) appended past well = well.2.filled.below
  well_below (stages.Removing number refusal) appended past well = absurd well

  made_below : (stage : WriteStage) (number : ℕ) → number_made stage ≡ Some number → number_in stage < temp_names → number < temp_names
  made_below (stages.Making number) other made below = absurd (cc made)
  made_below (stages.Heading number) other made below = let same : number ≡ other = cc made in subst (λ n. n < temp_names) same below
  made_below (stages.Filling number written) other made below = let same : number ≡ other = cc made in subst (λ n. n < temp_names) same below
  made_below (stages.Foldering number id) other made below = let same : number ≡ other = cc made in subst (λ n. n < temp_names) same below
  made_below (stages.Moving number id) other made below = let same : number ≡ other = cc made in subst (λ n. n < temp_names) same below
  made_below (stages.Removing number refusal) other made below = let same : number ≡ other = cc made in subst (λ n. n < temp_names) same below

  module _ (SourceFailed : Type 0) (Counted : ℕ → Type 0) where
    stopped_below : (number : ℕ) (refusal : Refusal) (past : List Exchange) → IsStopped head Named SourceFailed Counted number refusal past → number < temp_names
    stopped_below number (refusals.Io messages.CreateTempFile) past h = absurd h
    stopped_below number (refusals.Io messages.WriteHeader) past h = well_below (stages.Heading number) h.appended h.before h.well
    stopped_below number (refusals.Io messages.StreamData) past h = elim h [ inl failed ↦ failed.1.1.below | inr one ↦ well_below (stages.Filling number one.0) one.1.appended one.1.before one.1.well ]
    stopped_below number refusals.IoRaw past h = well_below (stages.Foldering number h.0) h.1.appended h.1.before h.1.well
    stopped_below number (refusals.Persist id) past h = well_below (stages.Moving number id) h.appended h.before h.well
    stopped_below number (refusals.SizeMismatch actual) past h = h.1.1.below
    stopped_below number refusals.NoMemory past h = made_below h.0 number h.1 (well_below h.0 h.2.appended h.2.before h.2.well)

    pub history_below : (stage : WriteStage) (appended : List ℕ) (past : List Exchange) → IsHistory head Named SourceFailed Counted appended stage past → number_in stage < temp_names
    history_below (stages.Making number) appended past h = well_below (stages.Making number) appended past h
    history_below (stages.Heading number) appended past h = well_below (stages.Heading number) appended past h
    history_below (stages.Filling number written) appended past h = well_below (stages.Filling number written) appended past h
    history_below (stages.Foldering number id) appended past h = well_below (stages.Foldering number id) appended past h
    history_below (stages.Moving number id) appended past h = well_below (stages.Moving number id) appended past h
    history_below (stages.Removing number refusal) appended past h = stopped_below number refusal past h
