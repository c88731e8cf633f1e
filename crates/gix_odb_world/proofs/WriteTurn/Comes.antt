-- How a turn of a write ends: what it knows where it goes on, and what its end keeps of its promise.
use Rattle.std.specs.Prelude.{◌==◌, Bool, true, false, nat_le, if◌then◌else◌}
use Rattle.std.proofs.Common.{◌≡◌, ℕ, ◌+◌, List, [], ◌∷◌, ◌++◌, length, take, Contains, Option, Some, None, Ok, Err, refl, sym, ap, ◌∙◌, subst, zero, suc, ◌⊎◌, arith, inl, inr}
use Rattle.std.proofs.lemmas.Grind.{common_steps}
use Rattle.std.proofs.lemmas.List.{take_all, length_push}
use Rattle.std.proofs.lemmas.List.Elements.{Contains-append_cases}
use Rattle.odb_base.specs.Path.{Path}
use Rattle.odb_disk.specs.Tree.Write.{written}
use Rattle.odb_disk.specs.declared.ask.DiskAnswer.{DiskAnswer}
use Rattle.odb_disk.specs.declared.ask.DiskAnswer.TheVariants as answers
use Rattle.odb_disk.specs.declared.ask.DiskAsk.TheVariants as asks
use Rattle.odb_disk.specs.declared.disk_error.DiskError.TheVariants as disk_errors
use Rattle.gix_object.specs.Loose.{header_of}
use Rattle.gix_odb_loose.proofs.CauseLaws.Write.{WriteCause-wider}
use Rattle.gix_odb_loose.specs.Exchanges.{Exchange, exchanged}
use Rattle.gix_odb_loose.specs.WriteHistory.Refused.{DoneIn, HasCauseIn, RefusedIn, TakenIn, WantedIn}
use Rattle.gix_odb_loose.specs.WriteAsks.{IsAlong}
use Rattle.gix_odb_loose.proofs.WriteCauseLaws.{refused_cause}
use Rattle.gix_odb_loose.proofs.WriteDoneLaws.{IsAlong-done}
use Rattle.gix_odb_loose.specs.WriteDone.{GetsNameOf, CountsOf}
use Rattle.gix_odb_loose.specs.WriteJobs.{supplied}
use Rattle.gix_odb_loose.specs.WriteOrder.{error_from, number_made, temp_path}
use Rattle.gix_odb_loose.specs.declared.write.Error.TheVariants as loose_errors
use Rattle.gix_odb_loose.specs.declared.write.Message.TheVariants as messages
use Rattle.gix_odb_loose.specs.declared.write_at_hand.Onward.{Onward}
use Rattle.gix_odb_loose.specs.declared.write_at_hand.Onward.TheVariants.{Stage, End}
use Rattle.gix_odb_loose.specs.declared.write_order.Refusal.{Refusal}
use Rattle.gix_odb_loose.specs.declared.write_order.Refusal.TheVariants as refusals
use Rattle.gix_odb_loose.specs.declared.write_order.WriteAsk.{WriteAsk}
use Rattle.gix_odb_loose.specs.declared.write_order.WriteAsk.TheVariants as wants
use Rattle.gix_odb_loose.specs.declared.write_order.WriteStage.TheVariants as stages
use Rattle.gix_odb_history.specs.Event.{Event}
use Rattle.gix_odb_history.specs.Run.{disk_after}
use Rattle.gix_odb_world.specs.Running.Write.{Holds, HoldsFile, IsUntouched, StandsAt, content_at, job_to_write}
use Rattle.gix_odb_history.specs.Writing.{AskedAt, AskedSince, CauseOfWrite, ChangedNothing, DoneSince, IsNewFile, IsRename, TurnsMadeOnly}
use Rattle.gix_odb_history.specs.Writing.{RefusedSince, NoTurnRenamed, TakenSince, head_to_write, name_to_write}
use Rattle.gix_odb_world.specs.Written.{HasWritten, WasRefused}
use Rattle.gix_odb_history.proofs.RefusedLemmas.{refused_on_way}
use Rattle.gix_odb_history.proofs.WriteAsk.Quiet.{never_wants}
use Rattle.gix_odb_world.proofs.WriteKept.{asked_kept, each_turn_push}
use Rattle.gix_odb_world.proofs.WriteTurn.Common.{CallOfTurn, TurnOfWrite, made_same, own}

module _ (t : TurnOfWrite) where
  open t use {first, events, e, handle, begun, turns, w, since}

  abbrev whole : List Event
  whole = events ++ e ∷ []

  module _ (call : CallOfTurn t) where
    open call use {ask, answer, past, asked}

    asked_since : AskedSince first whole handle begun ask answer
    asked_since = record { place = length events; later = since; at = own t call }

    abbrev longer : List Exchange
    longer = past ++ exchanged ask answer ∷ []

    one : (x : Exchange) → Contains (exchanged ask answer ∷ []) x → exchanged ask answer ≡ x
    one x (zero, within, e) = e
    one x (suc k, within, e) = absurd (omega (arith, within))

    all_asked : (x : Exchange) → Contains longer x → AskedSince first whole handle begun x.ask x.answer
    all_asked x among =
        elim (Contains-append_cases past (exchanged ask answer ∷ []) x among) [
          | inl old ↦ asked_kept first events e handle begun x.ask x.answer (asked x old)
          | inr last ↦ subst (λ (y : Exchange). AskedSince first whole handle begun y.ask y.answer) (one x last) asked_since
        ]

    cause_now : (refusal : Refusal) → HasCauseIn (head_to_write w) (GetsNameOf (job_to_write w)) ⊥ (CountsOf (job_to_write w)) longer (error_from (head_to_write w) refusal)
        → CauseOfWrite first whole handle begun w (error_from (head_to_write w) refusal)
    cause_now refusal h =
        WriteCause-wider (head_to_write w) (RefusedIn longer) (RefusedSince first whole handle begun) (TakenIn longer) (TakenSince first whole handle begun) (DoneIn longer)
        (DoneSince first whole handle begun)
        (λ a making r. refused_on_way first whole handle begun a making r.0 (all_asked (exchanged a r.0) r.1) r.2)
        (λ a t. all_asked (exchanged a (answers.Refused disk_errors.Exists)) t) (λ a d. all_asked (exchanged a answers.Done) d) ⊥ ⊥ (λ f. f)
        (GetsNameOf (job_to_write w)) (GetsNameOf (job_to_write w)) (λ id n. n) (WantedIn longer) ⊥
        (λ m. let a = all_asked (exchanged m.0 (answers.Refused disk_errors.NoMemory)) m.1 in absurd (never_wants (disk_after first (take a.place whole)) m.0 a.at.given))
        (CountsOf (job_to_write w)) (CountsOf (job_to_write w)) (λ n k. k) (error_from (head_to_write w) refusal) h

    -- how a turn ends
    abbrev pub Goes : Onward → Type 0
    Goes (Stage stage) = StandsAt first whole handle begun (turns + 1) w stage
    Goes (End (Ok id)) = HasWritten first whole handle begun w id
    Goes (End (Err refusal)) = WasRefused first whole handle begun w (error_from (head_to_write w) refusal)

    -- where no temporary file could be made, nothing was changed
    abbrev IsUntouchedAt : Refusal → Type 0
    IsUntouchedAt refusal = (at : Path) → error_from (head_to_write w) refusal ≡ loose_errors.Io messages.CreateTempFile at → ChangedNothing whole handle begun

    -- what is to be shown of it, besides its exchanges
    abbrev pub Parts : Onward → Type 0
    Parts (Stage stage) =
        (¬ (IsRename e.entry.change)) × TurnsMadeOnly whole handle begun w.objects (number_made stage) × Holds first whole handle begun w.objects (number_made stage) (content_at w stage)
        × IsUntouched whole handle begun (number_made stage)
    Parts (End (Ok id)) = HasWritten first whole handle begun w id
    Parts (End (Err refusal)) =
        (¬ (IsRename e.entry.change)) × IsUntouchedAt refusal × ((made : Option ℕ) × TurnsMadeOnly whole handle begun w.objects made
        × ((made ≡ None) ⊎ ((number : ℕ) × (place : ℕ) × (made ≡ Some number) × (length whole ≡ place + 1)
        × ((a : DiskAnswer) × AskedAt first whole handle place (asks.Remove (temp_path w.objects number)) a))))

    pub goes : NoTurnRenamed events handle begun → turns ≡ length past → (onward : Onward) → IsAlong (job_to_write w) onward longer → Parts onward → Goes onward
    goes unnamed had (Stage stage) along parts =
        record {
          past = longer;
          along = along;
          had = ap (λ (n : ℕ). n + 1) had ∙ sym (length_push past (exchanged ask answer));
          asked = all_asked;
          unnamed = each_turn_push events e handle begun _ unnamed (λ turn. parts.0);
          made = parts.1;
          holds = parts.2;
          untouched = parts.3;
        }
    goes unnamed had (End (Ok id)) along parts = parts
    goes unnamed had (End (Err refusal)) along parts =
        record {
          unnamed = each_turn_push events e handle begun _ unnamed (λ turn. parts.0);
          untouched = parts.1;
          made = parts.2.0;
          makes = parts.2.1;
          cleared = parts.2.2;
          cause = cause_now refusal (refused_cause (head_to_write w) (GetsNameOf (job_to_write w)) ⊥ (CountsOf (job_to_write w)) refusal longer
              (IsAlong-done (head_to_write w) (w.hash) w.known w.bytes (End (Err refusal)) longer along));
        }

    -- The next piece is appended, or the end of the data is reported, as soon as data are asked for.
    abbrev pub PartsTo : WriteAsk → Type 0
    PartsTo (wants.Disk stage) = Parts (Stage stage)
    PartsTo (wants.Data number written) = Parts (Stage (stages.Filling number written))
    PartsTo (wants.Done end) = Parts (End end)

    by_end : (number written : ℕ) (ends same : Bool) → nat_le (length w.bytes) written ≡ ends → Parts (Stage (stages.Filling number written))
        → Parts (Stage (if ends then (if same then stages.Foldering number (name_to_write w) else stages.Removing number (refusals.SizeMismatch written)) else stages.Filling number written))
    by_end number written true true e parts =
        let all : take written w.bytes ≡ w.bytes = take_all written w.bytes (grind (arith, common_steps, e)) in
        (parts.0, parts.1, subst (λ xs. HoldsFile first whole handle begun (temp_path w.objects number) (header_of w.kind w.size ++ xs)) all parts.2, tt)
    by_end number written true false e parts = (parts.0, parts.1, tt, tt)
    by_end number written false same e parts = parts

    pub supplied_parts : (wanted : WriteAsk) → PartsTo wanted → Parts (supplied (job_to_write w) wanted)
    supplied_parts (wants.Disk stage) parts = parts
    supplied_parts (wants.Data number written) parts = by_end number written (nat_le (length w.bytes) written) (written == w.size) refl parts
    supplied_parts (wants.Done end) parts = parts

  -- what is left where the file is to be removed
  pub cleared : (call : CallOfTurn t) (number : ℕ) (refusal : Refusal) → ¬ (IsRename e.entry.change) → ¬ (IsNewFile e.entry.change)
      → TurnsMadeOnly events handle begun w.objects (Some number) → Parts call (Stage (stages.Removing number refusal))
  cleared call number refusal unmoved unmade made = (unmoved, made_same t call (Some number) unmade made, tt, tt)
