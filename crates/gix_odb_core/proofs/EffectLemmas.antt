-- An entry that has an effect: a listing published or confirmed the list, and a file was stored.
use Rattle.std.proofs.Common.{◌≡◌, ℕ, Bool, true, false, ◌||◌, ◌==◌, cond, List, Option, Some, None, Ok, Err, ◌⊎◌, inl, inr, refl, sym, ap, subst, ◌∙◌}
use Rattle.std.proofs.lemmas.Bool.{or_right}
use Rattle.gix_odb_core.specs.Origins.{is_stored}
use Rattle.gix_odb_events.specs.Slots.{slot_at}
use Rattle.gix_odb_core.specs.Quiet.{has_no_effect, is_idle, only_asks}
use Rattle.gix_odb_core.specs.Replay.{IsNext, answer_of, is_refresh, number_behind, publish_answer, put_answer, replay}
use Rattle.gix_odb_events.specs.Answers.{Answer}
use Rattle.gix_odb_core.specs.Steps.{Publishing, Outdated, TooFew, Overflows, Unchanged, Published, after, publishing}
use Rattle.gix_odb_events.specs.View.{last_state}
use Rattle.gix_odb_core.specs.Files.{slot_with_index, slot_with_pack}
use Rattle.gix_odb_core.specs.Views.{view_of}
use Rattle.gix_odb_events.specs.declared.event.Effect.TheVariants as effects
use Rattle.gix_odb_events.specs.declared.event.Event.{Event}
use Rattle.gix_odb_events.specs.declared.event.Event.TheVariants as event
use Rattle.gix_odb_events.specs.declared.event.Refusal.TheVariants as refusals
use Rattle.gix_odb_core.specs.declared.journal.Entry.{Entry}
use Rattle.gix_odb_core.specs.declared.shape.Shape.{Shape}
use Rattle.gix_odb_events.specs.declared.slot.Filled.{Filled}

-- a listing published or confirmed the list, and a file was stored
abbrev pub Succeeds : Event → Answer → Type 0
Succeeds (event.PutIndex slot path file) answer = is_stored answer ≡ true
Succeeds (event.PutPack pack path file) answer = is_stored answer ≡ true
Succeeds (event.Publish listing) answer = is_refresh answer ≡ true
Succeeds other answer = Unit {0}

stored-put : (shape now : Shape) (number : ℕ) (filled : Option Filled) → is_idle (put_answer shape now number filled) ≡ false → is_stored (put_answer shape now number filled) ≡ true
stored-put shape now number None busy = absurd cc
stored-put shape now number (Some filled) busy = by (shape.state_id == last_state) busy
  where
    put_as : Bool → Answer
    put_as full = cond full (Err refusals.GenerationOverflow) (Ok (effects.Put (view_of now number) true))

    by : (b : Bool) → is_idle (put_as b) ≡ false → is_stored (put_as b) ≡ true
    by true busy = absurd cc
    by false busy = refl

refreshes-publish : (shape : Shape) (number : ℕ) (p : Publishing) → is_idle (publish_answer shape number p) ≡ false → is_refresh (publish_answer shape number p) ≡ true
refreshes-publish shape number Outdated busy = absurd cc
refreshes-publish shape number (TooFew needed) busy = absurd cc
refreshes-publish shape number Overflows busy = absurd cc
refreshes-publish shape number (Unchanged now) busy = refl
refreshes-publish shape number (Published now) busy = refl

succeeds-event : (past : List Entry) (shape : Shape) (number seat : ℕ) (happens : Event) → (only_asks happens || is_idle (answer_of past shape number seat happens)) ≡ false
    → Succeeds happens (answer_of past shape number seat happens)
succeeds-event past shape number seat (event.Register stable) busy = tt
succeeds-event past shape number seat event.Upgrade busy = tt
succeeds-event past shape number seat event.Remove busy = tt
succeeds-event past shape number seat event.Look busy = tt
succeeds-event past shape number seat event.Report busy = tt
succeeds-event past shape number seat (event.PutIndex slot path file) busy =
    stored-put shape (after shape seat (event.PutIndex slot path file)) number (slot_with_index path file (slot_at shape.slots slot)) busy
succeeds-event past shape number seat (event.PutPack pack path file) busy =
    stored-put shape (after shape seat (event.PutPack pack path file)) number (slot_with_pack path file (slot_at shape.slots pack.index)) busy
succeeds-event past shape number seat (event.PassOver slot path why) busy = tt
succeeds-event past shape number seat (event.Publish listing) busy = refreshes-publish shape number (publishing shape listing) busy

-- so does the next entry of a legal journal
pub succeeds-entry : (opening : Shape) (past : List Entry) (entry : Entry) → IsNext opening past entry → has_no_effect entry ≡ false → Succeeds entry.event entry.answer
succeeds-entry opening past entry next busy = by next.answered
  where
    present : Shape
    present = replay opening past

    by : (entry.answer ≡ Err refusals.NoMemory) ⊎ (entry.answer ≡ answer_of past present (number_behind past) entry.seat entry.event) → Succeeds entry.event entry.answer
    by (inl none) = absurd (let wrong : true ≡ false = sym (or_right (only_asks entry.event) (is_idle entry.answer) (ap is_idle none)) ∙ busy in cc)
    by (inr answered) =
        subst (Succeeds entry.event) (sym answered)
        (succeeds-event past present (number_behind past) entry.seat entry.event (ap (λ (a : Answer). only_asks entry.event || is_idle a) (sym answered) ∙ busy))
