-- A look-up ends: as long as it goes on, it took fewer turns than its bound.
mod TrierTurns
mod LapsLeft
mod TurnsLeft
mod PartTurns
mod CoreTurns
mod LookTurns
use Rattle.std.proofs.Common.{inl, ◌≡◌, ℕ, zero, suc, ◌+◌, ◌-◌, ◌*◌, ◌≤◌, ◌<◌, Bool, true, false, cond, List, [], ◌∷◌, length, Option, Some, None, Ok, refl, subst, arith}
use Rattle.gix_hash.specs.declared.object_id.ObjectId.{ObjectId}
use Rattle.gix_odb_events.specs.declared.view.View.{View}
use Rattle.gix_odb_events.specs.declared.answer.Answer.{Answer}
use Rattle.gix_odb_events.specs.declared.answer.Ask.{Ask}
use Rattle.gix_odb_calls.specs.declared.call.Reply.{Reply}
use Rattle.gix_object.specs.declared.want.Want.{Want}
use Rattle.gix_odb.specs.LookExchanges.{AreAnswered, AreAsked, Exchange, behind}
use Rattle.gix_odb.specs.Stream.{Stream, stream_by}
use Rattle.gix_odb.specs.Laps.{AreNumbered, AreWithin, number_by, turns_of_lap, turns_of_look}
use Rattle.gix_odb.specs.LookUpOrder.{Setting, ask_at, ask_of, fed, new_head, result_at, result_of, started, try_view, without_notes}
use Rattle.gix_odb.specs.Shown.{folders_of}
use Rattle.gix_odb.specs.declared.refresh.Refresh.TheVariants as fronts
use Rattle.gix_odb.specs.declared.look_up.LookHead.{LookHead}
use Rattle.gix_odb.specs.declared.look_up.LookStage.{LookStage}
use Rattle.gix_odb.specs.declared.look_up.LookStage.TheVariants as stages
use Rattle.gix_odb.specs.declared.look_up.LookUp.{LookUp}
use Rattle.gix_odb.specs.declared.look_up.Part.TheVariants as parts
use Rattle.gix_odb.specs.declared.look_up.Purpose.TheVariants as purposes
use Rattle.gix_odb.specs.declared.refresh_mode.RefreshMode.{RefreshMode}
use Rattle.gix_odb.proofs.TurnLaws.TurnsLeft.{Bounds, HasLeft, HasLeft-pos, LookHasLeft, settling_turns}
use Rattle.gix_odb.proofs.ListerLaws.Turns.{folder_turns, further}
use Rattle.gix_odb.proofs.TurnLaws.LookTurns.{IsTold, stream_behind, fed_left}
use Rattle.gix_odb.proofs.TurnLaws.PartTurns.{view_left}

-- a look-up goes on
abbrev IsOnAt : LookHead → LookStage → Type 0
IsOnAt head stage = (reply : Reply) → ¬ (result_at head stage ≡ Ok reply)

asking_is_on : (head : LookHead) (stage : LookStage) (ask : Ask) → ask_at stage ≡ Some ask → IsOnAt head stage
asking_is_on head (stages.Done reply) ask asked other is = cc asked
asking_is_on head stage ask asked reply is = cc is

module _ (bounds : Bounds) where
  one_turn : (look : LookUp) (before : ℕ) (stream : Option Stream) (turns : ℕ) (ask : Ask) (answer : Answer) → ask_of look ≡ Some ask
      → IsTold bounds.slots bounds.entries before stream (Some ask) answer
      → LookHasLeft bounds look before stream (suc turns)
      → LookHasLeft bounds (fed bounds.setting look answer) (number_by before answer) (stream_by stream ask answer) turns
  one_turn look before stream turns ask answer asked is left =
      subst
      (λ (asked : Option Ask).
      IsTold bounds.slots bounds.entries before stream asked answer
      → LookHasLeft bounds (fed bounds.setting look answer) (number_by before answer) (stream_behind stream asked answer) turns)
      asked
      (λ is. fed_left bounds look.head look.stage before stream turns answer is left)
      is

  -- a look-up that goes on took fewer turns than it had left
  turns_left : (look : LookUp) (before : ℕ) (stream : Option Stream) (turns : ℕ) (exchanges : List Exchange) → LookHasLeft bounds look before stream turns
      → AreAsked bounds.setting look exchanges
      → AreNumbered bounds.slots before exchanges
      → AreWithin bounds.entries stream exchanges
      → AreAnswered exchanges
      → IsOnAt (behind bounds.setting look exchanges).head (behind bounds.setting look exchanges).stage
      → length exchanges < turns
  turns_left look before stream turns [] left asked numbered within answered on = HasLeft-pos bounds look.head look.stage before stream turns left on
  turns_left look before stream zero (exchange ∷ exchanges) left asked numbered within answered on =
      absurd (omega (arith, HasLeft-pos bounds look.head look.stage before stream zero left (asking_is_on look.head look.stage exchange.ask asked.0)))
  turns_left look before stream (suc turns) (exchange ∷ exchanges) left asked numbered within answered on =
      let rest =
      turns_left (fed bounds.setting look exchange.answer) (number_by before exchange.answer) (stream_by stream exchange.ask exchange.answer) turns exchanges
      (one_turn look before stream turns exchange.ask exchange.answer asked.0 (numbered.0, answered.0, within.0) left) asked.1 numbered.1 within.1 answered.1 on
      in
      omega (arith, rest)

  started_left : (mode : RefreshMode) (view : View) (want : Want) (id : ObjectId) (read : Bool) → length view.snapshot.indices ≤ bounds.slots
      → 8 * bounds.slots + 2 * length bounds.setting.parts.folders + 3 ≤ bounds.lap
      → HasLeft bounds (new_head mode want id)
      (cond read (try_view bounds.setting (new_head mode want id) parts.Snapshot view [] without_notes) (stages.Refreshing fronts.Reading (purposes.First true) without_notes))
      0 None ((bounds.setting.most + 2) * bounds.lap)
  started_left mode view want id true few enough =
      view_left bounds (new_head mode want id) parts.Snapshot 0 None ((bounds.setting.most + 2) * bounds.lap) view [] without_notes (omega arith)
      (record { own = refl; begun = omega arith; enough = omega arith })
  started_left mode view want id false few enough = inl (record { own = refl; begun = omega arith; enough = omega arith })

-- a lap has room for a listing and what follows it, and for one turn more
lap_is_wide : (slots folders entries : ℕ)
    → (3 * entries + 3) + (folders - 0) * (3 * entries + 3) + (4 * slots + folders + 3) + 1 ≤ turns_of_lap slots (suc folders) entries
lap_is_wide slots folders entries =
    let whole : folders - 0 ≡ folders = omega arith in
    rw whole (omega arith)

-- and for two lists with the loose folders
lists_are_within : (slots folders entries : ℕ) → 8 * slots + 2 * folders + 3 ≤ turns_of_lap slots (suc folders) entries
lists_are_within slots folders entries = omega arith

pub a_look_up_ends_in_time : (setting : Setting) (mode : RefreshMode) (view : View) (want : Want) (id : ObjectId) (exchanges : List Exchange) (slots entries : ℕ)
    → length view.snapshot.indices ≤ slots
    → AreAsked setting (started setting mode view want id) exchanges
    → AreNumbered slots 0 exchanges
    → AreWithin entries None exchanges
    → AreAnswered exchanges
    → ((reply : Reply) → ¬ (result_of (behind setting (started setting mode view want id) exchanges) ≡ Ok reply))
    → length exchanges < turns_of_look slots (length (folders_of setting)) setting.most entries
a_look_up_ends_in_time setting mode view want id exchanges slots entries few asked numbered within answered on =
    let bounds : Bounds =
    record {
      setting = setting;
      slots = slots;
      entries = entries;
      lap = turns_of_lap slots (length (folders_of setting)) entries;
      wide = lap_is_wide slots (length setting.parts.folders) entries;
    }
    in
    turns_left bounds (started setting mode view want id) 0 None ((setting.most + 2) * bounds.lap) exchanges
    (started_left bounds mode view want id view.read few (lists_are_within slots (length setting.parts.folders) entries)) asked numbered within answered on
