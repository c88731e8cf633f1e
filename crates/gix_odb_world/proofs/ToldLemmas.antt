-- The answers to the handle of a query, and the state of its look-up, after one more event.
use Rattle.std.proofs.Common.{◌≡◌, ◌⊎◌, ◌&&◌, inl, inr, ℕ, zero, suc, ◌+◌, ◌≤◌, Bool, true, false, List, [], ◌∷◌, ◌++◌, length, drop, take, Option, Some, None, refl, sym, ◌∙◌, ap, arith}
use Rattle.std.specs.Prelude.{◌==◌, unwrap_or, if◌then◌else◌}
use Rattle.std.specs.List.{cons_option, filter_map}
use Rattle.std.proofs.lemmas.Bool.{and_parts, eqb-true, false≢true}
use Rattle.std.proofs.lemmas.List.{append-nil, length_push}
use Rattle.std.proofs.Math.Seq.{take-length}
use Rattle.std.proofs.lemmas.List.Elements.{filter_map-append}
use Rattle.gix_odb_core.specs.History.{History, opened}
use Rattle.gix_odb_core.specs.Replay.{snapshot_of}
use Rattle.gix_odb_calls.specs.declared.step.Step.{Step}
use Rattle.gix_odb_calls.specs.declared.step.Step.TheVariants as steps
use Rattle.gix_odb.specs.LookExchanges.{AreAsked, Exchange, behind}
use Rattle.gix_odb.specs.LookUpOrder.{Setting, ask_of, fed}
use Rattle.gix_odb.specs.declared.look_up.LookUp.{LookUp}
use Rattle.gix_odb.specs.HandleState.{unseen}
use Rattle.gix_odb_world.specs.AtWork.{Modes, view_in_modes}
use Rattle.gix_odb_history.specs.Cores.{cores_after, history_at}
use Rattle.gix_odb_history.specs.Event.{Asked, Event}
use Rattle.gix_odb_history.specs.Run.{IsTurnOf}
use Rattle.gix_odb_world.specs.Seats.{IsSeated}
use Rattle.gix_odb_world.specs.Told.{exchange_in, exchange_of, told_since, view_then}
use Rattle.gix_odb_history.specs.Turned.{is_done, is_turn_of, turns_handle}

-- ---- a look-up after one more exchange

pub behind-push : (setting : Setting) (look : LookUp) (exchanges : List Exchange) (exchange : Exchange)
    → behind setting look (exchanges ++ exchange ∷ []) ≡ fed setting (behind setting look exchanges) exchange.answer
behind-push setting look [] exchange = refl
behind-push setting look (one ∷ exchanges) exchange = behind-push setting (fed setting look one.answer) exchanges exchange

pub asked-push : (setting : Setting) (look : LookUp) (exchanges : List Exchange) (exchange : Exchange) → AreAsked setting look exchanges
    → ask_of (behind setting look exchanges) ≡ Some exchange.ask → AreAsked setting look (exchanges ++ exchange ∷ [])
asked-push setting look [] exchange asked is = (is, tt)
asked-push setting look (one ∷ exchanges) exchange asked is = (asked.0, asked-push setting (fed setting look one.answer) exchanges exchange asked.1 is)

-- ---- lists

drop-push : {A : Type 0} (xs : List A) (x : A) (n : ℕ) → n ≤ length xs → drop n (xs ++ x ∷ []) ≡ drop n xs ++ x ∷ []
drop-push [] x zero within = refl
drop-push [] x (suc n) within = absurd (omega (arith, within))
drop-push (y ∷ xs) x zero within = refl
drop-push (y ∷ xs) x (suc n) within = drop-push xs x n (omega (arith, within))

take-push : {A : Type 0} (xs : List A) (x : A) (n : ℕ) → n ≤ length xs → take n (xs ++ x ∷ []) ≡ take n xs
take-push [] x zero within = refl
take-push [] x (suc n) within = absurd (omega (arith, within))
take-push (y ∷ xs) x zero within = refl
take-push (y ∷ xs) x (suc n) within = ap (λ ys. y ∷ ys) (take-push xs x n (omega (arith, within)))

drop-all : {A : Type 0} (xs : List A) → drop (length xs) xs ≡ []
drop-all [] = refl
drop-all (x ∷ xs) = drop-all xs

-- ---- a turn of the handle, and any other step

both_true : (a b : Bool) → a ≡ true → b ≡ true → (a && b) ≡ true
both_true true b one two = two
both_true false b one two = absurd (false≢true one)

pub turned_by : (handle : ℕ) (e : Event) → IsTurnOf handle e → is_turn_of handle e ≡ true
turned_by handle e is = both_true (is_done e.outcome) (turns_handle handle e.step) is.done (ap (turns_handle handle) is.step ∙ same)
  where
    same : (handle == handle) ≡ true
    same = grind arith

turned_step : (handle : ℕ) (step : Step) → turns_handle handle step ≡ true → step ≡ steps.Turn handle
turned_step handle (steps.Turn other) is = ap steps.Turn (sym (eqb-true handle other is))
turned_step handle (steps.Open other path folders hash replacements options) is = absurd (false≢true is)
turned_step handle (steps.Clone other from) is = absurd (false≢true is)
turned_step handle (steps.Close other) is = absurd (false≢true is)
turned_step handle (steps.Never other) is = absurd (false≢true is)
turned_step handle (steps.Ignore other) is = absurd (false≢true is)
turned_step handle (steps.Start other call) is = absurd (false≢true is)
turned_step handle (steps.Disk change) is = absurd (false≢true is)

turn_by : (handle : ℕ) (e : Event) → is_turn_of handle e ≡ true → IsTurnOf handle e
turn_by handle e is =
    let both = and_parts (is_done e.outcome) (turns_handle handle e.step) is in
    record { step = turned_step handle e.step both.1; done = both.0 }

-- an event is a turn of a handle, or isn't
pub turn_or_not : (handle : ℕ) (e : Event) → IsTurnOf handle e ⊎ ¬ (IsTurnOf handle e)
turn_or_not handle e = by (is_turn_of handle e) refl
  where
    by : (b : Bool) → is_turn_of handle e ≡ b → IsTurnOf handle e ⊎ ¬ (IsTurnOf handle e)
    by true is = inl (turn_by handle e is)
    by false is = inr (λ turn. false≢true (sym is ∙ turned_by handle e turn))

pub not_turned : (handle : ℕ) (e : Event) → ¬ (IsTurnOf handle e) → is_turn_of handle e ≡ false
not_turned handle e never = by (is_turn_of handle e) refl
  where
    by : (b : Bool) → is_turn_of handle e ≡ b → is_turn_of handle e ≡ false
    by true is = absurd (never (turn_by handle e is))
    by false is = is

-- ---- the answers to it

module _ (events : List Event) (e : Event) (handle begun : ℕ) (since : begun ≤ length events) where
  abbrev whole : List Event
  whole = events ++ e ∷ []

  told-push : told_since whole handle begun ≡ told_since events handle begun ++ cons_option (exchange_in handle e) []
  unfolding told_since
  told-push =
      ap (filter_map (exchange_in handle)) (drop-push events e begun since)
      ∙ filter_map-append (exchange_in handle) (drop begun events) (e ∷ [])

  -- by its exchange, if there was one
  pub told_by : (o : Option Exchange) → exchange_in handle e ≡ o → told_since whole handle begun ≡ told_since events handle begun ++ cons_option o []
  told_by o is = told-push ∙ ap (λ x. told_since events handle begun ++ cons_option x []) is

  none_told : exchange_in handle e ≡ None → told_since whole handle begun ≡ told_since events handle begun
  none_told is = told_by None is ∙ append-nil (told_since events handle begun)

  -- an event that isn't its turn has no answer to it
  pub told_kept : ¬ (IsTurnOf handle e) → told_since whole handle begun ≡ told_since events handle begun
  told_kept other = none_told (ap (λ b. if b then exchange_of e.asked else None) (not_turned handle e other))

  -- its turn has what was asked and answered
  pub told_turn : IsTurnOf handle e → (asked : Asked) → e.asked ≡ asked → (exchange : Exchange) → exchange_of asked ≡ Some exchange
      → told_since whole handle begun ≡ told_since events handle begun ++ exchange ∷ []
  told_turn turn asked asked_is exchange is =
      told_by (Some exchange) (ap (λ b. if b then exchange_of e.asked else None) (turned_by handle e turn) ∙ (ap exchange_of asked_is ∙ is))

  pub told_none : IsTurnOf handle e → (asked : Asked) → e.asked ≡ asked → exchange_of asked ≡ None
      → told_since whole handle begun ≡ told_since events handle begun
  told_none turn asked asked_is is =
      none_told (ap (λ b. if b then exchange_of e.asked else None) (turned_by handle e turn) ∙ (ap exchange_of asked_is ∙ is))

  -- what it saw then stays the same
  pub view_kept : (core : ℕ) → view_then whole handle core begun ≡ view_then events handle core begun
  unfolding view_then
  view_kept core = ap (λ past. unwrap_or (snapshot_of handle (history_at (cores_after past) core).entries) unseen) (take-push events e begun since)

-- where it begins it was answered nothing
pub told_first : (events : List Event) (handle : ℕ) → told_since events handle (length events) ≡ []
unfolding told_since
told_first events handle = ap (filter_map (exchange_in handle)) (drop-all events)

pub view_first : (events : List Event) (handle core : ℕ)
    → view_then events handle core (length events) ≡ unwrap_or (snapshot_of handle (history_at (cores_after events) core).entries) unseen
unfolding view_then
view_first events handle core = ap (λ past. unwrap_or (snapshot_of handle (history_at (cores_after past) core).entries) unseen) (take-length events)

-- the snapshot of a handle that is seated is what it saw at the last event
pub snapshot_seen : (events : List Event) (e : Event) (handle : ℕ) (modes : Modes) → IsSeated (cores_after (events ++ e ∷ [])) handle modes
    → view_in_modes modes ≡ view_then (events ++ e ∷ []) handle modes.core (length events + 1)
snapshot_seen events e handle modes seated =
    let whole : List Event = events ++ e ∷ [] in
    let there : history_at (cores_after whole) modes.core ≡ seated.history = ap (λ o. unwrap_or o (opened 0 0 0 0)) seated.there in
    ap (λ v. unwrap_or v unseen) seated.snapshot
    ∙ (ap (λ (h : History). unwrap_or (snapshot_of handle h.entries) unseen) (sym there)
    ∙ (sym (view_first whole handle modes.core) ∙ ap (view_then whole handle modes.core) (length_push events e)))
