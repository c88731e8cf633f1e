-- Laws of runs about turns of a handle that are all pending, and about lines that finish a task.
use Rattle.std.proofs.Common.{◌≡◌, ◌≢◌, ℕ, zero, suc, ◌+◌, ◌-◌, ◌<◌, List, [], ◌∷◌, ◌++◌, length, map, Some, refl, sym, ap, ◌∙◌, subst, arith}
use Rattle.std.specs.Prelude.{slice_get}
use Rattle.std.specs.List.{AllByRecursion}
use Rattle.std.proofs.lemmas.List.{length_push}
use Rattle.std.proofs.lemmas.Option.{same_Some}
use Rattle.odb_disk.specs.MemDisk.{Volume}
use Rattle.gix_odb_calls.specs.declared.line.Line.{Line}
use Rattle.gix_odb_calls.specs.declared.line.Line.TheVariants.{One, Finish}
use Rattle.gix_odb_calls.specs.declared.step.Step.{Step}
use Rattle.gix_odb_calls.specs.declared.step.Step.TheVariants as steps
use Rattle.gix_odb_calls.specs.declared.step.Outcome.{Outcome}
use Rattle.gix_odb_calls.specs.declared.step.Outcome.TheVariants as outcomes
use Rattle.gix_odb_history.specs.Event.{Event}
use Rattle.gix_odb_world.specs.Headline.{IsLawful}
use Rattle.gix_odb_world.specs.Play.{Made, Plays, StandsFor, made_of}
use Rattle.gix_odb_world.proofs.HistoryLemmas.{slice_get-last}
use Rattle.gix_odb_world.proofs.PlayLemmas.{some_made}
use Rattle.gix_odb_world.specs.RunLaws.Pending.{AreInTime, AreLinesInTime, ArePending, FinishesInTime, IsLineInTime, IsPendingTurn}
use Rattle.gix_odb_world.proofs.RunLaws.KnownRun.{IsKnownRun}
use Rattle.gix_odb_world.proofs.RunLaws.PendingTurns.{in_time}

-- Turns of one handle that are all pending, one after another in a run, are fewer than the bound of the task that the handle is at, with those that
-- it took for the task before.
pub pending_turns_are_fewer_than_the_bound : (first : Volume) (events : List Event) → IsKnownRun first events → (handle from count : ℕ) → 0 < count
    → ArePending events handle from count → AreInTime first events handle from count
pending_turns_are_fewer_than_the_bound first events is handle from count some pending = in_time first events is.lawful handle from count pending some

-- ---- lists

get_left : {A : Type 0} (xs ys : List A) (i : ℕ) (x : A) → slice_get xs i ≡ Some x → slice_get (xs ++ ys) i ≡ Some x
get_left [] ys i x is = absurd (cc is)
get_left (z ∷ xs) ys zero x is = is
get_left (z ∷ xs) ys (suc i) x is = get_left xs ys i x is

get_right : {A : Type 0} (xs ys : List A) (i : ℕ) → slice_get (xs ++ ys) (length xs + i) ≡ slice_get ys i
get_right [] ys i = let same : 0 + i ≡ i = omega arith in ap (slice_get ys) same
get_right (z ∷ xs) ys i = let next : suc (length xs) + i ≡ suc (length xs + i) = omega arith in ap (slice_get ((z ∷ xs) ++ ys)) next ∙ get_right xs ys i

-- ---- steps that were made, and events

-- the step of an event, and its outcome
abbrev made_in : Event → Made
made_in e = record { step = e.step; outcome = e.outcome }

made_of_events : (events : List Event) → made_of (map (λ (e : Event). e.step) events) (map (λ (e : Event). e.outcome) events) ≡ map made_in events
unfolding made_of
made_of_events [] = refl
made_of_events (e ∷ events) = ap (λ (ms : List Made). made_in e ∷ ms) (made_of_events events)

-- an event and what was made there, by its place
record IsMadeAt (events : List Event) (place : ℕ) (m : Made) : Type 0 where
  event : Event
  there : slice_get events place ≡ Some event
  is : m ≡ made_in event

made_at : (events : List Event) (i : ℕ) (m : Made) → slice_get (map made_in events) i ≡ Some m → IsMadeAt events i m
made_at [] i m is = absurd (cc is)
made_at (e ∷ events) zero m is = record { event = e; there = refl; is = sym (same_Some (made_in e) m is) }
made_at (e ∷ events) (suc i) m is =
    let rest : IsMadeAt events i m = made_at events i m is in
    record { event = rest.event; there = rest.there; is = rest.is }

all_at : (P : Made → Type 0) (ms : List Made) → AllByRecursion P ms → (i : ℕ) → i < length ms → (m : Made) × (slice_get ms i ≡ Some m) × P m
all_at P [] all i within = absurd (omega (arith, within))
all_at P (m ∷ ms) all zero within = (m, refl, all.0)
all_at P (m ∷ ms) all (suc i) within = all_at P ms all.1 i (omega (arith, within))

-- ---- lines

module _ (first : Volume) (events : List Event) (lawful : IsLawful first events) where
  -- what was made are the events from a place on
  abbrev AreMade : ℕ → List Made → Type 0
  AreMade place made = (i : ℕ) (m : Made) → slice_get made i ≡ Some m → IsMadeAt events (place + i) m

  made_left : (place : ℕ) (own others made : List Made) → made ≡ own ++ others → AreMade place made → AreMade place own
  made_left place own others made is all i m there = all i m (ap (λ (ms : List Made). slice_get ms i) is ∙ get_left own others i m there)

  made_right : (place : ℕ) (own others made : List Made) → made ≡ own ++ others → AreMade place made → AreMade (place + length own) others
  made_right place own others made is all i m there =
      let at : IsMadeAt events (place + (length own + i)) m =
      all (length own + i) m (ap (λ (ms : List Made). slice_get ms (length own + i)) is ∙ get_right own others i ∙ there) in
      let same : place + (length own + i) ≡ place + length own + i = omega arith in
      subst (λ (n : ℕ). IsMadeAt events n m) same at

  module _ (place handle : ℕ) (before : List Made) (outcome : Outcome) (own : List Made) (is : own ≡ before ++ record { step = steps.Turn handle; outcome = outcome } ∷ [])
      (each : AllByRecursion (λ (m : Made). (m.step ≡ steps.Turn handle) × (m.outcome ≡ outcomes.Pending)) before) (all : AreMade place own) where
    abbrev last : Made
    last = record { step = steps.Turn handle; outcome = outcome }

    pending_at : (i : ℕ) → i < length before → IsPendingTurn events handle (place + i)
    pending_at i within =
        let found = all_at (λ (m : Made). (m.step ≡ steps.Turn handle) × (m.outcome ≡ outcomes.Pending)) before each i within in
        let at : IsMadeAt events (place + i) found.0 =
        all i found.0 (ap (λ (ms : List Made). slice_get ms i) is ∙ get_left before (last ∷ []) i found.0 found.1) in
        record {
          event = at.event;
          there = at.there;
          step = sym (ap (λ (m : Made). m.step) at.is) ∙ found.2.0;
          pending = sym (ap (λ (m : Made). m.outcome) at.is) ∙ found.2.1;
        }

    are_pending : ArePending events handle place (length before)
    are_pending at from to =
        let here : place + (at - place) ≡ at = omega (arith, from, to) in
        subst (IsPendingTurn events handle) here (pending_at (at - place) (omega (arith, from, to)))

    last_at : IsMadeAt events (place + length before) last
    last_at = all (length before) last (ap (λ (ms : List Made). slice_get ms (length before)) is ∙ slice_get-last before last)

    finishes : outcome ≢ outcomes.Pending → (to : ℕ) → to ≡ place + length own - 1 → FinishesInTime first events handle place to
    finishes ended to to_is =
        let long : length own ≡ length before + 1 = ap length is ∙ length_push before last in
        let here : to ≡ place + length before = omega (arith, to_is, long) in
        let at : IsMadeAt events (place + length before) last = last_at in
        record {
          count = length before;
          long = here;
          pending = are_pending;
          last = at.event;
          there = ap (slice_get events) here ∙ at.there;
          turn = sym (ap (λ (m : Made). m.step) at.is);
          ends = λ pending. ended (ap (λ (m : Made). m.outcome) at.is ∙ pending);
          in_time = in_time first events lawful handle place (length before) are_pending;
        }

  line_in_time : (place : ℕ) (line : Line) (own : List Made) → StandsFor line own → AreMade place own → (to : ℕ) → to ≡ place + length own - 1
      → IsLineInTime first events place to line
  line_in_time place (One step) own stands all to to_is =
      let one : length own ≡ 1 = ap length stands.1 in
      let same : to ≡ place = omega (arith, to_is, one) in
      same
  line_in_time place (Finish handle) own stands all to to_is = finishes place handle stands.0 stands.1 own stands.2 stands.3 all stands.4 to to_is

  lines_in_time : (place : ℕ) (lines : List Line) (made : List Made) (last : List ℕ) → Plays place lines made last → AreMade place made
      → AreLinesInTime first events place lines last
  lines_in_time place [] made last plays all = tt
  lines_in_time place (line ∷ lines) made last plays all =
      let own : List Made = plays.0 in
      let others : List Made = plays.1 in
      let some = some_made line own plays.3 in
      let next : place + length own ≡ place + length own - 1 + 1 = omega (arith, some) in
      let both : AreLinesInTime first events place (line ∷ lines) ((place + length own - 1) ∷ plays.2) = (
        line_in_time place line own plays.3 (made_left place own others made plays.4 all) (place + length own - 1) refl,
        subst (λ (n : ℕ). AreLinesInTime first events n lines plays.2) next
            (lines_in_time (place + length own) lines others plays.2 plays.6 (made_right place own others made plays.4 all)),
      ) in
      subst (AreLinesInTime first events place (line ∷ lines)) (sym plays.5) both

all_made : (events : List Event) (made : List Made) → made ≡ map made_in events → (i : ℕ) (m : Made) → slice_get made i ≡ Some m → IsMadeAt events (0 + i) m
all_made events made is i m there =
    let same : i ≡ 0 + i = omega arith in
    subst (λ (n : ℕ). IsMadeAt events n m) same (made_at events i m (ap (λ (ms : List Made). slice_get ms i) (sym is) ∙ there))

-- Each line of a script that is played and finishes a task ends in time: the pending turns for which it stands are fewer than the bound
-- of the handle's task.
pub lines_are_finished_in_time : (first : Volume) (events : List Event) → IsLawful first events → (made : List Step) → map (λ (e : Event). e.step) events ≡ made
    → (came : List Outcome) → map (λ (e : Event). e.outcome) events ≡ came → (lines : List Line) (last : List ℕ)
    → Plays 0 lines (made_of made came) last → AreLinesInTime first events 0 lines last
lines_are_finished_in_time first events lawful made steps came ends lines last plays =
    let is : made_of made came ≡ map made_in events =
    ap (λ (s : List Step). made_of s came) (sym steps)
    ∙ ap (made_of (map (λ (e : Event). e.step) events)) (sym ends)
    ∙ made_of_events events in
    lines_in_time first events lawful 0 lines (made_of made came) last plays (all_made events (made_of made came) is)
