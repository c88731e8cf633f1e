-- Plays: lines stand for the steps that were made, one line after another.
use Rattle.std.proofs.Common.{◌≡◌, ◌≢◌, ℕ, ◌+◌, ◌-◌, ◌<◌, List, [], ◌∷◌, ◌++◌, Result, Ok, Err, length, map, take, get_or, refl, sym, ◌∙◌, ap, subst, arith}
use Rattle.std.specs.Prelude.{OnOk}
use Rattle.std.specs.List.{AllByRecursion}
use Rattle.std.proofs.lemmas.List.{append-nil, append_assoc, length-append, length-map, map-append, take_more}
use Rattle.odb_disk.specs.MemDisk.{Volume}
use Rattle.gix_odb_calls.specs.declared.step.Step.{Step}
use Rattle.gix_odb_calls.specs.declared.step.Step.TheVariants.{Turn}
use Rattle.gix_odb_calls.specs.declared.step.Outcome.{Outcome}
use Rattle.gix_odb_calls.specs.declared.step.Outcome.TheVariants.{Pending}
use Rattle.gix_odb_calls.specs.declared.line.Line.{Line}
use Rattle.gix_odb_calls.specs.declared.line.Line.TheVariants.{One, Finish}
use Rattle.gix_odb_world.specs.declared.course.Course.{Course}
use Rattle.gix_odb_history.specs.Event.{Event}
use Rattle.gix_odb_world.specs.Play.{Made, StandsFor, Plays, made_of}
use Rattle.gix_odb_world.specs.Played.{Makes, MakesOne, PlaysTurns, PlaysLine, HasPlayed}
use Rattle.gix_odb_world.specs.Table.{HasOneMore}
use Rattle.gix_odb_world.specs.World.{Continues, Explains, IsRunOf}
use Rattle.gix_odb_world.proofs.StepLemmas.{IsRunOf-push}

-- ---- steps made one after another

makes_none : (world : Course) (steps : List Step) → Makes world world steps steps []
makes_none world made =
    record {
      outcomes = sym (append-nil world.outcomes);
      steps = sym (append-nil made);
      runs = λ first before run. subst (λ steps. IsRunOf first steps world) (sym (append-nil before)) run;
    }

makes_more : (old mid new : Course) (begun between made : List Step) (own other : List Made) → Makes old mid begun between own → Makes mid new between made other
    → Makes old new begun made (own ++ other)
makes_more old mid new begun between made own other one two =
    record {
      steps = two.steps ∙ (ap (λ s. s ++ map (λ (m : Made). m.step) other) one.steps
          ∙ (append_assoc begun (map (λ (m : Made). m.step) own) (map (λ (m : Made). m.step) other)
          ∙ ap (λ s. begun ++ s) (sym (map-append (λ (m : Made). m.step) own other))));
      outcomes = two.outcomes ∙ (ap (λ s. s ++ map (λ (m : Made). m.outcome) other) one.outcomes
          ∙ (append_assoc old.outcomes (map (λ (m : Made). m.outcome) own) (map (λ (m : Made). m.outcome) other)
          ∙ ap (λ s. old.outcomes ++ s) (sym (map-append (λ (m : Made). m.outcome) own other))));
      runs = λ first before run. subst (λ steps. IsRunOf first steps new)
          (append_assoc before (map (λ (m : Made). m.step) own) (map (λ (m : Made). m.step) other) ∙ ap (λ s. before ++ s) (sym (map-append (λ (m : Made). m.step) own other)))
          (two.runs first (before ++ map (λ (m : Made). m.step) own) (one.runs first before run));
    }

all_push : {A : Type 0} (P : A → Type 0) (xs : List A) (x : A) → AllByRecursion P xs → P x → AllByRecursion P (xs ++ x ∷ [])
all_push P [] x all here = (here, tt)
all_push P (y ∷ xs) x all here = (all.0, all_push P xs x all.1 here)

pub turns_none : (world : Course) (steps : List Step) (handle : ℕ) → PlaysTurns world world steps steps handle
turns_none world steps handle = record { own = []; pending = tt; makes = makes_none world steps }

-- one more pending turn
pub turns_more : (old mid new : Course) (begun between made : List Step) (handle : ℕ) → PlaysTurns old mid begun between handle
    → (one : MakesOne mid new between made (Turn handle)) → one.outcome ≡ Pending → PlaysTurns old new begun made handle
turns_more old mid new begun between made handle turns one pending =
    record {
      own = turns.own ++ record { step = Turn handle; outcome = one.outcome } ∷ [];
      pending = all_push (λ (m : Made). (m.step ≡ Turn handle) × (m.outcome ≡ Pending)) turns.own (record { step = Turn handle; outcome = one.outcome }) turns.pending (refl, pending);
      makes = makes_more old mid new begun between made turns.own (record { step = Turn handle; outcome = one.outcome } ∷ []) turns.makes one.makes;
    }

-- the last turn
pub turns_end : (old mid new : Course) (begun between made : List Step) (handle : ℕ) → PlaysTurns old mid begun between handle
    → (one : MakesOne mid new between made (Turn handle)) → one.outcome ≢ Pending → PlaysLine old new begun made (Finish handle)
turns_end old mid new begun between made handle turns one ended =
    record {
      own = turns.own ++ record { step = Turn handle; outcome = one.outcome } ∷ [];
      stands = (turns.own, one.outcome, refl, turns.pending, ended);
      makes = makes_more old mid new begun between made turns.own (record { step = Turn handle; outcome = one.outcome } ∷ []) turns.makes one.makes;
    }

pub plays_one : (old new : Course) (begun made : List Step) (step : Step) → MakesOne old new begun made step → PlaysLine old new begun made (One step)
plays_one old new begun made step one =
    record { own = record { step = step; outcome = one.outcome } ∷ []; stands = (one.outcome, refl); makes = one.makes }

-- a step that was made
pub makes_one : (old new : Course) (begun made : List Step) (step : Step) → made ≡ begun ++ step ∷ [] → HasOneMore old new → Continues old step new
    → MakesOne old new begun made step
makes_one old new begun made step pushed more continues =
    record {
      outcome = more.0;
      makes = record {
        outcomes = more.1;
        steps = pushed;
        runs = λ first before run. IsRunOf-push first old new before step continues run;
      };
    }

-- a step that was made, where memory did not run out
pub made_one : {T E : Type 0} (old new : Course) (begun made : List Step) (step : Step) (result : Result T E) → made ≡ begun ++ step ∷ []
    → OnOk result (HasOneMore old new) → OnOk result (Continues old step new) → OnOk result (MakesOne old new begun made step)
made_one old new begun made step (Ok value) pushed more continues = makes_one old new begun made step pushed more continues
made_one old new begun made step (Err error) pushed more continues = tt

-- ---- lines one after another

-- a line stands for at least one step
pub some_made : (line : Line) (own : List Made) → StandsFor line own → 0 < length own
some_made (One step) own stands = omega (arith, ap length stands.1)
some_made (Finish handle) own stands = omega (arith, ap length stands.2, length-append stands.0 (record { step = Turn handle; outcome = stands.1 } ∷ []))

plays_more : (place : ℕ) (lines : List Line) (line : Line) (made own : List Made) (last : List ℕ) (at : ℕ) → at ≡ place + length made + length own - 1
    → Plays place lines made last → StandsFor line own → Plays place (lines ++ line ∷ []) (made ++ own) (last ++ at ∷ [])
plays_more place [] line made own last at at_is plays stands =
    let none : length made ≡ 0 = ap length plays.0 in
    let here : at ≡ place + length own - 1 = omega arith in
    (own, [], [], stands, ap (λ m. m ++ own) plays.0 ∙ sym (append-nil own), ap (λ l. l ++ at ∷ []) plays.1 ∙ ap (λ n. n ∷ []) here, (refl, refl))
plays_more place (first ∷ lines) line made own last at at_is plays stands =
    let o : List Made = plays.0 in
    let others : List Made = plays.1 in
    let rest : List ℕ = plays.2 in
    let whole : length made ≡ length o + length others = ap length plays.4 ∙ length-append o others in (
      o,
      others ++ own,
      rest ++ at ∷ [],
      plays.3,
      ap (λ m. m ++ own) plays.4 ∙ append_assoc o others own,
      ap (λ l. l ++ at ∷ []) plays.5,
      plays_more (place + length o) lines line others own rest at (omega arith) plays.6 stands,
    )

made_of-map : (own : List Made) → made_of (map (λ m. m.step) own) (map (λ m. m.outcome) own) ≡ own
unfolding made_of
made_of-map [] = refl
made_of-map (m ∷ own) = ap (λ ms. m ∷ ms) (made_of-map own)

made_of-append : (steps : List Step) (outcomes : List Outcome) (own : List Made) → length steps ≡ length outcomes
    → made_of (steps ++ map (λ m. m.step) own) (outcomes ++ map (λ m. m.outcome) own) ≡ made_of steps outcomes ++ own
unfolding made_of
made_of-append [] [] own same = made_of-map own
made_of-append [] (outcome ∷ outcomes) own same = absurd (omega arith)
made_of-append (step ∷ steps) [] own same = absurd (omega arith)
made_of-append (step ∷ steps) (outcome ∷ outcomes) own same = ap (λ ms. record { step = step; outcome = outcome } ∷ ms) (made_of-append steps outcomes own (omega arith))

length-made_of : (steps : List Step) (outcomes : List Outcome) → length steps ≡ length outcomes → length (made_of steps outcomes) ≡ length steps
unfolding made_of
length-made_of [] outcomes same = refl
length-made_of (step ∷ steps) [] same = absurd (omega arith)
length-made_of (step ∷ steps) (outcome ∷ outcomes) same = omega (arith, length-made_of steps outcomes (omega arith))

-- one outcome for each step
run_even : (first : Volume) (steps : List Step) (world : Course) → IsRunOf first steps world → length steps ≡ length world.outcomes
run_even first steps world run =
    ap length (sym run.steps_are) ∙ (length-map run.events (λ (e : Event). e.step) ∙ (sym (length-map run.events (λ (e : Event). e.outcome)) ∙ ap length run.explains.outcomes))

pub has_played_none : (first : Volume) (world : Course) (last : List ℕ) → last ≡ [] → Explains first [] world → HasPlayed first [] [] last world
unfolding made_of
has_played_none first world last no_last explains =
    record {
      run = record { events = []; steps_are = refl; explains = explains };
      plays = (refl, no_last);
    }

-- a line has at least one outcome
pub some_outcome : (old new : Course) (begun made : List Step) (line : Line) → PlaysLine old new begun made line → 0 < length new.outcomes
some_outcome old new begun made line own =
    omega (
      arith,
      ap length own.makes.outcomes,
      length-append old.outcomes (map (λ (m : Made). m.outcome) own.own),
      length-map own.own (λ (m : Made). m.outcome),
      some_made line own.own own.stands,
    )

pub has_played_more : (first : Volume) (old new : Course) (before now : List Step) (line : Line) (lines : List Line) (index : ℕ) (last : List ℕ) (at : ℕ)
    → index < length lines → line ≡ get_or lines index line → at ≡ length new.outcomes - 1 → PlaysLine old new before now line
    → HasPlayed first (take index lines) before last old → HasPlayed first (take (index + 1) lines) now (last ++ at ∷ []) new
has_played_more first old new before now line lines index last at within is at_is own played =
    let after : List Step = before ++ map (λ (m : Made). m.step) own.own in
    let even : length before ≡ length old.outcomes = run_even first before old played.run in
    let longer : length new.outcomes ≡ length old.outcomes + length own.own = ap length own.makes.outcomes
    ∙ (length-append old.outcomes (map (λ (m : Made). m.outcome) own.own) ∙ ap (λ n. length old.outcomes + n) (length-map own.own (λ (m : Made). m.outcome))) in
    let place : at ≡ 0 + length (made_of before old.outcomes) + length own.own - 1 = omega (arith, length-made_of before old.outcomes even) in
    let made : made_of after new.outcomes ≡ made_of before old.outcomes ++ own.own =
    ap (λ o. made_of after o) own.makes.outcomes ∙ made_of-append before old.outcomes own.own even in
    let seen : take (index + 1) lines ≡ take index lines ++ line ∷ [] = take_more lines index line within ∙ ap (λ l. take index lines ++ l ∷ []) (sym is) in
    subst (λ s. HasPlayed first (take (index + 1) lines) s (last ++ at ∷ []) new) (sym own.makes.steps) (record {
      run = own.makes.runs first before played.run;
      plays = subst (λ ls. Plays 0 ls (made_of after new.outcomes) (last ++ at ∷ [])) (sym seen)
          (subst (λ ms. Plays 0 (take index lines ++ line ∷ []) ms (last ++ at ∷ [])) (sym made)
          (plays_more 0 (take index lines) line (made_of before old.outcomes) own.own last at place played.plays own.stands));
    })
