-- How many laps a look-up has left: each begins after a count of the lists that others published, which is then greater than before.
use Rattle.std.proofs.Common.{◌≡◌, ℕ, ◌+◌, ◌-◌, ◌*◌, ◌≤◌, ◌<◌, min, Option, Some, None, unwrap_or, Ok, Err, refl, subst, arith}
use Rattle.std.proofs.Math.Nat.{mul-le-mul_right}
use Rattle.gix_odb_events.specs.View.{last_state}
use Rattle.gix_odb_events.specs.declared.event.Effect.TheVariants as effects
use Rattle.gix_odb_events.specs.declared.view.View.{View}
use Rattle.gix_odb_events.specs.declared.answer.Answer.{Answer}
use Rattle.gix_odb_events.specs.declared.answer.Answer.TheVariants as told
use Rattle.gix_odb_events.specs.declared.answer.Ask.{Ask}
use Rattle.gix_odb_events.specs.declared.answer.Ask.TheVariants as asks
use Rattle.gix_odb.specs.LookExchanges.{IsAnswerTo}
use Rattle.gix_odb.specs.Laps.{IsNumbered, number_by}
use Rattle.gix_odb.specs.LookUpOrder.{first_of, seen, view_of, with_own}
use Rattle.gix_odb.specs.declared.look_up.LookHead.{LookHead}

-- ---- numbers never fall

pub rises : (slots before : ℕ) (ask : Ask) (answer : Answer) → IsAnswerTo ask answer → IsNumbered slots before ask answer → before ≤ number_by before answer
rises slots before (asks.Disk ask) (told.Disk answer) suits numbered = omega arith
rises slots before (asks.Disk ask) (told.Core answer) suits numbered = absurd suits
rises slots before (asks.Core event) (told.Disk answer) suits numbered = absurd suits
rises slots before (asks.Core event) (told.Core answer) suits numbered = numbered.0
rises slots before (asks.NewCore core_slots folders) (told.Disk answer) suits numbered = absurd suits
rises slots before (asks.NewCore core_slots folders) (told.Core answer) suits numbered = numbered

first_below : (before now : ℕ) (begun : Option ℕ) → unwrap_or begun 0 ≤ before → before ≤ now → unwrap_or (first_of begun None) 0 ≤ now
first_below before now (Some number) below later = omega arith
first_below before now None below later = omega arith

first_at : (before : ℕ) (view : View) (begun : Option ℕ) → unwrap_or begun 0 ≤ before → before ≤ view.list_no
    → unwrap_or (first_of begun (Some view)) 0 ≤ view.list_no
first_at before view (Some number) below later = omega arith
first_at before view None below later = omega arith

first_is_below : (before : ℕ) (begun : Option ℕ) (answer : Answer) → unwrap_or begun 0 ≤ before → before ≤ number_by before answer
    → unwrap_or (first_of begun (view_of answer)) 0 ≤ number_by before answer
first_is_below before begun (told.Disk answer) below later = first_below before before begun below later
first_is_below before begun (told.Core (Err refusal)) below later = first_below before before begun below later
first_is_below before begun (told.Core (Ok (effects.Seen view))) below later = first_at before view begun below later
first_is_below before begun (told.Core (Ok (effects.Reported view report))) below later = first_at before view begun below later
first_is_below before begun (told.Core (Ok (effects.Put view stored))) below later = first_at before view begun below later
first_is_below before begun (told.Core (Ok (effects.Published view))) below later = first_at before view begun below later
first_is_below before begun (told.Core (Ok (effects.Unchanged view))) below later = first_at before view begun below later
first_is_below before begun (told.Core (Ok effects.Removed)) below later = first_below before before begun below later
first_is_below before begun (told.Core (Ok (effects.Outdated number))) below later = first_below before number begun below later

-- ---- laps

-- a lap that is begun is one less that is left
one_lap : (fewer laps lap : ℕ) → fewer + 1 ≤ laps → lap + fewer * lap ≤ laps * lap
one_lap fewer laps lap less = let more : (fewer + 1) * lap ≤ laps * lap = mul-le-mul_right lap less in omega (arith, more)

-- the first lap: so many turns, and one more lap than changes that may be met, are left
pub record IsFirst (most lap : ℕ) (head : LookHead) (before room turns : ℕ) : Type 0 where
  pub own : head.own ≡ 0
  pub begun : unwrap_or head.begun 0 ≤ before
  pub enough : room + (most + 1) * lap ≤ turns

-- Another lap: after a list of a number, so many turns and so many laps are left. The lists of others up to it are those after the
-- first one that are not the look-up's own.
pub record IsFurther (most lap : ℕ) (head : LookHead) (number before room turns : ℕ) : Type 0 where
  pub begun : ℕ
  pub begins : head.begun ≡ Some begun
  pub met : begun + head.own ≤ number
  pub told : number ≤ before
  pub laps : ℕ
  pub few : most ≤ laps + (number - begun - head.own)
  pub enough : room + laps * lap ≤ turns

first_stays : (begun : Option ℕ) (number : ℕ) (view : Option View) → begun ≡ Some number → first_of begun view ≡ Some number
first_stays (Some first) number view is = is
first_stays None number view is = absurd (cc is)

first_number : (begun : Option ℕ) (before : ℕ) (view : View) → unwrap_or begun 0 ≤ before → before ≤ view.list_no
    → (number : ℕ) × (first_of begun (Some view) ≡ Some number) × (number ≤ view.list_no)
first_number (Some number) before view below later = (number, refl, omega arith)
first_number None before view below later = (view.list_no, refl, omega arith)

below_top : (own number top : ℕ) → own + 1 ≤ number → number ≤ top → min (own + 1) top ≡ own + 1
below_top own number top low high = omega arith

module _ {most lap : ℕ} {head : LookHead} {before room turns less left : ℕ} where
  -- ---- the first lap

  -- fewer turns are needed of the first lap
  pub IsFirst-less : IsFirst most lap head before room turns → less + turns ≤ room + left → IsFirst most lap head before less left
  IsFirst-less first spent = record { own = first.own; begun = first.begun; enough = omega (arith, first.enough) }

  -- it is still the first lap after an answer
  pub IsFirst-on : (answer : Answer) → IsFirst most lap head before room turns → before ≤ number_by before answer → less + turns ≤ room + left
      → IsFirst most lap (seen head answer) (number_by before answer) less left
  IsFirst-on answer first later spent =
      record {
        own = first.own;
        begun = first_is_below before head.begun answer first.begun later;
        enough = omega (arith, first.enough);
      }

  -- the core's list is known, and after it come as many laps as changes may be met, and one
  pub IsFurther-begun : (view : View) → IsFirst most lap head before room turns → before ≤ view.list_no → less + turns ≤ room + lap + left
      → IsFurther most lap (record head { begun = first_of head.begun (Some view) }) view.list_no view.list_no less left
  IsFurther-begun view first later spent =
      let number = first_number head.begun before view first.begun later in
      record {
        begun = number.0;
        begins = number.1;
        met = omega (arith, first.own, number.2);
        told = omega arith;
        laps = most;
        few = omega arith;
        enough = omega (arith, first.enough);
      }

module _ {most lap : ℕ} {head : LookHead} {number before room turns less left : ℕ} where
  -- ---- other laps

  -- fewer turns are needed of another lap
  pub IsFurther-less : IsFurther most lap head number before room turns → less + turns ≤ room + left → IsFurther most lap head number before less left
  IsFurther-less further spent =
      record {
        begun = further.begun;
        begins = further.begins;
        met = further.met;
        told = further.told;
        laps = further.laps;
        few = further.few;
        enough = omega (arith, further.enough);
      }

  -- it is still that lap after an answer
  pub IsFurther-on : (answer : Answer) (now : ℕ) → IsFurther most lap head number before room turns → before ≤ now → less + turns ≤ room + left
      → IsFurther most lap (seen head answer) number now less left
  IsFurther-on answer now further later spent =
      record {
        begun = further.begun;
        begins = first_stays head.begun further.begun (view_of answer) further.begins;
        met = further.met;
        told = omega (arith, further.told);
        laps = further.laps;
        few = further.few;
        enough = omega (arith, further.enough);
      }

  -- a later number is as good, where the folders are listed again
  pub IsFurther-later : (now : ℕ) → IsFurther most lap head number before room turns → number ≤ now → less + turns ≤ room + left
      → IsFurther most lap head now now less left
  IsFurther-later now further later spent =
      record {
        begun = further.begun;
        begins = further.begins;
        met = omega (arith, further.met);
        told = omega arith;
        laps = further.laps;
        few = omega (arith, further.few);
        enough = omega (arith, further.enough);
      }

  -- a list that the look-up published is its own
  pub IsFurther-published : (now : ℕ) → IsFurther most lap head number before room turns → now ≡ number + 1 → now ≤ last_state → less + turns ≤ room + left
      → IsFurther most lap (with_own head) now now less left
  IsFurther-published now further is within spent =
      let own : min (head.own + 1) last_state ≡ head.own + 1 = below_top head.own now last_state (omega (arith, further.met)) within in
      record {
        begun = further.begun;
        begins = further.begins;
        met = omega (arith, further.met, own);
        told = omega arith;
        laps = further.laps;
        few = omega (arith, further.met, further.few, own);
        enough = omega (arith, further.enough);
      }

  -- the look-up goes on after a count of the lists of others: one lap less is left
  pub IsFurther-counted : (now : ℕ) → IsFurther most lap head number before room turns → number < now → now - unwrap_or head.begun now - head.own ≤ most
      → less + turns ≤ room + lap + left
      → IsFurther most lap head now now less left
  IsFurther-counted now further risen settled spent =
      let within : now - further.begun - head.own ≤ most =
      subst (λ (begun : Option ℕ). now - unwrap_or begun now - head.own ≤ most) further.begins settled
      in
      let laps : ℕ = most - (now - further.begun - head.own) in
      let less_laps : laps + 1 ≤ further.laps = omega (arith, further.met, further.few) in
      record {
        begun = further.begun;
        begins = further.begins;
        met = omega (arith, further.met);
        told = omega arith;
        laps = laps;
        few = omega arith;
        enough = omega (arith, further.enough, one_lap laps further.laps lap less_laps);
      }
