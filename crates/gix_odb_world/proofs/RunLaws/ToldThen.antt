-- The disk's answers to a handle were what the disk answered at a moment since its task was set.
use Rattle.std.proofs.Common.{◌≡◌, inl, inr, ℕ, suc, ◌+◌, ◌<◌, ◌≤◌, Bool, true, false, List, [], ◌∷◌, take, drop, Contains, Option, Some, None, refl, sym, ap, ◌∙◌, arith}
use Rattle.std.specs.Prelude.{slice_get, if◌then◌else◌}
use Rattle.std.specs.List.{cons_option, filter_map}
use Rattle.odb_disk.specs.Ask.{answer_now}
use Rattle.odb_disk.specs.MemDisk.{Volume}
use Rattle.odb_disk.specs.declared.ask.DiskAnswer.{DiskAnswer}
use Rattle.odb_disk.specs.declared.ask.DiskAsk.{DiskAsk}
use Rattle.gix_odb_events.specs.declared.answer.Answer.TheVariants as told
use Rattle.gix_odb_events.specs.declared.answer.Ask.TheVariants as parts
use Rattle.gix_odb_search.proofs.ReachLemmas.{first_or_later, none_in}
use Rattle.gix_odb.specs.LookExchanges.{Exchange, WasTold}
use Rattle.gix_odb_history.specs.Event.{Event}
use Rattle.gix_odb_history.specs.Run.{IsTurnOf, disk_after}
use Rattle.gix_odb_world.specs.Told.{exchange_in, exchange_of, told_since}
use Rattle.gix_odb_history.specs.Turned.{is_turn_of}
use Rattle.gix_odb_world.proofs.RunSteps.Fronts.{there_in_whole}
use Rattle.gix_odb_world.proofs.RunLaws.JustRead.{answered_then, asked_of, is_turn, nth_drop}
use Rattle.gix_odb_world.proofs.RunLaws.KnownRun.{IsKnownRun}

-- ---- lists

-- an event of a list gives an exchange
record Gives (f : Event → Option Exchange) (xs : List Event) (x : Exchange) : Type 0 where
  place : ℕ
  event : Event
  there : slice_get xs place ≡ Some event
  gives : f event ≡ Some x

later : (f : Event → Option Exchange) (e : Event) (xs : List Event) (x : Exchange) → Gives f xs x → Gives f (e ∷ xs) x
later f e xs x found = record { place = suc found.place; event = found.event; there = found.there; gives = found.gives }

found_by : (f : Event → Option Exchange) (e : Event) (xs : List Event) (x : Exchange) → (Contains (filter_map f xs) x → Gives f xs x) → (o : Option Exchange) → f e ≡ o
    → Contains (cons_option o (filter_map f xs)) x → Gives f (e ∷ xs) x
found_by f e xs x rest None is among = later f e xs x (rest among)
found_by f e xs x rest (Some y) is among =
    elim (first_or_later y (filter_map f xs) x among) [
      | inl same ↦ record { place = 0; event = e; there = refl; gives = is ∙ ap (λ (z : Exchange). Some z) same }
      | inr behind ↦ later f e xs x (rest behind)
    ]

found_in : (f : Event → Option Exchange) (xs : List Event) (x : Exchange) → Contains (filter_map f xs) x → Gives f xs x
found_in f [] x among = absurd (none_in x among)
found_in f (e ∷ xs) x among = found_by f e xs x (found_in f xs x) (f e) refl among

if_turned : (b : Bool) (o : Option Exchange) (x : Exchange) → (if b then o else None) ≡ Some x → o ≡ Some x
if_turned true o x is = is
if_turned false o x is = absurd (cc is)

-- ---- in a run

-- a turn of the handle had an exchange
pub record ToldBy (events : List Event) (begun now handle : ℕ) (x : Exchange) : Type 0 where
  pub place : ℕ
  pub from : begun ≤ place
  pub before : place < now
  pub event : Event
  pub there : slice_get events place ≡ Some event
  pub turn : IsTurnOf handle event
  pub gave : exchange_of event.asked ≡ Some x

turned_if : (b : Bool) (o : Option Exchange) (x : Exchange) → (if b then o else None) ≡ Some x → b ≡ true
turned_if true o x is = refl
turned_if false o x is = absurd (cc is)

given_by : (events : List Event) (begun now handle : ℕ) (x : Exchange) → Contains (told_since (take now events) handle begun) x
    → Gives (exchange_in handle) (drop begun (take now events)) x
unfolding told_since
given_by events begun now handle x among = found_in (exchange_in handle) (drop begun (take now events)) x among

-- each answer to a handle since an event was given in a turn since then
pub told_by_turn : (events : List Event) (begun now handle : ℕ) (x : Exchange) → Contains (told_since (take now events) handle begun) x → ToldBy events begun now handle x
told_by_turn events begun now handle x among =
    let found = given_by events begun now handle x among in
    let at = there_in_whole events (begun + found.place) now found.event (sym (nth_drop begun (take now events) found.place) ∙ found.there) in
    record {
      place = begun + found.place;
      from = omega arith;
      before = at.0;
      event = found.event;
      there = at.1;
      turn = is_turn handle found.event (turned_if (is_turn_of handle found.event) (exchange_of found.event.asked) x found.gives);
      gave = if_turned (is_turn_of handle found.event) (exchange_of found.event.asked) x found.gives;
    }

-- the disk gave this answer after the first so many events
pub record WasAnswered (first : Volume) (events : List Event) (begun now : ℕ) (ask : DiskAsk) (answer : DiskAnswer) : Type 0 where
  pub moment : ℕ
  pub from : begun ≤ moment
  pub before : moment < now
  pub answered : answer_now (disk_after first (take moment events)) ask ≡ answer

module _ (first : Volume) (events : List Event) (is : IsKnownRun first events) (place handle begun : ℕ) (ask : DiskAsk) (answer : DiskAnswer) where
  pub told_then : WasTold (told_since (take place events) handle begun) (parts.Disk ask) (told.Disk answer) → WasAnswered first events begun place ask answer
  told_then among =
      let by = told_by_turn events begun place handle (record { ask = parts.Disk ask; answer = told.Disk answer }) among in
      record {
        moment = by.place;
        from = by.from;
        before = by.before;
        answered = answered_then first events is by.place by.event by.there ask answer (asked_of by.event.asked ask answer by.gave);
      }
