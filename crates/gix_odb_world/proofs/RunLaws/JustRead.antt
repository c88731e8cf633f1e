-- The event of a run in which a call read what it was told last.
use Rattle.std.proofs.Common.{◌≡◌, inl, inr, ℕ, zero, suc, ◌+◌, ◌<◌, ◌≤◌, true, List, [], ◌∷◌, ◌++◌, length, take, drop, Some, refl, sym, ap, ◌∙◌, subst, arith}
use Rattle.std.specs.Prelude.{slice_get}
use Rattle.std.proofs.lemmas.Bool.{cases_lt, false≢true}
use Rattle.std.proofs.lemmas.Option.{same_Some}
use Rattle.odb_base.specs.Path.{Path}
use Rattle.odb_disk.specs.Ask.{answer_now}
use Rattle.odb_disk.specs.MemDisk.{Volume}
use Rattle.odb_disk.specs.declared.ask.DiskAnswer.{DiskAnswer}
use Rattle.odb_disk.specs.declared.ask.DiskAsk.{DiskAsk}
use Rattle.odb_disk.specs.declared.ask.DiskAsk.TheVariants as asks
use Rattle.gix_odb_events.specs.declared.answer.Answer.TheVariants as told
use Rattle.gix_odb_events.specs.declared.answer.Ask.TheVariants as parts
use Rattle.gix_odb_calls.specs.declared.query.Query.{Query}
use Rattle.gix_odb.specs.LookExchanges.{Exchange, IsLast}
use Rattle.gix_odb.specs.JustRead.{read_of}
use Rattle.gix_odb_world.specs.AtWork.{Running}
use Rattle.gix_odb_history.specs.Event.{Asked, CoreEvent, Event, OfCore, OfDisk, OfNewCore, OfNothing}
use Rattle.gix_odb_world.specs.Headline.{Law, LeavesDisk}
use Rattle.gix_odb_history.specs.Run.{IsTurnOf, disk_after}
use Rattle.gix_odb_world.specs.Told.{exchange_of, told_since}
use Rattle.gix_odb_history.specs.Turned.{is_turn_of}
use Rattle.gix_odb_world.proofs.RunSteps.{Kind, Made, Quiet, Turned, kind_of}
use Rattle.gix_odb_world.proofs.RunSteps.Fronts.{event_or_end, length_take, none_beyond, take_suc, there_in_front, there_in_whole}
use Rattle.gix_odb_world.proofs.ToldLemmas.{not_turned, told_kept, told_turn, turn_or_not, turned_by}
use Rattle.gix_odb_world.specs.RunLaws.Stored.{WasJustRead}
use Rattle.gix_odb_world.specs.RunLaws.Turn.{IsTurnBefore}
use Rattle.gix_odb_world.proofs.RunLaws.KnownRun.{IsKnownRun}
use Rattle.gix_odb_world.proofs.RunLaws.LastTold.{LastTold, last_told}
use Rattle.gix_odb_world.proofs.RunLaws.QueryTurns.{IsLookTurn}

-- ---- the answers up to the next turn

-- after a turn with an exchange a handle gets no more answers until its next turn
pub told_before_next : (events : List Event) (handle begun place : ℕ) (e : Event) (next : ℕ) → IsTurnBefore events handle begun place e next → next ≤ length events
    → (exchange : Exchange) → exchange_of e.asked ≡ Some exchange
    → told_since (take next events) handle begun ≡ told_since (take place events) handle begun ++ exchange ∷ []
told_before_next events handle begun place e zero turn within exchange is = let before = turn.before in absurd (omega (arith, before))
told_before_next events handle begun place e (suc next) turn within exchange is =
    elim (cases_lt place next) [
      | inl less ↦
          elim (event_or_end events next) [
            | inl at ↦
                let since = turn.since in
                let count : length (take next events) ≡ next = length_take events next at.0 at.1 in
                ap (λ (es : List Event). told_since es handle begun) (take_suc events next at.0 at.1)
                ∙ told_kept (take next events) at.0 handle begun (omega (arith, since, less, count)) (turn.none next at.0 less (omega arith) at.1)
                ∙ told_before_next events handle begun place e next
                (record {
                  there = turn.there;
                  turn = turn.turn;
                  since = turn.since;
                  before = less;
                  none = λ between other after up. turn.none between other after (omega (arith, up));
                })
                (omega (arith, within)) exchange is
            | inr none ↦ let beyond = none_beyond events next none in absurd (omega (arith, beyond, within))
          ]
      | inr last ↦
          let before = turn.before in
          let same : next ≡ place = omega (arith, before, last) in
          let since = turn.since in
          let count : length (take place events) ≡ place = length_take events place e turn.there in
          ap (λ (n : ℕ). told_since (take (suc n) events) handle begun) same
          ∙ ap (λ (es : List Event). told_since es handle begun) (take_suc events place e turn.there)
          ∙ told_turn (take place events) e handle begun (omega (arith, since, count)) turn.turn e.asked refl exchange is
    ]

-- ---- the turn of the last answer

pub nth_drop : (n : ℕ) (xs : List Event) (k : ℕ) → slice_get (drop n xs) k ≡ slice_get xs (n + k)
nth_drop zero xs k = let same : k ≡ 0 + k = omega arith in ap (slice_get xs) same
nth_drop (suc n) [] k = refl
nth_drop (suc n) (x ∷ xs) k = let same : suc (n + k) ≡ suc n + k = omega arith in nth_drop n xs k ∙ ap (slice_get (x ∷ xs)) same

difference : (n m : ℕ) → n ≤ m → (k : ℕ) × (m ≡ n + k)
difference zero m within = (m, omega arith)
difference (suc n) zero within = absurd (omega (arith, within))
difference (suc n) (suc m) within = let rest = difference n m (omega (arith, within)) in let is = rest.1 in (rest.0, omega (arith, is))

pub is_turn : (handle : ℕ) (e : Event) → is_turn_of handle e ≡ true → IsTurnOf handle e
is_turn handle e is =
    elim (turn_or_not handle e) [
      | inl turn ↦ turn
      | inr other ↦ absurd (false≢true (sym (not_turned handle e other) ∙ is))
    ]

same_part : (one other : DiskAsk) → parts.Disk one ≡ parts.Disk other → one ≡ other
same_part one other is = cc is

same_told : (one other : DiskAnswer) → told.Disk one ≡ told.Disk other → one ≡ other
same_told one other is = cc is

no_core : (event : CoreEvent) (ask : DiskAsk) → ¬ (parts.Core event ≡ parts.Disk ask)
no_core event ask is = cc is

-- an event whose exchange has a call of the disk made the call
pub asked_of : (asked : Asked) (ask : DiskAsk) (answer : DiskAnswer) → exchange_of asked ≡ Some (record { ask = parts.Disk ask; answer = told.Disk answer })
    → asked ≡ OfDisk ask answer
asked_of OfNothing ask answer is = absurd (cc is)
asked_of (OfDisk own given) ask answer is =
    let same = same_Some (record { ask = parts.Disk own; answer = told.Disk given }) (record { ask = parts.Disk ask; answer = told.Disk answer }) is in
    ap (λ (a : DiskAsk). OfDisk a given) (same_part own ask (ap (λ (x : Exchange). x.ask) same))
    ∙ ap (OfDisk ask) (same_told given answer (ap (λ (x : Exchange). x.answer) same))
asked_of (OfCore store seat event given) ask answer is =
    let same = same_Some (record { ask = parts.Core event; answer = told.Core given }) (record { ask = parts.Disk ask; answer = told.Disk answer }) is in
    absurd (no_core event ask (ap (λ (x : Exchange). x.ask) same))
asked_of (OfNewCore slots folders store seat given) ask answer is = absurd (cc is)

module _ (first : Volume) (events : List Event) (next : ℕ) (e : Event) (handle : ℕ) (running : Running) (query : Query)
    (at : IsLookTurn first events next e handle running query) where
  abbrev past : List Event
  past = take next events

  abbrev since_begun : List Event
  since_begun = drop running.begun past

  place_of : (k : ℕ) (o : Event) → slice_get since_begun k ≡ Some o → (running.begun + k < next) × (slice_get events (running.begun + k) ≡ Some o)
  place_of k o there = there_in_whole events (running.begun + k) next o (sym (nth_drop running.begun past k) ∙ there)

  none_after : (x : Exchange) (last : LastTold handle since_begun x) (between : ℕ) (other : Event) → running.begun + last.place < between → between < next
      → slice_get events between ≡ Some other → ¬ (IsTurnOf handle other)
  none_after x last between other after up there turn =
      let far = difference running.begun between (omega (arith, after)) in
      let is = far.1 in
      false≢true
      (sym (last.after far.0 other (omega (arith, after, is))
      (nth_drop running.begun past far.0 ∙ ap (slice_get past) (sym far.1) ∙ there_in_front events between next other up there))
      ∙ turned_by handle other turn)

  found_before : (x : Exchange) (last : LastTold handle since_begun x) → IsTurnBefore events handle running.begun (running.begun + last.place) last.event next
  found_before x last =
      let here = place_of last.place last.event last.there in
      record {
        there = here.1;
        turn = is_turn handle last.event last.turn;
        since = omega arith;
        before = here.0;
        none = none_after x last;
      }

  told_last : (x : Exchange) → IsLast (told_since past handle running.begun) x → LastTold handle since_begun x
  unfolding told_since
  told_last x last = last_told handle since_begun last.0 x (sym at.works.counted ∙ at.turns) last.1

  -- the last answer to a call, where it is the result of a read of a path, was read in the turn before
  pub just_read : (path : Path) (answer : DiskAnswer) → IsLast (told_since past handle running.begun) (read_of path answer)
      → WasJustRead events handle running.begun next path answer
  just_read path answer is =
      let last = told_last (read_of path answer) is in
      record {
        place = running.begun + last.place;
        event = last.event;
        before = found_before (read_of path answer) last;
        reads = asked_of last.event.asked (asks.Read path) answer last.told_it;
      }

-- ---- calls of the disk in a run

same_call : (one other : DiskAsk) (given answer : DiskAnswer) → OfDisk one given ≡ OfDisk other answer → (one ≡ other) × (given ≡ answer)
same_call one other given answer is = (cc is, cc is)

module _ (first : Volume) (before : List Event) (e : Event) (law : Law first before e) (ask : DiskAsk) (answer : DiskAnswer) (asked : e.asked ≡ OfDisk ask answer) where
  by_kind : Kind first before e → answer_now (disk_after first before) ask ≡ answer
  by_kind (Turned turn) =
      let same = same_call turn.works.ask ask (answer_now (disk_after first before) turn.works.ask) answer (sym turn.works.told ∙ asked) in
      ap (answer_now (disk_after first before)) (sym same.0) ∙ same.1
  by_kind (Made made) = absurd (subst LeavesDisk asked made.leaves)
  by_kind (Quiet quiet) = absurd (subst LeavesDisk asked quiet.leaves)

  -- a call of the disk in a lawful event is answered as the disk would answer it then
  pub answered_by_law : answer_now (disk_after first before) ask ≡ answer
  answered_by_law = by_kind (kind_of first before e law)

pub answered_then : (first : Volume) (events : List Event) → IsKnownRun first events → (place : ℕ) (e : Event) → slice_get events place ≡ Some e
    → (ask : DiskAsk) (answer : DiskAnswer) → e.asked ≡ OfDisk ask answer → answer_now (disk_after first (take place events)) ask ≡ answer
answered_then first events is place e there ask answer asked = answered_by_law first (take place events) e (is.lawful place e there) ask answer asked
