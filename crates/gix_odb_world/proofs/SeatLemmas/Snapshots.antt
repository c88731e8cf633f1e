-- A handle's snapshot is no older than an earlier one that it had from the same core.
use Rattle.std.proofs.Common.{◌≡◌, ℕ, zero, suc, ◌+◌, ◌≤◌, ◌⊎◌, inl, inr, Bool, true, false, List, [], ◌∷◌, ◌++◌, length, min, take, Option, Some, None, refl, sym, ◌∙◌, ap, subst, arith}
use Rattle.std.proofs.lemmas.List.{append_assoc, length-append}
use Rattle.std.specs.Prelude.{◌==◌, slice_get}
use Rattle.std.specs.List.{All, cons_option, last_or}
use Rattle.std.proofs.Math.Seq.{take-append_seam, take-length}
use Rattle.std.proofs.lemmas.List.Elements.{All-get_or}
use Rattle.std.proofs.lemmas.Option.{get_or_from_slice_get, slice_get_within}
use Rattle.gix_odb_core.specs.History.{History}
use Rattle.gix_odb_core.specs.Replay.{IsLegal, IsNext, number_behind, replay, snapshot_of}
use Rattle.gix_odb_events.specs.Answers.{view_in}
use Rattle.gix_odb_events.specs.View.{last_state}
use Rattle.gix_odb_core.specs.Views.{view_of}
use Rattle.gix_odb_core.specs.declared.journal.Entry.{Entry}
use Rattle.gix_odb_core.specs.declared.shape.Shape.{Shape}
use Rattle.gix_odb_events.specs.declared.view.View.{View}
use Rattle.gix_odb_core.proofs.NumberLaws.{entries_lower_no_number}
use Rattle.gix_odb_core.proofs.OrderLaws.{replay_of_joined_journals}
use Rattle.gix_odb_core.proofs.SnapshotLaws.{entry_hands_the_view_behind_it}
use Rattle.gix_odb_history.specs.Cores.{cores_after}
use Rattle.gix_odb_history.specs.Event.{Event}
use Rattle.gix_odb_history.specs.JournalKept.{IsJournal}
use Rattle.gix_odb_world.specs.Seats.{HasSeat, HasSeatAt, HasSeatThroughout, IsNoOlder, IsSeated, SnapshotsNeverFall, open_modes, open_modes_at}
use Rattle.gix_odb_world.specs.Status.{Free, MakeCall, Modes, OpenStore, Resting, Status, Task, Working, status_of}
use Rattle.gix_odb_world.proofs.RunSteps.Fronts.{take_none, take_suc}
use Rattle.gix_odb_world.proofs.SeatLemmas.Entered.{handed_by, snapshot-push}
use Rattle.gix_odb_world.proofs.SeatLemmas.Grown.{HasGrown, grown_since}

-- ---- views and shapes

-- the number of the newest of these entries
abbrev newest : List Entry → ℕ
newest past = min (length past) last_state

newest-push : (past : List Entry) (entry : Entry) → newest (past ++ entry ∷ []) ≡ number_behind past
newest-push past entry = ap (λ n. min n last_state) (length-append past (entry ∷ []))

-- a view shows no later shape, and none that an entry after a number left: none of its numbers is greater
record IsShownBy (view : View) (number : ℕ) (shape : Shape) : Type 0 where
  list_no : view.list_no ≤ shape.list_no
  state_id : view.snapshot.marker.state_id ≤ shape.state_id
  generation : view.snapshot.marker.generation ≤ shape.generation
  entry : view.snapshot.entry ≤ number

shown_later : (view : View) (number more : ℕ) (shape : Shape) (entries : List Entry) → number ≤ more → IsShownBy view number shape → IsShownBy view more (replay shape entries)
shown_later view number more shape entries less shown =
    let falls = entries_lower_no_number entries shape in
    let a = shown.list_no in let b = falls.list_no in
    let c = shown.state_id in let d = falls.state_id in
    let e = shown.generation in let f = falls.generation in
    let g = shown.entry in
    record { list_no = omega arith; state_id = omega arith; generation = omega arith; entry = omega arith }

no_older_then : (one two three : View) → IsNoOlder one two → IsNoOlder two three → IsNoOlder one three
no_older_then one two three first next =
    let a = first.list_no in let b = next.list_no in
    let c = first.state_id in let d = next.state_id in
    let e = first.generation in let f = next.generation in
    let g = first.entry in let h = next.entry in
    record { list_no = omega arith; state_id = omega arith; generation = omega arith; entry = omega arith }

-- ---- a journal

module _ (seat : ℕ) where
  -- an entry leaves the snapshot, or passes another one on
  snapshot_by : (past : List Entry) (entry : Entry) (own : Bool) → (entry.seat == seat) ≡ own → (o : Option View) → view_in entry.answer ≡ o
      → (snapshot_of seat (past ++ entry ∷ []) ≡ snapshot_of seat past) ⊎ ((view : View) × (view_in entry.answer ≡ Some view) × (snapshot_of seat (past ++ entry ∷ []) ≡ Some view))
  snapshot_by past entry false is o at = inl (snapshot-push seat past entry ∙ ap (last_or (snapshot_of seat past)) (handed_by seat entry false is))
  snapshot_by past entry true is None at =
      inl (snapshot-push seat past entry ∙ (ap (last_or (snapshot_of seat past)) (handed_by seat entry true is)
      ∙ ap (λ (v : Option View). last_or (snapshot_of seat past) (cons_option v [])) at))
  snapshot_by past entry true is (Some view) at =
      inr (
        view,
        at,
        snapshot-push seat past entry ∙ (ap (last_or (snapshot_of seat past)) (handed_by seat entry true is)
            ∙ ap (λ (v : Option View). last_or (snapshot_of seat past) (cons_option v [])) at),
      )

  module _ (opening : Shape) where
    -- a view that an entry passes on shows the shape after it
    shown_by : (past : List Entry) (entry : Entry) (view : View) → IsNext opening past entry → view_in entry.answer ≡ Some view
        → IsShownBy view (newest (past ++ entry ∷ [])) (replay opening (past ++ entry ∷ []))
    shown_by past entry view next handed =
        let is : view ≡ view_of (replay opening (past ++ entry ∷ [])) (number_behind past) = entry_hands_the_view_behind_it opening past entry view next handed in
        let longer = newest-push past entry in
        subst (λ (v : View). IsShownBy v (newest (past ++ entry ∷ [])) (replay opening (past ++ entry ∷ []))) (sym is)
        record { list_no = omega arith; state_id = omega arith; generation = omega arith; entry = omega (arith, longer) }

    -- and so is no older than one that showed an earlier shape
    no_older_by : (past : List Entry) (entry : Entry) (before view : View) → IsNext opening past entry → view_in entry.answer ≡ Some view
        → IsShownBy before (newest past) (replay opening past) → IsNoOlder before view
    no_older_by past entry before view next handed shown =
        let is : view ≡ view_of (replay opening (past ++ entry ∷ [])) (number_behind past) = entry_hands_the_view_behind_it opening past entry view next handed in
        let later : IsShownBy before (number_behind past) (replay opening (past ++ entry ∷ [])) =
        subst (IsShownBy before (number_behind past)) (sym (replay_of_joined_journals past (entry ∷ []) opening))
        (shown_later before (newest past) (number_behind past) (replay opening past) (entry ∷ []) (omega arith) shown) in
        subst (IsNoOlder before) (sym is) record { list_no = later.list_no; state_id = later.state_id; generation = later.generation; entry = later.entry }

    -- the snapshot shows no later shape than the present one
    abbrev ShowsPast : List Entry → Type 0
    ShowsPast past = (view : View) → snapshot_of seat past ≡ Some view → IsShownBy view (newest past) (replay opening past)

    shows_next : (past : List Entry) (entry : Entry) → IsNext opening past entry → ShowsPast past → ShowsPast (past ++ entry ∷ [])
    shows_next past entry next shows view is = elim (snapshot_by past entry (entry.seat == seat) refl (view_in entry.answer) refl) [
      | inl same ↦
          let longer = newest-push past entry in
          subst (IsShownBy view (newest (past ++ entry ∷ []))) (sym (replay_of_joined_journals past (entry ∷ []) opening))
          (shown_later view (newest past) (newest (past ++ entry ∷ [])) (replay opening past) (entry ∷ []) (omega (arith, longer)) (shows view (sym same ∙ is)))
      | inr new ↦ let both : new.0 ≡ view = cc (new.2, is) in shown_by past entry view next (new.1 ∙ ap Some both)
    ]

    -- a snapshot that exists and is no older
    abbrev Later : (before : View) → List Entry → Type 0
    Later before entries = (now : View) × (snapshot_of seat entries ≡ Some now) × IsNoOlder before now

    later_next : (past : List Entry) (entry : Entry) (before : View) → IsNext opening past entry → ShowsPast past → Later before past → Later before (past ++ entry ∷ [])
    later_next past entry before next shows so = elim (snapshot_by past entry (entry.seat == seat) refl (view_in entry.answer) refl) [
      | inl same ↦ (so.0, same ∙ so.1, so.2)
      | inr new ↦ (new.0, new.2, no_older_then before so.0 new.0 so.2 (no_older_by past entry so.0 new.0 next new.1 (shows so.0 so.1)))
    ]

    module _ (entries : List Entry) (legal : IsLegal opening entries) where
      shows_at : (count : ℕ) → ShowsPast (take count entries)
      shows_at zero = λ view none. absurd (cc none)
      shows_at (suc count) = by (slice_get entries count) refl (shows_at count)
        where
          by : (o : Option Entry) → slice_get entries count ≡ o → ShowsPast (take count entries) → ShowsPast (take (suc count) entries)
          by None is shows = subst ShowsPast (sym (take_none entries count is)) shows
          by (Some entry) is shows = subst ShowsPast (sym (take_suc entries count entry is)) (shows_next (take count entries) entry (legal count entry is) shows)

      later_by : (before : View) (count : ℕ) (o : Option Entry) → slice_get entries count ≡ o → Later before (take count entries) → Later before (take (suc count) entries)
      later_by before count None is so = subst (Later before) (sym (take_none entries count is)) so
      later_by before count (Some entry) is so =
          subst (Later before) (sym (take_suc entries count entry is)) (later_next (take count entries) entry before (legal count entry is) (shows_at count) so)

      later_at : (before : View) (count more : ℕ) → snapshot_of seat (take count entries) ≡ Some before → Later before (take (count + more) entries)
      later_at before count zero is =
          let same : count ≡ count + 0 = omega arith in
          subst (λ n. Later before (take n entries)) same (before, is, record { list_no = omega arith; state_id = omega arith; generation = omega arith; entry = omega arith })
      later_at before count (suc more) is =
          let same : suc (count + more) ≡ count + suc more = omega arith in
          subst (λ n. Later before (take n entries)) same (later_by before (count + more) (slice_get entries (count + more)) refl (later_at before count more is))

    pub snapshot_rises : (past more all : List Entry) (before : View) → IsLegal opening ((past ++ more) ++ all) → snapshot_of seat past ≡ Some before → Later before (past ++ more)
    snapshot_rises past more all before legal is =
        let entries : List Entry = (past ++ more) ++ all in
        let front : take (length past) entries ≡ past = ap (take (length past)) (append_assoc past more all) ∙ take-append_seam past (more ++ all) in
        let whole : take (length past + length more) entries ≡ past ++ more =
        ap (λ n. take n entries) (sym (length-append past more)) ∙ take-append_seam (past ++ more) all in
        subst (Later before) whole (later_at entries legal before (length past) (length more) (ap (snapshot_of seat) front ∙ is))

-- ---- a run

seated_at : (cores : List History) (handle : ℕ) (modes own : Modes) (task : Task) → HasSeatAt cores handle own task
    → open_modes_at own task ≡ Some modes → IsSeated cores handle modes
seated_at cores handle modes own OpenStore has is = absurd (cc is)
seated_at cores handle modes own (MakeCall call) has is = let same : own ≡ modes = cc is in subst (IsSeated cores handle) same has

seated : (events : List Event) (handle : ℕ) (modes : Modes) (status : Status) → HasSeat events handle status → open_modes status ≡ Some modes
    → IsSeated (cores_after events) handle modes
seated events handle modes Free has is = absurd (cc is)
seated events handle modes (Resting store own) has is = let same : own ≡ modes = cc is in subst (IsSeated (cores_after events) handle) same has
seated events handle modes (Working running) has is = seated_at (cores_after events) handle modes running.modes running.task has is

is_journal : (cores : List History) (place : ℕ) (h : History) → All IsJournal cores → slice_get cores place ≡ Some h → IsJournal h
is_journal cores place h each there =
    subst IsJournal (get_or_from_slice_get cores place h h there) (All-get_or IsJournal cores place h (slice_get_within cores place h there) each)

pub snapshots_never_fall : (events : List Event) → All IsJournal (cores_after events) → HasSeatThroughout events → SnapshotsNeverFall events
snapshots_never_fall events each seats earlier later handle was is before order within at_first at_last same shown =
    let whole : take (length events) events ≡ events = take-length events in
    let one : IsSeated (cores_after (take earlier events)) handle was =
    seated (take earlier events) handle was (status_of (take earlier events) handle) (seats earlier handle (omega (arith, order, within))) at_first in
    let two : IsSeated (cores_after (take later events)) handle is =
    seated (take later events) handle is (status_of (take later events) handle) (seats later handle within) at_last in
    let grown : HasGrown (cores_after (take later events)) was.core one.history = grown_since events earlier later order was.core one.history one.there in
    let own : grown.history ≡ two.history =
    let both : Some grown.history ≡ Some two.history = sym grown.there ∙ (ap (slice_get (cores_after (take later events))) (sym same) ∙ two.there) in cc both in
    let last : HasGrown (cores_after events) was.core grown.history =
    subst (λ es. HasGrown (cores_after es) was.core grown.history) whole (grown_since events later (length events) within was.core grown.history grown.there) in
    let journal : IsJournal last.history = is_journal (cores_after events) was.core last.history each last.there in
    let opening : Shape = one.history.opening in
    let legal : IsLegal opening ((one.history.entries ++ grown.more) ++ last.more) =
    subst (IsLegal opening) (last.entries ∙ ap (λ es. es ++ last.more) grown.entries)
    (subst (λ (shape : Shape). IsLegal shape last.history.entries) (last.opening ∙ grown.opening) journal.legal) in
    let end = snapshot_rises handle opening one.history.entries grown.more last.more before legal (sym one.snapshot ∙ shown) in
    (end.0, two.snapshot ∙ (ap (λ (h : History). snapshot_of handle h.entries) (sym own) ∙ (ap (snapshot_of handle) grown.entries ∙ end.1)), end.2)
