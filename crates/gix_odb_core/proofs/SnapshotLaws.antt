-- Laws of snapshots: a handle's snapshot is the view of its last entry that returned one, which is the view of the shape after that entry.
use Rattle.std.proofs.Common.{◌≡◌, ℕ, suc, ◌+◌, ◌<◌, ◌≤◌, Bool, true, false, cond, ◌==◌, nat_eq, List, [], ◌∷◌, ◌++◌, length, take, slice_get}
use Rattle.std.proofs.Common.{filter, filter_map, Option, Some, None, Ok, Err, ◌⊎◌, inl, inr, refl, sym, ap, subst, ◌∙◌, append_assoc, append-nil, arith, eqb-true, length-append}
use Rattle.std.specs.List.{cons_option, last_or}
use Rattle.std.proofs.lemmas.List.Elements.{filter-append, filter_map-append}
use Rattle.std.proofs.lemmas.Option.{slice_get-get_or}
use Rattle.std.proofs.Math.Seq.{get_or-append_seam, take-append_seam}
use Rattle.gix_odb_core.specs.Handles.{registered}
use Rattle.gix_odb_core.specs.Views.{view_of}
use Rattle.gix_odb_events.specs.View.{IsShown, last_state}
use Rattle.gix_odb_core.specs.Kept.{ShowsAgain}
use Rattle.gix_odb_core.specs.Possible.{IsNeverRemoved, IsPossible}
use Rattle.gix_odb_events.specs.Slots.{slot_at}
use Rattle.gix_odb_core.specs.Replay.{AreNext, IsLegal, IsNext, answer_of, number_behind, publish_answer, put_answer, replay, snapshot_of}
use Rattle.gix_odb_events.specs.Answers.{view_in}
use Rattle.gix_odb_core.specs.Snapshots.{IsHandedLast, handed_to}
use Rattle.gix_odb_core.specs.State.{newest}
use Rattle.gix_odb_core.specs.Steps.{Publishing, Outdated, TooFew, Overflows, Unchanged, Published, after, publishing, shape_published}
use Rattle.gix_odb_core.specs.Files.{slot_with_index, slot_with_pack}
use Rattle.gix_odb_events.specs.declared.event.Effect.TheVariants as effects
use Rattle.gix_odb_events.specs.declared.event.Event.{Event}
use Rattle.gix_odb_events.specs.declared.event.Event.TheVariants as event
use Rattle.gix_odb_events.specs.declared.event.Refusal.TheVariants as refusals
use Rattle.gix_odb_core.specs.declared.journal.Entry.{Entry}
use Rattle.gix_odb_core.specs.declared.shape.Shape.{Shape}
use Rattle.gix_odb_events.specs.declared.slot.Filled.{Filled}
use Rattle.gix_odb_events.specs.declared.loaded.SnapshotIndex.{SnapshotIndex}
use Rattle.gix_odb_events.specs.declared.view.View.{View}
use Rattle.gix_odb_core.proofs.NumberLaws.{entries_lower_no_number}
use Rattle.gix_odb_core.proofs.OrderLaws.{replay_of_joined_journals}
use Rattle.gix_odb_core.proofs.ReplayLemmas.{after_answer-changes, newest-push, next_first, next_rest, replay-push}
use Rattle.gix_odb_core.proofs.StableLaws.{stable_handle_keeps_what_is_shown}

-- ---- the view that an entry returns

module _ (shape now : Shape) (number : ℕ) (view : View) where
  put_hands : (filled : Option Filled) → view_in (put_answer shape now number filled) ≡ Some view → view ≡ view_of now number
  put_hands None is = let same : view_of now number ≡ view = cc in sym same
  put_hands (Some filled) is = by (shape.state_id == last_state) is
    where
      by : (b : Bool) → view_in (cond b (Err refusals.GenerationOverflow) (Ok (effects.Put (view_of now number) true))) ≡ Some view → view ≡ view_of now number
      by true is = absurd cc
      by false is = let same : view_of now number ≡ view = cc in sym same

publish_hands : (shape : Shape) (number : ℕ) (view : View) (p : Publishing) → view_in (publish_answer shape number p) ≡ Some view → view ≡ view_of (shape_published shape p) number
publish_hands shape number view Outdated is = absurd cc
publish_hands shape number view (TooFew needed) is = absurd cc
publish_hands shape number view Overflows is = absurd cc
publish_hands shape number view (Unchanged now) is = let same : view_of now number ≡ view = cc in sym same
publish_hands shape number view (Published now) is = let same : view_of now number ≡ view = cc in sym same

-- a view that an event returns is that of the shape after it
pub handed_view_shows_the_shape : (past : List Entry) (shape : Shape) (number seat : ℕ) (happens : Event) (view : View) → view_in (answer_of past shape number seat happens) ≡ Some view
    → view ≡ view_of (after shape seat happens) number
handed_view_shows_the_shape past shape number seat (event.Register stable) view is = let same : view_of (after shape seat (event.Register stable)) number ≡ view = cc in sym same
handed_view_shows_the_shape past shape number seat event.Upgrade view is = let same : view_of (after shape seat event.Upgrade) number ≡ view = cc in sym same
handed_view_shows_the_shape past shape number seat event.Remove view is = absurd cc
handed_view_shows_the_shape past shape number seat event.Look view is = let same : view_of shape number ≡ view = cc in sym same
handed_view_shows_the_shape past shape number seat event.Report view is = let same : view_of shape number ≡ view = cc in sym same
handed_view_shows_the_shape past shape number seat (event.PutIndex slot path file) view is =
    put_hands shape (after shape seat (event.PutIndex slot path file)) number view (slot_with_index path file (slot_at shape.slots slot)) is
handed_view_shows_the_shape past shape number seat (event.PutPack pack path file) view is =
    put_hands shape (after shape seat (event.PutPack pack path file)) number view (slot_with_pack path file (slot_at shape.slots pack.index)) is
handed_view_shows_the_shape past shape number seat (event.PassOver slot path why) view is = let same : view_of (after shape seat (event.PassOver slot path why)) number ≡ view = cc in sym same
handed_view_shows_the_shape past shape number seat (event.Publish listing) view is = publish_hands shape number view (publishing shape listing) is

-- so is one that an entry of a legal journal returns
pub entry_hands_the_view_behind_it : (opening : Shape) (past : List Entry) (entry : Entry) (view : View) → IsNext opening past entry → view_in entry.answer ≡ Some view
    → view ≡ view_of (replay opening (past ++ entry ∷ [])) (number_behind past)
entry_hands_the_view_behind_it opening past entry view next handed = by next.answered
  where
    present : Shape
    present = replay opening past

    some : entry.answer ≡ Err refusals.NoMemory → ⊥
    some none = let wrong : ◌≡◌ {A = Option View} None (Some view) = sym (ap view_in none) ∙ handed in cc

    by : (entry.answer ≡ Err refusals.NoMemory) ⊎ (entry.answer ≡ answer_of past present (number_behind past) entry.seat entry.event)
        → view ≡ view_of (replay opening (past ++ entry ∷ [])) (number_behind past)
    by (inl none) = absurd (some none)
    by (inr answered) =
        handed_view_shows_the_shape past present (number_behind past) entry.seat entry.event view (ap view_in (sym answered) ∙ handed)
        ∙ ap (λ (s : Shape). view_of s (number_behind past)) (sym (replay-push opening past entry ∙ after_answer-changes present entry entry.answer some))

-- ---- the last one

last_or-append : {X : Type 0} (o : Option X) (xs ys : List X) → last_or o (xs ++ ys) ≡ last_or (last_or o xs) ys
last_or-append o [] ys = refl
last_or-append o (x ∷ xs) ys = last_or-append (Some x) xs ys

pub handed-append : (seat : ℕ) (past later : List Entry) → handed_to seat (past ++ later) ≡ handed_to seat past ++ handed_to seat later
handed-append seat past later =
    ap (filter_map (λ (e : Entry). view_in e.answer)) (filter-append (λ (e : Entry). e.seat == seat) past later)
    ∙ filter_map-append (λ (e : Entry). view_in e.answer) (filter (λ (e : Entry). e.seat == seat) past) (filter (λ (e : Entry). e.seat == seat) later)

snapshot-append : (seat : ℕ) (past later : List Entry) → snapshot_of seat (past ++ later) ≡ last_or (snapshot_of seat past) (handed_to seat later)
snapshot-append seat past later = ap (last_or None) (handed-append seat past later) ∙ last_or-append None (handed_to seat past) (handed_to seat later)

-- an entry returns the handle of a seat a view, or none
entry_hands : (seat : ℕ) (entry : Entry) → (handed_to seat (entry ∷ []) ≡ []) ⊎ ((view : View) × (entry.seat ≡ seat) × (view_in entry.answer ≡ Some view) × (handed_to seat (entry ∷ []) ≡ view ∷ []))
entry_hands seat entry = by (nat_eq entry.seat seat) (view_in entry.answer) refl refl
  where
    by : (b : Bool) (o : Option View) → nat_eq entry.seat seat ≡ b → view_in entry.answer ≡ o
        → (filter_map (λ (e : Entry). view_in e.answer) (cond (nat_eq entry.seat seat) (entry ∷ []) []) ≡ [])
        ⊎ ((view : View) × (entry.seat ≡ seat) × (view_in entry.answer ≡ Some view) × (filter_map (λ (e : Entry). view_in e.answer) (cond (nat_eq entry.seat seat) (entry ∷ []) []) ≡ view ∷ []))
    by false o is at = inl (ap (λ (c : Bool). filter_map (λ (e : Entry). view_in e.answer) (cond c (entry ∷ []) [])) is)
    by true None is at =
        inl (ap (λ (c : Bool). filter_map (λ (e : Entry). view_in e.answer) (cond c (entry ∷ []) [])) is ∙ ap (λ (v : Option View). cons_option v []) at)
    by true (Some view) is at =
        inr (
          view,
          eqb-true entry.seat seat is,
          at,
          ap (λ (c : Bool). filter_map (λ (e : Entry). view_in e.answer) (cond c (entry ∷ []) [])) is ∙ ap (λ (v : Option View). cons_option v []) at,
        )

-- an entry that returns no view, such as a refused one, leaves each snapshot
pub entry_without_a_view_leaves_snapshots : (seat : ℕ) (past : List Entry) (entry : Entry) → view_in entry.answer ≡ None → snapshot_of seat (past ++ entry ∷ []) ≡ snapshot_of seat past
entry_without_a_view_leaves_snapshots seat past entry none = snapshot-append seat past (entry ∷ []) ∙ ap (last_or (snapshot_of seat past)) (by (entry_hands seat entry))
  where
    by : (handed_to seat (entry ∷ []) ≡ []) ⊎ ((view : View) × (entry.seat ≡ seat) × (view_in entry.answer ≡ Some view) × (handed_to seat (entry ∷ []) ≡ view ∷ []))
        → handed_to seat (entry ∷ []) ≡ []
    by (inl is) = is
    by (inr (view, own, some, is)) = absurd (let wrong : ◌≡◌ {A = Option View} None (Some view) = sym none ∙ some in cc)

module _ (seat : ℕ) where
  abbrev HasLast : List Entry → Type 0
  HasLast entries = (view : View) → snapshot_of seat entries ≡ Some view → IsHandedLast seat entries view

  last-push : (past : List Entry) (entry : Entry) → HasLast past → HasLast (past ++ entry ∷ [])
  last-push past entry has view is = by (entry_hands seat entry)
    where
      by : (handed_to seat (entry ∷ []) ≡ []) ⊎ ((view : View) × (entry.seat ≡ seat) × (view_in entry.answer ≡ Some view) × (handed_to seat (entry ∷ []) ≡ view ∷ []))
          → IsHandedLast seat (past ++ entry ∷ []) view
      by (inl none) =
          let was = has view (sym (snapshot-append seat past (entry ∷ []) ∙ ap (last_or (snapshot_of seat past)) none) ∙ is) in
          record {
            past = was.past;
            entry = was.entry;
            later = was.later ++ entry ∷ [];
            splits = ap (λ l. l ++ entry ∷ []) was.splits ∙ append_assoc was.past (was.entry ∷ was.later) (entry ∷ []);
            own = was.own;
            handed = was.handed;
            last = handed-append seat was.later (entry ∷ []) ∙ (λ i. was.last i ++ none i);
          }
      by (inr (other, own, handed, only)) =
          let now : Some other ≡ Some view = sym (snapshot-append seat past (entry ∷ []) ∙ ap (last_or (snapshot_of seat past)) only) ∙ is in
          record { past = past; entry = entry; later = []; splits = refl; own = own; handed = handed ∙ now; last = refl }

  last-all : (entries past : List Entry) → HasLast past → HasLast (past ++ entries)
  last-all [] past has = subst HasLast (sym (append-nil past)) has
  last-all (entry ∷ entries) past has = subst HasLast (append_assoc past (entry ∷ []) entries) (last-all entries (past ++ entry ∷ []) (last-push past entry has))

-- a handle's snapshot was returned by an entry of its own, and no later one returned it another
pub snapshot_is_the_last_view_handed : (seat : ℕ) (entries : List Entry) (view : View) → snapshot_of seat entries ≡ Some view → IsHandedLast seat entries view
snapshot_is_the_last_view_handed seat entries = last-all seat entries [] (λ view is. absurd cc)

-- ---- with a stable handle

-- what is shown while a handle is stable is shown again by each view that an entry returns before the handle is removed
pub later_view_shows_what_a_stable_handle_saw : (opening : Shape) (past middle : List Entry) (entry : Entry) (seat number : ℕ) (view : View) (index : SnapshotIndex)
    → registered (replay opening past).handles seat ≡ Some true → IsPossible (replay opening past) (middle ++ entry ∷ []) → IsNeverRemoved seat (middle ++ entry ∷ [])
    → IsNext opening (past ++ middle) entry → view_in entry.answer ≡ Some view → IsShown (view_of (replay opening past) number) index
    → (again : SnapshotIndex) × IsShown view again × ShowsAgain index again
later_view_shows_what_a_stable_handle_saw opening past middle entry seat number view index stable possible stays next handed is =
    let behind : replay opening ((past ++ middle) ++ entry ∷ []) ≡ replay (replay opening past) (middle ++ entry ∷ []) =
    ap (replay opening) (append_assoc past middle (entry ∷ [])) ∙ replay_of_joined_journals past (middle ++ entry ∷ []) opening in
    let same = entry_hands_the_view_behind_it opening (past ++ middle) entry view next handed ∙ ap (λ (s : Shape). view_of s (number_behind (past ++ middle))) behind in
    let kept = stable_handle_keeps_what_is_shown (middle ++ entry ∷ []) (replay opening past) seat stable possible stays number (number_behind (past ++ middle)) index is in
    (kept.0, subst (λ (v : View). IsShown v kept.0) (sym same) kept.1, kept.2)

-- no number of a view is less than that of an earlier shape
pub later_view_has_no_lower_number : (opening : Shape) (past middle : List Entry) (entry : Entry) (view : View) → IsNext opening (past ++ middle) entry → view_in entry.answer ≡ Some view
    → ((replay opening past).list_no ≤ view.list_no) × ((replay opening past).state_id ≤ view.snapshot.marker.state_id) × ((replay opening past).generation ≤ view.snapshot.marker.generation)
later_view_has_no_lower_number opening past middle entry view next handed =
    let behind : replay opening ((past ++ middle) ++ entry ∷ []) ≡ replay (replay opening past) (middle ++ entry ∷ []) =
    ap (replay opening) (append_assoc past middle (entry ∷ [])) ∙ replay_of_joined_journals past (middle ++ entry ∷ []) opening in
    let same : view ≡ view_of (replay (replay opening past) (middle ++ entry ∷ [])) (number_behind (past ++ middle)) =
    entry_hands_the_view_behind_it opening (past ++ middle) entry view next handed ∙ ap (λ (s : Shape). view_of s (number_behind (past ++ middle))) behind in
    let falls = entries_lower_no_number (middle ++ entry ∷ []) (replay opening past) in (
      subst (λ (v : View). (replay opening past).list_no ≤ v.list_no) (sym same) falls.list_no,
      subst (λ (v : View). (replay opening past).state_id ≤ v.snapshot.marker.state_id) (sym same) falls.state_id,
      subst (λ (v : View). (replay opening past).generation ≤ v.snapshot.marker.generation) (sym same) falls.generation,
    )

-- ---- its number

-- a snapshot of a legal journal has the number of the entry that returned it
pub snapshot_has_the_number_of_its_entry : (opening : Shape) (seat : ℕ) (entries : List Entry) (view : View) → IsLegal opening entries → (is : IsHandedLast seat entries view)
    → view.snapshot.entry ≡ number_behind is.past
snapshot_has_the_number_of_its_entry opening seat entries view legal is =
    ap (λ (v : View). v.snapshot.entry) (entry_hands_the_view_behind_it opening is.past is.entry view next is.handed)
  where
    within : length is.past < length (is.past ++ is.entry ∷ is.later)
    within = omega (arith, length-append is.past (is.entry ∷ is.later))

    there : slice_get entries (length is.past) ≡ Some is.entry
    there =
        ap (λ l. slice_get l (length is.past)) is.splits ∙ slice_get-get_or (is.past ++ is.entry ∷ is.later) (length is.past) is.entry within
        ∙ ap Some (get_or-append_seam is.past is.entry is.later is.entry)

    next : IsNext opening is.past is.entry
    next = subst (λ (l : List Entry). IsNext opening l is.entry) (ap (take (length is.past)) is.splits ∙ take-append_seam is.past (is.entry ∷ is.later)) (legal (length is.past) is.entry there)

rises_on : (opening : Shape) (seat : ℕ) (later past : List Entry) (view last : View) → AreNext opening past later → snapshot_of seat past ≡ Some view → view.snapshot.entry ≤ newest past
    → snapshot_of seat (past ++ later) ≡ Some last → view.snapshot.entry ≤ last.snapshot.entry
rises_on opening seat [] past view last next is below at =
    let same : Some view ≡ Some last = sym is ∙ ap (snapshot_of seat) (sym (append-nil past)) ∙ at in
    let it : view ≡ last = cc in
    let equal : view.snapshot.entry ≡ last.snapshot.entry = ap (λ (v : View). v.snapshot.entry) it in
    omega arith
rises_on opening seat (entry ∷ later) past view last next is below at =
    by (entry_hands seat entry) (λ v. rises_on opening seat later (past ++ entry ∷ []) v last (next_rest opening past entry later next))
  where
    this : IsNext opening past entry
    this = next_first opening past entry later next

    end : snapshot_of seat ((past ++ entry ∷ []) ++ later) ≡ Some last
    end = ap (snapshot_of seat) (append_assoc past (entry ∷ []) later) ∙ at

    longer : newest (past ++ entry ∷ []) ≡ number_behind past
    longer = newest-push past entry

    by : (handed_to seat (entry ∷ []) ≡ []) ⊎ ((v : View) × (entry.seat ≡ seat) × (view_in entry.answer ≡ Some v) × (handed_to seat (entry ∷ []) ≡ v ∷ []))
        → ((v : View) → snapshot_of seat (past ++ entry ∷ []) ≡ Some v → v.snapshot.entry ≤ newest (past ++ entry ∷ []) → snapshot_of seat ((past ++ entry ∷ []) ++ later) ≡ Some last
        → v.snapshot.entry ≤ last.snapshot.entry)
        → view.snapshot.entry ≤ last.snapshot.entry
    by (inl none) on = on view (snapshot-append seat past (entry ∷ []) ∙ ap (last_or (snapshot_of seat past)) none ∙ is) (omega (arith, longer)) end
    by (inr (other, own, handed, only)) on =
        let number : other.snapshot.entry ≡ number_behind past = ap (λ (v : View). v.snapshot.entry) (entry_hands_the_view_behind_it opening past entry other this handed) in
        let further = on other (snapshot-append seat past (entry ∷ []) ∙ ap (last_or (snapshot_of seat past)) only) (omega (arith, longer)) end in
        omega arith

-- the entry number of a handle's snapshot never falls
pub snapshot_number_never_falls : (opening : Shape) (seat : ℕ) (past later : List Entry) (view last : View) → IsLegal opening past → AreNext opening past later → snapshot_of seat past ≡ Some view
    → snapshot_of seat (past ++ later) ≡ Some last → view.snapshot.entry ≤ last.snapshot.entry
snapshot_number_never_falls opening seat past later view last legal next is at =
    let handed = snapshot_is_the_last_view_handed seat past view is in
    let number = snapshot_has_the_number_of_its_entry opening seat past view legal handed in
    let long : length past ≡ length handed.past + suc (length handed.later) = ap (λ l. length l) handed.splits ∙ length-append handed.past (handed.entry ∷ handed.later) in
    rises_on opening seat later past view last next is (omega arith) at
