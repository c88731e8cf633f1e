-- Laws of a core's numbers: none falls; a list that is published raises the list number and the state number by one.
use Rattle.std.proofs.Common.{◌≡◌, ℕ, ◌+◌, true, List, [], ◌∷◌, length, Option, Some, None, Ok, refl, sym, ap, subst, ◌∙◌, arith, length-set}
use Rattle.gix_odb_core.specs.Handles.{is_any_stable}
use Rattle.gix_odb_core.specs.Numbers.{NeverFalls, RisesByAList, SameNumbers}
use Rattle.gix_odb_events.specs.Slots.{slot_at}
use Rattle.gix_odb_core.specs.Replay.{after_entry, answer_of, replay}
use Rattle.gix_odb_core.specs.Steps.{Publishing, Unchanged, Published, after, publishing, shape_published}
use Rattle.gix_odb_core.specs.Files.{slot_passed, slot_with_index, slot_with_pack}
use Rattle.gix_odb_events.specs.declared.event.Effect.TheVariants as effects
use Rattle.gix_odb_events.specs.declared.event.Event.{Event}
use Rattle.gix_odb_events.specs.declared.event.Event.TheVariants as event
use Rattle.gix_odb_core.specs.declared.journal.Entry.{Entry}
use Rattle.gix_odb_events.specs.declared.listing.Listing.{Listing}
use Rattle.gix_odb_core.specs.declared.shape.Shape.{Shape}
use Rattle.gix_odb_events.specs.declared.view.View.{View}
use Rattle.gix_odb_core.proofs.AnswerLemmas.{confirmed_by, published_by, publish-unstored, published_in, stored_by, stored_in, unchanged_in}
use Rattle.gix_odb_core.proofs.SlotTurnLemmas.{entry_gives, publish_gives, slots_by, stored_gives}
use Rattle.gix_odb_core.proofs.SlotsAfterLemmas.{length-slots_after}

-- ---- none falls

same : (shape : Shape) → NeverFalls shape shape
same shape = record { list_no = omega arith; state_id = omega arith; generation = omega arith; folders = refl; slots = refl }

then : (one two three : Shape) → NeverFalls one two → NeverFalls two three → NeverFalls one three
then one two three first next =
    let a = first.list_no in let b = next.list_no in
    let c = first.state_id in let d = next.state_id in
    let e = first.generation in let f = next.generation in
    record { list_no = omega arith; state_id = omega arith; generation = omega arith; folders = next.folders ∙ first.folders; slots = next.slots ∙ first.slots }

-- no number falls in an event
pub event_lowers_no_number : (shape : Shape) (seat : ℕ) (happens : Event) → NeverFalls shape (after shape seat happens)
event_lowers_no_number shape seat (event.Register stable) = record { list_no = omega arith; state_id = omega arith; generation = omega arith; folders = refl; slots = refl }
event_lowers_no_number shape seat event.Upgrade = record { list_no = omega arith; state_id = omega arith; generation = omega arith; folders = refl; slots = refl }
event_lowers_no_number shape seat event.Remove = record { list_no = omega arith; state_id = omega arith; generation = omega arith; folders = refl; slots = refl }
event_lowers_no_number shape seat event.Look = same shape
event_lowers_no_number shape seat event.Report = same shape
event_lowers_no_number shape seat (event.PutIndex slot path file) =
    stored_gives (NeverFalls shape) shape slot (slot_with_index path file (slot_at shape.slots slot)) (same shape)
    (λ now is. record { list_no = omega arith; state_id = omega arith; generation = omega arith; folders = refl; slots = length-set shape.slots slot (Some now) })
event_lowers_no_number shape seat (event.PutPack pack path file) =
    stored_gives (NeverFalls shape) shape pack.index (slot_with_pack path file (slot_at shape.slots pack.index)) (same shape)
    (λ now is. record { list_no = omega arith; state_id = omega arith; generation = omega arith; folders = refl; slots = length-set shape.slots pack.index (Some now) })
event_lowers_no_number shape seat (event.PassOver slot path why) =
    record { list_no = omega arith; state_id = omega arith; generation = omega arith; folders = refl; slots = length-set shape.slots slot (slot_passed path (slot_at shape.slots slot)) }
event_lowers_no_number shape seat (event.Publish listing) =
    publish_gives (λ p. NeverFalls shape (shape_published shape p)) shape listing (same shape) (λ _. same shape) (same shape)
    (λ _ _. record { list_no = omega arith; state_id = omega arith; generation = omega arith; folders = refl; slots = long })
    (λ _ _. record { list_no = omega arith; state_id = omega arith; generation = omega arith; folders = refl; slots = long })
  where
    long : length (slots_by shape listing.rows) ≡ length shape.slots
    long = length-slots_after (is_any_stable shape.handles) listing.rows shape.slots shape.list

-- nor over any entries
pub entries_lower_no_number : (entries : List Entry) (shape : Shape) → NeverFalls shape (replay shape entries)
entries_lower_no_number [] shape = same shape
entries_lower_no_number (entry ∷ entries) shape =
    then shape (after_entry shape entry) (replay (after_entry shape entry) entries)
    (entry_gives (NeverFalls shape) shape entry (same shape) (event_lowers_no_number shape entry.seat entry.event)) (entries_lower_no_number entries (after_entry shape entry))

-- ---- by how much they rise

abbrev RisesIfPublished : Shape → Publishing → Type 0
RisesIfPublished shape (Published now) = RisesByAList shape now
RisesIfPublished shape other = Unit {0}

rises : (shape : Shape) (listing : Listing) (now : Shape) → publishing shape listing ≡ Published now → RisesByAList shape now
rises shape listing now is =
    subst (RisesIfPublished shape) is
    (publish_gives (RisesIfPublished shape) shape listing tt (λ _. tt) tt (λ _ _. tt) (λ _ _. record { list_no = refl; state_id = refl }))

abbrev StaysIfConfirmed : Shape → Publishing → Type 0
StaysIfConfirmed shape (Unchanged now) = SameNumbers shape now
StaysIfConfirmed shape other = Unit {0}

stays : (shape : Shape) (listing : Listing) (now : Shape) → publishing shape listing ≡ Unchanged now → SameNumbers shape now
stays shape listing now is =
    subst (StaysIfConfirmed shape) is
    (publish_gives (StaysIfConfirmed shape) shape listing tt (λ _. tt) tt (λ _ _. record { list_no = refl; state_id = refl; generation = refl }) (λ _ _. tt))

module _ (past : List Entry) (shape : Shape) (number seat : ℕ) (happens : Event) (view : View) where
  -- a list that is published raises the list number and the state number by one
  pub published_list_raises_numbers : answer_of past shape number seat happens ≡ Ok (effects.Published view) → RisesByAList shape (after shape seat happens)
  published_list_raises_numbers is =
      let it = published_by past shape number seat view happens (ap published_in is) in
      subst (RisesByAList shape) (sym it.then) (rises shape it.listing it.now it.comes_to)

  -- and the returned view has the number
  pub published_view_has_the_next_list_number : answer_of past shape number seat happens ≡ Ok (effects.Published view) → view.list_no ≡ shape.list_no + 1
  published_view_has_the_next_list_number is =
      let it = published_by past shape number seat view happens (ap published_in is) in
      ap (λ (v : View). v.list_no) it.shows ∙ (rises shape it.listing it.now it.comes_to).list_no

  -- a list that is confirmed raises none
  pub unchanged_list_raises_no_number : answer_of past shape number seat happens ≡ Ok (effects.Unchanged view) → SameNumbers shape (after shape seat happens)
  unchanged_list_raises_no_number is =
      let it = confirmed_by past shape number seat view happens (ap unchanged_in is) in
      subst (SameNumbers shape) (sym it.then) (stays shape it.listing it.now it.comes_to)

  -- a file that is stored raises the state number by one, and no other
  pub stored_file_raises_the_state_number : answer_of past shape number seat happens ≡ Ok (effects.Put view true)
      → ((after shape seat happens).state_id ≡ shape.state_id + 1) × ((after shape seat happens).list_no ≡ shape.list_no) × ((after shape seat happens).generation ≡ shape.generation)
  stored_file_raises_the_state_number is = by happens (ap stored_in is)
    where
      by : (e : Event) → stored_in (answer_of past shape number seat e) ≡ Some view
          → ((after shape seat e).state_id ≡ shape.state_id + 1) × ((after shape seat e).list_no ≡ shape.list_no) × ((after shape seat e).generation ≡ shape.generation)
      by (event.Register stable) is = absurd cc
      by event.Upgrade is = absurd cc
      by event.Remove is = absurd cc
      by event.Look is = absurd cc
      by event.Report is = absurd cc
      by (event.PutIndex slot path file) is =
          let it = stored_by shape (after shape seat (event.PutIndex slot path file)) number slot (slot_with_index path file (slot_at shape.slots slot)) view is in
          (ap (λ (s : Shape). s.state_id) it.then, ap (λ (s : Shape). s.list_no) it.then, ap (λ (s : Shape). s.generation) it.then)
      by (event.PutPack pack path file) is =
          let it = stored_by shape (after shape seat (event.PutPack pack path file)) number pack.index (slot_with_pack path file (slot_at shape.slots pack.index)) view is in
          (ap (λ (s : Shape). s.state_id) it.then, ap (λ (s : Shape). s.list_no) it.then, ap (λ (s : Shape). s.generation) it.then)
      by (event.PassOver slot path why) is = absurd cc
      by (event.Publish listing) is = let wrong : ◌≡◌ {A = Option View} None (Some view) = sym (publish-unstored shape number (publishing shape listing)) ∙ is in absurd cc
