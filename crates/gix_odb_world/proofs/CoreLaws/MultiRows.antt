-- The view of a published listing has its rows. What it shows of a multi-pack index is the content of its row, where no multi-pack index was shown with
-- two contents at one time: the core had read this content, or got the row's.
use Rattle.std.proofs.Common.{◌≡◌, ℕ, ◌<◌, true, List, [], ◌∷◌, ◌++◌, length, get_or, map, Contains, Option, Some, None, option_map, inl, inr}
use Rattle.std.proofs.Common.{refl, sym, ap, ◌∙◌, subst, arith}
use Rattle.std.proofs.lemmas.List.Elements.{All-contains, Contains-get_or}
use Rattle.odb_base.specs.Path.{Path}
use Rattle.gix_hash.specs.declared.kind.Kind.{Kind}
use Rattle.gix_odb_events.specs.Answers as core
use Rattle.gix_odb_events.specs.Answers.{Refreshes}
use Rattle.gix_odb_events.specs.PackFiles.{PackFile, new_packs}
use Rattle.gix_odb_events.specs.Shown.{loaded_index, shown_slot}
use Rattle.gix_odb_events.specs.Slots.{Slot, holds, index_path, is_index_of, slot_at}
use Rattle.gix_odb_events.specs.declared.event.Event.{Event}
use Rattle.gix_odb_events.specs.declared.event.Event.TheVariants as events
use Rattle.gix_odb_events.specs.declared.listing.Listing.{Listing}
use Rattle.gix_odb_events.specs.declared.listing.ListingRow.{ListingRow}
use Rattle.gix_odb_events.specs.declared.loaded.LoadedIndex.{LoadedIndex}
use Rattle.gix_odb_events.specs.declared.loaded.LoadedIndex.TheVariants.{Multi}
use Rattle.gix_odb_events.specs.declared.view.View.{View}
use Rattle.gix_odb_events.proofs.ShownLemmas.{gives}
use Rattle.gix_odb_core.specs.Listed.{HasRowsInOrder}
use Rattle.gix_odb_core.specs.Possible.{IsOpened, IsPossible}
use Rattle.gix_odb_core.specs.Replay.{IsLegal, after_answer, answer_of, number_behind, replay}
use Rattle.gix_odb_core.specs.State.{entry_of}
use Rattle.gix_odb_core.specs.Steps.{after}
use Rattle.gix_odb_core.specs.Views.{view_of}
use Rattle.gix_odb_core.specs.declared.journal.Entry.{Entry}
use Rattle.gix_odb_core.specs.declared.shape.Shape.{Shape}
use Rattle.gix_odb_core.proofs.ListingLaws.{refreshed_list_has_the_rows_in_order, refreshed_view_has_each_row, refreshed_view_shows_the_shape}
use Rattle.gix_odb_core.proofs.OrderLaws.{replay_of_joined_journals}
use Rattle.gix_odb_core.proofs.OriginLaws.{journal_tells_each_slot}
use Rattle.gix_odb_core.proofs.PublishLaws.{filled_from_holds}
use Rattle.gix_odb_core.proofs.ShapeLaws.{journal_comes_to_a_shape}
use Rattle.gix_odb.specs.Fair.{HasRowOf, HasRows, ShowsContent}
use Rattle.gix_odb.specs.LookUpOrder.{Setting}
use Rattle.gix_odb.specs.Shown.{IsContentShown, IsHanded, IsMultiAt, IsMultiPath, IsRowAs, IsRowHanded, packs_of}
use Rattle.gix_odb_world.proofs.MultiSlots.{multi_slot_is_read, row_of_multi_slot, slot_of_multi}
use Rattle.gix_odb_world.proofs.ViewLaws.{paths_of_new_packs, row_of}

-- no multi-pack index of the folders was shown with two contents at one time
abbrev pub MultisHaveOne : (Shown : Path → ℕ → List ℕ → Type 0) → Setting → Type 0
MultisHaveOne Shown setting =
    (path : Path) → IsMultiPath setting path → (time : ℕ) (one other : List ℕ) → Shown path time one → Shown path time other → one ≡ other

module _ (Shown : Path → ℕ → List ℕ → Type 0) (setting : Setting) (hash : Kind) (rule : MultisHaveOne Shown setting) where
  -- ---- a listed slot

  module _ (opening : Shape) (opened : IsOpened opening) (entries : List Entry) (legal : IsLegal opening entries) (possible : IsPossible opening entries)
      (handed : (entry : Entry) → Contains entries entry → IsHanded Shown setting hash entry.event) where
    abbrev shape : Shape
    shape = replay opening entries

    -- what it shows of a multi-pack index is what each of its rows has
    pub multi_row_is_shown : (number : ℕ) (row : ListingRow) (bytes : List ℕ) → row.multi ≡ Some bytes → IsRowHanded Shown setting hash row
        → (place : ℕ) → Contains shape.list place → holds row (slot_at shape.slots place) ≡ true → ShowsContent (view_of shape number) row bytes
    multi_row_is_shown number row bytes is own place listed held =
        let filled = filled_from_holds row (slot_at shape.slots place) held in
        let at : slot_at shape.slots place ≡ Some filled.0 = filled.1 in
        let slot =
        slot_of_multi row bytes filled.0
        (subst (λ (m : Option (List ℕ)). is_index_of row m filled.0.index filled.0.time ≡ true) is (subst (λ (s : Slot). holds row s ≡ true) at held))
        (multi_slot_is_read shape (journal_comes_to_a_shape opening opened entries possible) place filled.0 at) in
        let told = journal_tells_each_slot opening opened entries legal place filled.0 at in
        let origin = row_of_multi_slot row told.row filled.0 told.of_row slot in
        let before = row_of Shown setting hash entries handed told.row told.listed in
        let was : Shown row.path row.time slot.bytes =
        subst (λ (path : Path). Shown path row.time slot.bytes) origin.0
        (subst (λ (time : ℕ). Shown told.row.path time slot.bytes) origin.1 (subst (IsContentShown Shown setting hash told.row) origin.2 before.1)) in
        let multi_at : IsMultiAt setting row.path bytes = subst (IsRowAs setting row) is own.0 in
        let same : slot.bytes ≡ bytes = rule row.path multi_at.at row.time slot.bytes bytes was (subst (IsContentShown Shown setting hash row) is own.1) in
        let loaded : loaded_index filled.0.index ≡ Some (Multi slot.bytes) = ap loaded_index slot.is ∙ ap (option_map Multi) slot.content in
        record {
          index = record { slot = place; path = index_path filled.0.index; index = Multi slot.bytes; packs = filled.0.packs };
          among =
              gives (λ (p : ℕ). shown_slot p (slot_at shape.slots p)) shape.list place
              (record { slot = place; path = index_path filled.0.index; index = Multi slot.bytes; packs = filled.0.packs }) listed
              (ap (shown_slot place) at
              ∙ ap (option_map (λ (l : LoadedIndex). record { slot = place; path = index_path filled.0.index; index = l; packs = filled.0.packs })) loaded);
          multi = ap Multi same;
          packs =
              told.of_row.packs
              ∙ (ap (λ (m : Option (List ℕ)). map (λ (pack : PackFile). pack.path) (new_packs told.row.path m)) origin.2
              ∙ (paths_of_new_packs told.row.path slot.bytes
              ∙ (ap (λ (path : Path). packs_of path (Multi slot.bytes)) origin.0 ∙ ap (λ (b : List ℕ). packs_of row.path (Multi b)) same)));
        }

  -- ---- a listing

  module _ (opening : Shape) (opened : IsOpened opening) (entries : List Entry) (seat : ℕ) (listing : Listing) (answer : core.Answer)
      (answered : answer ≡ answer_of entries (replay opening entries) (number_behind entries) seat (events.Publish listing)) where
    abbrev entry : Entry
    entry = entry_of entries seat (events.Publish listing) answer

    abbrev now : List Entry
    now = entries ++ entry ∷ []

    abbrev before_it : Shape
    before_it = replay opening entries

    module _ (legal : IsLegal opening now) (possible : IsPossible opening now)
        (handed : (one : Entry) → Contains now one → IsHanded Shown setting hash one.event) (own : IsHanded Shown setting hash (events.Publish listing))
        (view : View) (refreshes : Refreshes (answer_of entries before_it (number_behind entries) seat (events.Publish listing)) view) where
      abbrev behind_it : Shape
      behind_it = after before_it seat (events.Publish listing)

      -- the shape after the listing is that of the journal with it
      settles : behind_it ≡ replay opening now
      settles = by refreshes ∙ sym (replay_of_joined_journals entries (entry ∷ []) opening)
        where
          by : Refreshes (answer_of entries before_it (number_behind entries) seat (events.Publish listing)) view → behind_it ≡ after_answer before_it entry answer
          by (inl is) = sym (ap (after_answer before_it entry) (answered ∙ is))
          by (inr is) = sym (ap (after_answer before_it entry) (answered ∙ is))

      rows : HasRowsInOrder listing.rows (replay opening now)
      rows =
          subst (HasRowsInOrder listing.rows) settles
          (refreshed_list_has_the_rows_in_order entries before_it (number_behind entries) seat listing view refreshes)

      shows : view ≡ view_of (replay opening now) (number_behind entries)
      shows =
          refreshed_view_shows_the_shape entries before_it (number_behind entries) seat listing view refreshes
          ∙ ap (λ (shape : Shape). view_of shape (number_behind entries)) settles

      -- each row is shown by its slot, or that is still to be loaded; and a multi-pack index is shown
      pub view_has_the_row : (k : ℕ) (d : ListingRow) → k < length listing.rows → HasRowOf view (get_or listing.rows k d) (get_or listing.rows k d).multi
      view_has_the_row k d within = by row.multi refl
        where
          row : ListingRow
          row = get_or listing.rows k d

          by : (multi : Option (List ℕ)) → row.multi ≡ multi → HasRowOf view row multi
          by None is = (get_or behind_it.list k 0, refreshed_view_has_each_row entries before_it (number_behind entries) seat listing view refreshes k d within)
          by (Some bytes) is =
              let long = rows.long in
              subst (λ (v : View). ShowsContent v row bytes) (sym shows)
              (multi_row_is_shown opening opened now legal possible handed (number_behind entries) row bytes is
              (All-contains (IsRowHanded Shown setting hash) listing.rows row own (Contains-get_or listing.rows k d within))
              (get_or (replay opening now).list k 0) (Contains-get_or (replay opening now).list k 0 (omega (arith, long, within)))
              (rows.each k d within))

  -- the view of a published listing has its rows
  pub published_views_have_their_rows : (opening : Shape) → IsOpened opening → (entries : List Entry) (seat : ℕ) (event : Event) (answer : core.Answer)
      → answer ≡ answer_of entries (replay opening entries) (number_behind entries) seat event
      → IsLegal opening (entries ++ entry_of entries seat event answer ∷ []) → IsPossible opening (entries ++ entry_of entries seat event answer ∷ [])
      → ((one : Entry) → Contains (entries ++ entry_of entries seat event answer ∷ []) one → IsHanded Shown setting hash one.event)
      → IsHanded Shown setting hash event → HasRows event (answer_of entries (replay opening entries) (number_behind entries) seat event)
  published_views_have_their_rows opening opened entries seat (events.Publish listing) answer answered legal possible handed own =
      λ view refreshes. view_has_the_row opening opened entries seat listing answer answered legal possible handed own view refreshes
  published_views_have_their_rows opening opened entries seat event answer answered legal possible handed own = tt
