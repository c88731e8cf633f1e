-- Laws of listings: the view after one has every row, in the listing's order, and no listed file is garbage or missing.
use Rattle.std.proofs.Common.{Contains, ◌≡◌, ℕ, suc, ◌<◌, Bool, true, false, nat_eq, List, [], ◌∷◌, length, map, get_or, Option, Some, None, option_map, inl, inr, refl, sym, ap, subst, ◌∙◌, arith}
use Rattle.std.specs.List.{cons_option, list_any}
use Rattle.std.proofs.lemmas.List.Elements.{Contains-get_or}
use Rattle.gix_odb_core.specs.Handles.{is_any_stable}
use Rattle.gix_odb_core.specs.Listed.{HasRowsInOrder}
use Rattle.gix_odb_events.specs.Answers.{Refreshes}
use Rattle.gix_odb_events.specs.View.{HasRow}
use Rattle.gix_odb_core.specs.Counts.{listed_in}
use Rattle.gix_odb_events.specs.Slots.{slot_at, has_disposable, holds, index_path, Slot}
use Rattle.gix_odb_core.specs.Replay.{answer_of, publish_answer}
use Rattle.gix_odb_core.specs.Steps.{Publishing, Outdated, TooFew, Overflows, Unchanged, Published, after, publishing, shape_published}
use Rattle.gix_odb_events.specs.Shown.{is_listed, loaded_index, shown_slot, todo_of, unloaded_slot}
use Rattle.gix_odb_core.specs.Views.{view_of}
use Rattle.gix_odb_events.specs.declared.event.Event.TheVariants as event
use Rattle.gix_odb_core.specs.declared.journal.Entry.{Entry}
use Rattle.gix_odb_events.specs.declared.listing.Listing.{Listing}
use Rattle.gix_odb_events.specs.declared.listing.ListingRow.{ListingRow}
use Rattle.gix_odb_core.specs.declared.shape.Shape.{Shape}
use Rattle.gix_odb_events.specs.declared.slot.Filled.{Filled}
use Rattle.gix_odb_events.specs.declared.loaded.LoadedIndex.{LoadedIndex}
use Rattle.gix_odb_events.specs.declared.loaded.SnapshotIndex.{SnapshotIndex}
use Rattle.gix_odb_events.specs.declared.view.View.{View}
use Rattle.gix_odb_core.proofs.DisposableLaws.{listed_slot_has_no_disposable}
use Rattle.gix_odb_core.proofs.PublishLaws.{filled_from_holds, length-list_after, listed_slot_holds_its_row}
use Rattle.gix_odb_core.proofs.ShownLemmas.{gives, shown_unlisted}
use Rattle.gix_odb_core.proofs.SlotTurnLemmas.{HasRoom, confirmed_list_is_the_same, list_by, publish_gives, slots_by}

-- ---- the outcome of a listing

-- where a listing is published or confirmed, the shape then has these slots and this list
record IsSettled (shape : Shape) (listing : Listing) (now : Shape) : Type 0 where
  slots : now.slots ≡ slots_by shape listing.rows
  list : now.list ≡ list_by shape listing.rows
  room : HasRoom shape listing.rows

abbrev SettlesIf : Shape → Listing → Publishing → Type 0
SettlesIf shape listing (Unchanged now) = IsSettled shape listing now
SettlesIf shape listing (Published now) = IsSettled shape listing now
SettlesIf shape listing other = Unit {0}

settles : (shape : Shape) (listing : Listing) → SettlesIf shape listing (publishing shape listing)
settles shape listing =
    publish_gives (SettlesIf shape listing) shape listing tt (λ _. tt) tt
    (λ room confirmed. record { slots = refl; list = sym (confirmed_list_is_the_same shape listing.rows confirmed); room = room })
    (λ room _. record { slots = refl; list = refl; room = room })

module _ (past : List Entry) (shape : Shape) (number seat : ℕ) (listing : Listing) (view : View) (refreshes : Refreshes (answer_of past shape number seat (event.Publish listing)) view) where
  abbrev now : Shape
  now = after shape seat (event.Publish listing)

  settled_and_shown : IsSettled shape listing now × (view ≡ view_of now number)
  settled_and_shown = by (publishing shape listing) (settles shape listing) refreshes
    where
      by : (p : Publishing) → SettlesIf shape listing p → Refreshes (publish_answer shape number p) view
          → IsSettled shape listing (shape_published shape p) × (view ≡ view_of (shape_published shape p) number)
      by Outdated s (inl is) = absurd cc
      by Outdated s (inr is) = absurd cc
      by (TooFew needed) s (inl is) = absurd cc
      by (TooFew needed) s (inr is) = absurd cc
      by Overflows s (inl is) = absurd cc
      by Overflows s (inr is) = absurd cc
      by (Unchanged shape) s (inl is) = absurd cc
      by (Unchanged shape) s (inr is) = (s, (let same : view_of shape number ≡ view = cc in sym same))
      by (Published shape) s (inl is) = (s, (let same : view_of shape number ≡ view = cc in sym same))
      by (Published shape) s (inr is) = absurd cc

  -- the view is that of the shape after the listing
  pub refreshed_view_shows_the_shape : view ≡ view_of now number
  refreshed_view_shows_the_shape = settled_and_shown.1

  -- the list has a slot for each row, in the listing's order, and the slot holds the row
  pub refreshed_list_has_the_rows_in_order : HasRowsInOrder listing.rows now
  refreshed_list_has_the_rows_in_order =
      let is = settled_and_shown.0 in
      let stable : Bool = is_any_stable shape.handles in
      record {
        long = ap (λ (l : List ℕ). length l) is.list ∙ length-list_after stable listing.rows shape.slots shape.list is.room;
        each = λ k d within.
            ap (λ (l : List ℕ). holds (get_or listing.rows k d) (slot_at now.slots (get_or l k 0))) is.list
            ∙ ap (λ (s : List Slot). holds (get_or listing.rows k d) (slot_at s (get_or (list_by shape listing.rows) k 0))) is.slots
            ∙ listed_slot_holds_its_row stable listing.rows shape.slots shape.list is.room k d within;
      }

  -- no listed slot has garbage or a missing file
  pub refreshed_list_has_no_garbage_and_nothing_missing : (place : ℕ) (filled : Filled) → slot_at now.slots place ≡ Some filled → is_listed now.list place ≡ true → has_disposable filled ≡ false
  refreshed_list_has_no_garbage_and_nothing_missing place filled at listed =
      let is = settled_and_shown.0 in
      listed_slot_has_no_disposable (is_any_stable shape.handles) listing.rows shape.slots shape.list place filled
      (ap (λ (s : List Slot). slot_at s place) (sym is.slots) ∙ at)
      (ap (λ (l : List ℕ). list_any (nat_eq place) l) (sym is.list) ∙ listed)

  -- an index with garbage, or with a missing file, is shown among the kept where it was read
  pub garbage_is_shown_among_the_kept : (place : ℕ) (filled : Filled) (index : SnapshotIndex) → slot_at now.slots place ≡ Some filled → has_disposable filled ≡ true
      → shown_slot place (Some filled) ≡ Some index → Contains view.snapshot.kept index
  garbage_is_shown_among_the_kept place filled index at disposable shows =
      subst (λ (v : View). Contains v.snapshot.kept index) (sym refreshed_view_shows_the_shape) (shown_unlisted now number place filled index at shows (by (is_listed now.list place) refl))
    where
      by : (b : Bool) → is_listed now.list place ≡ b → b ≡ false
      by true listed = let wrong : true ≡ false = sym disposable ∙ refreshed_list_has_no_garbage_and_nothing_missing place filled at listed in absurd cc
      by false unlisted = refl

  -- each row is shown by its slot, or its slot is still to be loaded
  pub refreshed_view_has_each_row : (k : ℕ) (d : ListingRow) → k < length listing.rows → HasRow view (get_or now.list k 0) (get_or listing.rows k d)
  refreshed_view_has_each_row k d within =
      subst (λ (v : View). HasRow v place row) (sym refreshed_view_shows_the_shape) (by (filled_from_holds row (slot_at now.slots place) (refreshed_list_has_the_rows_in_order.each k d within)))
    where
      row : ListingRow
      row = get_or listing.rows k d

      place : ℕ
      place = get_or now.list k 0

      has : Contains now.list place
      has = let long = refreshed_list_has_the_rows_in_order.long in Contains-get_or now.list k 0 (omega arith)

      by : (filled : Filled) × (slot_at now.slots place ≡ Some filled) × (index_path filled.index ≡ row.path) → HasRow (view_of now number) place row
      by (filled, at, path) = of (loaded_index filled.index) refl
        where
          of : (o : Option LoadedIndex) → loaded_index filled.index ≡ o → HasRow (view_of now number) place row
          of None is =
              inr (gives (λ p. unloaded_slot p (slot_at now.slots p)) now.list place (record { slot = place; path = row.path }) has
              (ap (unloaded_slot place) at ∙ ap (λ (o : Option LoadedIndex). todo_of place o filled) is ∙ ap (λ p. Some (record { slot = place; path = p })) path))
          of (Some loaded) is =
              let index : SnapshotIndex = record { slot = place; path = index_path filled.index; index = loaded; packs = filled.packs } in
              inl (
                index,
                gives (λ p. shown_slot p (slot_at now.slots p)) now.list place index has
                    (ap (shown_slot place) at ∙ ap (option_map (λ (l : LoadedIndex). record { slot = place; path = index_path filled.index; index = l; packs = filled.packs })) is),
                refl,
                path,
              )

-- ---- the order

-- slots that hold rows in order have their paths in order
paths_of : (slots : List Slot) (places : List ℕ) (rows : List ListingRow) → length places ≡ length rows
    → ((k : ℕ) (d : ListingRow) → k < length rows → holds (get_or rows k d) (slot_at slots (get_or places k 0)) ≡ true)
    → map (λ (f : Filled). index_path f.index) (listed_in slots places) ≡ map (λ (r : ListingRow). r.path) rows
paths_of slots [] [] long each = refl
paths_of slots [] (row ∷ rows) long each = let no : ⊥ = omega arith in absurd no
paths_of slots (place ∷ places) [] long each = let no : ⊥ = omega arith in absurd no
paths_of slots (place ∷ places) (row ∷ rows) long each =
    by (filled_from_holds row (slot_at slots place) (each 0 row (omega arith))) (paths_of slots places rows (omega arith) (λ k d within. each (suc k) d (omega arith)))
  where
    by : (filled : Filled) × (slot_at slots place ≡ Some filled) × (index_path filled.index ≡ row.path)
        → map (λ (f : Filled). index_path f.index) (listed_in slots places) ≡ map (λ (r : ListingRow). r.path) rows
        → map (λ (f : Filled). index_path f.index) (listed_in slots (place ∷ places)) ≡ map (λ (r : ListingRow). r.path) (row ∷ rows)
    by (filled, at, path) rest = ap (λ (s : Slot). map (λ (f : Filled). index_path f.index) (cons_option s (listed_in slots places))) at ∙ (λ i. path i ∷ rest i)

-- the paths of the listed slots are those of the rows, in the listing's order
pub rows_in_order_have_their_paths : (rows : List ListingRow) (shape : Shape) → HasRowsInOrder rows shape
    → map (λ (f : Filled). index_path f.index) (listed_in shape.slots shape.list) ≡ map (λ (r : ListingRow). r.path) rows
rows_in_order_have_their_paths rows shape is = paths_of shape.slots shape.list rows is.long is.each
