-- Once the list of a core was read, it has the rows of a listing that was published, or that confirmed it: those of the last one. Any other event
-- leaves the list, and in each slot the row that it holds.
use Rattle.std.proofs.Common.{◌≡◌, ℕ, ◌<◌, true, false, List, [], ◌∷◌, ◌++◌, length, get_or, Contains, Option, Some, None, inl, inr}
use Rattle.std.proofs.Common.{option_map, refl, sym, ap, ◌∙◌, subst, append_assoc, append-nil, arith}
use Rattle.std.specs.List.{All}
use Rattle.std.proofs.lemmas.List.Elements.{All-contains, Contains-append_left, Contains-get_or, Contains-push}
use Rattle.odb_base.specs.Path.{Path}
use Rattle.gix_hash.specs.declared.kind.Kind.{Kind}
use Rattle.gix_odb_events.specs.Shown.{loaded_index, shown_slot, todo_of, unloaded_slot}
use Rattle.gix_odb_events.specs.Slots.{holds, index_path, slot_at}
use Rattle.gix_odb_events.specs.View.{HasRow}
use Rattle.gix_odb_events.specs.declared.event.Event.{Event}
use Rattle.gix_odb_events.specs.declared.event.Event.TheVariants as events
use Rattle.gix_odb_events.specs.declared.listing.Listing.{Listing}
use Rattle.gix_odb_events.specs.declared.listing.ListingRow.{ListingRow}
use Rattle.gix_odb_events.specs.declared.loaded.LoadedIndex.{LoadedIndex}
use Rattle.gix_odb_events.specs.declared.loaded.SnapshotIndex.{SnapshotIndex}
use Rattle.gix_odb_events.specs.declared.slot.Filled.{Filled}
use Rattle.gix_odb_events.proofs.ShownLemmas.{gives}
use Rattle.gix_odb_core.specs.Listed.{HasRowsInOrder}
use Rattle.gix_odb_core.specs.Possible.{IsOpened, IsPossible}
use Rattle.gix_odb_core.specs.Replay.{IsLegal, after_entry, publish_answer, replay}
use Rattle.gix_odb_core.specs.Steps.{Outdated, Overflows, Published, Publishing, TooFew, Unchanged, after, publishing, shape_published}
use Rattle.gix_odb_core.specs.Views.{view_of}
use Rattle.gix_odb_core.specs.declared.journal.Entry.{Entry}
use Rattle.gix_odb_core.specs.declared.shape.Shape.{Shape}
use Rattle.gix_odb_core.proofs.ListingLaws.{refreshed_list_has_the_rows_in_order}
use Rattle.gix_odb_core.proofs.PublishLaws.{filled_from_holds}
use Rattle.gix_odb.specs.Fair.{HasRowOf}
use Rattle.gix_odb.specs.LookUpOrder.{Setting}
use Rattle.gix_odb.specs.Shown.{IsHanded, IsRowHanded}
use Rattle.gix_odb_world.proofs.CoreLaws.HeldRows.{entry_gives, other_events_leave_the_list}
use Rattle.gix_odb_world.proofs.CoreLaws.MultiRows.{MultisHaveOne, multi_row_is_shown}

-- the list has the rows of a listing that an entry published
pub record HasListing (entries : List Entry) (shape : Shape) : Type 0 where
  pub entry : Entry
  pub among : Contains entries entry
  pub listing : Listing
  pub publishes : entry.event ≡ events.Publish listing
  pub rows : HasRowsInOrder listing.rows shape

-- it has, if it was read
abbrev pub IsListing : List Entry → Shape → Type 0
IsListing entries shape = shape.read ≡ true → HasListing entries shape

-- ---- one entry more

module _ (past : List Entry) (entry : Entry) (shape : Shape) (was : IsListing past shape) where
  abbrev now : List Entry
  now = past ++ entry ∷ []

  still_listing : IsListing now shape
  still_listing read =
      let had = was read in
      record {
        entry = had.entry;
        among = Contains-append_left past (entry ∷ []) had.entry had.among;
        listing = had.listing;
        publishes = had.publishes;
        rows = had.rows;
      }

  other_event : (happens : Event) → ((listing : Listing) → ¬ (happens ≡ events.Publish listing)) → IsListing now (after shape entry.seat happens)
  other_event happens none read =
      let same = other_events_leave_the_list shape entry.seat happens none in
      let had = still_listing (sym same.read ∙ read) in
      record {
        entry = had.entry;
        among = had.among;
        listing = had.listing;
        publishes = had.publishes;
        rows = record {
          long = ap (λ (list : List ℕ). length list) same.list ∙ had.rows.long;
          each = λ k d within.
              subst (λ (list : List ℕ). holds (get_or had.listing.rows k d) (slot_at (after shape entry.seat happens).slots (get_or list k 0)) ≡ true) (sym same.list)
              (same.rows (get_or shape.list k 0) (get_or had.listing.rows k d) (had.rows.each k d within));
        };
      }

  -- a listing that is published, or that confirms the list
  published : (listing : Listing) → entry.event ≡ events.Publish listing → (p : Publishing) → publishing shape listing ≡ p → IsListing now (shape_published shape p)
  published listing is Outdated same = still_listing
  published listing is (TooFew needed) same = still_listing
  published listing is Overflows same = still_listing
  published listing is (Unchanged then) same = λ read. record {
    entry = entry;
    among = Contains-push past entry;
    listing = listing;
    publishes = is;
    rows =
        subst (λ (p : Publishing). HasRowsInOrder listing.rows (shape_published shape p)) same
        (refreshed_list_has_the_rows_in_order past shape 0 entry.seat listing (view_of then 0) (inr (ap (publish_answer shape 0) same)));
  }
  published listing is (Published then) same = λ read. record {
    entry = entry;
    among = Contains-push past entry;
    listing = listing;
    publishes = is;
    rows =
        subst (λ (p : Publishing). HasRowsInOrder listing.rows (shape_published shape p)) same
        (refreshed_list_has_the_rows_in_order past shape 0 entry.seat listing (view_of then 0) (inl (ap (publish_answer shape 0) same)));
  }

  event_lists : (happens : Event) → entry.event ≡ happens → IsListing now (after shape entry.seat happens)
  event_lists (events.Register stable) is = other_event (events.Register stable) (λ listing wrong. cc wrong)
  event_lists events.Upgrade is = other_event events.Upgrade (λ listing wrong. cc wrong)
  event_lists events.Remove is = other_event events.Remove (λ listing wrong. cc wrong)
  event_lists events.Look is = other_event events.Look (λ listing wrong. cc wrong)
  event_lists events.Report is = other_event events.Report (λ listing wrong. cc wrong)
  event_lists (events.PutIndex slot path file) is = other_event (events.PutIndex slot path file) (λ listing wrong. cc wrong)
  event_lists (events.PutPack pack path file) is = other_event (events.PutPack pack path file) (λ listing wrong. cc wrong)
  event_lists (events.PassOver slot path why) is = other_event (events.PassOver slot path why) (λ listing wrong. cc wrong)
  event_lists (events.Publish listing) is = published listing is (publishing shape listing) refl

  entry_lists : IsListing now (after_entry shape entry)
  entry_lists = entry_gives (IsListing now) shape entry still_listing (event_lists entry.event refl)

-- ---- journals

lists_from : (later past : List Entry) (shape : Shape) → IsListing past shape → IsListing (past ++ later) (replay shape later)
lists_from [] past shape was = subst (λ (all : List Entry). IsListing all shape) (sym (append-nil past)) was
lists_from (entry ∷ later) past shape was =
    subst (λ (all : List Entry). IsListing all (replay (after_entry shape entry) later)) (append_assoc past (entry ∷ []) later)
    (lists_from later (past ++ entry ∷ []) (after_entry shape entry) (entry_lists past entry shape was))

-- a list that was read has the rows of a listing of the journal
pub read_list_has_a_listing : (opening : Shape) → IsOpened opening → (entries : List Entry) → (replay opening entries).read ≡ true
    → HasListing entries (replay opening entries)
read_list_has_a_listing opening opened entries = lists_from entries [] opening unread
  where
    unread : IsListing [] opening
    unread read = let wrong : false ≡ true = sym (ap (λ (s : Shape). s.read) opened.is) ∙ read in absurd (cc wrong)

-- ---- what is shown of the rows

-- a listed slot that holds a row is shown, or is still to be loaded
row_is_shown : (shape : Shape) (number : ℕ) (row : ListingRow) (place : ℕ) → Contains shape.list place → holds row (slot_at shape.slots place) ≡ true
    → HasRow (view_of shape number) place row
row_is_shown shape number row place has held = by (filled_from_holds row (slot_at shape.slots place) held)
  where
    by : (filled : Filled) × (slot_at shape.slots place ≡ Some filled) × (index_path filled.index ≡ row.path) → HasRow (view_of shape number) place row
    by (filled, at, path) = of (loaded_index filled.index) refl
      where
        of : (o : Option LoadedIndex) → loaded_index filled.index ≡ o → HasRow (view_of shape number) place row
        of None is =
            inr (gives (λ p. unloaded_slot p (slot_at shape.slots p)) shape.list place (record { slot = place; path = row.path }) has
            (ap (unloaded_slot place) at ∙ ap (λ (o : Option LoadedIndex). todo_of place o filled) is ∙ ap (λ p. Some (record { slot = place; path = p })) path))
        of (Some loaded) is =
            let index : SnapshotIndex = record { slot = place; path = index_path filled.index; index = loaded; packs = filled.packs } in
            inl (
              index,
              gives (λ p. shown_slot p (slot_at shape.slots p)) shape.list place index has
                  (ap (shown_slot place) at ∙ ap (option_map (λ (l : LoadedIndex). record { slot = place; path = index_path filled.index; index = l; packs = filled.packs })) is),
              refl,
              path,
            )

module _ (Shown : Path → ℕ → List ℕ → Type 0) (setting : Setting) (hash : Kind) (rule : MultisHaveOne Shown setting) (opening : Shape) (opened : IsOpened opening)
    (entries : List Entry) (legal : IsLegal opening entries) (possible : IsPossible opening entries)
    (handed : (entry : Entry) → Contains entries entry → IsHanded Shown setting hash entry.event) where
  abbrev shape : Shape
  shape = replay opening entries

  module _ (read : shape.read ≡ true) (number : ℕ) where
    abbrev has : HasListing entries shape
    has = read_list_has_a_listing opening opened entries read

    abbrev listing : Listing
    listing = has.listing

    rows_handed : All (IsRowHanded Shown setting hash) listing.rows
    rows_handed = subst (IsHanded Shown setting hash) has.publishes (handed has.entry has.among)

    row_by : (k : ℕ) (d : ListingRow) → k < length listing.rows → (multi : Option (List ℕ)) → (get_or listing.rows k d).multi ≡ multi
        → HasRowOf (view_of shape number) (get_or listing.rows k d) multi
    row_by k d within None is =
        let long = has.rows.long in
        let place : ℕ = get_or shape.list k 0 in
        (place, row_is_shown shape number (get_or listing.rows k d) place (Contains-get_or shape.list k 0 (omega (arith, long, within))) (has.rows.each k d within))
    row_by k d within (Some bytes) is =
        let long = has.rows.long in
        multi_row_is_shown Shown setting hash rule opening opened entries legal possible handed number (get_or listing.rows k d) bytes is
        (All-contains (IsRowHanded Shown setting hash) listing.rows (get_or listing.rows k d) rows_handed (Contains-get_or listing.rows k d within))
        (get_or shape.list k 0) (Contains-get_or shape.list k 0 (omega (arith, long, within))) (has.rows.each k d within)

    -- the view of a list that was read has the rows of a listing of the journal
    pub shown_list_has_its_rows : (row : ListingRow) → Contains listing.rows row → HasRowOf (view_of shape number) row row.multi
    shown_list_has_its_rows row among =
        All-contains (λ (one : ListingRow). HasRowOf (view_of shape number) one one.multi) listing.rows row
        (λ k d within. row_by k d within (get_or listing.rows k d).multi refl) among
