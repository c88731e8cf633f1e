-- Laws of look-ups that have all they need as they start: they are done at once.
use Rattle.std.proofs.Common.{◌≡◌, inl, inr, ℕ, Bool, true, cond, List, [], ◌∷◌, slice_get, Contains, Option, Some, None, option_map, Result, Ok, Err}
use Rattle.std.proofs.Common.{refl, sym, ◌∙◌, subst}
use Rattle.std.specs.List.{All, find}
use Rattle.std.specs.Ordering.{is_eq}
use Rattle.std.proofs.lemmas.List.Elements.{All-contains_itself, All-head, All-tail, All-weaker}
use Rattle.gix_hash.specs.ObjectId.{id_cmp}
use Rattle.gix_hash.specs.declared.object_id.ObjectId.{ObjectId}
use Rattle.gix_pack_read.specs.MultiIndex.{told}
use Rattle.gix_pack_read.specs.FileBytes.{FileBytes}
use Rattle.gix_pack_read.specs.Index.{index_rows}
use Rattle.gix_pack_read.specs.Rows.{PackRow, Row}
use Rattle.gix_odb_events.specs.PackFiles.{PackFile}
use Rattle.gix_odb_events.specs.declared.loaded.LoadedIndex.{LoadedIndex}
use Rattle.gix_odb_events.specs.declared.loaded.LoadedIndex.TheVariants.{Single, Multi}
use Rattle.gix_odb_events.specs.declared.loaded.SnapshotIndex.{SnapshotIndex}
use Rattle.gix_odb_events.specs.declared.view.View.{View}
use Rattle.gix_odb_search.specs.Goal.{given_by}
use Rattle.gix_odb_search.specs.Search.{at_spot, first_of, given_or_not, in_file, in_packs, rest_behind, search}
use Rattle.gix_odb_search.specs.Spot.{spot_in}
use Rattle.gix_odb_search.specs.TryOrder.{at_search}
use Rattle.gix_odb_search.specs.declared.goal.Error.{Error}
use Rattle.gix_odb_search.specs.declared.goal.Found.{Found}
use Rattle.gix_odb_search.specs.declared.goal.Found.TheVariants as found
use Rattle.gix_odb_search.specs.declared.goal.Goal.{Goal}
use Rattle.gix_object.specs.declared.want.Want.{Want}
use Rattle.gix_object.specs.declared.want.Want.TheVariants.{Object, Header, Presence}
use Rattle.gix_odb_search.specs.declared.trier.Ahead.{Ahead}
use Rattle.gix_odb_search.specs.declared.trier.Tried.{Tried}
use Rattle.gix_odb_search.specs.declared.trier.Tried.TheVariants as ends
use Rattle.gix_odb_search.proofs.ReachLemmas.{first_or_later, none_in}
use Rattle.gix_odb_calls.specs.declared.call.CallError.TheVariants as call_errors
use Rattle.gix_odb_calls.specs.declared.call.Reply.TheVariants as replies
use Rattle.gix_odb.specs.LookUpOrder.{Setting, at, by_tried, find_error, goal_of, new_head, reply_found, started, try_view, without_notes}
use Rattle.gix_odb.specs.declared.look_up.LookHead.{LookHead}
use Rattle.gix_odb.specs.declared.look_up.LookStage.TheVariants as stages
use Rattle.gix_odb.specs.declared.look_up.Part.{Part}
use Rattle.gix_odb.specs.declared.look_up.Part.TheVariants as parts
use Rattle.gix_odb.specs.declared.look_up.Purpose.TheVariants as purposes
use Rattle.gix_odb.specs.declared.refresh.Refresh.TheVariants as fronts
use Rattle.gix_odb.specs.declared.refresh_mode.RefreshMode.{RefreshMode}
use Rattle.gix_odb.proofs.MissLaws.Replies.{found_is_no_miss, refused_is_no_miss}
use Rattle.gix_odb.specs.AtHand.{HasId, HasPacks, IsAtHand, IsDone, IsPackLoaded, SaysYes, place_for}

-- ---- a search that ends

-- The result of trying that ends at once, with no pack and no index that is still to be read. For presence it finds the object.
abbrev Ends : Want → Tried → Type 0
Ends Presence (ends.Hit found.Presence) = Unit {0}
Ends Presence other = ⊥
Ends wanted (ends.Hit what) = Unit {0}
Ends wanted (ends.Bad error) = Unit {0}
Ends wanted other = ⊥

-- what a search needs of an index that has the id
abbrev Needs : Want → SnapshotIndex → (place : ℕ) → Type 0
Needs Presence index place = Unit {0}
Needs wanted index place = IsPackLoaded index place

module _ (goal : Goal) where
  abbrev NeedsIfHas : SnapshotIndex → Type 0
  NeedsIfHas index = (place : ℕ) → place_for index.index goal.id ≡ Some place → Needs goal.want index place

  no_place : (index : SnapshotIndex) → place_for index.index goal.id ≡ None → ¬ (HasId goal.id index)
  no_place index none has = let wrong : None ≡ Some has.place = sym none ∙ has.has in cc wrong

module _ (goal : Goal) (ahead : Ahead) where
  -- the search among indices, and its result
  abbrev seeks : List SnapshotIndex → Tried
  seeks indices = at_search goal ahead (search goal [] indices)

  -- the first index of several
  module _ (index : SnapshotIndex) (rest : List SnapshotIndex) where
    given_ends : (P : Tried → Type 0) → ((what : Found) → P (ends.Hit what)) → ((error : Error) → P (ends.Bad error)) → (given : Result Found Error)
        → P (at_search goal ahead (first_of (given_or_not given) (search goal [] rest)))
    given_ends P hit bad (Ok what) = hit what
    given_ends P hit bad (Err error) = bad error

    -- the pack that is named is loaded, and gives the object or an error
    in_loaded : (P : Tried → Type 0) → ((what : Found) → P (ends.Hit what)) → ((error : Error) → P (ends.Bad error)) → (place offset : ℕ)
        → IsPackLoaded index place
        → P (at_search goal ahead (first_of (in_packs goal [] index (record { place = place; offset = offset }) (slice_get index.packs place)) (search goal [] rest)))
    in_loaded P hit bad place offset has =
        subst (λ (pack : Option PackFile). P (at_search goal ahead (first_of (in_packs goal [] index (record { place = place; offset = offset }) pack) (search goal [] rest))))
        (sym has.named)
        (subst (λ (file : Option FileBytes). P (at_search goal ahead (first_of (in_file goal [] index (record { place = place; offset = offset }) has.pack.path file) (search goal [] rest))))
        (sym has.there)
        (given_ends P hit bad (given_by goal.want goal.limit has.file offset)))

    spot_ends : (wanted : Want) (place offset : ℕ) → Needs wanted index place
        → Ends wanted (at_search goal ahead (first_of (at_spot wanted goal [] index (Some (record { place = place; offset = offset }))) (search goal [] rest)))
    spot_ends Presence place offset needs = tt
    spot_ends Object place offset needs = in_loaded (Ends Object) (λ what. tt) (λ error. tt) place offset needs
    spot_ends Header place offset needs = in_loaded (Ends Header) (λ what. tt) (λ error. tt) place offset needs

    -- the index has the id, and the search ends there; or it hasn't, and the search goes on
    module _ (wanted : Want) where
      abbrev NeedsAt : Option ℕ → Type 0
      NeedsAt own = (place : ℕ) → own ≡ Some place → Needs wanted index place

      row_ends : (row : Option Row) → NeedsAt (option_map {U = ℕ} (λ (r : Row). 0) row) → (option_map {U = ℕ} (λ (r : Row). 0) row ≡ None → Ends wanted (seeks rest))
          → Ends wanted (at_search goal ahead
          (first_of (at_spot wanted goal [] index (option_map (λ (r : Row). record { place = 0; offset = r.offset }) row)) (search goal [] rest)))
      row_ends (Some row) needs later = spot_ends wanted 0 row.offset (needs 0 refl)
      row_ends None needs later = later refl

      pack_row_ends : (row : Option PackRow) → NeedsAt (option_map (λ (r : PackRow). r.pack) row)
          → (option_map (λ (r : PackRow). r.pack) row ≡ None → Ends wanted (seeks rest))
          → Ends wanted (at_search goal ahead
          (first_of (at_spot wanted goal [] index (option_map (λ (r : PackRow). record { place = r.pack; offset = r.offset }) row)) (search goal [] rest)))
      pack_row_ends (Some row) needs later = spot_ends wanted row.pack row.offset (needs row.pack refl)
      pack_row_ends None needs later = later refl

      index_ends : (own : LoadedIndex) → NeedsAt (place_for own goal.id) → (place_for own goal.id ≡ None → Ends wanted (seeks rest))
          → Ends wanted (at_search goal ahead (first_of (at_spot wanted goal [] index (spot_in own goal.id)) (search goal [] rest)))
      index_ends (Single file) needs later =
          row_ends (find (λ (row : Row). is_eq (id_cmp row.id goal.id)) (index_rows file.kind file.bytes)) needs later
      index_ends (Multi bytes) needs later = pack_row_ends (find (λ (row : PackRow). is_eq (id_cmp row.id goal.id)) (told bytes).rows) needs later

  search_ends : (indices : List SnapshotIndex) → All (NeedsIfHas goal) indices → (index : SnapshotIndex) → Contains indices index → HasId goal.id index
      → Ends goal.want (seeks indices)
  search_ends [] needs index among has = absurd (none_in index among)
  search_ends (first ∷ rest) needs index among has =
      index_ends first rest goal.want first.index (All-head (NeedsIfHas goal) first rest needs)
      (λ none.
      elim (first_or_later first rest index among) [
        | inl is ↦ absurd (no_place goal first none (subst (HasId goal.id) (sym is) has))
        | inr later ↦ search_ends rest (All-tail (NeedsIfHas goal) first rest needs) index later has
      ])

-- ---- the look-up

module _ (setting : Setting) where
  found_one : (want : Want) (head : LookHead) (part : Part) (what : Found) → SaysYes want (reply_found what)
      → IsDone want (at head (by_tried setting head part (ends.Hit what)))
  found_one want head part what says =
      record { reply = reply_found what; replied = refl; silent = refl; found = found_is_no_miss want what; says_yes = says }

  refused_one : (want : Want) (head : LookHead) (part : Part) (error : Error) → SaysYes want (replies.Refused (call_errors.Find (find_error error)))
      → IsDone want (at head (by_tried setting head part (ends.Bad error)))
  refused_one want head part error says =
      record {
        reply = replies.Refused (call_errors.Find (find_error error));
        replied = refl;
        silent = refl;
        found = refused_is_no_miss want (call_errors.Find (find_error error));
        says_yes = says;
      }

  done : (want : Want) (head : LookHead) (part : Part) (end : Tried) → Ends want end → IsDone want (at head (by_tried setting head part end))
  done Object head part (ends.Hit what) over = found_one Object head part what tt
  done Object head part (ends.Bad error) over = refused_one Object head part error tt
  done Object head part (ends.More trier) over = absurd over
  done Object head part (ends.Missed notes) over = absurd over
  done Object head part (ends.Broken refusal) over = absurd over
  done Header head part (ends.Hit what) over = found_one Header head part what tt
  done Header head part (ends.Bad error) over = refused_one Header head part error tt
  done Header head part (ends.More trier) over = absurd over
  done Header head part (ends.Missed notes) over = absurd over
  done Header head part (ends.Broken refusal) over = absurd over
  done Presence head part (ends.Hit found.Presence) over = found_one Presence head part found.Presence refl
  done Presence head part (ends.Hit (found.Object kind bytes)) over = absurd over
  done Presence head part (ends.Hit (found.Header kind size)) over = absurd over
  done Presence head part (ends.Bad error) over = absurd over
  done Presence head part (ends.More trier) over = absurd over
  done Presence head part (ends.Missed notes) over = absurd over
  done Presence head part (ends.Broken refusal) over = absurd over

  needs : (mode : RefreshMode) (want : Want) (id : ObjectId) (view : View) → HasPacks want id view → All (NeedsIfHas (goal_of setting (new_head mode want id))) view.snapshot.indices
  needs mode Object id view packs = packs
  needs mode Header id view packs = packs
  needs mode Presence id view packs =
      let indices = view.snapshot.indices in
      All-weaker (Contains indices) (NeedsIfHas (goal_of setting (new_head mode Presence id))) (λ index among place is. tt) indices
      (All-contains_itself indices)

  -- A look-up whose snapshot has an index with the id, and has loaded the pack that each such index names for it, is done as it starts and
  -- asks nothing. For a test an index with the id is enough.
  pub object_at_hand_is_found_at_once : (mode : RefreshMode) (want : Want) (id : ObjectId) (view : View) → IsAtHand want id view → IsDone want (started setting mode view want id)
  object_at_hand_is_found_at_once mode want id view hand =
      let head : LookHead = new_head mode want id in
      let goal : Goal = goal_of setting head in
      let indices = view.snapshot.indices in
      let left : Ahead = record { indices = rest_behind goal [] indices; todo = []; notes = without_notes } in
      subst (λ (b : Bool). IsDone want (at head (cond b (try_view setting head parts.Snapshot view [] without_notes) (stages.Refreshing fronts.Reading (purposes.First true) without_notes))))
      (sym hand.read)
      (done want head parts.Snapshot (seeks goal left indices) (search_ends goal left indices (needs mode want id view hand.packs) hand.index hand.among hand.has))
