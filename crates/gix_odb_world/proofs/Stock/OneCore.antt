-- One core: what holds of it stays so over each event, and over an entry more that hands it what was read.
use Rattle.std.proofs.Common.{◌≡◌, ℕ, List, [], ◌∷◌, ◌++◌, length, Contains, Some, Ok, inr, refl, sym, subst, arith}
use Rattle.std.specs.Prelude.{slice_get}
use Rattle.std.proofs.lemmas.List.{length_push}
use Rattle.odb_base.specs.Path.{Path}
use Rattle.odb_disk.specs.MemDisk.{Volume}
use Rattle.odb_disk.specs.Tree.Follow.{read_of}
use Rattle.gix_odb_core.specs.History.{History, opened, present}
use Rattle.gix_odb_core.specs.Possible.{IsPossible}
use Rattle.gix_odb_core.specs.Replay.{CanHappen, IsLegal}
use Rattle.gix_odb_core.specs.declared.journal.Entry.{Entry}
use Rattle.gix_hash.specs.declared.object_id.ObjectId.{ObjectId}
use Rattle.gix_odb_events.specs.declared.event.Event.TheVariants as core_events
use Rattle.gix_odb_events.specs.declared.listing.Listing.{Listing}
use Rattle.gix_odb_core.proofs.ShapeLaws.{possible_journal_grows}
use Rattle.gix_odb.specs.Fair.{PackedPlace}
use Rattle.gix_odb.specs.Shown.{IsHanded}
use Rattle.gix_odb.specs.StillListed.{HasRow}
use Rattle.gix_odb.specs.Store.{listed_for}
use Rattle.gix_odb_world.proofs.CoreLaws.Journals.{each_of_grown, legal_journal_grows}
use Rattle.gix_odb_world.proofs.CoreLaws.Wider.{IsHanded-wider}
use Rattle.gix_odb.specs.Contents.{folder_list}
use Rattle.gix_odb.specs.Held.{WasShownWith}
use Rattle.gix_odb_world.specs.AtWork.{Store, setting_in}
use Rattle.gix_odb_history.specs.Cores.{answer_behind, cores_after, entered, entry_of}
use Rattle.gix_odb_history.specs.Event.{CoreAnswer, CoreEvent, Event}
use Rattle.gix_odb_history.specs.Run.{tree_at}
use Rattle.gix_odb_world.specs.Running.PackedStill.{IsPackedStill}
use Rattle.gix_odb_world.proofs.HistoryLemmas.{tree_at-before}
use Rattle.gix_odb_world.proofs.PackedStill.Moments.{still_before}

-- a file with these bytes and this time was shown at a path since a store was opened
abbrev pub ShownSince : Volume → List Event → Store → Path → (time : ℕ) → List ℕ → Type 0
ShownSince first events store path time bytes = WasShownWith (tree_at first events) store.opened (length events) path time bytes

-- a listing that an event publishes has a row of what stayed unchanged in a pack of a folder since the store was opened
abbrev pub ListsStill : Volume → List Event → Store → CoreEvent → Type 0
ListsStill first events store (core_events.Publish listing) =
    (id : ObjectId) (place : PackedPlace) → Contains (folder_list store.parts) place.folder
    → IsPackedStill (tree_at first events) store store.opened (length events) id place
    → HasRow (listed_for store.parts).multi store.parts.object_hash id place listing.rows
ListsStill first events store event = Unit {0}

-- it is enough that it does where the event publishes one
pub lists_if_published : (first : Volume) (events : List Event) (store : Store) (event : CoreEvent)
    → ((listing : Listing) → event ≡ core_events.Publish listing → ListsStill first events store (core_events.Publish listing)) → ListsStill first events store event
lists_if_published first events store (core_events.Register stable) lists = tt
lists_if_published first events store core_events.Upgrade lists = tt
lists_if_published first events store core_events.Remove lists = tt
lists_if_published first events store core_events.Look lists = tt
lists_if_published first events store core_events.Report lists = tt
lists_if_published first events store (core_events.PutIndex slot path file) lists = tt
lists_if_published first events store (core_events.PutPack pack path file) lists = tt
lists_if_published first events store (core_events.PassOver slot path why) lists = tt
lists_if_published first events store (core_events.Publish listing) lists = lists listing refl

-- the history of a core of a store, which was made with so many slots
pub record IsOfStore (first : Volume) (events : List Event) (store : Store) (history : History) : Type 0 where
  pub slots : ℕ
  pub opening : history.opening ≡ (opened slots (length (folder_list store.parts)) 0 0).opening
  pub legal : IsLegal history.opening history.entries
  pub possible : IsPossible history.opening history.entries
  pub handed : (entry : Entry) → Contains history.entries entry → IsHanded (ShownSince first events store) (setting_in store) store.parts.object_hash entry.event
  pub still : (entry : Entry) → Contains history.entries entry → ListsStill first events store entry.event

-- the core of a number is that of a store
pub record IsStocked (first : Volume) (events : List Event) (core : ℕ) (store : Store) : Type 0 where
  pub history : History
  pub there : slice_get (cores_after events) core ≡ Some history
  pub of : IsOfStore first events store history

module _ (first : Volume) (events : List Event) (e : Event) (store : Store) where
  abbrev whole : List Event
  whole = events ++ e ∷ []

  -- what was shown before an event was shown before and with it
  pub shown_later : (path : Path) (time : ℕ) (bytes : List ℕ) → ShownSince first events store path time bytes → ShownSince first whole store path time bytes
  shown_later path time bytes was =
      let longer = length_push events e in
      let to = was.to in
      record {
        moment = was.moment;
        from = was.from;
        to = omega (arith, to, longer);
        was = subst (λ tree. read_of tree path ≡ Ok (bytes, time)) (sym (tree_at-before first events e was.moment was.to)) was.was;
      }

  lists_later : (event : CoreEvent) → ListsStill first events store event → ListsStill first whole store event
  lists_later event lists =
      lists_if_published first whole store event
      (λ listing is id place among still.
      subst (ListsStill first events store) is lists id place among (still_before first events e store store.opened id place still))

  -- it still holds
  pub of_store_later : (history : History) → IsOfStore first events store history → IsOfStore first whole store history
  of_store_later history of = record {
    slots = of.slots;
    opening = of.opening;
    legal = of.legal;
    possible = of.possible;
    handed = λ entry among.
        IsHanded-wider (ShownSince first events store) (ShownSince first whole store) shown_later (setting_in store) store.parts.object_hash entry.event (of.handed entry among);
    still = λ entry among. lists_later entry.event (of.still entry among);
  }

  -- with one more entry
  pub of_store_grown : (history : History) (seat : ℕ) (event : CoreEvent) (answer : CoreAnswer) → answer ≡ answer_behind history seat event
      → CanHappen (present history) seat event
      → IsHanded (ShownSince first events store) (setting_in store) store.parts.object_hash event → ListsStill first events store event
      → IsOfStore first events store history → IsOfStore first whole store (entered history seat event answer)
  of_store_grown history seat event answer answered can handed lists of =
      let entry : Entry = entry_of history seat event answer in
      let later = of_store_later history of in
      record {
        slots = of.slots;
        opening = of.opening;
        legal = legal_journal_grows history.entries entry history.opening of.legal (record { numbered = refl; answered = inr answered });
        possible = possible_journal_grows history.entries history.opening entry of.possible can;
        handed =
            each_of_grown history.entries entry (λ (one : Entry). IsHanded (ShownSince first whole store) (setting_in store) store.parts.object_hash one.event) later.handed
            (IsHanded-wider (ShownSince first events store) (ShownSince first whole store) shown_later (setting_in store) store.parts.object_hash event handed);
        still = each_of_grown history.entries entry (λ (one : Entry). ListsStill first whole store one.event) later.still (lists_later event lists);
      }
