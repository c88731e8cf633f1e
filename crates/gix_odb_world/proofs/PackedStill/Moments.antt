-- An object that stays unchanged in a pack, and an index that shows one content, before an event and with it.
use Rattle.std.proofs.Common.{◌≡◌, ◌⊎◌, inl, inr, ℕ, ◌+◌, ◌<◌, ◌≤◌, List, [], ◌∷◌, ◌++◌, length, Option, None, Ok, sym, ap, ◌∙◌, subst, arith}
use Rattle.std.proofs.lemmas.Bool.{cases_lt}
use Rattle.std.proofs.lemmas.List.{length_push}
use Rattle.std.proofs.Math.Seq.{take-length}
use Rattle.odb_base.specs.Path.{Path}
use Rattle.odb_disk.specs.MemDisk.{Volume}
use Rattle.odb_disk.specs.Tree.{Tree, tree_of}
use Rattle.odb_disk.specs.Tree.Follow.{read_of}
use Rattle.odb_disk.specs.declared.change.Change.{Change}
use Rattle.gix_hash.specs.declared.object_id.ObjectId.{ObjectId}
use Rattle.gix_odb.specs.Contents.{ShowsFile}
use Rattle.gix_odb.specs.Fair.{Carrier, IsIndexSound, ItsIndex, PackedPlace, TheMulti, index_at}
use Rattle.gix_odb.specs.Found.{Gives}
use Rattle.gix_odb.specs.Held.{ShowsOne, WasShownAt, index_path}
use Rattle.gix_odb.specs.Store.{listed_for}
use Rattle.gix_odb_world.specs.AtWork.{Store}
use Rattle.gix_odb_history.specs.Event.{Asked, Event, OfCore, OfDisk, OfNewCore, OfNothing}
use Rattle.gix_odb_world.specs.Headline.{LeavesDisk}
use Rattle.gix_odb_history.specs.Run.{disk_after, disk_after_asked, disk_after_change, tree_at}
use Rattle.gix_odb_world.specs.Running.PackedStill.{IndicesShowOne, IsPackedStill, LiesBy, LiesIndexed, LiesPacked, ShowsOneBy}
use Rattle.gix_odb_world.proofs.HistoryLemmas.{tree_at-before, tree_at-now}

-- what was shown as the index of what stays unchanged is sound
pub shown_index_is_sound : (trees : ℕ → Tree) (store : Store) (begun now : ℕ) (id : ObjectId) (place : PackedPlace)
    → IsPackedStill trees store begun now id place → store.opened ≤ begun → begun ≤ now → place.carrier ≡ ItsIndex
    → (bytes : List ℕ) → WasShownAt trees store.opened now (index_at place) bytes → IsIndexSound (listed_for store.parts).multi store.parts.object_hash id place bytes
shown_index_is_sound trees store begun now id place still early since by_index bytes was =
    let lies : LiesIndexed store.parts (trees now) id place =
    subst (λ (carrier : Carrier). LiesBy carrier store.parts (trees now) id place) by_index (still.always now since (omega arith)).by_carrier in
    let one : ShowsOne trees store.opened now (index_at place) = subst (λ (carrier : Carrier). ShowsOneBy carrier trees store now place) by_index still.one in
    let own : WasShownAt trees store.opened now (index_at place) lies.index =
    record { moment = now; from = omega (arith, early, since); to = omega arith; was = lies.shows_index } in
    let same : lies.index ≡ bytes = one lies.index bytes own was in
    subst (λ bs. Gives store.parts.object_hash bs id place.offset) same lies.gives

-- what lay still in a pack from a moment on did so from a later one on
pub still_later : (trees : ℕ → Tree) (store : Store) (early late now : ℕ) (id : ObjectId) (place : PackedPlace) → early ≤ late → IsPackedStill trees store early now id place
    → IsPackedStill trees store late now id place
still_later trees store early late now id place later still =
    record { carried = still.carried; always = λ moment from to. still.always moment (omega (arith, later, from)) to; one = still.one }

-- the tree after all events is that of the disk then
pub tree_before : (first : Volume) (events : List Event) → tree_at first events (length events) ≡ tree_of (disk_after first events).state
tree_before first events = ap (λ past. tree_of (disk_after first past).state) (take-length events)

module _ (first : Volume) (events : List Event) (e : Event) where
  abbrev whole : List Event
  whole = events ++ e ∷ []

  longer : length whole ≡ length events + 1
  longer = length_push events e

  shown_with_it : (opened : ℕ) (path : Path) (bytes : List ℕ) → WasShownAt (tree_at first events) opened (length events) path bytes
      → WasShownAt (tree_at first whole) opened (length whole) path bytes
  shown_with_it opened path bytes was =
      let more = longer in
      let to = was.to in
      record {
        moment = was.moment;
        from = was.from;
        to = omega (arith, to, more);
        was = subst (λ tree. ShowsFile tree path bytes) (sym (tree_at-before first events e was.moment was.to)) was.was;
      }

  one_before : (carrier : Carrier) (store : Store) (place : PackedPlace) → ShowsOneBy carrier (tree_at first whole) store (length whole) place
      → ShowsOneBy carrier (tree_at first events) store (length events) place
  one_before ItsIndex store place shows =
      λ one other was further.
      shows one other (shown_with_it store.opened (index_at place) one was) (shown_with_it store.opened (index_at place) other further)
  one_before TheMulti store place shows = tt

  -- what stayed unchanged up to the moment after an event did so up to the one before
  pub still_before : (store : Store) (begun : ℕ) (id : ObjectId) (place : PackedPlace) → IsPackedStill (tree_at first whole) store begun (length whole) id place
      → IsPackedStill (tree_at first events) store begun (length events) id place
  still_before store begun id place still = record {
    carried = still.carried;
    always = λ moment from to.
        let more = longer in
        subst (λ tree. LiesPacked store.parts tree id place) (tree_at-before first events e moment to) (still.always moment from (omega (arith, to, more)));
    one = one_before place.carrier store place still.one;
  }

  -- at any moment it lies there
  pub lies_at : (store : Store) (begun : ℕ) (id : ObjectId) (place : PackedPlace) → IsPackedStill (tree_at first whole) store begun (length whole) id place
      → (moment : ℕ) → begun ≤ moment → moment ≤ length events → LiesPacked store.parts (tree_at first events moment) id place
  lies_at store begun id place still moment from to = (still_before store begun id place still).always moment from to

  -- ---- an event that changes nothing

  left_by : (disk : Volume) (asked : Asked) (change : Option Change) → LeavesDisk asked → change ≡ None
      → tree_of (disk_after_asked disk asked change).state ≡ tree_of disk.state
  left_by disk OfNothing change leaves none = ap (λ c. tree_of (disk_after_change disk c).state) none
  left_by disk (OfDisk ask answer) change leaves none = absurd leaves
  left_by disk (OfCore core seat event answer) change leaves none = ap (λ c. tree_of (disk_after_change disk c).state) none
  left_by disk (OfNewCore slots folders core seat answer) change leaves none = ap (λ c. tree_of (disk_after_change disk c).state) none

  -- without a call of the disk, and with no change in its record, it leaves the tree as it was
  pub kept_without_call : LeavesDisk e.asked → e.entry.change ≡ None → tree_at first whole (length events + 1) ≡ tree_of (disk_after first events).state
  kept_without_call leaves none = tree_at-now first events e ∙ left_by (disk_after first events) e.asked e.entry.change leaves none

  module _ (opened : ℕ) (early : opened ≤ length events) (quiet : tree_at first whole (length events + 1) ≡ tree_at first events (length events)) (path : Path) where
    -- what was shown by then was shown before
    shown_before : (bytes : List ℕ) → WasShownAt (tree_at first whole) opened (length whole) path bytes → WasShownAt (tree_at first events) opened (length events) path bytes
    shown_before bytes was = by (cases_lt was.moment (length events + 1))
      where
        by : (was.moment < length events + 1) ⊎ (length events + 1 ≤ was.moment) → WasShownAt (tree_at first events) opened (length events) path bytes
        by (inl before) = record {
          moment = was.moment;
          from = was.from;
          to = omega (arith, before);
          was =
              subst (λ tree. (time : ℕ) × (read_of tree path ≡ Ok (bytes, time)))
              (tree_at-before first events e was.moment (omega (arith, before))) was.was;
        }
        by (inr behind) =
            let more = longer in
            let to = was.to in
            let last : was.moment ≡ length events + 1 = omega (arith, behind, to, more) in
            record {
              moment = length events;
              from = early;
              to = omega arith;
              was = subst (λ tree. (time : ℕ) × (read_of tree path ≡ Ok (bytes, time))) (ap (tree_at first whole) last ∙ quiet) was.was;
            }

    shows_one_later : ShowsOne (tree_at first events) opened (length events) path → ShowsOne (tree_at first whole) opened (length whole) path
    shows_one_later shows one other was further = shows one other (shown_before one was) (shown_before other further)

  -- each index still shows one content
  pub indices_show_one_later : (store : Store) → store.opened ≤ length events → tree_at first whole (length events + 1) ≡ tree_at first events (length events)
      → IndicesShowOne (tree_at first events) store (length events) → IndicesShowOne (tree_at first whole) store (length whole)
  indices_show_one_later store early quiet shows folder among name named =
      shows_one_later store.opened early quiet (index_path folder name) (shows folder among name named)
