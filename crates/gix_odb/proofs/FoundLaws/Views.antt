-- What a view shows of an index and of a pack that were read: what was read of them, or what the view has in their place.
use Rattle.std.proofs.Common.{◌≡◌, ◌==◌, ℕ, Bool, true, false, cond, List, [], ◌∷◌, All, unwrap_or, Option, Some, None, Result}
use Rattle.std.proofs.Common.{refl, subst}
use Rattle.std.specs.List.{find}
use Rattle.std.proofs.lemmas.List.Elements.{All-cons, All-contains, All-head, All-nil, All-tail}
use Rattle.odb_base.specs.Path.{Path}
use Rattle.gix_hash.specs.declared.kind.Kind.{Kind}
use Rattle.gix_pack_read.specs.FileBytes.{FileBytes}
use Rattle.gix_odb_events.specs.OnDiskFile.{loaded}
use Rattle.gix_odb_events.specs.PackFiles.{PackFile, same_path, new_packs}
use Rattle.gix_odb_events.specs.declared.loaded.SnapshotIndex.{SnapshotIndex}
use Rattle.gix_odb_events.proofs.SamePathLaws.{same_path-true}
use Rattle.gix_odb_events.specs.Answers.{view_in}
use Rattle.gix_odb_events.specs.declared.event.Effect.{Effect}
use Rattle.gix_odb_events.specs.declared.event.Refusal.{Refusal}
use Rattle.gix_odb_events.specs.declared.view.View.{View}
use Rattle.gix_odb_search.specs.LoadOrder.{is_at, or_else, own_index, shown_in, shown_or_own}
use Rattle.gix_odb_search.specs.TryOrder.{pack_among, pack_in, pack_or, pack_shown}
use Rattle.gix_odb_events.specs.declared.answer.Answer.TheVariants as told
use Rattle.gix_odb_events.specs.declared.answer.Ask.{Ask}
use Rattle.gix_odb_events.specs.declared.answer.Ask.TheVariants as asks
use Rattle.gix_odb_search.specs.declared.index_loader.IndexPlace.{IndexPlace}
use Rattle.gix_odb_search.specs.declared.search.WantedPack.{WantedPack}
use Rattle.gix_odb.specs.LookUpOrder.{Setting}
use Rattle.gix_odb.specs.Shown.{IsIndexPath, IsIndexShownAt, IsPackShownAt, IsPackShown, IsIndexShown, IsShownView}
use Rattle.gix_odb.specs.True.{IsTrue}
use Rattle.gix_odb.proofs.ListerLaws.Lists.{find_passes}

-- a true answer of the core passes only what was shown
pub views_shown : (Shown : Path → ℕ → List ℕ → Type 0) (setting : Setting) (hash : Kind)
    (ask : Ask) (answer : Result Effect Refusal) → IsTrue Shown setting hash ask (told.Core answer)
    → (view : View)
    → view_in answer ≡ Some view
    → IsShownView Shown setting hash view
views_shown Shown setting hash (asks.Disk ask) answer truth = absurd truth
views_shown Shown setting hash (asks.Core event) answer truth = truth
views_shown Shown setting hash (asks.NewCore slots folders) answer truth = truth

module _ (Shown : Path → ℕ → List ℕ → Type 0) (setting : Setting) (hash : Kind) where
  -- ---- an index

  abbrev Shows : SnapshotIndex → Type 0
  Shows index = IsIndexShown Shown setting hash index

  own_shown : (place : IndexPlace) (file : FileBytes) → IsIndexPath setting place.path → IsIndexShownAt Shown setting hash place.path file
      → Shows (own_index place file)
  own_shown place file path there =
      record { file = record { at = path; there = there }; are = refl; packs = λ k d within. none k d within }
    where
      none : All (IsPackShown Shown setting hash) (new_packs place.path None)
      none = All-cons (IsPackShown Shown setting hash) _ [] (λ read is. absurd (cc is)) (All-nil (IsPackShown Shown setting hash))

  or_own_shown : (place : IndexPlace) (file : FileBytes) → IsIndexPath setting place.path → IsIndexShownAt Shown setting hash place.path file
      → (shown : Option SnapshotIndex)
      → ((index : SnapshotIndex) → shown ≡ Some index → Shows index)
      → Shows (shown_or_own place file shown)
  or_own_shown place file path read None each = own_shown place file path read
  or_own_shown place file path read (Some index) each = each index refl

  among_shown : (place : IndexPlace) (indices : List SnapshotIndex) → All (IsIndexShown Shown setting hash) indices → (index : SnapshotIndex)
      → find (is_at place) indices ≡ Some index
      → Shows index
  among_shown place indices all index is = All-contains (IsIndexShown Shown setting hash) indices index all (find_passes (is_at place) indices index is).0

  either_shown : (one other : Option SnapshotIndex) (index : SnapshotIndex) → (one ≡ Some index → Shows index) → (other ≡ Some index → Shows index)
      → or_else one other ≡ Some index
      → Shows index
  either_shown None other index first further is = further is
  either_shown (Some found) other index first further is = first is

  view_shown : (place : IndexPlace) (view : Option View) → ((own : View) → view ≡ Some own → IsShownView Shown setting hash own) → (index : SnapshotIndex)
      → shown_in place view ≡ Some index
      → Shows index
  view_shown place None views index is = absurd (cc is)
  view_shown place (Some view) views index is =
      let shown = views view refl in
      either_shown (find (is_at place) view.snapshot.indices) (find (is_at place) view.snapshot.kept) index
      (among_shown place view.snapshot.indices shown.indices index)
      (among_shown place view.snapshot.kept shown.kept index) is

  -- the index that is loaded after the core's answer was shown
  pub index_shown : (place : IndexPlace) (file : FileBytes) → IsIndexPath setting place.path → IsIndexShownAt Shown setting hash place.path file
      → (view : Option View)
      → ((own : View) → view ≡ Some own → IsShownView Shown setting hash own)
      → Shows (shown_or_own place file (shown_in place view))
  index_shown place file path read view views = or_own_shown place file path read (shown_in place view) (view_shown place view views)

  -- ---- a pack

  module _ (pack : WantedPack) where
    abbrev IsOwn : FileBytes → Type 0
    IsOwn file = IsPackShownAt Shown setting hash pack.path file

    one_read : (pack_file : PackFile) (rest : Option FileBytes) (file : FileBytes) → IsPackShown Shown setting hash pack_file
        → (rest ≡ Some file → IsOwn file) → (here : Bool)
        → same_path pack_file.path pack.path ≡ here
        → cond here (loaded pack_file.state) rest ≡ Some file
        → IsOwn file
    one_read pack_file rest file read further true same is =
        subst (λ (path : Path). IsPackShownAt Shown setting hash path file) (same_path-true pack_file.path pack.path same) (read file is)
    one_read pack_file rest file read further false same is = further is

    packs_read : (packs : List PackFile) → All (IsPackShown Shown setting hash) packs → (file : FileBytes) → pack_among pack packs ≡ Some file → IsOwn file
    packs_read [] all file is = absurd (cc is)
    packs_read (one ∷ packs) all file is =
        one_read one (pack_among pack packs) file (All-head (IsPackShown Shown setting hash) one packs all)
        (packs_read packs (All-tail (IsPackShown Shown setting hash) one packs all) file) (same_path one.path pack.path) refl is

    chosen_read : (here : Bool) (one other : Option FileBytes) (file : FileBytes) → (one ≡ Some file → IsOwn file) → (other ≡ Some file → IsOwn file)
        → cond here one other ≡ Some file
        → IsOwn file
    chosen_read true one other file first further is = first is
    chosen_read false one other file first further is = further is

    indices_read : (indices : List SnapshotIndex) → All (IsIndexShown Shown setting hash) indices → (file : FileBytes) → pack_in pack indices ≡ Some file
        → IsOwn file
    indices_read [] all file is = absurd (cc is)
    indices_read (index ∷ rest) all file is =
        let shown = All-head (IsIndexShown Shown setting hash) index rest all in
        chosen_read (index.slot == pack.slot) (pack_among pack index.packs) (pack_in pack rest) file (packs_read index.packs shown.packs file)
        (indices_read rest (All-tail (IsIndexShown Shown setting hash) index rest all) file) is

    either_read : (one other : Option FileBytes) (file : FileBytes) → (one ≡ Some file → IsOwn file) → (other ≡ Some file → IsOwn file)
        → pack_or one other ≡ Some file → IsOwn file
    either_read None other file first further is = further is
    either_read (Some found) other file first further is = first is

    view_read : (view : Option View) → ((own : View) → view ≡ Some own → IsShownView Shown setting hash own) → (file : FileBytes)
        → pack_shown pack view ≡ Some file → IsOwn file
    view_read None views file is = absurd (cc is)
    view_read (Some view) views file is =
        let shown = views view refl in
        either_read (pack_in pack view.snapshot.indices) (pack_in pack view.snapshot.kept) file (indices_read view.snapshot.indices shown.indices file)
        (indices_read view.snapshot.kept shown.kept file) is

    or_read : (found : Option FileBytes) (file : FileBytes) → ((other : FileBytes) → found ≡ Some other → IsOwn other) → IsOwn file
        → IsOwn (unwrap_or found file)
    or_read None file each own = own
    or_read (Some other) file each own = each other refl

    -- the pack that gives the object after the core's answer was read
    pub pack_loaded : (file : FileBytes) → IsOwn file → (view : Option View) → ((own : View) → view ≡ Some own → IsShownView Shown setting hash own)
        → IsOwn (unwrap_or (pack_shown pack view) file)
    pack_loaded file own view views = or_read (pack_shown pack view) file (view_read view views) own
