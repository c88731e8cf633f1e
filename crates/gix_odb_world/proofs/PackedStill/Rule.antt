-- What a run says of the indices of a store: none shows two contents while its store is open, and no multi-pack index two at one time.
use Rattle.std.proofs.Common.{◌≡◌, ℕ, Bool, true, false, List, length, take, Option, Some, None, is_some, refl, subst}
use Rattle.std.specs.Prelude.{◌&&◌, ◌||◌, codes, nat_eq, nat_lt}
use Rattle.std.specs.List.{ends_with}
use Rattle.std.proofs.lemmas.Bool.{false≢true}
use Rattle.odb_base.specs.Path.{Name, Path, is_name}
use Rattle.odb_disk.specs.MemDisk.{Volume}
use Rattle.odb_disk.specs.Tree.{Tree}
use Rattle.gix_odb_search.specs.PackFolder.{is_index_name, multi_index_name}
use Rattle.gix_odb.specs.Contents.{ShowsFileAt}
use Rattle.gix_odb.specs.Held.{index_path, multi_path}
use Rattle.gix_odb_watch.specs.Watched.{Shows, watched_kind}
use Rattle.gix_odb_watch.proofs.ReadLaws.{shows_read}
use Rattle.gix_odb_world.specs.AtWork.{Modes, Running, Store}
use Rattle.gix_odb_world.specs.Begun.{FromClone, FromOpen, Holds, IsOpenStore, OpenedBy}
use Rattle.gix_odb_history.specs.Event.{Event}
use Rattle.gix_odb_history.specs.Run.{tree_at}
use Rattle.gix_odb_world.specs.Running.PackedStill.{IndicesShowOne, MultisShowOne}
use Rattle.gix_odb_world.proofs.BegunLemmas.{stems_now}
use Rattle.gix_odb_world.proofs.BegunLemmas.OneEvent.{Stems}
use Rattle.gix_odb_world.proofs.LawfulRun.{LawfulRun}
use Rattle.gix_odb_world.proofs.MachineLaws.{IsRunning}
use Rattle.gix_odb_world.proofs.RunSteps.Fronts.{there_in_whole}
use Rattle.gix_odb_world.proofs.StoreContents.{shows_one}

-- ---- the open step of a store

open_in_whole : (events : List Event) (place opener begun : ℕ) (store : Store) → OpenedBy (take place events) opener begun store → OpenedBy events opener begun store
open_in_whole events place opener begun store opened = record {
  place = opened.place;
  number = opened.number;
  event = opened.event;
  there = (there_in_whole events opened.place place opened.event opened.there).1;
  applied = opened.applied;
  path = opened.path;
  folders = opened.folders;
  hash = opened.hash;
  replacements = opened.replacements;
  options = opened.options;
  opens = opened.opens;
  changes = opened.changes;
  parts = opened.parts;
}

-- a store that a handle has was opened by an open step, under the number of that handle or of one that it is a clone of
opened_by : (store : Store) (events : List Event) (handle : ℕ) (modes : Modes) → Holds store events handle modes → (opener : ℕ) × IsOpenStore events opener store
opened_by store events handle modes (FromOpen step latest frozen ignoring) = (handle, step)
opened_by store events handle modes (FromClone from place event parent there applied clones held latest frozen ignoring) =
    let front = opened_by store (take place events) from parent held in
    (front.0, open_in_whole events place front.0 store.opened store front.1)

-- ---- the name of an index

last_of : (a b c : Bool) → (a && b && c) ≡ true → c ≡ true
last_of true true c is = is
last_of true false c is = absurd (cc is)
last_of false b c is = absurd (cc is)

one_of : (a b : Bool) → a ≡ true → (a || b) ≡ true
one_of true b is = refl
one_of false b is = absurd (false≢true is)

-- its ending is that of an index or of a pack
index_ends : (name : Name) → is_index_name name ≡ true → (ends_with nat_eq name (codes ".idx") || ends_with nat_eq name (codes ".pack")) ≡ true
index_ends name named =
    one_of (ends_with nat_eq name (codes ".idx")) (ends_with nat_eq name (codes ".pack"))
    (last_of (is_name name) (nat_lt 4 (length name)) (ends_with nat_eq name (codes ".idx")) named)

-- ---- the rule

found : {A : Type 0} (o : Option A) → is_some o ≡ true → (a : A) × (o ≡ Some a)
found None is = absurd (cc is)
found (Some a) is = (a, refl)

module _ (first : Volume) (events : List Event) (handle : ℕ) (running : Running) (ran : IsRunning first events handle running) where
  abbrev trees : ℕ → Tree
  trees = tree_at first events

  abbrev run : LawfulRun
  run = record { first = first; events = events; start = ran.start; lawful = ran.lawful; throughout = ran.throughout }

  opener : (number : ℕ) × IsOpenStore events number running.store
  opener = opened_by running.store events handle running.modes (subst (Stems events handle) ran.status (stems_now first events ran.lawful handle)).0

  -- No step of a lawful run makes a path of an index show a second content, from the first opening on that names its folder.
  pub indices_show_one : IndicesShowOne trees running.store (length events)
  indices_show_one folder among name named one other was further =
      shows_one run opener.0 running.store opener.1 folder among (index_path folder name) 0 was.moment further.moment one other was.from was.to further.from further.to
      (shows_read folder (trees was.moment) name one was.was.0 (index_ends name named) was.was.1)
      (shows_read folder (trees further.moment) name other further.was.0 (index_ends name named) further.was.1)

  -- what a multi-pack index shows counts under its own time
  multi_shows : (folder : Path) (tree : Tree) (time : ℕ) (bytes : List ℕ) → ShowsFileAt tree (multi_path folder) time bytes → Shows folder tree (multi_path folder) time bytes
  unfolding found
  multi_shows folder tree time bytes reads =
      let kind = found (watched_kind multi_index_name) refl in
      record { name = multi_index_name; path_is = refl; kind = kind.0; is_watched = kind.1; at = time; reads = reads; counts = refl }

  -- And none makes a multi-pack index show a second one at one time.
  pub multis_show_one : MultisShowOne trees running.store (length events)
  multis_show_one folder among time one other was further =
      shows_one run opener.0 running.store opener.1 folder among (multi_path folder) time was.moment further.moment one other was.from was.to further.from further.to
      (multi_shows folder (trees was.moment) time one was.was) (multi_shows folder (trees further.moment) time other further.was)
