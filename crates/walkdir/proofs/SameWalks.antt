-- Walks of one tree that differ in how many directories may be open give the same items, for their callers.
use Rattle.std.proofs.Common.{◌≡◌, ℕ, List, [], ◌∷◌, map, Option, Some, None, Ok, refl, sym, ap, ◌∙◌, arith}
use Rattle.std.specs.Cmp.{IsTotalOrder}
use Rattle.std.specs.Iterator.{Yields}
use Rattle.std.specs.List.{filter_map}
use Rattle.std.specs.Option.{option_map}
use Rattle.std.specs.Prelude.{IfSome}
use Rattle.std.specs.Result.{result_ok}
use Rattle.odb_base.specs.Faults.{Rose}
use Rattle.odb_disk.specs.declared.ask.DiskAsk.{DiskAsk}
use Rattle.odb_disk.specs.declared.ask.DiskAnswer.{DiskAnswer}
use Rattle.odb_disk.specs.Streams.{Streams}
use Rattle.odb_disk.specs.Tree.{State, Tree, tree_of}
use Rattle.walkdir.proofs.OneListLaws.{walk_is_one}
use Rattle.walkdir.proofs.WalkLaws.{same_walk}
use Rattle.walkdir.specs.OnDisk.{NextOn, at_walk}
use Rattle.walkdir.proofs.WholeWalks.{NoneLost, failures_on_disk, none_without_fault, whole_on_disk}
use Rattle.walkdir.specs.BuiltWalk.{walking}
use Rattle.walkdir.specs.Failures.{failures_among}
use Rattle.walkdir.specs.Options.{Built}
use Rattle.walkdir.specs.Progress.{Progress, begun}
use Rattle.walkdir.specs.Walk.{IsWalk, Item, Order}
use Rattle.walkdir.specs.WalkLaws.{with_most}
use Rattle.walkdir.specs.declared.dent.DirEntry.{DirEntry}
use Rattle.walkdir.specs.declared.iter.OnDisk.{OnDisk}

-- the walk, with at most so many directories open
abbrev pub opening : {T : Type 0} → Built T → ℕ → Built T
opening built most = record built { options = record built.options { max_open = most } }

total_where_sorted : {T : Type 0} (order : T → Order) → ((sorter : T) → IsTotalOrder (order sorter)) → (sorter : Option T)
    → IfSome (option_map order sorter) IsTotalOrder
total_where_sorted order total None = tt
total_where_sorted order total (Some sorter) = total sorter

entries_sound : (entries : List DirEntry) → failures_among (map Ok entries) ≡ 0
entries_sound [] = refl
entries_sound (entry ∷ entries) = let rest = entries_sound entries in omega arith

entries_among : List Item → List DirEntry
entries_among items = filter_map result_ok items

entries_all : (entries : List DirEntry) → entries_among (map Ok entries) ≡ entries
unfolding entries_among
entries_all [] = refl
entries_all (entry ∷ entries) = ap (λ rest. entry ∷ rest) (entries_all entries)

-- If a walk gives entries alone, no other entries are a walk of it, however many directories may be open.
pub only_entries : {T : Type 0} (order : T → Order) → ((sorter : T) → IsTotalOrder (order sorter)) → (tree : Tree) (built : Built T)
    (entries : List DirEntry)
    → IsWalk (walking order tree built) (map Ok entries) → (most : ℕ) (others : List DirEntry) → IsWalk (with_most (walking order tree built) most)
    (map Ok others) → others ≡ entries
only_entries order total tree built entries first most others second =
    let walk = walking order tree built in
    let same : map Ok others ≡ map Ok entries =
    walk_is_one walk (total_where_sorted order total built.sorter) most most (map Ok others)
    (map Ok entries) second (same_walk walk most (map Ok entries) first) (entries_sound others) (entries_sound entries) in
    sym (entries_all others) ∙ ap entries_among same ∙ entries_all entries

module _ {D W : Type 0} (state : D → Option State) (streams : D → Streams) (faults : D → ℕ) (answered : D → DiskAsk → DiskAnswer → D → Type 0)
    (progress : W → Streams → Progress) where
  -- a walk that was run to its end gave these items, and memory never ran out
  pub record Gave {T : Type 0} (order : T → Order) (built : Built T) (told : State) (items : List Item) : Type 0 where
    pub before : Streams
    pub first : OnDisk D W
    pub last : OnDisk D W
    pub over : OnDisk D W
    pub begins : at_walk state streams faults answered progress first ≡ begun order built before
    pub tells : state first.disk.now ≡ Some told
    pub along : Yields (NextOn state streams faults answered progress) first items last
    pub ends : NextOn state streams faults answered progress last None over
    pub kept : NoneLost items

  gave_walk : {T : Type 0} (order : T → Order) (built : Built T) (most : ℕ) (told : State) (items : List Item)
      → Gave order (opening built most) told items
      → IsWalk (with_most (walking order (tree_of told) built) most) items
  unfolding with_most
  gave_walk order built most told items gave =
      whole_on_disk state streams faults answered progress order (opening built most) gave.before told gave.first items gave.last gave.over
      gave.begins gave.tells gave.along gave.ends gave.kept

  -- Two such runs gave the same items, if none of these is a failure of the disk.
  pub same_items : {T : Type 0} (order : T → Order) → ((sorter : T) → IsTotalOrder (order sorter)) → (built : Built T) (most other : ℕ) (told : State)
      (items others : List Item)
      → Gave order (opening built most) told items → Gave order (opening built other) told others → failures_among items ≡ 0
      → failures_among others ≡ 0 → items ≡ others
  same_items order total built most other told items others first second sound still =
      walk_is_one (walking order (tree_of told) built) (total_where_sorted order total built.sorter) most other items others
      (gave_walk order built most told items first)
      (gave_walk order built other told others second) sound still

  -- the count of faults didn't rise while a walk ran
  abbrev pub HadNoFault : {T : Type 0} (order : T → Order) (built : Built T) (told : State) (items : List Item) → Gave order built told items → Type 0
  HadNoFault order built told items gave = Rose (faults gave.first.disk.now) (faults gave.over.disk.now) → ⊥

  pub gave_no_failure : {T : Type 0} (order : T → Order) (built : Built T) (told : State) (items : List Item) (gave : Gave order built told items)
      → HadNoFault order built told items gave
      → failures_among items ≡ 0
  gave_no_failure order built told items gave still =
      none_without_fault (failures_among items) (faults gave.first.disk.now) (faults gave.over.disk.now)
      (failures_on_disk state streams faults answered progress order built gave.before gave.first items gave.last gave.over gave.begins gave.along
      gave.ends) still

  -- Two such runs gave the same items, if the disk had no fault in either.
  pub same_without_faults : {T : Type 0} (order : T → Order) → ((sorter : T) → IsTotalOrder (order sorter)) → (built : Built T) (most other : ℕ)
      (told : State) (items others : List Item)
      → (first : Gave order (opening built most) told items) (second : Gave order (opening built other) told others)
      → HadNoFault order (opening built most) told items first
      → HadNoFault order (opening built other) told others second → items ≡ others
  same_without_faults order total built most other told items others first second still quiet =
      same_items order total built most other told items others first second (gave_no_failure order (opening built most) told items first still)
      (gave_no_failure order (opening built other) told others second quiet)
