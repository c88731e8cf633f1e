-- What a filter leaves of a walk: rejected entries are left out, and the contents of a rejected directory that is given
-- before its contents and was entered.
use Rattle.std.specs.Prelude.{◌≡◌, ℕ, Bool, true, false, List, [], ◌∷◌, ◌++◌, Option, Some, None, Ok, Err}
use Rattle.std.specs.Fn.{Mut, CalledAt}
use Rattle.std.specs.Iterator.{Yields}
use denote.Ref.{Bor}
use Rattle.odb_disk.specs.declared.ask.DiskAsk.{DiskAsk}
use Rattle.odb_disk.specs.declared.ask.DiskAnswer.{DiskAnswer}
use Rattle.odb_disk.specs.Streams.{Streams}
use Rattle.odb_disk.specs.Tree.{State, tree_of}
use Rattle.walkdir.specs.Above.{AreAbove}
use Rattle.walkdir.specs.Answered.{AreTold, IsStackTold}
use Rattle.walkdir.specs.Entered.{StaysOut}
use Rattle.walkdir.specs.Entry.{is_dir}
use Rattle.walkdir.specs.Filter.{Filters}
use Rattle.walkdir.specs.OnDisk.{NextOn, SkipsOn, at_walk}
use Rattle.walkdir.specs.Progress.{Progress, is_lost}
use Rattle.walkdir.specs.Walk.{Walking, Ancestor, ContentsOf, IsWalk, Item}
use Rattle.walkdir.specs.Walk.Entries.{enter, entering}
use Rattle.walkdir.specs.declared.dent.DirEntry.{DirEntry}
use Rattle.walkdir.specs.declared.error.Error.{Error}
use Rattle.walkdir.specs.declared.filter.FilterEntry.{FilterEntry}
use Rattle.walkdir.specs.declared.iter.OnDisk.{OnDisk}
use Rattle.walkdir.specs.declared.directory.Entering.TheVariants.{Enters}
use Rattle.walkdir.specs.declared.directory.Place.{Place}

-- The items of a walk, and what a filter leaves of them. `asked` says what its predicate answers for an entry and becomes
-- by that; the predicate is the first of the two before the items, and the last after them.
pub data LeavesOut {F : Type 0} (walk : Walking) (asked : F → DirEntry → Bool → F → Type 0) : F → List Item → List Item → F → Type 0 where
  Ended : {f : F} → LeavesOut walk asked f [] [] f
  -- an error is always given, and the predicate isn't asked
  Failed : {f h : F} {error : Error} {items given : List Item} → LeavesOut walk asked f items given h
      → LeavesOut walk asked f (Err error ∷ items) (Err error ∷ given) h
  Accepted : {f h : F} {entry : DirEntry} {items given : List Item} (g : F) → asked f entry true g → LeavesOut walk asked g items given h
      → LeavesOut walk asked f (Ok entry ∷ items) (Ok entry ∷ given) h
  -- a rejected entry alone: it is no directory, or it is given after its contents, or it isn't entered
  Alone : {f h : F} {entry : DirEntry} {items given : List Item} (g : F) → asked f entry false g → StaysOut walk entry
      → LeavesOut walk asked g items given h → LeavesOut walk asked f (Ok entry ∷ items) given h
  -- a rejected directory that is given before its contents and was entered, with its contents below the ones above it
  WithContents : {f h : F} {entry : DirEntry} {items given : List Item} (g : F) (place : Option Place) (above : List Ancestor)
      (contents behind : List Item) → asked f entry false g → is_dir entry ≡ true → walk.options.contents_first ≡ false
      → entering walk entry ≡ Ok (Enters place) → AreAbove walk entry.path entry.depth above
      → ContentsOf walk (enter entry place above) entry contents → items ≡ contents ++ behind
      → LeavesOut walk asked g behind given h → LeavesOut walk asked f (Ok entry ∷ items) given h

-- a walk without what a filter leaves out
pub record IsFilteredBy {F : Type 0} (walk : Walking) (asked : F → DirEntry → Bool → F → Type 0) (f : F) (given : List Item) (h : F) : Type 0 where
  pub items : List Item
  pub is : IsWalk walk items
  pub leaves : LeavesOut walk asked f items given h

-- What a walk gave first, and what a filter leaves of that. The walk goes on with others.
pub record BeginsFilteredBy {F : Type 0} (walk : Walking) (asked : F → DirEntry → Bool → F → Type 0) (f : F) (given : List Item) (h : F)
    : Type 0 where
  pub items : List Item
  pub rest : List Item
  pub is : IsWalk walk (items ++ rest)
  pub leaves : LeavesOut walk asked f items given h

-- ---- by a predicate that answers by the entry alone

abbrev pub by_entry : (DirEntry → Bool) → Unit {0} → DirEntry → Bool → Unit {0} → Type 0
by_entry accepts f entry answer g = accepts entry ≡ answer

abbrev pub IsFilteredWalk : Walking → (DirEntry → Bool) → List Item → Type 0
IsFilteredWalk walk accepts given = IsFilteredBy {F = Unit {0}} walk (by_entry accepts) tt given tt

abbrev pub BeginsFiltered : Walking → (DirEntry → Bool) → List Item → Type 0
BeginsFiltered walk accepts given = BeginsFilteredBy {F = Unit {0}} walk (by_entry accepts) tt given tt

-- ---- a filtered walk on a disk

-- none of these items is out of memory
abbrev pub NoneLost : List Item → Type 0
NoneLost [] = Unit {0}
NoneLost (item ∷ items) = (is_lost (Some item) ≡ false) × NoneLost items

-- a walk that hasn't begun, with no streams of its own
pub record HasNotBegun (walk : Walking) (at : Progress) : Type 0 where
  pub options : at.options ≡ walk.options
  pub order : at.order ≡ walk.order
  pub start : at.start ≡ Some walk.root
  pub stack : at.stack ≡ []

-- a predicate answers so, whatever it was asked before
abbrev pub AnswersBy : {F : Type 0} → Mut F (Bor DirEntry × Unit {0}) Bool → (DirEntry → Bool) → Type 0
AnswersBy {F} calls accepts = (f g : F) (entry : DirEntry) (answer : Bool) → CalledAt calls f entry answer g → answer ≡ accepts entry

module _ {D W F : Type 0} (state : D → Option State) (streams : D → Streams) (faults : D → ℕ) (answered : D → DiskAsk → DiskAnswer → D → Type 0)
    (progress : W → Streams → Progress) (calls : Mut F (Bor DirEntry × Unit {0}) Bool) where
  -- what `next` of a filtered walk gives
  abbrev pub FilteredOn : FilterEntry (OnDisk D W) F → Option Item → FilterEntry (OnDisk D W) F → Type 0
  FilteredOn s item t =
      Filters (NextOn state streams faults answered progress) (SkipsOn state streams faults answered progress)
      (λ x. (at_walk state streams faults answered progress x).entered) calls s.walk s.predicate item t.walk t.predicate

  -- on any disk: whatever is given, calls of the walk reported it
  abbrev pub TellsFiltered : FilterEntry (OnDisk D W) F → Type 0
  TellsFiltered s =
      (items : List Item) (t : FilterEntry (OnDisk D W) F) (first : D) → Yields FilteredOn s items t
      → IsStackTold answered first s.walk.disk.now (at_walk state streams faults answered progress s.walk).stack
      → IsStackTold answered first t.walk.disk.now (at_walk state streams faults answered progress t.walk).stack
      × AreTold answered first t.walk.disk.now items

  -- From a walk that hasn't begun, on a disk whose tree is known and while memory lasts: whatever is given first is what
  -- the filter leaves of the first items of the walk; and at the end, of all. The predicate may change as it is asked.
  pub record FiltersWalk (s : FilterEntry (OnDisk D W) F) : Type 0 where
    pub begins : (walk : Walking) (told : State) (items : List Item) (t : FilterEntry (OnDisk D W) F) → walk.tree ≡ tree_of told
        → state s.walk.disk.now ≡ Some told → HasNotBegun walk (at_walk state streams faults answered progress s.walk)
        → Yields FilteredOn s items t → NoneLost items → BeginsFilteredBy walk (CalledAt calls) s.predicate items t.predicate
    pub whole : (walk : Walking) (told : State) (items : List Item) (t u : FilterEntry (OnDisk D W) F) → walk.tree ≡ tree_of told
        → state s.walk.disk.now ≡ Some told → HasNotBegun walk (at_walk state streams faults answered progress s.walk)
        → Yields FilteredOn s items t → FilteredOn t None u → NoneLost items
        → IsFilteredBy walk (CalledAt calls) s.predicate items u.predicate

  -- for a predicate that answers by the entry alone: the same items
  pub record GivesFiltered (accepts : DirEntry → Bool) (s : FilterEntry (OnDisk D W) F) : Type 0 where
    pub begins : (walk : Walking) (told : State) (items : List Item) (t : FilterEntry (OnDisk D W) F) → walk.tree ≡ tree_of told
        → state s.walk.disk.now ≡ Some told
        → HasNotBegun walk (at_walk state streams faults answered progress s.walk) → Yields FilteredOn s items t → NoneLost items
        → BeginsFiltered walk accepts items
    pub whole : (walk : Walking) (told : State) (items : List Item) (t u : FilterEntry (OnDisk D W) F) → walk.tree ≡ tree_of told
        → state s.walk.disk.now ≡ Some told
        → HasNotBegun walk (at_walk state streams faults answered progress s.walk) → Yields FilteredOn s items t → FilteredOn t None u
        → NoneLost items → IsFilteredWalk walk accepts items
