-- What a walk gives doesn't depend on how many directories may be open.
use Rattle.std.proofs.Common.{◌≡◌, ℕ, List, refl, ◌∙◌}
use Rattle.walkdir.specs.Walk.{Walking, Ancestor, Item, WalkOf, ContentsOf, WalksOf, IsWalk, Failed, Wrong, Closed, Alone}
use Rattle.walkdir.specs.Walk.{Entered, Deepest, Unopened, Opened, Nothing, Lost, Child, NoDevice, NoRoot, Root}
use Rattle.walkdir.specs.Walk.Entries.{taken_for, entering}
use Rattle.walkdir.specs.WalkLaws.{GiveOneList, GivesOneList, IsSameForAnyMost, with_most}
use Rattle.walkdir.specs.declared.dent.DirEntry.{DirEntry}

taken_same : (walk : Walking) (most : ℕ) (above : List Ancestor) (entry : DirEntry) → taken_for (with_most walk most) above entry
    ≡ taken_for walk above entry
unfolding with_most taken_for
taken_same walk most above entry = refl

entering_same : (walk : Walking) (most : ℕ) (entry : DirEntry) → entering (with_most walk most) entry ≡ entering walk entry
unfolding with_most entering
entering_same walk most entry = refl

mutual
  unfolding with_most

  walk_most : (walk : Walking) (most : ℕ) {above : List Ancestor} {entry : DirEntry} {items : List Item} → WalkOf walk above entry items
      → WalkOf (with_most walk most) above entry items
  walk_most walk most (Failed looks) = Failed looks
  walk_most walk most {above} {entry} (Wrong taken) = Wrong (taken_same walk most above entry ∙ taken)
  walk_most walk most {above} {entry} (Closed taken is enters) =
      Closed taken (taken_same walk most above entry ∙ is) (entering_same walk most taken ∙ enters)
  walk_most walk most {above} {entry} (Alone taken is enters items) =
      Alone taken (taken_same walk most above entry ∙ is) (entering_same walk most taken ∙ enters) items
  walk_most walk most {above} {entry} (Entered taken place contents is enters inside items) =
      Entered taken place contents (taken_same walk most above entry ∙ is) (entering_same walk most taken ∙ enters)
      (contents_most walk most inside) items

  contents_most : (walk : Walking) (most : ℕ) {above : List Ancestor} {directory : DirEntry} {items : List Item}
      → ContentsOf walk above directory items → ContentsOf (with_most walk most) above directory items
  contents_most walk most (Deepest deep) = Deepest deep
  contents_most walk most (Unopened error below refused) = Unopened error below refused
  contents_most walk most (Opened entries children below opened are walks) =
      Opened entries children below opened (record { given = are.given; streamed = are.streamed; are = are.are }) (walks_most walk most walks)

  walks_most : (walk : Walking) (most : ℕ) {above : List Ancestor} {children items : List Item} → WalksOf walk above children items
      → WalksOf (with_most walk most) above children items
  walks_most walk most Nothing = Nothing
  walks_most walk most (Lost walks) = Lost (walks_most walk most walks)
  walks_most walk most (Child first others walked walks is) = Child first others (walk_most walk most walked) (walks_most walk most walks) is

pub same_walk : (walk : Walking) (most : ℕ) (items : List Item) → IsWalk walk items → IsWalk (with_most walk most) items
unfolding with_most
same_walk walk most items (NoDevice error stays refused) = NoDevice error stays refused
same_walk walk most items (NoRoot error device refused) = NoRoot error device refused
same_walk walk most items (Root meta device looked walked) = Root meta device looked (walk_most walk most walked)

-- a walk that gives one list gives it however many directories may be open
pub same_for_any_most : (walk : Walking) → GivesOneList walk → IsSameForAnyMost walk
unfolding with_most
same_for_any_most walk one total most other items others first second sound still =
    one total items others (same_walk (with_most walk most) walk.options.max_open items first)
    (same_walk (with_most walk other) walk.options.max_open others second) sound still

-- it gives the same list as the walk with another number
pub same_with_most : (walk : Walking) (most : ℕ) → GivesOneList walk → GiveOneList walk (with_most walk most)
unfolding with_most
same_with_most walk most one total items others first second sound still =
    one total items others first (same_walk (with_most walk most) walk.options.max_open others second) sound still
