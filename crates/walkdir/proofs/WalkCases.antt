-- What a walk without failures gives, by what its entry is taken for, and by what the tree says.
use Rattle.std.proofs.Common.{◌≡◌, ℕ, ◌+◌, true, false, List, [], ◌∷◌, ◌++◌, Option, None, Result, Ok, Err, refl, sym, ap, subst, ◌∙◌, arith}
use Rattle.odb_base.specs.Path.{Path}
use Rattle.odb_disk.specs.Ask.{error_of}
use Rattle.odb_disk.specs.Entries.{opened}
use Rattle.odb_disk.specs.Tree.Follow.{Refusal, looked}
use Rattle.odb_disk.specs.declared.disk_error.DiskError.{DiskError}
use Rattle.odb_disk.specs.declared.disk_error.DiskError.TheVariants as refusals
use Rattle.odb_disk.specs.declared.entry.Entry.{Entry}
use Rattle.odb_disk.specs.declared.meta.Meta.{Meta}
use Rattle.walkdir.specs.Error.{io_error}
use Rattle.walkdir.specs.Failures.{failures_among}
use Rattle.walkdir.specs.Walk.{Ancestor, ContentsOf, HasDevice, IsWalk, Item, WalkOf, Walking, WalksOf, Alone, Child, Closed}
use Rattle.walkdir.specs.Walk.{Deepest, Entered, Failed, Lost, NoDevice, NoRoot, Nothing, Opened, Root, Unopened, Wrong}
use Rattle.walkdir.specs.Walk.Children.{ChildrenOf}
use Rattle.walkdir.specs.Walk.Answers.{IsRefused}
use Rattle.walkdir.specs.Walk.Entries.{around, below_greatest, enter, entering, entry_by, is_looked_at, shown, taken_for}
use Rattle.walkdir.specs.declared.dent.DirEntry.{DirEntry}
use Rattle.walkdir.specs.declared.error.Error.{Error}
use Rattle.walkdir.specs.declared.directory.Place.{Place}
use Rattle.walkdir.specs.declared.directory.Entering.TheVariants.{Stays, Enters}
use Rattle.walkdir.proofs.FailuresLaws.{failures-append}

pub front_sound : (items first rest : List Item) → items ≡ first ++ rest → failures_among items ≡ 0 → failures_among first ≡ 0
front_sound items first rest is sound =
    let parts : failures_among items ≡ failures_among first + failures_among rest = ap failures_among is ∙ failures-append first rest in
    omega arith

pub rest_sound : (items first rest : List Item) → items ≡ first ++ rest → failures_among items ≡ 0 → failures_among rest ≡ 0
rest_sound items first rest is sound =
    let parts : failures_among items ≡ failures_among first + failures_among rest = ap failures_among is ∙ failures-append first rest in
    omega arith

-- an error that isn't a failure is the tree's refusal
pub refused_as : {A : Type 0} (depth : ℕ) (path : Path) (error : DiskError) (told : Result A Refusal) → IsRefused error told
    → failures_among (Err (io_error depth path error) ∷ []) ≡ 0
    → (refusal : Refusal) × (told ≡ Err refusal) × (error ≡ error_of refusal)
refused_as depth path refusals.Failed told refused sound = absurd (omega arith)
refused_as depth path refusals.NoMemory told refused sound = absurd refused
refused_as depth path error (Ok found) refused sound = absurd refused
refused_as depth path error (Err refusal) refused sound = (refusal, refl, refused)

one_answer : {A : Type 0} (told : Result A Refusal) (refusal : Refusal) (found : A) → told ≡ Err refusal → told ≡ Ok found → ⊥
one_answer told refusal found first second = cc

one_refusal : {A : Type 0} (told : Result A Refusal) (refusal other : Refusal) → told ≡ Err refusal → told ≡ Err other → refusal ≡ other
one_refusal told refusal other first second = cc

-- ---- what a walk is, by what its entry is taken for

module _ (walk : Walking) where
  pub as_wrong : {above : List Ancestor} {entry : DirEntry} {items : List Item} (error : Error) → taken_for walk above entry ≡ Err error
      → WalkOf walk above entry items → failures_among items ≡ 0
      → items ≡ Err error ∷ []
  as_wrong error wrong (Failed looks) sound = absurd (omega arith)
  as_wrong error wrong (Wrong is) sound = cc
  as_wrong error wrong (Closed taken is enters) sound = absurd cc
  as_wrong error wrong (Alone taken is enters items) sound = absurd cc
  as_wrong error wrong (Entered taken place contents is enters inside items) sound = absurd cc

  pub as_closed : {above : List Ancestor} {entry : DirEntry} {items : List Item} (error : Error) (taken : DirEntry)
      → taken_for walk above entry ≡ Ok taken → entering walk taken ≡ Err error
      → WalkOf walk above entry items → failures_among items ≡ 0 → items ≡ Err error ∷ []
  as_closed error taken at closed (Failed looks) sound = absurd (omega arith)
  as_closed error taken at closed (Wrong is) sound = absurd cc
  as_closed error taken at closed (Closed other is enters) sound = cc
  as_closed error taken at closed (Alone other is enters items) sound = absurd cc
  as_closed error taken at closed (Entered other place contents is enters inside items) sound = absurd cc

  pub as_alone : {above : List Ancestor} {entry : DirEntry} {items : List Item} (taken : DirEntry) → taken_for walk above entry ≡ Ok taken
      → entering walk taken ≡ Ok Stays → WalkOf walk above entry items
      → failures_among items ≡ 0 → items ≡ shown walk.options taken
  as_alone taken at stays (Failed looks) sound = absurd (omega arith)
  as_alone taken at stays (Wrong is) sound = absurd cc
  as_alone taken at stays (Closed other is enters) sound = absurd cc
  as_alone taken at stays (Alone other is enters items) sound = let same : other ≡ taken = cc in items ∙ ap (shown walk.options) same
  as_alone taken at stays (Entered other place contents is enters inside items) sound = absurd cc

  pub record Within (above : List Ancestor) (taken : DirEntry) (place : Option Place) (items : List Item) : Type 0 where
    pub contents : List Item
    pub inside : ContentsOf walk (enter taken place above) taken contents
    pub is : items ≡ around walk.options taken contents

  pub as_entered : {above : List Ancestor} {entry : DirEntry} {items : List Item} (taken : DirEntry) (place : Option Place)
      → taken_for walk above entry ≡ Ok taken → entering walk taken ≡ Ok (Enters place)
      → WalkOf walk above entry items → failures_among items ≡ 0 → Within above taken place items
  as_entered taken place at within (Failed looks) sound = absurd (omega arith)
  as_entered taken place at within (Wrong is) sound = absurd cc
  as_entered taken place at within (Closed other is enters) sound = absurd cc
  as_entered taken place at within (Alone other is enters items) sound = absurd cc
  as_entered {above} taken place at within (Entered other there contents is enters inside items) sound =
      let same : other ≡ taken = cc in
      let same_place : there ≡ place = cc in
      record {
        contents = contents;
        inside = subst (λ p. ContentsOf walk (enter taken p above) taken contents) same_place
            (subst (λ t. ContentsOf walk (enter t there above) t contents) same inside);
        is = items ∙ ap (λ t. around walk.options t contents) same;
      }

  -- a directory that isn't statted is given with its contents, also if these are a failure
  pub as_unlooked : {above : List Ancestor} {entry : DirEntry} {items : List Item} → taken_for walk above entry ≡ Ok entry
      → entering walk entry ≡ Ok (Enters None)
      → is_looked_at walk.options entry ≡ false → WalkOf walk above entry items → Within above entry None items
  as_unlooked at within off (Failed looks) = absurd (let both : true ≡ false = sym looks ∙ off in cc)
  as_unlooked at within off (Wrong is) = absurd cc
  as_unlooked at within off (Closed other is enters) = absurd cc
  as_unlooked at within off (Alone other is enters items) = absurd cc
  as_unlooked {above} {entry} at within off (Entered other there contents is enters inside items) =
      let same : other ≡ entry = cc in
      let same_place : there ≡ None = cc in
      record {
        contents = contents;
        inside = subst (λ p. ContentsOf walk (enter entry p above) entry contents) same_place
            (subst (λ t. ContentsOf walk (enter t there above) t contents) same inside);
        is = items ∙ ap (λ t. around walk.options t contents) same;
      }

  -- ---- what a directory contains, by what the tree says of it

  pub as_deepest : {above : List Ancestor} {directory : DirEntry} {items : List Item} → below_greatest walk directory ≡ false
      → ContentsOf walk above directory items → items ≡ []
  as_deepest deep (Deepest also) = refl
  as_deepest deep (Unopened error below refused) = absurd cc
  as_deepest deep (Opened entries children below told are walks) = absurd cc

  pub as_unopened : {above : List Ancestor} {items : List Item} (directory : DirEntry) (refusal : Refusal) → below_greatest walk directory ≡ true
      → opened walk.tree directory.path ≡ Err refusal
      → ContentsOf walk above directory items → failures_among items ≡ 0 → items ≡ Err (io_error directory.depth directory.path (error_of refusal))
      ∷ []
  as_unopened directory refusal at unopened (Deepest deep) sound = absurd cc
  as_unopened directory refusal at unopened (Unopened error below refused) sound =
      let why = refused_as directory.depth directory.path error (opened walk.tree directory.path) refused sound in
      ap (λ e. Err (io_error directory.depth directory.path e) ∷ [])
      (why.2 ∙ ap error_of (one_refusal (opened walk.tree directory.path) why.0 refusal why.1 unopened))
  as_unopened directory refusal at unopened (Opened entries children below told are walks) sound =
      absurd (one_answer (opened walk.tree directory.path) refusal entries unopened told)

  pub record Listed (above : List Ancestor) (directory : DirEntry) (entries : List Entry) (items : List Item) : Type 0 where
    pub children : List Item
    pub are : ChildrenOf walk directory entries children
    pub walks : WalksOf walk above children items

  pub as_opened : {above : List Ancestor} {items : List Item} (directory : DirEntry) (entries : List Entry) → below_greatest walk directory ≡ true
      → opened walk.tree directory.path ≡ Ok entries
      → ContentsOf walk above directory items → failures_among items ≡ 0 → Listed above directory entries items
  as_opened directory entries at listed (Deepest deep) sound = absurd cc
  as_opened directory entries at listed (Unopened error below refused) sound =
      let why = refused_as directory.depth directory.path error (opened walk.tree directory.path) refused sound in
      absurd (one_answer (opened walk.tree directory.path) why.0 entries why.1 listed)
  as_opened directory entries at listed (Opened others children below told are walks) sound =
      let same : others ≡ entries = cc in
      record { children = children; are = subst (λ e. ChildrenOf walk directory e children) same are; walks = walks }

  -- ---- the walks of children, by the first child

  pub as_nothing : {above : List Ancestor} {children items : List Item} → children ≡ [] → WalksOf walk above children items → items ≡ []
  as_nothing is Nothing = refl
  as_nothing is (Lost walks) = absurd cc
  as_nothing is (Child first others walked walks all) = absurd cc

  pub record AfterError (above : List Ancestor) (error : Error) (children items : List Item) : Type 0 where
    pub others : List Item
    pub walks : WalksOf walk above children others
    pub is : items ≡ Err error ∷ others

  pub as_lost : {above : List Ancestor} {all items : List Item} (error : Error) (children : List Item) → all ≡ Err error ∷ children
      → WalksOf walk above all items → AfterError above error children items
  as_lost error children is Nothing = absurd cc
  as_lost {above} error children is (Lost {error = other} {children = more} {items = items} walks) =
      let same : other ≡ error = cc in
      let behind : more ≡ children = cc in
      record { others = items; walks = subst (λ c. WalksOf walk above c items) behind walks; is = ap (λ e. Err e ∷ items) same }
  as_lost error children is (Child first others walked walks all) = absurd cc

  pub record AfterChild (above : List Ancestor) (entry : DirEntry) (children items : List Item) : Type 0 where
    pub first : List Item
    pub others : List Item
    pub walked : WalkOf walk above entry first
    pub walks : WalksOf walk above children others
    pub is : items ≡ first ++ others

  pub as_child : {above : List Ancestor} {all items : List Item} (entry : DirEntry) (children : List Item) → all ≡ Ok entry ∷ children
      → WalksOf walk above all items → AfterChild above entry children items
  as_child entry children is Nothing = absurd cc
  as_child entry children is (Lost walks) = absurd cc
  as_child {above} entry children is (Child {entry = other} {children = more} first others walked walks all) =
      let same : other ≡ entry = cc in
      let behind : more ≡ children = cc in
      record {
        first = first;
        others = others;
        walked = subst (λ e. WalkOf walk above e first) same walked;
        walks = subst (λ c. WalksOf walk above c others) behind walks;
        is = all;
      }

  -- ---- the walk from its root

  pub as_no_device : {items : List Item} (refusal : Refusal) → walk.options.same_file_system ≡ true → looked walk.tree walk.root true ≡ Err refusal
      → IsWalk walk items → failures_among items ≡ 0
      → items ≡ Err (io_error 0 walk.root (error_of refusal)) ∷ []
  as_no_device refusal stays told (NoDevice error also refused) sound =
      let why = refused_as 0 walk.root error (looked walk.tree walk.root true) refused sound in
      ap (λ e. Err (io_error 0 walk.root e) ∷ []) (why.2 ∙ ap error_of (one_refusal (looked walk.tree walk.root true) why.0 refusal why.1 told))
  as_no_device refusal stays told (NoRoot error device refused) sound =
      let found = device stays in absurd (one_answer (looked walk.tree walk.root true) refusal found.0 told found.1)
  as_no_device refusal stays told (Root meta device there walked) sound =
      let found = device stays in absurd (one_answer (looked walk.tree walk.root true) refusal found.0 told found.1)

  pub as_no_root : {items : List Item} (refusal : Refusal) → HasDevice walk → looked walk.tree walk.root false ≡ Err refusal → IsWalk walk items
      → failures_among items ≡ 0
      → items ≡ Err (io_error 0 walk.root (error_of refusal)) ∷ []
  as_no_root refusal device told (NoDevice error stays refused) sound =
      let why = refused_as 0 walk.root error (looked walk.tree walk.root true) refused sound in
      let found = device stays in
      absurd (one_answer (looked walk.tree walk.root true) why.0 found.0 why.1 found.1)
  as_no_root refusal device told (NoRoot error also refused) sound =
      let why = refused_as 0 walk.root error (looked walk.tree walk.root false) refused sound in
      ap (λ e. Err (io_error 0 walk.root e) ∷ []) (why.2 ∙ ap error_of (one_refusal (looked walk.tree walk.root false) why.0 refusal why.1 told))
  as_no_root refusal device told (Root meta also there walked) sound = absurd (one_answer (looked walk.tree walk.root false) refusal meta told there)

  pub as_root : {items : List Item} (meta : Meta) → HasDevice walk → looked walk.tree walk.root false ≡ Ok meta → IsWalk walk items
      → failures_among items ≡ 0
      → WalkOf walk [] (entry_by walk.root false 0 meta) items
  as_root meta device told (NoDevice error stays refused) sound =
      let why = refused_as 0 walk.root error (looked walk.tree walk.root true) refused sound in
      let found = device stays in
      absurd (one_answer (looked walk.tree walk.root true) why.0 found.0 why.1 found.1)
  as_root meta device told (NoRoot error also refused) sound =
      let why = refused_as 0 walk.root error (looked walk.tree walk.root false) refused sound in
      absurd (one_answer (looked walk.tree walk.root false) why.0 meta why.1 told)
  as_root {items} meta device told (Root other also there walked) sound =
      let same : other ≡ meta = cc in
      subst (λ m. WalkOf walk [] (entry_by walk.root false 0 m) items) same walked
