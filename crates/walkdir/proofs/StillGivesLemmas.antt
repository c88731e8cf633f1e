-- A walk in progress always has some items that it may still give, since each call may fail.
use Rattle.std.proofs.Common.{◌≡◌, ℕ, ◌+◌, Bool, true, false, List, [], ◌∷◌, ◌++◌, ◌&&◌, ◌||◌, cond, length, Option, Some, None, Ok, Err, refl, sym, ap, ◌∙◌}
use Rattle.std.specs.List.{cons_option}
use Rattle.std.specs.Prelude.{IfSome, is_some}
use Rattle.std.specs.FinMap as finite
use Rattle.odb_base.specs.Path.{Path}
use Rattle.odb_disk.specs.Streams.{Streams, still_gives}
use Rattle.odb_disk.specs.declared.disk_error.DiskError.TheVariants as refusals
use Rattle.walkdir.specs.Error.{io_error, stream_error}
use Rattle.walkdir.specs.OwnStreams.{OpenDirs}
use Rattle.walkdir.specs.Progress.{Keeps, Progress, StillGives, still_to_come}
use Rattle.walkdir.specs.Directory.{HasLeft, stream_in}
use Rattle.walkdir.specs.Stack.{StandsFor, ancestors, own_entry, own_streams, Nothing, Within}
use Rattle.odb_disk.specs.Tree.Follow.{looked}
use Rattle.walkdir.specs.Entry.{is_dir, is_link}
use Rattle.walkdir.specs.declared.dent.DirEntry.{DirEntry}
use Rattle.walkdir.specs.declared.directory.Entering.TheVariants.{Stays, Enters}
use Rattle.walkdir.specs.Walk.{Ancestor, ContentsOf, IsWalk, Item, WalkOf, Walking, WalksOf, Alone, Child, Deepest, Entered, Failed, Lost, NoDevice, NoRoot, Unopened}
use Rattle.walkdir.specs.Walk.Entries.{around, below_greatest, enter, entering, enters_at, enters_directory, enters_root_link, is_looked_at, is_root_link, shown, taken_for, through_link}
use Rattle.walkdir.specs.Walk.Children.{Broken}
use Rattle.walkdir.specs.Walk.{Nothing as NoChildren}
use Rattle.walkdir.specs.declared.directory.DirList.{DirList}
use Rattle.walkdir.specs.declared.directory.Items.{Items}
use Rattle.walkdir.specs.declared.directory.Items.TheVariants.{Opened, Closed, Skipped}
use Rattle.walkdir.proofs.StepLemmas.{keeps_open}
use Rattle.walkdir.proofs.WorkLemmas.{AllOpen, open_behind}

parts : (a b c : Bool) → (a || (b || c)) ≡ false → (a ≡ false) × (b ≡ false) × (c ≡ false)
parts true b c off = absurd cc
parts false true c off = absurd cc
parts false false true off = absurd cc
parts false false false off = (refl, refl, refl)

first_off : (a b : Bool) → (a && b) ≡ false → b ≡ true → a ≡ false
first_off true b off is = let both : true ≡ false = sym is ∙ off in absurd cc
first_off false b off is = refl

-- ---- an entry that isn't statted

plain_taken : (walk : Walking) (above : List Ancestor) (entry : DirEntry) → (walk.options.follow_links && is_link entry) ≡ false
    → taken_for walk above entry ≡ Ok entry
unfolding taken_for
plain_taken walk above entry off = ap (λ b. cond b (through_link above entry (looked walk.tree entry.path true)) (Ok entry)) off

plain_directory : (walk : Walking) (entry : DirEntry) → is_dir entry ≡ true → (walk.options.follow_links || walk.options.same_file_system) ≡ false
    → entering walk entry ≡ Ok (Enters None)
unfolding entering
plain_directory walk entry is off =
    ap (λ b. cond b (enters_directory walk entry) (cond (is_root_link entry && walk.options.follow_root_links)
    (enters_root_link entry (looked walk.tree entry.path true)) (Ok Stays))) is
    ∙ ap (λ b. cond b (enters_at walk entry (looked walk.tree entry.path true)) (Ok (Enters None))) off

plain_other : (walk : Walking) (entry : DirEntry) → is_dir entry ≡ false → (is_root_link entry && walk.options.follow_root_links) ≡ false
    → entering walk entry ≡ Ok Stays
unfolding entering
plain_other walk entry is off =
    ap (λ b. cond b (enters_directory walk entry) (cond (is_root_link entry && walk.options.follow_root_links)
    (enters_root_link entry (looked walk.tree entry.path true)) (Ok Stays))) is
    ∙ ap (λ b. cond b (enters_root_link entry (looked walk.tree entry.path true)) (Ok Stays)) off

-- what it contains may be a failure
contents_failed : (walk : Walking) (above : List Ancestor) (directory : DirEntry) (below : Bool) → below_greatest walk directory ≡ below
    → (items : List Item) × ContentsOf walk above directory items
contents_failed walk above directory true is = (Err (io_error directory.depth directory.path refusals.Failed) ∷ [], Unopened refusals.Failed is tt)
contents_failed walk above directory false is = ([], Deepest is)

entry_unlooked : (walk : Walking) (above : List Ancestor) (entry : DirEntry) (dir : Bool) → is_dir entry ≡ dir
    → is_looked_at walk.options entry ≡ false → (items : List Item) × WalkOf walk above entry items
entry_unlooked walk above entry true is off =
    let options = walk.options in
    let all = parts (options.follow_links && is_link entry) ((options.follow_links || options.same_file_system) && is_dir entry)
    (is_root_link entry && options.follow_root_links) off in
    let contents = contents_failed walk (enter entry None above) entry (below_greatest walk entry) refl in (
      around options entry contents.0,
      Entered entry None contents.0 (plain_taken walk above entry all.0)
          (plain_directory walk entry is (first_off (options.follow_links || options.same_file_system) (is_dir entry) all.1 is)) contents.1 refl,
    )
entry_unlooked walk above entry false is off =
    let options = walk.options in
    let all = parts (options.follow_links && is_link entry) ((options.follow_links || options.same_file_system) && is_dir entry)
    (is_root_link entry && options.follow_root_links) off in
    (shown options entry, Alone entry (plain_taken walk above entry all.0) (plain_other walk entry is all.2) refl)

entry_by_look : (walk : Walking) (above : List Ancestor) (entry : DirEntry) (looks : Bool) → is_looked_at walk.options entry ≡ looks
    → (items : List Item) × WalkOf walk above entry items
entry_by_look walk above entry true is = (Err (io_error entry.depth entry.path refusals.Failed) ∷ [], Failed is)
entry_by_look walk above entry false is = entry_unlooked walk above entry (is_dir entry) refl is

-- ---- what is left of a stack

pub walks_left : (walk : Walking) (above : List Ancestor) (children : List Item) → (items : List Item) × WalksOf walk above children items
walks_left walk above [] = ([], NoChildren)
walks_left walk above (Ok entry ∷ children) =
    let first = entry_by_look walk above entry (is_looked_at walk.options entry) refl in
    let rest = walks_left walk above children in
    (first.0 ++ rest.0, Child first.0 rest.0 first.1 rest.1 refl)
walks_left walk above (Err error ∷ children) = let rest = walks_left walk above children in (Err error ∷ rest.0, Lost rest.1)

some_in : {A : Type 0} (o : Option A) → is_some o ≡ true → (x : A) × (o ≡ Some x)
some_in None is = absurd cc
some_in (Some x) is = (x, refl)

children_left : (streams : Streams) (depth : ℕ) (path : Path) (items : Items) → IfSome (stream_in items)
    (λ dir. finite.contains_key streams.open_dirs dir ≡ true)
    → (children : List Item) × HasLeft streams depth path items children
children_left streams depth path (Opened dir) opened =
    let gives = some_in (still_gives streams dir) opened in (Err (stream_error depth refusals.Failed) ∷ [], (gives.0, gives.1, Broken))
children_left streams depth path (Closed items) opened = (items.items, refl)
children_left streams depth path Skipped opened = ([], refl)

open_first : (o : Option ℕ) (own : List ℕ) (now : OpenDirs) → AllOpen (cons_option o own) now → IfSome o (λ dir. finite.contains_key now dir ≡ true)
unfolding AllOpen
open_first None own now opened = tt
open_first (Some dir) own now opened = opened.0

stack_left : (walk : Walking) (streams : Streams) (stack : List DirList) → AllOpen (own_streams stack) streams.open_dirs → (items : List Item)
    × StandsFor walk streams stack items
stack_left walk streams [] opened = ([], Nothing)
stack_left walk streams (list ∷ outer) opened =
    let children = children_left streams (length outer + 1) list.path list.items
    (open_first (stream_in list.items) (own_streams outer) streams.open_dirs opened) in
    let here = walks_left walk (ancestors (list ∷ outer)) children.0 in
    let others = stack_left walk streams outer (open_behind (stream_in list.items) (own_streams outer) streams.open_dirs opened) in
    (here.0 ++ own_entry walk.options list.after ++ others.0, Within children.0 here.0 others.0 children.1 here.1 others.1 refl)

walk_failed : (walk : Walking) (stays : Bool) → walk.options.same_file_system ≡ stays → (items : List Item) × IsWalk walk items
walk_failed walk true is = (Err (io_error 0 walk.root refusals.Failed) ∷ [], NoDevice refusals.Failed is tt)
walk_failed walk false is = (Err (io_error 0 walk.root refusals.Failed) ∷ [], NoRoot refusals.Failed (λ stays. absurd cc) tt)

left_from : (walk : Walking) (at : Progress) (start : Option Path) → AllOpen (own_streams at.stack) at.streams.open_dirs → (items : List Item)
    × still_to_come walk at start items
left_from walk at (Some root) opened = walk_failed walk walk.options.same_file_system refl
left_from walk at None opened = stack_left walk at.streams at.stack opened

pub something_left : (walk : Walking) (before : Streams) (at : Progress) → Keeps before at → (items : List Item) × StillGives walk at items
something_left walk before at keeps = left_from walk at at.start (keeps_open before at keeps)
