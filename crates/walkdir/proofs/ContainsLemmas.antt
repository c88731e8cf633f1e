-- Laws of what an opened directory contains, and of a stack with one more directory.
pub mod Entered
use Rattle.std.proofs.Common.{◌≡◌, ◌≢◌, ℕ, ◌+◌, ◌<◌, ◌≤◌, true, false, List, [], ◌∷◌, length, map, Option, Some, None, Result, Ok, Err, IfOk, IfSome, refl, sym, ap, subst, ◌∙◌, arith}
use Rattle.std.specs.FinMap as finite
use Rattle.std.proofs.lemmas.Bool.Decides.{nat_tests}
use Rattle.odb_base.specs.Path.{Path}
use Rattle.odb_disk.specs.Answers.{Answers}
use Rattle.odb_disk.specs.Streams.{Streams, AnswersOpen, Opens, still_gives}
use Rattle.odb_disk.specs.Entries.{opened}
use Rattle.odb_disk.specs.Tree.{State, tree_of}
use Rattle.odb_disk.specs.Tree.Follow.{Refusal}
use Rattle.odb_disk.specs.declared.disk_error.DiskError.{DiskError}
use Rattle.odb_disk.specs.declared.disk_error.DiskError.TheVariants as refusals
use Rattle.odb_disk.specs.declared.entry.Entry.{Entry}
use Rattle.walkdir.specs.Error.{io_error}
use Rattle.walkdir.specs.Progress.{Progress, Keeps}
use Rattle.walkdir.specs.Directory.{HasNothing, held, stream_in}
use Rattle.walkdir.specs.Stack.{StandsFor, Within, ancestors}
use Rattle.walkdir.specs.Turns.Drawn.{HasContentsLeft, HasContents, OnlyFailure, OpensAtMost, OpensContents, ReadInOrder, stream_of}
use Rattle.walkdir.specs.Turns.Stands.{PushesDirectory, StandsAsBefore, StandsPushed}
use Rattle.walkdir.specs.Walk.{Walking, Ancestor, Item, Order, ContentsOf, WalksOf}
use Rattle.walkdir.specs.Walk.Children.{AreChildren, ChildrenOf, IsInOrder, IsStreamed, child_of}
use Rattle.walkdir.specs.Walk.Answers.{IsRefused}
use Rattle.walkdir.specs.Walk.Entries.{below_greatest}
use Rattle.walkdir.specs.Walk as walks
use Rattle.walkdir.specs.declared.builder.Options.{Options}
use Rattle.walkdir.specs.declared.dent.DirEntry.{DirEntry}
use Rattle.walkdir.specs.declared.error.Error.{Error}
use Rattle.walkdir.specs.declared.directory.DirList.{DirList}
use Rattle.walkdir.specs.declared.directory.Items.{Items}
use Rattle.walkdir.specs.declared.directory.Items.TheVariants.{Opened}
use Rattle.walkdir.specs.declared.directory.Place.{Place}
use Rattle.walkdir.proofs.DrawsLemmas.{held_left}
use Rattle.walkdir.proofs.OwnStreamsLemmas.{has_inserted}
use Rattle.walkdir.proofs.StandsForLemmas.{stands_opened}

-- ---- the contents of one directory

walks_none : {walk : Walking} {above : List Ancestor} {here : List Item} → WalksOf walk above [] here → here ≡ []
walks_none walks.Nothing = refl

walks_error : {walk : Walking} {above : List Ancestor} {error : Error} {here : List Item} → WalksOf walk above (Err error ∷ []) here
    → here ≡ Err error ∷ []
walks_error {error = error} (walks.Lost rest) = ap {B = List Item} (λ l. Err error ∷ l) (walks_none rest)

below_is : (walk : Walking) (directory : DirEntry) (depth : ℕ) → directory.depth ≡ depth → depth < walk.options.max_depth
    → below_greatest walk directory ≡ true
below_is walk directory depth same below = grind (arith, nat_tests)

deepest_is : (walk : Walking) (directory : DirEntry) (depth : ℕ) → directory.depth ≡ depth → walk.options.max_depth ≤ depth
    → below_greatest walk directory ≡ false
deepest_is walk directory depth same deep = grind (arith, nat_tests)

refused_as : (error : DiskError) (told : Result (List Entry) Refusal) → error ≢ refusals.NoMemory → Answers {A = List Entry} (Err error) told
    → IsRefused {A = List Entry} error told
refused_as refusals.Absent told some answer = subst (λ t. IsRefused {A = List Entry} refusals.Absent t) (sym answer) refl
refused_as refusals.WrongKind told some answer = subst (λ t. IsRefused {A = List Entry} refusals.WrongKind t) (sym answer) refl
refused_as refusals.LinkLoop told some answer = subst (λ t. IsRefused {A = List Entry} refusals.LinkLoop t) (sym answer) refl
refused_as refusals.Exists told some answer = absurd answer
refused_as refusals.NotEmpty told some answer = absurd answer
refused_as refusals.Failed told some answer = tt
refused_as refusals.NoMemory told some answer = absurd (some refl)

contains_failure : (walk : Walking) (streams : Streams) (path : Path) (depth : ℕ) (error : DiskError) (items : Items)
    → OnlyFailure depth path error items → depth < walk.options.max_depth
    → IsRefused {A = List Entry} error (opened walk.tree path) → HasContentsLeft walk streams path depth items
contains_failure walk streams path depth error items only below refused above directory children here same_path same_depth left each =
    let all : children ≡ Err (io_error depth path error) ∷ [] = held_left streams (depth + 1) path items children only.0 left ∙ only.1 in
    let one : here ≡ Err (io_error depth path error) ∷ [] = walks_error (subst (λ l. WalksOf walk above l here) all each) in
    let there : Err (io_error directory.depth directory.path error) ∷ [] ≡ here =
    ap {B = List Item} (λ n. Err (io_error n directory.path error) ∷ []) same_depth
    ∙ ap {B = List Item} (λ p. Err (io_error depth p error) ∷ []) same_path ∙ sym one in
    subst (ContentsOf walk above directory) there
    (walks.Unopened error (below_is walk directory depth same_depth below) (subst (λ p. IsRefused {A = List Entry} error (opened walk.tree p))
    (sym same_path) refused))

children_of : (walk : Walking) (directory : DirEntry) (path : Path) (depth : ℕ) (entries : List Entry) (given children : List Item)
    → directory.path ≡ path → directory.depth ≡ depth
    → IsStreamed (depth + 1) (map (child_of path (depth + 1)) entries) given → AreChildren walk.order given children
    → ChildrenOf walk directory entries children
children_of walk directory path depth entries given children same_path same_depth streamed are = record {
  given = given;
  streamed = subst (λ p. IsStreamed (directory.depth + 1) (map (child_of p (directory.depth + 1)) entries) given) (sym same_path)
      (subst (λ n. IsStreamed (n + 1) (map (child_of path (n + 1)) entries) given) (sym same_depth) streamed);
  are = are;
}

contains_stream : (walk : Walking) (streams : Streams) (path : Path) (depth : ℕ) (dir : ℕ) (entries : List Entry) → walk.order ≡ None
    → depth < walk.options.max_depth
    → opened walk.tree path ≡ Ok entries → still_gives streams dir ≡ Some entries → HasContentsLeft walk streams path depth (Opened dir)
contains_stream walk streams path depth dir entries order below is gives above directory children here same_path same_depth left each =
    let both : Some left.0 ≡ Some entries = sym left.1 ∙ gives in
    let same : left.0 ≡ entries = cc in
    let streamed : IsStreamed (depth + 1) (map (child_of path (depth + 1)) entries) children =
    subst (λ e. IsStreamed (depth + 1) (map (child_of path (depth + 1)) e) children) same left.2 in
    let are : AreChildren walk.order children children = subst (λ o. AreChildren o children children) (sym order) refl in
    walks.Opened entries children (below_is walk directory depth same_depth below) (ap (opened walk.tree) same_path ∙ is)
    (children_of walk directory path depth entries children children same_path same_depth streamed are) each

contains_sorted : (walk : Walking) (order : Order) (streams mid : Streams) (path : Path) (depth : ℕ) (dir : ℕ) (entries : List Entry) (items : Items)
    → walk.order ≡ Some order
    → depth < walk.options.max_depth → opened walk.tree path ≡ Ok entries → still_gives mid dir ≡ Some entries → stream_in items ≡ None
    → ReadInOrder order (depth + 1) path mid dir items
    → HasContentsLeft walk streams path depth items
contains_sorted walk order streams mid path depth dir entries items same below is gives none read above directory children here same_path same_depth
    left each =
    let all : children ≡ held items = held_left streams (depth + 1) path items children none left in
    let are : AreChildren walk.order read.given children =
    subst (λ o. AreChildren o read.given children) (sym same) (subst (IsInOrder order read.given) (sym all) read.sorted) in
    walks.Opened entries children (below_is walk directory depth same_depth below) (ap (opened walk.tree) same_path ∙ is)
    (children_of walk directory path depth entries read.given children same_path same_depth (read.streamed entries gives) are) each

contains_nothing : (walk : Walking) (streams : Streams) (path : Path) (depth : ℕ) (items : Items) → walk.options.max_depth ≤ depth → HasNothing items
    → HasContentsLeft walk streams path depth items
contains_nothing walk streams path depth items deep nothing above directory children here same_path same_depth left each =
    let none : children ≡ [] = held_left streams (depth + 1) path items children nothing.no_stream left ∙ nothing.nothing in
    let over : here ≡ [] = walks_none (subst (λ l. WalksOf walk above l here) none each) in
    subst (ContentsOf walk above directory) (sym over) (walks.Deepest (deepest_is walk directory depth same_depth deep))

-- ---- a directory that is opened

now_gives : (state : Option State) (path : Path) (old new : Streams) (dir : ℕ) (opens : Opens state path old new dir)
    → still_gives new dir ≡ Some opens.entries
now_gives state path old new dir opens = ap (λ (s : Streams). finite.get s.open_dirs dir) opens.streams ∙ has_inserted old.open_dirs dir opens.entries

pub opens_stream : (state : Option State) (order : Option Order) (path : Path) (depth : ℕ) (old new : Streams) (dir : ℕ) → order ≡ None
    → Opens state path old new dir
    → OpensContents state order path depth (Ok (Opened dir)) new
opens_stream None order path depth old new dir none opens = tt
opens_stream (Some s) order path depth old new dir none opens = λ walk tree same below.
    contains_stream walk new path depth dir opens.entries (same ∙ none) below (ap (λ t. opened t path) tree ∙ opens.fixed)
    (now_gives (Some s) path old new dir opens)

pub opens_sorted : (state : Option State) (order : Order) (path : Path) (depth : ℕ) (old mid new : Streams) (dir : ℕ) (result : Result Items Error)
    → Opens state path old mid dir
    → stream_of result ≡ None → IfOk result (λ items. ReadInOrder order (depth + 1) path mid dir items)
    → OpensContents state (Some order) path depth result new
opens_sorted None order path depth old mid new dir result opens none read = tt
opens_sorted (Some s) order path depth old mid new dir (Err error) opens none read = tt
opens_sorted (Some s) order path depth old mid new dir (Ok items) opens none read = λ walk tree same below.
    contains_sorted walk order new mid path depth dir opens.entries items same below (ap (λ t. opened t path) tree ∙ opens.fixed)
    (now_gives (Some s) path old mid dir opens) none read

pub opens_refused : (state : Option State) (order : Option Order) (path : Path) (depth : ℕ) (new : Streams) (error : DiskError)
    (result : Result Items Error)
    → IfSome state (λ s. AnswersOpen (Err error) (opened (tree_of s) path)) → IfOk result (λ items. OnlyFailure depth path error items)
    → IfOk result (λ _. error ≢ refusals.NoMemory)
    → OpensContents state order path depth result new
opens_refused None order path depth new error result answer only some = tt
opens_refused (Some s) order path depth new error (Err lost) answer only some = tt
opens_refused (Some s) order path depth new error (Ok items) answer only some = λ walk tree same below.
    contains_failure walk new path depth error items only below (subst (λ t. IsRefused {A = List Entry} error (opened t path)) (sym tree)
    (refused_as error (opened (tree_of s) path) some answer))

pub opened_below : (state : Option State) (order : Option Order) (options : Options) (path : Path) (depth : ℕ) (result : Result Items Error)
    (new : Streams) → depth < options.max_depth
    → OpensContents state order path depth result new → HasContents state order options path depth result new
opened_below None order options path depth result new below opens = tt
opened_below (Some s) order options path depth (Err error) new below opens = tt
opened_below (Some s) order options path depth (Ok items) new below opens =
    λ walk tree same is. opens walk tree same (subst (λ o. depth < o.max_depth) (sym is) below)

pub opened_deepest : (state : Option State) (order : Option Order) (options : Options) (path : Path) (depth : ℕ) (items : Items) (new : Streams)
    → options.max_depth ≤ depth
    → HasNothing items → HasContents state order options path depth (Ok items) new
opened_deepest None order options path depth items new deep nothing = tt
opened_deepest (Some s) order options path depth items new deep nothing = λ walk tree same is.
    contains_nothing walk new path depth items (subst (λ o. o.max_depth ≤ depth) (sym is) deep) nothing

-- ---- a directory that is put on the stack

within : (walk : Walking) (old : Progress) (streams : Streams) (list : DirList) (outer : List DirList) (rest : List Item)
    → HasContentsLeft walk streams list.path (length outer) list.items
    → ancestors outer ≡ ancestors old.stack → ((others : List Item) → StandsFor walk streams outer others
    → StandsFor walk old.streams old.stack others)
    → StandsFor walk streams (list ∷ outer) rest → StandsPushed walk old list.path (length outer) list.place list.after rest
within walk old streams list outer rest contains same back (Within children here others left each behind is) = record {
  contents = here;
  others = others;
  contains = λ directory same_path same_depth. subst (λ above. ContentsOf walk ((record { path = list.path; place = list.place })
      ∷ above) directory here) same
      (contains (ancestors (list ∷ outer)) directory children here same_path same_depth left each);
  behind = back others behind;
  is = is;
}

pub pushed_stands : (state : Option State) (old there new : Progress) (path : Path) (depth : ℕ) (place : Option Place) (after : Option DirEntry)
    (items : Items)
    → there.options ≡ old.options → there.order ≡ old.order → length there.stack ≡ depth → StandsAsBefore old there
    → ((before : Streams) → Keeps before old → Keeps before there)
    → new.stack ≡ (record { path = path; place = place; items = items; after = after }) ∷ there.stack
    → OpensAtMost there.streams (stream_in items) new.streams
    → HasContents state there.order there.options path depth (Ok items) new.streams → PushesDirectory state old path depth place after new
pushed_stands None old there new path depth place after items options order deep stands keeps stack opens has = tt
pushed_stands (Some s) old there new path depth place after items options order deep stands keeps stack opens has =
    λ walk tree same_options same_order before kept rest left.
    let list : DirList = record { path = path; place = place; items = items; after = after } in
    let contains : HasContentsLeft walk new.streams path depth items = has walk tree (same_order ∙ sym order) (same_options ∙ sym options) in
    subst (λ n. StandsPushed walk old path n place after rest) deep
    (within walk old new.streams list there.stack rest (subst (λ n. HasContentsLeft walk new.streams path n items) (sym deep) contains) stands.0
    (λ others behind. stands.1 walk before kept others (stands_opened walk before there (stream_in items) new.streams others
    (keeps before kept) opens.dirs behind))
    (subst (λ stack. StandsFor walk new.streams stack rest) stack left))
