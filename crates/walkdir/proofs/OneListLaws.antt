-- Without failures of the disk a walk gives one list, however many directories may be open.
use Rattle.std.proofs.Common.{◌≡◌, ℕ, ◌+◌, Bool, true, false, cond, List, [], ◌∷◌, ◌++◌, map, Option, Some, None, Ok, Err, refl, sym, ap, subst, ◌∙◌, arith}
use Rattle.std.specs.Prelude.{IfSome}
use Rattle.std.specs.Cmp.{IsTotalOrder}
use Rattle.std.specs.List.{filter_map}
use Rattle.std.specs.Result.{result_ok}
use Rattle.std.specs.declared.cmp.Ordering.{Ordering}
use Rattle.odb_disk.specs.Entries.{opened}
use Rattle.odb_disk.specs.Tree.{Tree}
use Rattle.odb_disk.specs.Tree.Follow.{looked}
use Rattle.odb_disk.specs.declared.entry.Entry.{Entry}
use Rattle.walkdir.specs.BuiltWalk.{walking}
use Rattle.walkdir.specs.Error.{io_error}
use Rattle.walkdir.specs.Failures.{failures_among}
use Rattle.walkdir.specs.Walk.{Ancestor, ContentsOf, Item, Order, WalkOf, Walking, WalksOf, Alone, Child, Closed, Deepest}
use Rattle.walkdir.specs.Walk.{Entered, Failed, Lost, NoDevice, NoRoot, Nothing, Opened, Root, Unopened, Wrong}
use Rattle.walkdir.specs.Walk.Children.{AreChildren, ChildrenOf, IsStreamed, child_of, error_in, Broken, Ended, Next}
use Rattle.walkdir.specs.Walk.Entries.{around, comes_after, shown}
use Rattle.walkdir.specs.Options.{Built, is_given}
use Rattle.walkdir.specs.WalkLaws.{GiveOneList, GivesOneList, IsSameForAnyMost, with_most}
use Rattle.walkdir.specs.declared.builder.Options.{Options}
use Rattle.walkdir.specs.declared.dent.DirEntry.{DirEntry}
use Rattle.walkdir.proofs.FailuresLaws.{failures-append}
use Rattle.walkdir.proofs.SortedLemmas.{ordered_failures}
use Rattle.walkdir.proofs.StableLaws.{stable_once}
use Rattle.walkdir.proofs.WalkLaws.{same_for_any_most, same_with_most}
use Rattle.walkdir.proofs.WalkCases.{front_sound, rest_sound, refused_as, as_wrong, as_closed, as_alone, as_entered, as_deepest}
use Rattle.walkdir.proofs.WalkCases.{as_unopened, as_opened, as_nothing, as_lost, as_child, as_no_device, as_no_root, as_root}

-- ---- lists without failures

shown_by : (given : Bool) (entry : DirEntry) → failures_among (cond given (Ok entry ∷ []) []) ≡ 0
shown_by true entry = refl
shown_by false entry = refl

around_by : (after : Bool) (own contents : List Item) → failures_among own ≡ 0 → failures_among (cond after (contents ++ own) (own ++ contents))
    ≡ failures_among contents
around_by true own contents still = let parts = failures-append contents own in omega arith
around_by false own contents still = let parts = failures-append own contents in omega arith

-- an entry of its own is no failure
around_failures : (options : Options) (entry : DirEntry) (contents : List Item) → failures_among (around options entry contents)
    ≡ failures_among contents
around_failures options entry contents =
    around_by (comes_after options entry) (shown options entry) contents (shown_by (is_given options entry.depth) entry)

-- ---- the children of a directory

-- a stream without failures gives all entries
all_streamed : {depth : ℕ} {entries : List DirEntry} {given : List Item} → IsStreamed depth entries given → failures_among given ≡ 0
    → given ≡ map Ok entries
all_streamed Ended sound = refl
all_streamed Broken sound = absurd (omega arith)
all_streamed (Next {entry = entry} {items = items} more) sound =
    ap (λ rest. Ok entry ∷ rest) (all_streamed more (rest_sound (Ok entry ∷ items) (Ok entry ∷ []) items refl sound))

same_failures : (order : Option (DirEntry → DirEntry → Ordering)) (given children : List Item) → AreChildren order given children
    → failures_among children ≡ failures_among given
same_failures None given children are = ap failures_among are
same_failures (Some order) given children are = ordered_failures order given children are

in_order_once : (order : Option (DirEntry → DirEntry → Ordering)) → IfSome order IsTotalOrder → (given children others : List Item)
    → AreChildren order given children → AreChildren order given others → children ≡ others
in_order_once None total given children others first second = first ∙ sym second
in_order_once (Some order) total given children others first second =
    first.is ∙ ap (λ entries. filter_map error_in given ++ map Ok entries)
    (stable_once order total (filter_map result_ok given) first.entries second.entries first.sorted.rises first.sorted.stable second.sorted.rises
    second.sorted.stable)
    ∙ sym second.is

children_once : (walk : Walking) → IfSome walk.order IsTotalOrder → (directory : DirEntry) (entries : List Entry) (children others : List Item)
    → ChildrenOf walk directory entries children
    → ChildrenOf walk directory entries others → failures_among children ≡ 0 → failures_among others ≡ 0 → children ≡ others
children_once walk total directory entries children others first second sound still =
    let all = map (child_of directory.path (directory.depth + 1)) entries in
    let given : first.given ≡ map Ok all = all_streamed first.streamed (sym (same_failures walk.order first.given children first.are) ∙ sound) in
    let other : second.given ≡ map Ok all = all_streamed second.streamed (sym (same_failures walk.order second.given others second.are) ∙ still) in
    in_order_once walk.order total first.given children others first.are (subst (λ g. AreChildren walk.order g others) (other ∙ sym given) second.are)

-- the failures among children are failures of their walks
children_sound : (walk : Walking) {above : List Ancestor} {children items : List Item} → WalksOf walk above children items → failures_among items ≡ 0
    → failures_among children ≡ 0
children_sound walk Nothing sound = refl
children_sound walk (Lost walks) sound = let rest = children_sound walk walks (omega arith) in omega arith
children_sound walk (Child {items = items} first others walked walks is) sound =
    let rest = children_sound walk walks (rest_sound items first others is sound) in omega arith

-- ---- one list

module _ (walk : Walking) (total : IfSome walk.order IsTotalOrder) where
  mutual
    walk_once : {above : List Ancestor} {entry : DirEntry} {items others : List Item} → WalkOf walk above entry items → WalkOf walk above entry others
        → failures_among items ≡ 0
        → failures_among others ≡ 0 → items ≡ others
    walk_once (Failed looks) second sound still = absurd (omega arith)
    walk_once (Wrong {error = error} is) second sound still = sym (as_wrong walk error is second still)
    walk_once (Closed {error = error} taken is enters) second sound still = sym (as_closed walk error taken is enters second still)
    walk_once (Alone taken is enters all) second sound still = all ∙ sym (as_alone walk taken is enters second still)
    walk_once (Entered taken place contents is enters inside all) second sound still =
        let other = as_entered walk taken place is enters second still in
        let first_sound = sym (around_failures walk.options taken contents) ∙ sym (ap failures_among all) ∙ sound in
        let other_sound = sym (around_failures walk.options taken other.contents) ∙ sym (ap failures_among other.is) ∙ still in
        all ∙ ap (around walk.options taken) (contents_once inside other.inside first_sound other_sound) ∙ sym other.is

    contents_once : {above : List Ancestor} {directory : DirEntry} {items others : List Item} → ContentsOf walk above directory items
        → ContentsOf walk above directory others
        → failures_among items ≡ 0 → failures_among others ≡ 0 → items ≡ others
    contents_once (Deepest deep) second sound still = sym (as_deepest walk deep second)
    contents_once {directory = directory} (Unopened error below refused) second sound still =
        let why = refused_as directory.depth directory.path error (opened walk.tree directory.path) refused sound in
        ap (λ e. Err (io_error directory.depth directory.path e) ∷ []) why.2 ∙ sym (as_unopened walk directory why.0 below why.1 second still)
    contents_once {above} {directory} {items} {others} (Opened entries children below told are walks) second sound still =
        let other = as_opened walk directory entries below told second still in
        let same : children ≡ other.children =
        children_once walk total directory entries children other.children are other.are (children_sound walk walks sound)
        (children_sound walk other.walks still) in
        walks_once walks (subst (λ c. WalksOf walk above c others) (sym same) other.walks) sound still

    walks_once : {above : List Ancestor} {children items others : List Item} → WalksOf walk above children items → WalksOf walk above children others
        → failures_among items ≡ 0
        → failures_among others ≡ 0 → items ≡ others
    walks_once Nothing second sound still = sym (as_nothing walk refl second)
    walks_once {others = others} (Lost {error = error} {children = children} {items = items} walks) second sound still =
        let other = as_lost walk error children refl second in
        let same = walks_once walks other.walks (rest_sound (Err error ∷ items) (Err error ∷ []) items refl sound)
        (rest_sound others (Err error ∷ []) other.others other.is still) in
        ap (λ rest. Err error ∷ rest) same ∙ sym other.is
    walks_once {items = items} {others = others} (Child {entry = entry} {children = children} first rest walked walks all) second sound still =
        let other = as_child walk entry children refl second in
        let same_first : first ≡ other.first = walk_once walked other.walked (front_sound items first rest all sound)
        (front_sound others other.first other.others other.is still) in
        let same_rest : rest ≡ other.others = walks_once walks other.walks (rest_sound items first rest all sound)
        (rest_sound others other.first other.others other.is still) in
        all ∙ ap (λ f. f ++ rest) same_first ∙ ap (λ r. other.first ++ r) same_rest ∙ sym other.is

pub gives_one_list : (walk : Walking) → GivesOneList walk
gives_one_list walk total items others (NoDevice error stays refused) second sound still =
    let why = refused_as 0 walk.root error (looked walk.tree walk.root true) refused sound in
    ap (λ e. Err (io_error 0 walk.root e) ∷ []) why.2 ∙ sym (as_no_device walk why.0 stays why.1 second still)
gives_one_list walk total items others (NoRoot error device refused) second sound still =
    let why = refused_as 0 walk.root error (looked walk.tree walk.root false) refused sound in
    ap (λ e. Err (io_error 0 walk.root e) ∷ []) why.2 ∙ sym (as_no_root walk why.0 device why.1 second still)
gives_one_list walk total items others (Root meta device told walked) second sound still =
    walk_once walk total walked (as_root walk meta device told second still) sound still

-- without failures a walk gives one list, however many directories may be open
pub walk_is_one : (walk : Walking) → IsSameForAnyMost walk
walk_is_one walk = same_for_any_most walk (gives_one_list walk)

-- a walk that is built with another number gives the same list
pub one_with_most : {S : Type 0} (order : S → Order) (tree : Tree) (built : Built S) (most : ℕ)
    → GiveOneList (walking order tree built) (walking order tree (record built { options = record built.options { max_open = most } }))
unfolding with_most
one_with_most order tree built most = same_with_most (walking order tree built) most (gives_one_list (walking order tree built))
