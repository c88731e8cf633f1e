-- A skip drops only the walks of the children that are left in the innermost directory that isn't skipped yet.
use Rattle.std.proofs.Common.{◌≡◌, ℕ, ◌+◌, Bool, true, false, List, [], ◌∷◌, ◌++◌, length, map, Option, Some, None, Ok, Err, is_some, refl, sym, ap, subst, ◌∙◌, append_assoc}
use Rattle.std.specs.Prelude.{MatchBool, if◌then◌else◌}
use Rattle.std.specs.List.{cons_option}
use Rattle.odb_base.specs.Path.{Path}
use Rattle.odb_disk.specs.Streams.{Streams, still_gives}
use Rattle.walkdir.specs.OwnStreams.{OpenDirs, AreBeside}
use Rattle.walkdir.specs.Progress.{Progress, Keeps}
use Rattle.walkdir.specs.Skips.{Skips, skipped, skipped_stream}
use Rattle.walkdir.specs.SkipLaws.{AreLeft, IsDropped, LeavesAll, SkipDrops, SkipLeaves, StoodFor, own_first}
use Rattle.walkdir.specs.Directory.{HasLeft, is_skipped, stream_in, without_stream}
use Rattle.walkdir.specs.Stack.{StandsFor, Nothing, Within, ancestors, own_entry, own_streams}
use Rattle.walkdir.specs.Walk.{Walking, Item, Ancestor, WalksOf}
use Rattle.walkdir.specs.Walk.Children.{IsStreamed, child_of}
use Rattle.walkdir.specs.declared.dent.DirEntry.{DirEntry}
use Rattle.walkdir.specs.declared.directory.DirList.{DirList}
use Rattle.walkdir.specs.declared.directory.Items.{Items}
use Rattle.walkdir.specs.declared.directory.Items.TheVariants.{Opened, Closed, Skipped}
use Rattle.walkdir.proofs.StandsForLemmas.{SameGiven, others_open, same-all, same-closed, same-sym, stands_same}
use Rattle.walkdir.proofs.StepLemmas.{keeps_open}
use Rattle.walkdir.proofs.WorkLemmas.{AllOpen, open_behind}
use Rattle.walkdir.proofs.StillGivesLemmas.{walks_left}

-- ---- a directory that is skipped already

skipped_none : (items : Items) → is_skipped items ≡ true → stream_in items ≡ None
skipped_none (Opened dir) is = cc
skipped_none (Closed items) is = refl
skipped_none Skipped is = refl

skipped_empty : (streams : Streams) (depth : ℕ) (path : Path) (items : Items) (children : List Item) → is_skipped items ≡ true
    → HasLeft streams depth path items children → children ≡ []
skipped_empty streams depth path (Opened dir) children is left = cc
skipped_empty streams depth path (Closed items) children is left = cc
skipped_empty streams depth path Skipped children is left = left

skipped_left : (streams : Streams) (depth : ℕ) (path : Path) (items : Items) → is_skipped items ≡ true → HasLeft streams depth path items []
skipped_left streams depth path (Opened dir) is = let no : false ≡ true = is in absurd cc
skipped_left streams depth path (Closed items) is = let no : false ≡ true = is in absurd cc
skipped_left streams depth path Skipped is = refl

none_walked : (walk : Walking) (above : List Ancestor) (children here : List Item) → WalksOf walk above children here → children ≡ [] → here ≡ []
none_walked walk above [] here WalksOf.Nothing none = refl
none_walked walk above (Err error ∷ children) here (WalksOf.Lost walks) none = cc
none_walked walk above (Ok entry ∷ children) here (WalksOf.Child first others walked walks is) none = cc

-- ---- the streams that a skip leaves give what they gave

same_without : (others : OpenDirs) (o : Option ℕ) (own : List ℕ) (now : Streams) → AreBeside others (cons_option o own) now.open_dirs
    → SameGiven own now (without_stream o now)
same_without others None own now beside = same-all own now
same_without others (Some dir) own now beside = same-closed own now dir (others_open others [] dir own now.open_dirs beside)

same_if : (b : Bool) (others : OpenDirs) (now : Streams) (list : DirList) (outer : List DirList) → is_skipped list.items ≡ b
    → (AreBeside others (own_streams outer) now.open_dirs → SameGiven (own_streams (skipped outer)) now (without_stream (skipped_stream outer) now))
    → AreBeside others (own_streams (list ∷ outer)) now.open_dirs
    → SameGiven (own_streams (if b then list ∷ skipped outer else (record list { items = Skipped }) ∷ outer)) now
    (without_stream (if b then skipped_stream outer else stream_in list.items) now)
same_if true others now list outer is further beside =
    let none : stream_in list.items ≡ None = skipped_none list.items is in
    subst (λ (o : Option ℕ). SameGiven (cons_option o (own_streams (skipped outer))) now (without_stream (skipped_stream outer) now)) (sym none)
    (further (subst (λ (o : Option ℕ). AreBeside others (cons_option o (own_streams outer)) now.open_dirs) none beside))
same_if false others now list outer is further beside = same_without others (stream_in list.items) (own_streams outer) now beside

same_skipped : (others : OpenDirs) (now : Streams) (stack : List DirList) → AreBeside others (own_streams stack) now.open_dirs
    → SameGiven (own_streams (skipped stack)) now (without_stream (skipped_stream stack) now)
same_skipped others now [] beside = same-all [] now
same_skipped others now (list ∷ outer) beside = same_if (is_skipped list.items) others now list outer refl (same_skipped others now outer) beside

-- ---- what may be dropped

some_of : {A : Type 0} (o : Option A) → is_some o ≡ true → (a : A) × (o ≡ Some a)
some_of None is = absurd cc
some_of (Some a) is = (a, refl)

some_streamed : (depth : ℕ) (entries : List DirEntry) → (items : List Item) × IsStreamed depth entries items
some_streamed depth [] = ([], IsStreamed.Ended)
some_streamed depth (entry ∷ entries) = let more = some_streamed depth entries in (Ok entry ∷ more.0, IsStreamed.Next more.1)

has_left : (streams : Streams) (depth : ℕ) (path : Path) (items : Items) (own : List ℕ)
    → AllOpen (cons_option (stream_in items) own) streams.open_dirs
    → (children : List Item) × HasLeft streams depth path items children
unfolding AllOpen
has_left streams depth path (Opened dir) own opened =
    let gives = some_of (still_gives streams dir) opened.0 in
    let more = some_streamed depth (map (child_of path depth) gives.0) in
    (more.0, (gives.0, gives.1, more.1))
has_left streams depth path (Closed items) own opened = (items.items, refl)
has_left streams depth path Skipped own opened = ([], refl)

some_left : (walk : Walking) (streams : Streams) (list : DirList) (outer : List DirList) → AllOpen (own_streams (list ∷ outer)) streams.open_dirs
    → (items : List Item) × AreLeft walk streams list outer items
some_left walk streams list outer opened =
    let has = has_left streams (length outer + 1) list.path list.items (own_streams outer) opened in
    let more = walks_left walk (ancestors (list ∷ outer)) has.0 in
    (more.0, record { children = has.0; left = has.1; walks = more.1 })

joined : (a b c d : List Item) → ((a ++ b) ++ c) ++ d ≡ a ++ ((b ++ c) ++ d)
joined a b c d = simp append_assoc

-- ---- from what a skip leaves to what was there before

stood_if : (b : Bool) (walk : Walking) (old new : Streams) (list : DirList) (outer : List DirList) (rest : List Item) → is_skipped list.items ≡ b
    → ((others : List Item) → SameGiven (own_streams (skipped outer)) old new → StandsFor walk new (skipped outer) others
    → StoodFor (own_first walk.options outer) (IsDropped walk old outer) (StandsFor walk old outer) others)
    → AllOpen (own_streams (list ∷ outer)) old.open_dirs
    → SameGiven (own_streams (if b then list ∷ skipped outer else (record list { items = Skipped }) ∷ outer)) old new
    → StandsFor walk new (if b then list ∷ skipped outer else (record list { items = Skipped }) ∷ outer) rest
    → StoodFor (if b then own_entry walk.options list.after ++ own_first walk.options outer else [])
    (λ dropped. MatchBool b (IsDropped walk old outer dropped) (AreLeft walk old list outer dropped))
    (StandsFor walk old (list ∷ outer)) rest
stood_if true walk old new list outer rest skip further opened same (Within children here others left walks behind is) =
    let own = own_entry walk.options list.after in
    let first = own_first walk.options outer in
    let none : children ≡ [] = skipped_empty new (length (skipped outer) + 1) list.path list.items children skip left in
    let nothing : here ≡ [] = none_walked walk (ancestors (list ∷ skipped outer)) children here walks none in
    let more = further others
    (subst (λ (o : Option ℕ). SameGiven (cons_option o (own_streams (skipped outer))) old new) (skipped_none list.items skip) same) behind in
    record {
      behind = more.behind;
      is = is ∙ ap (λ h. h ++ own ++ others) nothing ∙ ap (λ o. own ++ o) more.is ∙ sym (append_assoc own first more.behind);
      some = more.some;
      stood = λ dropped drops.
          Within [] [] (first ++ dropped ++ more.behind) (skipped_left old (length outer + 1) list.path list.items skip) WalksOf.Nothing
          (more.stood dropped drops)
          (joined own first dropped more.behind);
    }
stood_if false walk old new list outer rest skip further opened same (Within children here others left walks behind is) =
    let own = own_entry walk.options list.after in
    let nothing : here ≡ [] = none_walked walk (ancestors (list ∷ outer)) children here walks left in
    record {
      behind = own ++ others;
      is = is ∙ ap (λ h. h ++ own ++ others) nothing;
      some = some_left walk old list outer opened;
      stood = λ dropped drops. Within drops.children dropped others drops.left drops.walks (stands_same walk old new outer others same behind)
          (sym (append_assoc dropped own others));
    }

stood_skipped : (walk : Walking) (old new : Streams) (stack : List DirList) (rest : List Item) → AllOpen (own_streams stack) old.open_dirs
    → SameGiven (own_streams (skipped stack)) old new
    → StandsFor walk new (skipped stack) rest → StoodFor (own_first walk.options stack) (IsDropped walk old stack) (StandsFor walk old stack) rest
stood_skipped walk old new [] rest opened same Nothing = record {
  behind = [];
  is = refl;
  some = ([], refl);
  stood = λ dropped none. subst (λ d. StandsFor walk old [] (d ++ [])) (sym none) Nothing;
}
stood_skipped walk old new (list ∷ outer) rest opened same stands =
    stood_if (is_skipped list.items) walk old new list outer rest refl
    (λ others among left. stood_skipped walk old new outer others (open_behind (stream_in list.items) (own_streams outer) old.open_dirs opened)
    among left) opened same stands

-- ---- from what was there before a skip to what it leaves

leaves_if : (b : Bool) (walk : Walking) (old new : Streams) (list : DirList) (outer : List DirList) (items : List Item) → is_skipped list.items ≡ b
    → ((others : List Item) → SameGiven (own_streams (skipped outer)) new old → StandsFor walk old outer others
    → LeavesAll (own_first walk.options outer) (IsDropped walk old outer) (StandsFor walk new (skipped outer)) others)
    → SameGiven (own_streams (if b then list ∷ skipped outer else (record list { items = Skipped }) ∷ outer)) new old
    → StandsFor walk old (list ∷ outer) items
    → LeavesAll (if b then own_entry walk.options list.after ++ own_first walk.options outer else [])
    (λ dropped. MatchBool b (IsDropped walk old outer dropped) (AreLeft walk old list outer dropped))
    (StandsFor walk new (if b then list ∷ skipped outer else (record list { items = Skipped }) ∷ outer)) items
leaves_if true walk old new list outer items skip further same (Within children here others left walks behind is) =
    let own = own_entry walk.options list.after in
    let first = own_first walk.options outer in
    let none : children ≡ [] = skipped_empty old (length outer + 1) list.path list.items children skip left in
    let nothing : here ≡ [] = none_walked walk (ancestors (list ∷ outer)) children here walks none in
    let more = further others
    (subst (λ (o : Option ℕ). SameGiven (cons_option o (own_streams (skipped outer))) new old) (skipped_none list.items skip) same) behind in
    record {
      dropped = more.dropped;
      behind = more.behind;
      is = is ∙ ap (λ h. h ++ own ++ others) nothing ∙ ap (λ o. own ++ o) more.is ∙ sym (joined own first more.dropped more.behind);
      drops = more.drops;
      stands = Within [] [] (first ++ more.behind)
          (skipped_left new (length (skipped outer) + 1) list.path list.items skip) WalksOf.Nothing more.stands
          (append_assoc own first more.behind);
    }
leaves_if false walk old new list outer items skip further same (Within children here others left walks behind is) = record {
  dropped = here;
  behind = own_entry walk.options list.after ++ others;
  is = is ∙ append_assoc here (own_entry walk.options list.after) others;
  drops = record { children = children; left = left; walks = walks };
  stands = Within [] [] others refl WalksOf.Nothing (stands_same walk new old outer others same behind) refl;
}

leaves_skipped : (walk : Walking) (old new : Streams) (stack : List DirList) (items : List Item) → SameGiven (own_streams (skipped stack)) new old
    → StandsFor walk old stack items
    → LeavesAll (own_first walk.options stack) (IsDropped walk old stack) (StandsFor walk new (skipped stack)) items
leaves_skipped walk old new [] items same Nothing = record { dropped = []; behind = []; is = refl; drops = refl; stands = Nothing }
leaves_skipped walk old new (list ∷ outer) items same stands =
    leaves_if (is_skipped list.items) walk old new list outer items refl (λ others among left. leaves_skipped walk old new outer others among left)
    same stands

-- ---- the laws

same_kept : (before : Streams) (old new : Progress) → Keeps before old → Skips old new
    → SameGiven (own_streams (skipped old.stack)) old.streams new.streams
same_kept before old new keeps skips =
    subst (λ s. SameGiven (own_streams (skipped old.stack)) old.streams s) (sym skips.streams)
    (same_skipped before.open_dirs old.streams old.stack keeps.beside)

pub skip_drops : (walk : Walking) (before : Streams) (old new : Progress) → Keeps before old → Skips old new → SkipDrops walk old new
skip_drops walk before old new keeps skips = λ rest stands.
    stood_skipped walk old.streams new.streams old.stack rest (keeps_open before old keeps) (same_kept before old new keeps skips)
    (subst (λ s. StandsFor walk new.streams s rest) skips.stack stands)

pub skip_leaves : (walk : Walking) (before : Streams) (old new : Progress) → Keeps before old → Skips old new → SkipLeaves walk old new
skip_leaves walk before old new keeps skips = λ items stands.
    subst (λ s. LeavesAll (own_first walk.options old.stack) (IsDropped walk old.streams old.stack) (StandsFor walk new.streams s) items)
    (sym skips.stack)
    (leaves_skipped walk old.streams new.streams old.stack items (same-sym (own_streams (skipped old.stack)) old.streams new.streams
    (same_kept before old new keeps skips)) stands)
