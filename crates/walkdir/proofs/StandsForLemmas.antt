-- Laws of what a stack stands for: streams of others change, or one directory gets other contents.
use Rattle.std.proofs.Common.{◌≡◌, ℕ, ◌+◌, true, false, List, [], ◌∷◌, ◌++◌, length, Option, Some, None, refl, sym, ap, subst, ◌∙◌, cond, is_some, length-append}
use Rattle.std.specs.List.{cons_option}
use Rattle.std.specs.FinMap as finite
use Rattle.odb_base.specs.Path.{Path}
use Rattle.odb_disk.specs.Streams.{Streams, is_open, still_gives, with_closed, with_stream}
use Rattle.odb_disk.specs.declared.entry.Entry.{Entry}
use Rattle.walkdir.specs.OwnStreams.{OpenDirs, AreBeside}
use Rattle.walkdir.specs.Progress.{Progress, Keeps}
use Rattle.walkdir.specs.Turns.Drawn.{HasOpened}
use Rattle.walkdir.specs.Directory.{HasLeft, stream_in}
use Rattle.walkdir.specs.Stack.{StandsFor, Nothing, Within, ancestors, own_streams}
use Rattle.walkdir.specs.Walk.{Walking, Item, Ancestor, WalksOf}
use Rattle.walkdir.specs.declared.directory.DirList.{DirList}
use Rattle.walkdir.specs.declared.directory.Items.{Items}
use Rattle.walkdir.specs.declared.directory.Items.TheVariants.{Opened, Closed, Skipped}
use Rattle.walkdir.proofs.OwnStreamsLemmas.{at_insert, at_remove, one_closed, open_apart, same_number, tied}
use Rattle.walkdir.proofs.StepLemmas.{keeps_open}
use Rattle.walkdir.proofs.WorkLemmas.{AllOpen, all_open}

-- ---- streams that give what they gave

pub SameGiven : List ℕ → Streams → Streams → Type 0
SameGiven [] old new = Unit {0}
SameGiven (dir ∷ own) old new = (still_gives new dir ≡ still_gives old dir) × SameGiven own old new

pub same-all : (own : List ℕ) (old : Streams) → SameGiven own old old
unfolding SameGiven
same-all [] old = tt
same-all (dir ∷ own) old = (refl, same-all own old)

pub same-sym : (own : List ℕ) (old new : Streams) → SameGiven own old new → SameGiven own new old
unfolding SameGiven
same-sym [] old new same = tt
same-sym (dir ∷ own) old new same = (sym same.0, same-sym own old new same.1)

same-behind : (o : Option ℕ) (own : List ℕ) (old new : Streams) → SameGiven (cons_option o own) old new → SameGiven own old new
unfolding SameGiven
same-behind None own old new same = same
same-behind (Some dir) own old new same = same.1

pub same-drawn : (own : List ℕ) (old : Streams) (dir : ℕ) (rest : List Entry) → AllOpen own (finite.remove old.open_dirs dir)
    → SameGiven own old (with_stream old dir rest)
unfolding SameGiven AllOpen
same-drawn [] old dir rest opened = tt
same-drawn (first ∷ own) old dir rest opened = (
  at_insert old.open_dirs dir rest first ∙ ap (λ b. cond b (Some rest) (finite.get old.open_dirs first))
      (open_apart old.open_dirs dir first opened.0),
  same-drawn own old dir rest opened.1,
)

pub same-closed : (own : List ℕ) (old : Streams) (dir : ℕ) → AllOpen own (finite.remove old.open_dirs dir) → SameGiven own old (with_closed old dir)
unfolding SameGiven AllOpen
same-closed [] old dir opened = tt
same-closed (first ∷ own) old dir opened = (
  at_remove old.open_dirs dir first ∙ ap (λ b. cond b None (finite.get old.open_dirs first)) (open_apart old.open_dirs dir first opened.0),
  same-closed own old dir opened.1,
)

-- the streams of a walk except one
pub others_open : (others : OpenDirs) (inner : List ℕ) (dir : ℕ) (outer : List ℕ) (now : OpenDirs) → AreBeside others (inner ++ dir ∷ outer) now
    → AllOpen (inner ++ outer) (finite.remove now dir)
others_open others inner dir outer now beside =
    all_open others [] (inner ++ outer) (finite.remove now dir) (one_closed others inner dir outer now beside)

-- ---- what a stack stands for

left_same : (old new : Streams) (depth : ℕ) (path : Path) (items : Items) (own : List ℕ) (children : List Item)
    → SameGiven (cons_option (stream_in items) own) old new
    → HasLeft new depth path items children → HasLeft old depth path items children
unfolding SameGiven
left_same old new depth path (Opened dir) own children same left = (left.0, sym same.0 ∙ left.1, left.2)
left_same old new depth path (Closed items) own children same left = left
left_same old new depth path Skipped own children same left = left

pub stands_same : (walk : Walking) (old new : Streams) (stack : List DirList) (items : List Item) → SameGiven (own_streams stack) old new
    → StandsFor walk new stack items → StandsFor walk old stack items
stands_same walk old new [] items same Nothing = Nothing
stands_same walk old new (list ∷ outer) items same (Within children here others left walks rest is) =
    Within children here others (left_same old new (length outer + 1) list.path list.items (own_streams outer) children same left) walks
    (stands_same walk old new outer others (same-behind (stream_in list.items) (own_streams outer) old new same) rest) is

pub ancestors_put : (inner : List DirList) (list : DirList) (items : Items) (outer : List DirList)
    → ancestors (inner ++ (record list { items = items }) ∷ outer) ≡ ancestors (inner ++ list ∷ outer)
ancestors_put [] list items outer = refl
ancestors_put (first ∷ inner) list items outer =
    ap {B = List Ancestor} (λ above. (record { path = first.path; place = first.place }) ∷ above) (ancestors_put inner list items outer)

same_length : (inner : List DirList) (list other : DirList) (outer : List DirList) → length (inner ++ other ∷ outer) ≡ length (inner ++ list ∷ outer)
same_length inner list other outer = length-append inner (other ∷ outer) ∙ sym (length-append inner (list ∷ outer))

-- the contents of one directory stand for what others stood for
pub stands_put : (walk : Walking) (old new : Streams) (inner : List DirList) (list : DirList) (items : Items) (outer : List DirList)
    (rest : List Item)
    → SameGiven (own_streams inner) old new → SameGiven (own_streams outer) old new
    → ((children : List Item) → HasLeft new (length outer + 1) list.path items children
    → HasLeft old (length outer + 1) list.path list.items children)
    → StandsFor walk new (inner ++ (record list { items = items }) ∷ outer) rest → StandsFor walk old (inner ++ list ∷ outer) rest
stands_put walk old new [] list items outer rest within beyond same (Within children here others left walks behind is) =
    Within children here others (same children left) walks (stands_same walk old new outer others beyond behind) is
stands_put walk old new (first ∷ inner) list items outer rest within beyond same (Within children here others left walks behind is) =
    Within children here others
    (subst (λ depth. HasLeft old (depth + 1) first.path first.items children) (same_length inner list (record list { items = items }) outer)
    (left_same old new (length (inner ++ (record list { items = items }) ∷ outer) + 1) first.path first.items
    (own_streams inner) children within left))
    (subst (λ above. WalksOf walk above children here) (ancestors_put (first ∷ inner) list items outer) walks)
    (stands_put walk old new inner list items outer others (same-behind (stream_in first.items) (own_streams inner) old new within)
    beyond same behind)
    is

-- ---- one more stream

free_apart : (old : Streams) (dir q : ℕ) → finite.get old.open_dirs dir ≡ None → is_open old q ≡ true → tied q dir ≡ false
free_apart old dir q free opened = elim (tied q dir) as (λ b. tied q dir ≡ b → b ≡ false) [
  | true ↦ λ t.
      let none : is_open old q ≡ false = ap is_some (ap (finite.get old.open_dirs) (same_number q dir t) ∙ free) in
      let no : false ≡ true = sym none ∙ opened in
      cc
  | false ↦ λ _. refl
] refl

given_opened : (q : ℕ) (old : Streams) (dir : Option ℕ) (new : Streams) → is_open old q ≡ true → HasOpened old.open_dirs dir new.open_dirs
    → still_gives new q ≡ still_gives old q
given_opened q old None new opened has = ap (λ (m : OpenDirs). finite.get m q) has
given_opened q old (Some dir) new opened has =
    ap (λ (m : OpenDirs). finite.get m q) has.3 ∙ at_insert old.open_dirs dir has.0 q
    ∙ ap (λ b. cond b (Some has.0) (finite.get old.open_dirs q)) (free_apart old dir q has.1 opened)

same-opened : (own : List ℕ) (old : Streams) (dir : Option ℕ) (new : Streams) → AllOpen own old.open_dirs → HasOpened old.open_dirs dir new.open_dirs
    → SameGiven own old new
unfolding SameGiven AllOpen
same-opened [] old dir new opened has = tt
same-opened (first ∷ own) old dir new opened has = (given_opened first old dir new opened.0 has, same-opened own old dir new opened.1 has)

pub stands_opened : (walk : Walking) (before : Streams) (at : Progress) (dir : Option ℕ) (new : Streams) (items : List Item) → Keeps before at
    → HasOpened at.streams.open_dirs dir new.open_dirs → StandsFor walk new at.stack items → StandsFor walk at.streams at.stack items
stands_opened walk before at dir new items keeps has left =
    stands_same walk at.streams new at.stack items (same-opened (own_streams at.stack) at.streams dir new (keeps_open before at keeps) has) left
