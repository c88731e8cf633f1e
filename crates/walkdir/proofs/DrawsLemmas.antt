-- Laws of what is drawn: one stream next to the others, what a directory has left, and a stream that is read to its end.
pub mod Puts
pub mod Child
use Rattle.std.proofs.Common.{◌≡◌, ℕ, true, false, inl, inr, List, [], ◌∷◌, ◌++◌, map, Option, Some, None, is_some, Ok, Err, refl, sym, ap, subst, ◌∙◌, append-nil}
use Rattle.std.specs.List.{cons_option}
use Rattle.std.specs.FinMap as finite
use lib.Seq.{append_snoc}
use Rattle.odb_base.specs.Path.{Path}
use Rattle.odb_disk.specs.Streams.{Streams, still_gives, with_closed}
use Rattle.odb_disk.specs.declared.entry.Entry.{Entry}
use Rattle.odb_disk.specs.declared.disk_error.DiskError.TheVariants as refusals
use Rattle.walkdir.specs.Error.{is_no_memory, stream_error}
use Rattle.walkdir.specs.OwnStreams.{OpenDirs, AreBeside}
use Rattle.walkdir.specs.Progress.{Progress, Keeps}
use Rattle.walkdir.specs.Directory.{HasLeft, held, stream_in, without_stream}
use Rattle.walkdir.specs.Stack.{own_streams}
use Rattle.walkdir.specs.Turns.Drawn.{BreaksOff, DrawsEntry, IsDrawn, StreamsAll}
use Rattle.walkdir.specs.Walk.{Item}
use Rattle.walkdir.specs.Walk.Children.{IsStreamed, Ended, Broken, Next, child_of}
use Rattle.walkdir.specs.declared.dent.DirEntry.{DirEntry}
use Rattle.walkdir.specs.declared.error.Error.{Error}
use Rattle.walkdir.specs.declared.directory.DirList.{DirList}
use Rattle.walkdir.specs.declared.directory.Items.{Items}
use Rattle.walkdir.specs.declared.directory.Items.TheVariants.{Opened, Closed, Skipped}
use Rattle.walkdir.proofs.OwnStreamsLemmas.{has_inserted, own_is_open, remove_again}
use Rattle.walkdir.proofs.StackLemmas.{own_at}
use Rattle.walkdir.proofs.StandsForLemmas.{SameGiven, others_open, same-all, same-closed}
use Rattle.walkdir.proofs.WorkLemmas.{AllOpen}

-- ---- one stream next to the others

pub closed_again : (old : Streams) (dir : ℕ) (mid : Streams) → IsDrawn old dir mid → with_closed mid dir ≡ with_closed old dir
closed_again old dir mid (inl same) = ap (λ (s : Streams). with_closed s dir) same
closed_again old dir mid (inr drawn) =
    ap (λ (s : Streams). with_closed s dir) drawn.3 ∙ ap (λ (m : OpenDirs). record old { open_dirs = m }) (remove_again old.open_dirs dir drawn.0)

pub open_front : (front back : List ℕ) (now : OpenDirs) → AllOpen (front ++ back) now → AllOpen front now
unfolding AllOpen
open_front [] back now opened = tt
open_front (dir ∷ front) back now opened = (opened.0, open_front front back now opened.1)

pub open_back : (front back : List ℕ) (now : OpenDirs) → AllOpen (front ++ back) now → AllOpen back now
unfolding AllOpen
open_back [] back now opened = opened
open_back (dir ∷ front) back now opened = open_back front back now opened.1

some_of : {A : Type 0} (o : Option A) → is_some o ≡ true → (x : A) × (o ≡ Some x)
some_of None is = absurd cc
some_of (Some x) is = (x, refl)

pub some_same : (a b : List Entry) → Some a ≡ Some b → a ≡ b
some_same a b same = cc

module _ (before : Streams) (at : Progress) (inner : List DirList) (list : DirList) (outer : List DirList) (dir : ℕ)
    (is : at.stack ≡ inner ++ list ∷ outer) (own : stream_in list.items ≡ Some dir)
    (keeps : Keeps before at) where
  beside_one : AreBeside before.open_dirs (own_streams inner ++ dir ∷ own_streams outer) at.streams.open_dirs
  beside_one = subst (λ o. AreBeside before.open_dirs o at.streams.open_dirs) (ap own_streams is ∙ own_at inner list outer dir own) keeps.beside

  -- the others are open without it
  pub open_beside : AllOpen (own_streams inner ++ own_streams outer) (finite.remove at.streams.open_dirs dir)
  open_beside = others_open before.open_dirs (own_streams inner) dir (own_streams outer) at.streams.open_dirs beside_one

  -- it is open
  pub gives_some : (entries : List Entry) × (still_gives at.streams dir ≡ Some entries)
  gives_some = some_of (still_gives at.streams dir)
      (own_is_open before.open_dirs (own_streams inner) dir (own_streams outer) at.streams.open_dirs beside_one)

pub same_without : (o : Option ℕ) (own : List ℕ) (others : OpenDirs) (old : Streams) → AreBeside others (cons_option o own) old.open_dirs
    → SameGiven own old (without_stream o old)
same_without None own others old beside = same-all own old
same_without (Some dir) own others old beside = same-closed own old dir (others_open others [] dir own old.open_dirs beside)

-- ---- what a directory has left

-- by its stream
pub left_opened : (streams : Streams) (depth : ℕ) (path : Path) (items : Items) (dir : ℕ) (children : List Item) (entries : List Entry)
    → stream_in items ≡ Some dir
    → still_gives streams dir ≡ Some entries → IsStreamed depth (map (child_of path depth) entries) children
    → HasLeft streams depth path items children
left_opened streams depth path (Opened other) dir children entries own gives streamed =
    let same : other ≡ dir = cc in
    (entries, ap (still_gives streams) same ∙ gives, streamed)
left_opened streams depth path (Closed items) dir children entries own gives streamed = absurd cc
left_opened streams depth path Skipped dir children entries own gives streamed = absurd cc

pub opened_left : (streams : Streams) (depth : ℕ) (path : Path) (items : Items) (dir : ℕ) (children : List Item) → stream_in items ≡ Some dir
    → HasLeft streams depth path items children
    → (entries : List Entry) × (still_gives streams dir ≡ Some entries) × IsStreamed depth (map (child_of path depth) entries) children
opened_left streams depth path (Opened other) dir children own left =
    let same : dir ≡ other = cc in
    (left.0, ap (still_gives streams) same ∙ left.1, left.2)
opened_left streams depth path (Closed items) dir children own left = absurd cc
opened_left streams depth path Skipped dir children own left = absurd cc

-- by what was read of it
pub left_held : (streams : Streams) (depth : ℕ) (path : Path) (items : Items) (children : List Item) → stream_in items ≡ None → children ≡ held items
    → HasLeft streams depth path items children
left_held streams depth path (Opened dir) children none is = absurd cc
left_held streams depth path (Closed items) children none is = is
left_held streams depth path Skipped children none is = is

pub held_left : (streams : Streams) (depth : ℕ) (path : Path) (items : Items) (children : List Item) → stream_in items ≡ None
    → HasLeft streams depth path items children → children ≡ held items
held_left streams depth path (Opened dir) children none left = absurd cc
held_left streams depth path (Closed items) children none left = left
held_left streams depth path Skipped children none left = left

-- ---- a stream is read to its end

-- what a stream gave so far, and what it still gives
pub StreamsOn : ℕ → Path → Streams → ℕ → List Item → Streams → Type 0
StreamsOn depth path old dir items now =
    (entries : List Entry) → still_gives old dir ≡ Some entries
    → (rest : List Entry) × ((still_gives now dir ≡ Some rest) × ((more : List Item) → IsStreamed depth (map (child_of path depth) rest) more
    → IsStreamed depth (map (child_of path depth) entries) (items ++ more)))

pub streams_none : (depth : ℕ) (path : Path) (old : Streams) (dir : ℕ) (items : List Item) → items ≡ [] → StreamsOn depth path old dir items old
unfolding StreamsOn
streams_none depth path old dir items none = λ entries gives.
    (entries, (gives, λ more streamed. subst (λ i. IsStreamed depth (map (child_of path depth) entries) (i ++ more)) (sym none) streamed))

pub streams_more : (depth : ℕ) (path : Path) (old : Streams) (dir : ℕ) (items : List Item) (mid new : Streams) (child : DirEntry) (all : List Item)
    → StreamsOn depth path old dir items mid
    → DrawsEntry depth path mid dir child new → all ≡ items ++ Ok child ∷ [] → StreamsOn depth path old dir all new
unfolding StreamsOn
streams_more depth path old dir items mid new child all so_far draws is = λ entries gives.
    let parts = so_far entries gives in
    let rest_is : parts.0 ≡ draws.entry ∷ draws.rest = some_same parts.0 (draws.entry ∷ draws.rest) (sym parts.1.0 ∙ draws.gave) in (
      draws.rest,
      (
        ap (λ s. still_gives s dir) draws.streams ∙ has_inserted mid.open_dirs dir draws.rest,
        λ more streamed.
            let one : IsStreamed depth (map (child_of path depth) (draws.entry ∷ draws.rest)) (Ok (child_of path depth draws.entry) ∷ more) =
            Next streamed in
            let here : IsStreamed depth (map (child_of path depth) parts.0) (Ok child ∷ more) =
            subst (λ es. IsStreamed depth (map (child_of path depth) es) (Ok child ∷ more)) (sym rest_is)
            (subst (λ c. IsStreamed depth (map (child_of path depth) (draws.entry ∷ draws.rest)) (Ok c ∷ more)) (sym draws.child_is) one) in
            subst (IsStreamed depth (map (child_of path depth) entries)) (sym (ap (λ l. l ++ more) is ∙ append_snoc items (Ok child) more))
            (parts.1.1 (Ok child ∷ more) here),
      ),
    )

pub streams_all : (depth : ℕ) (path : Path) (old : Streams) (dir : ℕ) (items : List Item) (now : Streams) → StreamsOn depth path old dir items now
    → still_gives now dir ≡ Some []
    → StreamsAll depth path old dir items
unfolding StreamsOn
streams_all depth path old dir items now so_far over = λ entries gives.
    let parts = so_far entries gives in
    let none : parts.0 ≡ [] = some_same parts.0 [] (sym parts.1.0 ∙ over) in
    subst (IsStreamed depth (map (child_of path depth) entries)) (append-nil items)
    (parts.1.1 [] (subst (λ es. IsStreamed depth (map (child_of path depth) es) []) (sym none) Ended))

-- an error other than out of memory is that of a stream that failed
pub broken_is : (depth : ℕ) (old : Streams) (dir : ℕ) (error : Error) (rest : List Entry) → BreaksOff depth old dir error → is_no_memory error ≡ false
    → still_gives old dir ≡ Some rest
    → error ≡ stream_error depth refusals.Failed
broken_is depth old dir error rest (inl lost) kept gives = absurd (let no : true ≡ false = sym (ap is_no_memory lost) ∙ kept in cc)
broken_is depth old dir error rest (inr (inl failed)) kept gives = failed
broken_is depth old dir error rest (inr (inr closed)) kept gives = absurd (let no : None ≡ Some rest = sym closed ∙ gives in cc)

pub streams_broken : (depth : ℕ) (path : Path) (old : Streams) (dir : ℕ) (items : List Item) (now : Streams) (error : Error) (all : List Item)
    → StreamsOn depth path old dir items now
    → BreaksOff depth now dir error → is_no_memory error ≡ false → all ≡ items ++ Err error ∷ [] → StreamsAll depth path old dir all
unfolding StreamsOn
streams_broken depth path old dir items now error all so_far breaks kept is = λ entries gives.
    let parts = so_far entries gives in
    let failed = broken_is depth now dir error parts.0 breaks kept parts.1.0 in
    let one : IsStreamed depth (map (child_of path depth) parts.0) (Err error ∷ []) =
    subst (λ e. IsStreamed depth (map (child_of path depth) parts.0) (Err e ∷ [])) (sym failed) Broken in
    subst (IsStreamed depth (map (child_of path depth) entries)) (sym is) (parts.1.1 (Err error ∷ []) one)
