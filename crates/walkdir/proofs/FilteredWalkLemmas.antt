-- Laws of what a filter leaves of what is still to come.
pub mod Calls
use Rattle.std.proofs.Common.{◌≡◌, ℕ, ◌+◌, inl, inr, append_assoc, arith, Bool, true, false, List, [], ◌∷◌, ◌++◌, Option, Some, None, Ok, refl, sym, ap, subst, ◌∙◌}
use Rattle.std.specs.Prelude.{◌==◌, IfSome, MatchBool, if◌then◌else◌, length}
use Rattle.std.proofs.lemmas.Bool.Decides.{nat_tests}
use Rattle.odb_base.specs.Path.{Path}
use Rattle.odb_disk.specs.Streams.{Streams}
use Rattle.walkdir.proofs.AboveLemmas.{above_long}
use Rattle.walkdir.proofs.ProgressLemmas.{both}
use Rattle.walkdir.proofs.SkipLaws.{skip_drops}
use Rattle.walkdir.specs.Above.{AreAbove, AreEntered}
use Rattle.walkdir.specs.Innermost.{IsAfter, IsAfterEntry, IsHead}
use Rattle.walkdir.specs.Entered.{HoldsContents, IsEntered, StaysOut}
use Rattle.walkdir.specs.Entry.{is_dir}
use Rattle.walkdir.specs.FilteredWalk.{HasNotBegun, LeavesOut}
use Rattle.walkdir.specs.OwnStreams.{AreBeside, Owns}
use Rattle.walkdir.specs.Progress.{IsOf, Keeps, Progress, StillGives, is_innermost, still_to_come}
use Rattle.walkdir.specs.Skips.{Skips, skipped}
use Rattle.walkdir.specs.SkipLaws.{AreLeft, IsDropped, StoodFor, own_first}
use Rattle.walkdir.specs.Stack.{StandsFor, ancestors, own_entry, own_streams}
use Rattle.walkdir.specs.Directory.{is_skipped}
use Rattle.walkdir.specs.Walk.{Walking, Ancestor, ContentsOf, IsWalk, Item}
use Rattle.walkdir.specs.Walk.Entries.{enter}
use Rattle.walkdir.specs.declared.builder.Options.{Options}
use Rattle.walkdir.specs.declared.directory.Items.TheVariants.{Skipped}
use Rattle.walkdir.specs.declared.dent.DirEntry.{DirEntry}
use Rattle.walkdir.specs.declared.directory.DirList.{DirList}
use Rattle.walkdir.specs.declared.directory.Place.{Place}

-- ---- what a skip drops right after a directory was entered

dropped_first : (b : Bool) (outer : List Item) (Further Own Stood : List Item → Type 0) (items : List Item) → b ≡ false
    → StoodFor (if b then outer else []) (λ dropped. MatchBool b (Further dropped) (Own dropped)) Stood items → (dropped : List Item) × Own dropped
    × Stood (dropped ++ items)
dropped_first true outer Further Own Stood items whole stood = absurd (let no : true ≡ false = whole in cc)
dropped_first false outer Further Own Stood items whole stood =
    let some = stood.some in
    (some.0, some.1, subst (λ behind. Stood (some.0 ++ behind)) (sym stood.is) (stood.stood some.0 some.1))

-- these items are an entered directory's contents, and then others
pub record ContentsFirst (walk : Walking) (entry : DirEntry) (place : Option Place) (streams : Streams) (stack : List DirList)
    (items : List Item) : Type 0 where
  pub above : List Ancestor
  pub are : AreAbove walk entry.path entry.depth above
  pub contents : List Item
  pub contains : ContentsOf walk (enter entry place above) entry contents
  pub stands : StandsFor walk streams stack (contents ++ items)

-- the directories above an entry that is innermost
head_above : (walk : Walking) (entry : DirEntry) (list : DirList) (outer : List DirList) → IsHead entry.path entry.depth (list ∷ outer)
    → AreEntered walk (ancestors (list ∷ outer))
    → AreAbove walk entry.path entry.depth (ancestors outer)
head_above walk entry list outer head entered =
    let d = entered.directory in
    let deep : d.depth ≡ entry.depth = entered.depth ∙ above_long outer ∙ sym head.0 in
    subst (λ (n : ℕ). AreAbove walk entry.path n (ancestors outer)) deep
    (subst (λ (p : Path). AreAbove walk p d.depth (ancestors outer)) (entered.path ∙ head.1) entered.rest)

dropped_contents : (walk : Walking) (entry : DirEntry) (place : Option Place) (streams : Streams) (stack : List DirList) (items : List Item)
    → HoldsContents walk entry place streams stack
    → IsHead entry.path entry.depth stack → AreEntered walk (ancestors stack) → StoodFor (own_first walk.options stack) (IsDropped walk streams stack)
    (StandsFor walk streams stack) items → ContentsFirst walk entry place streams stack items
dropped_contents walk entry place streams [] items holds head entered stood = absurd holds
dropped_contents walk entry place streams (list ∷ outer) items holds head entered stood =
    let parts = dropped_first (is_skipped list.items) (own_entry walk.options list.after ++ own_first walk.options outer)
    (IsDropped walk streams outer) (AreLeft walk streams list outer)
    (StandsFor walk streams (list ∷ outer)) items holds.0 stood in
    let left = parts.1 in
    record {
      above = ancestors outer;
      are = head_above walk entry list outer head entered;
      contents = parts.0;
      contains = holds.1 left.children parts.0 left.left left.walks;
      stands = parts.2;
    }

-- a directory that was entered just now
pub innermost_dir : (at : Progress) (entry : DirEntry) → at.entered ≡ is_innermost at.stack (Some (Ok entry)) → at.entered ≡ true
    → is_dir entry ≡ true
innermost_dir at entry is entered = (both (is_dir entry) (entry.depth + 1 == length at.stack) (sym is ∙ entered)).0

head_at : (options : Options) (entry : DirEntry) (stack : List DirList) → IsAfterEntry options entry stack → (entry.depth + 1 == length stack) ≡ true
    → IsHead entry.path entry.depth stack
head_at options entry stack (inl within) deep = within.head
head_at options entry stack (inr behind) deep = absurd (not_deeper (length stack) entry.depth behind.beside.long deep)
  where
    not_deeper : (long depth : ℕ) → long ≡ depth → (depth + 1 == long) ≡ true → ⊥
    not_deeper long depth is deep = grind (arith, nat_tests)

-- and it is the head
pub innermost_head : (at : Progress) (entry : DirEntry) → at.entered ≡ is_innermost at.stack (Some (Ok entry)) → at.entered ≡ true
    → IsAfter at.options (Some (Ok entry)) at.stack
    → IsHead entry.path entry.depth at.stack
innermost_head at entry is entered after =
    head_at at.options entry at.stack after (both (is_dir entry) (entry.depth + 1 == length at.stack) (sym is ∙ entered)).1

-- ---- a walk after a skip

skipped_above : (stack : List DirList) → ancestors (skipped stack) ≡ ancestors stack
skipped_above [] = refl
skipped_above (list ∷ outer) = above_if (is_skipped list.items) list outer (skipped_above outer)
  where
    above_if : (b : Bool) (list : DirList) (outer : List DirList) → ancestors (skipped outer) ≡ ancestors outer
        → ancestors (if b then list ∷ skipped outer else (record list { items = Skipped }) ∷ outer) ≡ ancestors (list ∷ outer)
    above_if true list outer same = ap (λ (a : List Ancestor). (record { path = list.path; place = list.place }) ∷ a) same
    above_if false list outer same = refl

pub skip_above : (walk : Walking) (old new : Progress) → Skips old new → AreEntered walk (ancestors old.stack) → AreEntered walk (ancestors new.stack)
skip_above walk old new skips entered = subst (AreEntered walk) (sym (ap ancestors skips.stack ∙ skipped_above old.stack)) entered

skipped_empty : (stack : List DirList) → stack ≡ [] → skipped stack ≡ []
skipped_empty stack empty = ap skipped empty

pub skip_is_of : (walk : Walking) (old new : Progress) → Skips old new → IsOf walk old → IsOf walk new
skip_is_of walk old new skips of = record {
  options = skips.options ∙ of.options;
  order = skips.order ∙ of.order;
  start = subst (λ o. IfSome o (λ root. root ≡ walk.root)) (sym skips.start) of.start;
  device = λ some same. of.device (λ empty. some (skips.stack ∙ skipped_empty old.stack empty)) same ∙ ap Some (sym skips.device);
}

stands_begun : (walk : Walking) (at : Progress) (items : List Item) → at.start ≡ None → StillGives walk at items
    → StandsFor walk at.streams at.stack items
stands_begun walk at items none left = subst (λ s. still_to_come walk at s items) none left

pub gives_begun : (walk : Walking) (at : Progress) (items : List Item) → at.start ≡ None → StandsFor walk at.streams at.stack items
    → StillGives walk at items
gives_begun walk at items none stands = subst (λ s. still_to_come walk at s items) (sym none) stands

-- ---- a walk that hasn't begun

pub unbegun_of : (walk : Walking) (at : Progress) → HasNotBegun walk at → IsOf walk at
unbegun_of walk at begun = record {
  options = begun.options;
  order = begun.order;
  start = subst (λ o. IfSome o (λ root. root ≡ walk.root)) (sym begun.start) refl;
  device = λ some same. absurd (some begun.stack);
}

pub unbegun_keeps : (walk : Walking) (at : Progress) → HasNotBegun walk at → Keeps at.streams at
unfolding AreBeside
unbegun_keeps walk at begun =
    let none : [] ≡ own_streams at.stack = ap own_streams (sym begun.stack) in
    subst (λ own. Owns at.streams at.options.max_open own at.streams) none (record { beside = refl; few = omega arith; peak = omega arith })

pub unbegun_gives : (walk : Walking) (at : Progress) (items : List Item) → HasNotBegun walk at → StillGives walk at items → IsWalk walk items
unbegun_gives walk at items begun left = subst (λ s. still_to_come walk at s items) begun.start left

-- ---- what is still to come, and what a filter leaves of it, followed by others

pub record StillLeaves {F : Type 0} (walk : Walking) (asked : F → DirEntry → Bool → F → Type 0) (at : Progress) (f : F) (rest given : List Item)
    (h : F) : Type 0 where
  pub items : List Item
  pub gives : StillGives walk at (items ++ rest)
  pub leaves : LeavesOut walk asked f items given h

-- a rejected entry without contents to leave out
pub left_alone : {F : Type 0} (walk : Walking) (asked : F → DirEntry → Bool → F → Type 0) (old new : Progress) (entry : DirEntry)
    (last given : List Item) (f g h : F) → asked f entry false g → StaysOut walk entry
    → ((rest : List Item) → StillGives walk new rest → StillGives walk old (Ok entry ∷ rest)) → StillLeaves walk asked new g last given h
    → StillLeaves walk asked old f last given h
left_alone walk asked old new entry last given f g h rejected out back left = record {
  items = Ok entry ∷ left.items;
  gives = back (left.items ++ last) left.gives;
  leaves = LeavesOut.Alone g rejected out left.leaves;
}

-- a directory was rejected that was entered, and then skipped
pub left_below : {F : Type 0} (walk : Walking) (asked : F → DirEntry → Bool → F → Type 0) (before : Streams) (old mid new : Progress)
    (entry : DirEntry) (last given : List Item) (f g h : F) → asked f entry false g → is_dir entry ≡ true
    → IsEntered walk entry mid.start mid.streams mid.stack → IsHead entry.path entry.depth mid.stack → AreEntered walk (ancestors mid.stack)
    → Keeps before mid → Skips mid new
    → ((rest : List Item) → StillGives walk mid rest → StillGives walk old (Ok entry ∷ rest)) → StillLeaves walk asked new g last given h
    → StillLeaves walk asked old f last given h
left_below walk asked before old mid new entry last given f g h rejected dir entered head above keeps skips back left =
    let stood = skip_drops walk before mid new keeps skips (left.items ++ last)
    (stands_begun walk new (left.items ++ last) (skips.start ∙ entered.begun) left.gives) in
    let first = dropped_contents walk entry entered.place mid.streams mid.stack (left.items ++ last) entered.holds head above stood in
    let joined_up : first.contents ++ (left.items ++ last) ≡ (first.contents ++ left.items) ++ last =
    sym (append_assoc first.contents left.items last) in
    record {
      items = Ok entry ∷ first.contents ++ left.items;
      gives = back ((first.contents ++ left.items) ++ last)
          (gives_begun walk mid ((first.contents ++ left.items) ++ last) entered.begun
          (subst (StandsFor walk mid.streams mid.stack) joined_up first.stands));
      leaves = LeavesOut.WithContents g entered.place first.above first.contents left.items rejected dir entered.first entered.enters first.are
          first.contains refl left.leaves;
    }
