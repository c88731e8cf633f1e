-- Laws of the directories that a walk entered.
use Rattle.std.proofs.Common.{◌≡◌, ◌≢◌, ℕ, suc, ◌+◌, true, false, List, [], ◌∷◌, length, Option, Some, None, Result, Ok, Err, refl, sym, ap, subst, ◌∙◌, arith}
use Rattle.std.specs.Prelude.{IfErr, IfSome, OnOk}
use Rattle.odb_base.specs.Path.{Path}
use Rattle.odb_disk.specs.Tree.{State, tree_of}
use Rattle.odb_disk.specs.Tree.Follow.{looked}
use Rattle.odb_disk.specs.declared.meta.Meta.{Meta}
use Rattle.walkdir.proofs.HandlesLemmas.{told_is}
use Rattle.walkdir.proofs.ProgressLemmas.{item_turn}
use Rattle.walkdir.proofs.RootLemmas.{in_begun, looked_root}
use Rattle.walkdir.specs.Turns.Taken.{FoundDevice, EntersBy, Follows}
use Rattle.walkdir.proofs.TurnsLemmas.Turn.{Runs, in_after}
use Rattle.walkdir.specs.Above.{AreAbove, AreEntered, AtRoot, Below, IsDirectory, IsRoot}
use Rattle.walkdir.specs.EnteredTurns.{BeginsAbove, HandlesAbove, IsRootEntry}
use Rattle.walkdir.specs.Error.{is_no_memory}
use Rattle.walkdir.specs.Progress.{Progress, GivesEntered, is_lost}
use Rattle.walkdir.specs.Stack.{ancestors}
use Rattle.walkdir.specs.Turns.{handed, item_of, turn_of}
use Rattle.walkdir.specs.Walk.{Walking, Ancestor, Item, Tells, told_at}
use Rattle.walkdir.specs.Walk.Entries.{enter, entering, entry_by, taken_for}
use Rattle.walkdir.specs.Within.{IsChild, LiesIn}
use Rattle.walkdir.specs.declared.dent.DirEntry.{DirEntry}
use Rattle.walkdir.specs.declared.error.Error.{Error}
use Rattle.walkdir.specs.declared.directory.DirList.{DirList}
use Rattle.walkdir.specs.declared.directory.Entering.TheVariants.{Enters}
use Rattle.walkdir.specs.declared.directory.Place.{Place}
use Rattle.walkdir.specs.declared.stack.follow.Found.{Found}

-- ---- the directories above a path

pub above_long : (stack : List DirList) → length (ancestors stack) ≡ length stack
above_long [] = refl
above_long (list ∷ outer) = ap suc (above_long outer)

above_depth : {walk : Walking} {path : Path} {depth : ℕ} {above : List Ancestor} → AreAbove walk path depth above → depth ≡ length above
above_depth AtRoot = refl
above_depth (Below directory place is child rest) = let deep = above_depth rest in omega arith

above_entered : {walk : Walking} {path : Path} {depth : ℕ} {above : List Ancestor} → AreAbove walk path depth above → AreEntered walk above
above_entered AtRoot = tt
above_entered (Below directory place is child rest) = record { directory = directory; path = refl; depth = above_depth rest; is = is; rest = rest }

pub entered_outer : (walk : Walking) (list : DirList) (outer : List DirList) → AreEntered walk (ancestors (list ∷ outer))
    → AreEntered walk (ancestors outer)
entered_outer walk list outer entered = above_entered entered.rest

pub above_of : (walk : Walking) (path : Path) (depth : ℕ) (stack : List DirList) → depth ≡ length stack → LiesIn path stack
    → (stack ≡ [] → path ≡ walk.root) → AreEntered walk (ancestors stack)
    → AreAbove walk path depth (ancestors stack)
above_of walk path depth [] deep lies root entered =
    subst (λ (p : Path). AreAbove walk p depth []) (sym (root refl)) (subst (λ (n : ℕ). AreAbove walk walk.root n []) (sym deep) AtRoot)
above_of walk path depth (list ∷ outer) deep lies root entered =
    let d = entered.directory in
    let long = above_long outer in
    let is : d.depth ≡ length (ancestors outer) = entered.depth in
    let one : d.depth + 1 ≡ depth = omega arith in
    subst (λ (n : ℕ). AreAbove walk path n (ancestors (list ∷ outer))) one
    (subst (λ (p : Path). AreAbove walk path (d.depth + 1) ((record { path = p; place = list.place }) ∷ ancestors outer)) entered.path
    (Below d list.place entered.is (subst (λ (p : Path). IsChild p path) (sym entered.path) lies) entered.rest))

entered_more : (walk : Walking) (d : DirEntry) (place : Option Place) (stack : List DirList) → IsDirectory walk d place → d.depth ≡ length stack
    → LiesIn d.path stack
    → (stack ≡ [] → d.path ≡ walk.root) → AreEntered walk (ancestors stack) → AreEntered walk (enter d place (ancestors stack))
entered_more walk d place stack is deep lies root entered = record {
  directory = d;
  path = refl;
  depth = deep ∙ sym (above_long stack);
  is = is;
  rest = above_of walk d.path d.depth stack deep lies root entered;
}

-- ---- an entry is handled

no_stack : (stack : List DirList) → length stack ≡ 0 → stack ≡ []
no_stack [] none = refl
no_stack (list ∷ outer) none = absurd (omega arith)

root_directory : (walk : Walking) (entry taken : DirEntry) (stack : List DirList) → taken_for walk (ancestors stack) entry ≡ Ok taken
    → taken.depth ≡ length stack
    → (stack ≡ [] → IsRootEntry walk entry) → taken.depth ≡ 0 → IsRoot walk taken
root_directory walk entry taken stack is deep root top =
    let none : stack ≡ [] = no_stack stack (sym deep ∙ top) in
    let at = root none in
    record {
      meta = at.0;
      looks = at.1;
      taken = ap (taken_for walk []) (sym at.2) ∙ ap (λ (s : List DirList). taken_for walk (ancestors s) entry)
          (sym none) ∙ is;
    }

pub above_same : (state : Option State) (old new : Progress) (entry : DirEntry) (item : Option Item) → new.stack ≡ old.stack
    → HandlesAbove state old entry item new
above_same None old new entry item same = tt
above_same (Some s) old new entry item same =
    λ walk tree is_in lost root entered. subst (λ (l : List DirList). AreEntered walk (ancestors l)) (sym same) entered

pub above_entering : (state : Option State) (old new : Progress) (entry : DirEntry) (found : Found) (place : Option Place) (item : Option Item)
    → Follows state old.options (ancestors old.stack) entry (Ok found) → EntersBy entering state old.options old.device found (Ok (Enters place))
    → found.entry.depth ≡ length old.stack
    → found.entry.path ≡ entry.path → LiesIn entry.path old.stack
    → (is_lost item ≡ false → ancestors new.stack ≡ enter found.entry place (ancestors old.stack)) → HandlesAbove state old entry item new
above_entering None old new entry found place item follows enters deep same lies pushed = tt
above_entering (Some s) old new entry found place item follows enters deep same lies pushed = λ walk tree is_in lost root entered.
    let taken = follows walk tree (sym is_in.options) in
    let goes_in = enters walk tree (sym is_in.options) is_in.device taken.1 in
    subst (AreEntered walk) (sym (pushed lost))
    (entered_more walk found.entry place old.stack (record {
      root = root_directory walk entry found.entry old.stack taken.0 deep root;
      enters = goes_in;
    }) deep
    (subst (λ (p : Path). LiesIn p old.stack) (sym same) lies)
    (λ none. let at = root none in same ∙ ap (λ (e : DirEntry). e.path) at.2) entered)

pub unless_lost : (result : Result (Option DirEntry) Error) (X : Type 0) → OnOk result X → IfErr result (λ e. is_no_memory e ≡ true)
    → is_lost (handed result) ≡ false → X
unless_lost (Ok given) X holds lost kept = holds
unless_lost (Err error) X holds lost kept = absurd (let no : true ≡ false = sym lost ∙ kept in cc)

-- ---- the root

pub begins_above_none : (state : Option State) (old new : Progress) (root : Path) (item : Option Item) → new.stack ≡ []
    → BeginsAbove state old root item new
begins_above_none None old new root item none = tt
begins_above_none (Some s) old new root item none =
    λ walk tree options order is_root lost. subst (λ (l : List DirList). AreEntered walk (ancestors l)) (sym none) tt

pub begins_above : (state : Option State) (old mid new : Progress) (root : Path) (meta : Meta) (item : Option Item) → mid.options ≡ old.options
    → mid.order ≡ old.order → mid.stack ≡ []
    → FoundDevice state old.options root mid.device → IfSome state (λ s. Tells 0 root (Ok meta) (told_at 0 root (looked (tree_of s) root false)))
    → HandlesAbove state mid (entry_by root false 0 meta) item new → BeginsAbove state old root item new
begins_above None old mid new root meta item same_options same_order none found tells handles = tt
begins_above (Some s) old mid new root meta item same_options same_order none found tells handles = λ walk tree options order is_root lost.
    handles walk tree (in_begun walk s old mid root same_options same_order tree options order is_root found) lost
    (λ _. (
      meta,
      looked_root walk s root false (Ok meta) tree is_root (told_is 0 root meta (looked (tree_of s) root false) tells),
      ap (λ (p : Path). entry_by p false 0 meta) (sym is_root),
    ))
    (subst (λ (l : List DirList). AreEntered walk (ancestors l)) (sym none) tt)

-- ---- a turn

pub turn_above_begun : (state : Option State) (old mid new : Progress) (root : Path) (r : Result (Option DirEntry) Error) → old.start ≡ Some root
    → mid.options ≡ old.options
    → mid.order ≡ old.order → BeginsAbove state mid root (handed r) new → GivesEntered state old (item_of (turn_of r)) new
turn_above_begun None old mid new root r start options order begins = tt
turn_above_begun (Some s) old mid new root r start options order begins = λ walk before tree of keeps lost entered.
    let is_root : root ≡ walk.root = subst (λ o. IfSome o (λ p. p ≡ walk.root)) start of.start in
    begins walk tree (sym (options ∙ of.options)) (sym (order ∙ of.order)) (sym is_root) (ap is_lost (sym (item_turn r)) ∙ lost)

pub turn_above_handled : (state : Option State) (old mid new : Progress) (entry : DirEntry) (r : Result (Option DirEntry) Error) → Runs old mid
    → mid.stack ≢ []
    → ancestors mid.stack ≡ ancestors old.stack → HandlesAbove state mid entry (handed r) new → GivesEntered state old (item_of (turn_of r)) new
turn_above_handled None old mid new entry r runs some same handles = tt
turn_above_handled (Some s) old mid new entry r runs some same handles = λ walk before tree of keeps lost entered.
    handles walk tree (in_after walk old mid runs of) (ap is_lost (sym (item_turn r)) ∙ lost) (λ none. absurd (some none))
    (subst (AreEntered walk) (sym same) entered)

pub turn_above_same : (state : Option State) (old new : Progress) (item : Option Item) → ancestors new.stack ≡ ancestors old.stack
    → GivesEntered state old item new
turn_above_same None old new item same = tt
turn_above_same (Some s) old new item same = λ walk before tree of keeps lost entered. subst (AreEntered walk) (sym same) entered

pub turn_above_left : (state : Option State) (old mid new : Progress) (list : DirList) (item : Option Item)
    → ancestors mid.stack ≡ ancestors old.stack → mid.stack ≡ list ∷ new.stack
    → GivesEntered state old item new
turn_above_left None old mid new list item same left = tt
turn_above_left (Some s) old mid new list item same left = λ walk before tree of keeps lost entered.
    entered_outer walk list new.stack (subst (λ (l : List DirList). AreEntered walk (ancestors l)) left (subst (AreEntered walk) (sym same) entered))
