-- Laws of what is known of a directory that is given before its contents, from the push to a step.
use Rattle.std.proofs.Common.{◌≡◌, ℕ, Bool, true, false, ◌&&◌, List, ◌∷◌, length, Option, Some, None, Result, Ok, Err, IfSome, is_some, refl, sym, ap, subst, ◌∙◌}
use Rattle.std.specs.Prelude.{MatchBool}
use Rattle.odb_base.specs.Path.{Path}
use Rattle.odb_disk.specs.Streams.{Streams}
use Rattle.odb_disk.specs.Tree.{State}
use Rattle.walkdir.proofs.RootLemmas.{in_begun}
use Rattle.walkdir.specs.Turns.Taken.{FoundDevice, EntersBy, Follows}
use Rattle.walkdir.proofs.ProgressLemmas.{item_turn}
use Rattle.walkdir.proofs.TurnsLemmas.Passes.{Passes}
use Rattle.walkdir.proofs.TurnsLemmas.Turn.{Runs, in_after}
use Rattle.walkdir.specs.Entered.{HoldsContents, IsEntered, StaysOut}
use Rattle.walkdir.specs.EnteredTurns.{BeginsTelling, EntersTelling, HandlesTelling, PushesContents}
use Rattle.walkdir.specs.Entry.{is_dir}
use Rattle.walkdir.specs.Progress.{Progress, GivesDirectory, TellsEntered}
use Rattle.walkdir.specs.Stack.{ancestors}
use Rattle.walkdir.specs.Directory.{is_skipped}
use Rattle.walkdir.specs.Turns.Drawn.{HasContentsLeft, HasContents}
use Rattle.walkdir.specs.Turns.{given_if, handed, item_of, turn_given, turn_of}
use Rattle.walkdir.specs.Walk.{Walking, ContentsOf, Item}
use Rattle.walkdir.specs.Walk.Entries.{entering}
use Rattle.walkdir.specs.declared.builder.Options.{Options}
use Rattle.walkdir.specs.declared.dent.DirEntry.{DirEntry}
use Rattle.walkdir.specs.declared.error.Error.{Error}
use Rattle.walkdir.specs.declared.directory.DirList.{DirList}
use Rattle.walkdir.specs.declared.directory.Entering.TheVariants.{Stays, Enters}
use Rattle.walkdir.specs.declared.directory.Items.{Items}
use Rattle.walkdir.specs.declared.directory.Place.{Place}
use Rattle.walkdir.specs.declared.stack.follow.Found.{Found}

-- ---- a directory is put on the stack

holds_pushed : (walk : Walking) (streams : Streams) (list : DirList) (outer : List DirList) (entry : DirEntry) → is_skipped list.items ≡ false
    → entry.path ≡ list.path → entry.depth ≡ length outer
    → HasContentsLeft walk streams list.path (length outer) list.items → HoldsContents walk entry list.place streams (list ∷ outer)
holds_pushed walk streams list outer entry whole same_path same_depth contains = (
  whole,
  λ children here left each.
      subst (λ p. ContentsOf walk ((record { path = p; place = list.place }) ∷ ancestors outer) entry here) (sym same_path)
      (contains (ancestors (list ∷ outer)) entry children here same_path same_depth left each),
)

pub pushed_holds : (state : Option State) (old there new : Progress) (path : Path) (depth : ℕ) (place : Option Place) (after : Option DirEntry)
    (items : Items)
    → there.options ≡ old.options → there.order ≡ old.order → length there.stack ≡ depth
    → new.stack ≡ (record { path = path; place = place; items = items; after = after }) ∷ there.stack → is_skipped items ≡ false
    → HasContents state there.order there.options path depth (Ok items) new.streams → PushesContents state old path depth place new
pushed_holds None old there new path depth place after items options order deep stack whole has = tt
pushed_holds (Some s) old there new path depth place after items options order deep stack whole has =
    λ walk tree same_options same_order entry same_path same_depth.
    let list : DirList = record { path = path; place = place; items = items; after = after } in
    let contains : HasContentsLeft walk new.streams path depth items = has walk tree (same_order ∙ sym order) (same_options ∙ sym options) in
    subst (HoldsContents walk entry place new.streams) (sym stack)
    (holds_pushed walk new.streams list there.stack entry whole same_path (same_depth
    ∙ sym deep) (subst (λ n. HasContentsLeft walk new.streams path n items)
    (sym deep) contains))

-- ---- an entry is entered

tells_if : (b : Bool) (walk : Walking) (entry : DirEntry) (new : Progress) → new.entered ≡ b
    → MatchBool b (IsEntered walk entry new.start new.streams new.stack) (StaysOut walk entry)
    → TellsEntered walk (Some (Ok entry)) new
tells_if b walk entry new is tells =
    subst (λ (e : Bool). MatchBool e (IsEntered walk entry new.start new.streams new.stack) (StaysOut walk entry)) (sym is) tells

no_directory : (walk : Walking) (entry : DirEntry) → is_dir entry ≡ false → StaysOut walk entry
no_directory walk entry other dir first = absurd (let no : true ≡ false = sym dir ∙ other in cc)

entered_or_not : (b : Bool) (walk : Walking) (entry : DirEntry) (place : Option Place) (new : Progress) → is_dir entry ≡ b
    → (b ≡ true → walk.options.contents_first ≡ false) → new.start ≡ None
    → entering walk entry ≡ Ok (Enters place) → HoldsContents walk entry place new.streams new.stack
    → MatchBool b (IsEntered walk entry new.start new.streams new.stack) (StaysOut walk entry)
entered_or_not true walk entry place new dir first begun enters holds =
    record { place = place; enters = enters; first = first refl; begun = begun; holds = holds }
entered_or_not false walk entry place new dir first begun enters holds = no_directory walk entry dir

not_first : (first dir : Bool) → (first && dir) ≡ false → dir ≡ true → first ≡ false
not_first true dir off on = absurd (let no : true ≡ false = sym on ∙ off in cc)
not_first false dir off on = refl

-- it is given before its contents, if its depth is given
enters_given : (b : Bool) (walk : Walking) (old new : Progress) (entry : DirEntry) (place : Option Place) → new.start ≡ None
    → new.entered ≡ (is_dir entry && is_some (given_if b entry))
    → (old.options.contents_first && is_dir entry) ≡ false → walk.options ≡ old.options → entering walk entry ≡ Ok (Enters place)
    → HoldsContents walk entry place new.streams new.stack
    → TellsEntered walk (handed (Ok (given_if b entry))) new
enters_given false walk old new entry place begun is off options enters holds = tt
enters_given true walk old new entry place begun is off options enters holds =
    tells_if (is_dir entry) walk entry new (is ∙ and_true (is_dir entry))
    (entered_or_not (is_dir entry) walk entry place new refl (λ dir. ap (λ (o : Options). o.contents_first) options
    ∙ not_first old.options.contents_first (is_dir entry) off dir) begun enters holds)
  where
    and_true : (b : Bool) → (b && true) ≡ b
    and_true true = refl
    and_true false = refl

pub enters_telling : (state : Option State) (old new : Progress) (entry : DirEntry) (place : Option Place) (path : Path) (depth : ℕ)
    (given : Option DirEntry) (b : Bool) → path ≡ entry.path
    → depth ≡ entry.depth → new.start ≡ None → given ≡ given_if b entry → new.entered ≡ (is_dir entry && is_some given)
    → (old.options.contents_first && is_dir entry) ≡ false
    → PushesContents state old path depth place new → EntersTelling state old entry place (handed (Ok given)) new
enters_telling None old new entry place path depth given b same_path same_depth begun is marked off pushes = tt
enters_telling (Some s) old new entry place path depth given b same_path same_depth begun is marked off pushes = λ walk tree options order enters.
    subst (λ (g : Option DirEntry). TellsEntered walk (handed (Ok g)) new) (sym is)
    (enters_given b walk old new entry place begun (marked ∙ ap (λ (g : Option DirEntry). is_dir entry && is_some g) is) off options enters
    (pushes walk tree options order entry (sym same_path) (sym same_depth)))

-- nothing is given, or an error
pub enters_nothing : (state : Option State) (old new : Progress) (entry : DirEntry) (place : Option Place)
    → EntersTelling state old entry place None new
enters_nothing None old new entry place = tt
enters_nothing (Some s) old new entry place = λ walk tree options order enters. tt

pub enters_error : (state : Option State) (old new : Progress) (entry : DirEntry) (place : Option Place) (error : Error)
    → EntersTelling state old entry place (Some (Err error)) new
enters_error None old new entry place error = tt
enters_error (Some s) old new entry place error = λ walk tree options order enters. tt

-- ---- an entry is handled

pub handles_error : (state : Option State) (old new : Progress) (error : Error) → HandlesTelling state old (Some (Err error)) new
handles_error None old new error = tt
handles_error (Some s) old new error = λ walk tree is_in. tt

pub handles_failed : (state : Option State) (old new : Progress) (r : Result (Option DirEntry) Error) (error : Error) → r ≡ Err error
    → HandlesTelling state old (handed r) new
handles_failed state old new r error is = subst (λ x. HandlesTelling state old (handed x) new) (sym is) (handles_error state old new error)

stays_given : (b : Bool) (walk : Walking) (new : Progress) (entry : DirEntry) → new.entered ≡ false → entering walk entry ≡ Ok Stays
    → TellsEntered walk (handed (Ok (given_if b entry))) new
stays_given false walk new entry unmarked stays = tt
stays_given true walk new entry unmarked stays = tells_if false walk entry new unmarked (λ dir first. stays)

pub handles_staying : (state : Option State) (old new : Progress) (entry : DirEntry) (found : Found) (given : Option DirEntry) (b : Bool)
    → new.entered ≡ false
    → Follows state old.options (ancestors old.stack) entry (Ok found) → EntersBy entering state old.options old.device found (Ok Stays)
    → given ≡ given_if b found.entry
    → HandlesTelling state old (handed (Ok given)) new
handles_staying None old new entry found given b unmarked follows enters is = tt
handles_staying (Some s) old new entry found given b unmarked follows enters is = λ walk tree is_in.
    let taken = follows walk tree (sym is_in.options) in
    subst (λ (g : Option DirEntry). TellsEntered walk (handed (Ok g)) new) (sym is)
    (stays_given b walk new found.entry unmarked (enters walk tree (sym is_in.options) is_in.device taken.1))

pub handles_entering : (state : Option State) (old new : Progress) (entry : DirEntry) (found : Found) (place : Option Place) (item : Option Item)
    → Follows state old.options (ancestors old.stack) entry (Ok found) → EntersBy entering state old.options old.device found (Ok (Enters place))
    → EntersTelling state old found.entry place item new → HandlesTelling state old item new
handles_entering None old new entry found place item follows enters tells = tt
handles_entering (Some s) old new entry found place item follows enters tells = λ walk tree is_in.
    let taken = follows walk tree (sym is_in.options) in
    tells walk tree (sym is_in.options) (sym is_in.order) (enters walk tree (sym is_in.options) is_in.device taken.1)

-- ---- the root is handled

pub begins_error : (state : Option State) (old new : Progress) (root : Path) (error : Error) → BeginsTelling state old root (Some (Err error)) new
begins_error None old new root error = tt
begins_error (Some s) old new root error = λ walk tree options order is_root. tt

pub begins_handling : (state : Option State) (old mid new : Progress) (root : Path) (item : Option Item) → mid.options ≡ old.options
    → mid.order ≡ old.order
    → FoundDevice state old.options root mid.device → HandlesTelling state mid item new → BeginsTelling state old root item new
begins_handling None old mid new root item same_options same_order found tells = tt
begins_handling (Some s) old mid new root item same_options same_order found tells = λ walk tree options order is_root.
    tells walk tree (in_begun walk s old mid root same_options same_order tree options order is_root found)

-- ---- a turn

pub gives_nothing_entered : (state : Option State) (old new : Progress) → GivesDirectory state old None new
gives_nothing_entered None old new = tt
gives_nothing_entered (Some s) old new = λ walk before tree of keeps. tt

pub gives_error : (state : Option State) (old new : Progress) (error : Error) → GivesDirectory state old (Some (Err error)) new
gives_error None old new error = tt
gives_error (Some s) old new error = λ walk before tree of keeps. tt

left_behind : (walk : Walking) (options : Options) (new : Progress) (given : Option DirEntry) → walk.options ≡ options → new.entered ≡ false
    → IfSome given (λ _. options.contents_first ≡ true)
    → TellsEntered walk (item_of (turn_given given)) new
left_behind walk options new None same unmarked first = tt
left_behind walk options new (Some entry) same unmarked first =
    tells_if false walk entry new unmarked (λ dir off. absurd (let no : true ≡ false = sym (ap (λ (o : Options). o.contents_first) same ∙ first)
    ∙ off in cc))

-- the entry of a directory that was left is given after its contents
pub turn_tells_left : (state : Option State) (old new : Progress) (given : Option DirEntry) → new.entered ≡ false
    → IfSome given (λ _. old.options.contents_first ≡ true)
    → GivesDirectory state old (item_of (turn_given given)) new
turn_tells_left None old new given unmarked first = tt
turn_tells_left (Some s) old new given unmarked first =
    λ walk before tree of keeps. left_behind walk old.options new given (sym of.options) unmarked first

-- a child that was drawn
pub turn_tells_handled : (state : Option State) (old mid new : Progress) (r : Result (Option DirEntry) Error) → Runs old mid
    → HandlesTelling state mid (handed r) new
    → GivesDirectory state old (item_of (turn_of r)) new
turn_tells_handled None old mid new r runs tells = tt
turn_tells_handled (Some s) old mid new r runs tells = λ walk before tree of keeps.
    subst (λ i. TellsEntered walk i new) (sym (item_turn r)) (tells walk tree (in_after walk old mid runs of))

-- the root
pub turn_tells_begun : (state : Option State) (old mid new : Progress) (root : Path) (r : Result (Option DirEntry) Error) → old.start ≡ Some root
    → mid.options ≡ old.options
    → mid.order ≡ old.order → BeginsTelling state mid root (handed r) new → GivesDirectory state old (item_of (turn_of r)) new
turn_tells_begun None old mid new root r start options order tells = tt
turn_tells_begun (Some s) old mid new root r start options order tells = λ walk before tree of keeps.
    let is_root : root ≡ walk.root = subst (λ o. IfSome o (λ p. p ≡ walk.root)) start of.start in
    subst (λ i. TellsEntered walk i new) (sym (item_turn r)) (tells walk tree (sym (options ∙ of.options)) (sym (order ∙ of.order)) (sym is_root))

-- ---- a step

-- after turns that gave nothing
pub directory_then : (state : Option State) (old mid new : Progress) (item : Option Item) → Passes state old mid → GivesDirectory state mid item new
    → GivesDirectory state old item new
directory_then None old mid new item passes tells = tt
directory_then (Some s) old mid new item passes tells = λ walk before tree of keeps.
    let one = passes.gives walk before tree of keeps refl in
    tells walk before tree one.0 (passes.keeps before keeps)
