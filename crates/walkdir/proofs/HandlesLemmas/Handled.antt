-- An entry is handled: its walk, and what was to come before.
use Rattle.std.proofs.Common.{◌≡◌, inl, inr, Bool, true, false, ◌&&◌, ◌||◌, cond, List, [], ◌∷◌, ◌++◌, Option, Some, None, Result, Ok, Err, refl, sym, ap, subst, ◌∙◌}
use Rattle.std.specs.Prelude.{◌==◌}
use Rattle.std.specs.Option.{option_to_list}
use Rattle.odb_disk.specs.Tree.{State}
use Rattle.odb_disk.specs.Tree.Follow.{looked}
use Rattle.odb_disk.specs.declared.disk_error.DiskError.TheVariants as refusals
use Rattle.walkdir.specs.Entry.{is_dir, is_link}
use Rattle.walkdir.specs.Error.{io_error, is_no_memory}
use Rattle.walkdir.specs.Options.{is_given}
use Rattle.walkdir.specs.Progress.{Progress}
use Rattle.walkdir.specs.Stack.{StandsFor, ancestors}
use Rattle.walkdir.specs.Turns.Taken.{EntersBy, Follows}
use Rattle.walkdir.specs.Turns.Stands.{EntersDirectory, HandlesEntry}
use Rattle.walkdir.specs.Turns.{given_if, handed}
use Rattle.walkdir.specs.Walk.{Walking, Ancestor, Item, Tells, WalkOf}
use Rattle.walkdir.specs.Walk.Entries.{around, entering, enters_root_link, is_looked_at, is_root_link, shown, taken_for}
use Rattle.walkdir.specs.Walk as walks
use Rattle.walkdir.specs.declared.builder.Options.{Options}
use Rattle.walkdir.specs.declared.dent.DirEntry.{DirEntry}
use Rattle.walkdir.specs.declared.error.Error.{Error}
use Rattle.walkdir.specs.declared.directory.Entering.{Entering}
use Rattle.walkdir.specs.declared.directory.Entering.TheVariants.{Stays, Enters}
use Rattle.walkdir.specs.declared.directory.Place.{Place}
use Rattle.walkdir.specs.declared.stack.follow.Found.{Found}
use Rattle.walkdir.proofs.ContainsLemmas.Entered.{shown_as}
use Rattle.walkdir.proofs.HandlesLemmas.Entered.{other_is}
use Rattle.walkdir.proofs.HandlesLemmas.{not_lost}
use Rattle.walkdir.proofs.HandlesLemmas.Followed.{not_followed, taken_same}

-- ---- which entries are statted

pub link_looked_at : (options : Options) (entry : DirEntry) → (options.follow_links && is_link entry) ≡ true → is_looked_at options entry ≡ true
link_looked_at options entry follow =
    ap (λ b. b || (((options.follow_links || options.same_file_system) && is_dir entry) || (is_root_link entry && options.follow_root_links))) follow

or_second : (a b c : Bool) → b ≡ true → (a || (b || c)) ≡ true
or_second true b c is = refl
or_second false b c is = ap (λ x. x || c) is

or_third : (a b c : Bool) → c ≡ true → (a || (b || c)) ≡ true
or_third true b c is = refl
or_third false true c is = refl
or_third false false c is = is

pub directory_looked_at : (options : Options) (entry : DirEntry) → is_dir entry ≡ true → (options.follow_links || options.same_file_system) ≡ true
    → is_looked_at options entry ≡ true
directory_looked_at options entry dir wanted =
    or_second (options.follow_links && is_link entry) ((options.follow_links || options.same_file_system) && is_dir entry)
    (is_root_link entry && options.follow_root_links)
    (ap (λ b. b && is_dir entry) wanted ∙ dir)

pub root_looked_at : (options : Options) (entry : DirEntry) → (is_root_link entry && options.follow_root_links) ≡ true
    → is_looked_at options entry ≡ true
root_looked_at options entry root =
    or_third (options.follow_links && is_link entry) ((options.follow_links || options.same_file_system) && is_dir entry)
    (is_root_link entry && options.follow_root_links) root

-- an entry is statted if what it is taken for is statted
taken_looked_at : (walk : Walking) (above : List Ancestor) (entry taken : DirEntry) → taken_for walk above entry ≡ Ok taken
    → is_looked_at walk.options taken ≡ true
    → is_looked_at walk.options entry ≡ true
taken_looked_at walk above entry taken for looks = elim (walk.options.follow_links && is_link entry) as
    (λ b. (walk.options.follow_links && is_link entry) ≡ b → is_looked_at walk.options entry ≡ true) [
      | true ↦ λ on. link_looked_at walk.options entry on
      | false ↦ λ off.
          let both : Ok entry ≡ taken_for walk above entry = sym (not_followed walk above entry off) in
          let same : taken ≡ entry = cc in
          subst (λ e. is_looked_at walk.options e ≡ true) same looks
    ] refl

-- ---- an entry is handled

wrong_walk : (walk : Walking) (above : List Ancestor) (entry : DirEntry) (error : Error) → is_no_memory error ≡ false
    → (walk.options.follow_links && is_link entry) ≡ true
    → Tells {A = DirEntry} entry.depth entry.path (Err error) (taken_for walk above entry) → WalkOf walk above entry (Err error ∷ [])
wrong_walk walk above entry error some follow (inl lost) = not_lost error some lost
wrong_walk walk above entry error some follow (inr (inl failed)) =
    subst (λ e. WalkOf walk above entry (Err e ∷ [])) (sym failed) (walks.Failed (link_looked_at walk.options entry follow))
wrong_walk walk above entry error some follow (inr (inr is)) = walks.Wrong is

closed_walk : (walk : Walking) (above : List Ancestor) (entry taken : DirEntry) (error : Error) → is_no_memory error ≡ false
    → taken_for walk above entry ≡ Ok taken
    → is_looked_at walk.options taken ≡ true → Tells {A = Entering} taken.depth taken.path (Err error) (entering walk taken)
    → WalkOf walk above entry (Err error ∷ [])
closed_walk walk above entry taken error some for looks (inl lost) = not_lost error some lost
closed_walk walk above entry taken error some for looks (inr (inl failed)) =
    let same = taken_same walk above entry taken for in
    subst (λ e. WalkOf walk above entry (Err e ∷ []))
    (sym (failed ∙ ap (λ n. io_error n taken.path refusals.Failed) same.1 ∙ ap (λ p. io_error entry.depth p refusals.Failed) same.0))
    (walks.Failed (taken_looked_at walk above entry taken for looks))
closed_walk walk above entry taken error some for looks (inr (inr is)) = walks.Closed taken for is

-- the stack and the streams stay
stands_alike : (walk : Walking) (old new : Progress) (rest : List Item) → new.stack ≡ old.stack → new.streams ≡ old.streams
    → StandsFor walk new.streams new.stack rest
    → StandsFor walk old.streams old.stack rest
stands_alike walk old new rest stack streams left =
    subst (λ s. StandsFor walk s old.stack rest) streams (subst (λ l. StandsFor walk new.streams l rest) stack left)

pub handles_wrong : (state : Option State) (old new : Progress) (entry : DirEntry) (error : Error) → new.stack ≡ old.stack → new.streams ≡ old.streams
    → (old.options.follow_links && is_link entry) ≡ true → Follows state old.options (ancestors old.stack) entry (Err error)
    → HandlesEntry state old entry (Some (Err error)) new
handles_wrong None old new entry error stack streams follow follows = tt
handles_wrong (Some s) old new entry error stack streams follow follows = λ walk tree is_in before keeps lost rest left.
    let on : (walk.options.follow_links && is_link entry) ≡ true = ap (λ (o : Options). o.follow_links && is_link entry) (sym is_in.options)
    ∙ follow in (
      Err error ∷ [],
      (
        rest,
        wrong_walk walk (ancestors old.stack) entry error lost on (follows walk tree (sym is_in.options)),
        stands_alike walk old new rest stack streams left,
        refl,
      ),
    )

pub handles_closed : (state : Option State) (old new : Progress) (entry : DirEntry) (found : Found) (error : Error) → new.stack ≡ old.stack
    → new.streams ≡ old.streams
    → Follows state old.options (ancestors old.stack) entry (Ok found) → is_looked_at old.options found.entry ≡ true
    → EntersBy entering state old.options old.device found (Err error)
    → HandlesEntry state old entry (Some (Err error)) new
handles_closed None old new entry found error stack streams follows looks enters = tt
handles_closed (Some s) old new entry found error stack streams follows looks enters = λ walk tree is_in before keeps lost rest left.
    let taken = follows walk tree (sym is_in.options) in (
      Err error ∷ [],
      (
        rest,
        closed_walk walk (ancestors old.stack) entry found.entry error lost taken.0 (ap (λ (o : Options). is_looked_at o found.entry)
            (sym is_in.options) ∙ looks)
            (enters walk tree (sym is_in.options) is_in.device taken.1),
        stands_alike walk old new rest stack streams left,
        refl,
      ),
    )

pub handles_alone : (state : Option State) (old new : Progress) (entry : DirEntry) (found : Found) (given : Option DirEntry) → new.stack ≡ old.stack
    → new.streams ≡ old.streams
    → Follows state old.options (ancestors old.stack) entry (Ok found) → EntersBy entering state old.options old.device found (Ok Stays)
    → given ≡ given_if (is_given old.options found.entry.depth) found.entry → HandlesEntry state old entry (handed (Ok given)) new
handles_alone None old new entry found given stack streams follows enters is = tt
handles_alone (Some s) old new entry found given stack streams follows enters is = λ walk tree is_in before keeps lost rest left.
    let taken = follows walk tree (sym is_in.options) in
    let one : option_to_list (handed (Ok given)) ≡ shown walk.options found.entry =
    ap (λ g. option_to_list (handed (Ok g))) is ∙ shown_as (is_given old.options found.entry.depth) found.entry
    ∙ ap {B = List Item} (λ (o : Options). cond (is_given o found.entry.depth) (Ok found.entry ∷ []) []) is_in.options in (
      shown walk.options found.entry,
      (
        rest,
        walks.Alone found.entry taken.0 (enters walk tree (sym is_in.options) is_in.device taken.1) refl,
        stands_alike walk old new rest stack streams left,
        ap (λ l. l ++ rest) one,
      ),
    )

enters_kind : (walk : Walking) (entry : DirEntry) (place : Option Place) → entering walk entry ≡ Ok (Enters place)
    → (is_dir entry || is_link entry) ≡ true
enters_kind walk entry place is = elim (is_dir entry) as (λ b. is_dir entry ≡ b → (b || is_link entry) ≡ true) [
  | true ↦ λ _. refl
  | false ↦ λ dir. link_only (is_link entry) (entry.depth == 0) walk.options.follow_root_links
      (enters_root_link entry (looked walk.tree entry.path true)) (sym (other_is walk entry dir) ∙ is)
] refl
  where
    link_only : (link top follow : Bool) (told : Result Entering Error) → cond ((link && top) && follow) told (Ok Stays) ≡ Ok (Enters place)
        → link ≡ true
    link_only true top follow told e = refl
    link_only false top follow told e = absurd cc

pub handles_entered : (state : Option State) (old new : Progress) (entry : DirEntry) (found : Found) (place : Option Place) (item : Option Item)
    → Follows state old.options (ancestors old.stack) entry (Ok found) → EntersBy entering state old.options old.device found (Ok (Enters place))
    → EntersDirectory state old found.entry place item new → HandlesEntry state old entry item new
handles_entered None old new entry found place item follows enters enters_it = tt
handles_entered (Some s) old new entry found place item follows enters enters_it = λ walk tree is_in before keeps lost rest left.
    let taken = follows walk tree (sym is_in.options) in
    let goes_in = enters walk tree (sym is_in.options) is_in.device taken.1 in
    let kind = enters_kind walk found.entry place goes_in in
    let stands = enters_it walk tree (sym is_in.options) (sym is_in.order) before keeps kind lost rest left in (
      around walk.options found.entry stands.contents,
      (
        stands.others,
        walks.Entered found.entry place stands.contents taken.0 goes_in stands.contains refl,
        stands.behind,
        stands.is,
      ),
    )
