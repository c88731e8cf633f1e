-- Whether an entry is entered, and at which place it is.
use Rattle.std.proofs.Common.{◌≡◌, ℕ, true, false, ◌&&◌, ◌||◌, cond, Option, Some, None, Result, Ok, Err, IfSome, sym, ap, subst, ◌∙◌}
use Rattle.odb_base.specs.Path.{Path}
use Rattle.odb_disk.specs.Ask.{error_of}
use Rattle.odb_disk.specs.Tree.{State, tree_of}
use Rattle.odb_disk.specs.Tree.Follow.{Refusal, looked}
use Rattle.odb_disk.specs.declared.meta.Meta.{Meta}
use Rattle.walkdir.specs.Entry.{is_dir, is_dir_kind}
use Rattle.walkdir.specs.Error.{io_error}
use Rattle.walkdir.specs.Turns.Taken.{EntersBy, FindsPlace, told_place, wanted_place}
use Rattle.walkdir.specs.Walk.{Walking, Tells, told_at}
use Rattle.walkdir.specs.Walk.Entries.{entering, enters_directory, enters_root_link, is_root_link, place_of}
use Rattle.walkdir.specs.declared.builder.Options.{Options}
use Rattle.walkdir.specs.declared.dent.DirEntry.{DirEntry}
use Rattle.walkdir.specs.declared.error.Error.{Error}
use Rattle.walkdir.specs.declared.directory.Entering.{Entering}
use Rattle.walkdir.specs.declared.directory.Entering.TheVariants.{Stays, Enters}
use Rattle.walkdir.specs.declared.stack.follow.Found.{Found}
use Rattle.walkdir.proofs.HandlesLemmas.{passed_on}
use Rattle.walkdir.proofs.HandlesLemmas.Followed.{looked_at}

-- ---- the place of a directory

refused_place : (entry : DirEntry) (error : Error) (told : Result Meta Refusal) → told_at entry.depth entry.path told ≡ Err error
    → told_place entry told ≡ Err error
refused_place entry error (Ok meta) is = absurd cc
refused_place entry error (Err refusal) is = let same : io_error entry.depth entry.path (error_of refusal) ≡ error = cc in ap Err same

wanted_told : (walk : Walking) (options : Options) (entry : DirEntry) → walk.options ≡ options → (options.follow_links || options.same_file_system)
    ≡ true
    → wanted_place walk entry ≡ told_place entry (looked walk.tree entry.path true)
wanted_told walk options entry same wanted =
    ap (λ b. cond b (told_place entry (looked walk.tree entry.path true)) (Ok None)) (ap (λ (o : Options). o.follow_links || o.same_file_system) same
    ∙ wanted)

-- the stat of a directory fails
pub place_refused : (state : Option State) (options : Options) (found : Found) (depth : ℕ) (path : Path) (error : Error)
    → (options.follow_links || options.same_file_system) ≡ true
    → depth ≡ found.entry.depth → path ≡ found.entry.path
    → IfSome state (λ s. Tells {A = Meta} depth path (Err error) (told_at depth path (looked (tree_of s) path true)))
    → FindsPlace state options found (Err error)
place_refused None options found depth path error wanted same_depth same_path tells = tt
place_refused (Some s) options found depth path error wanted same_depth same_path tells = λ walk tree same told.
    let entry = found.entry in
    passed_on entry.depth entry.path error (told_at entry.depth entry.path (looked walk.tree entry.path true)) (wanted_place walk entry)
    (λ is. wanted_told walk options entry same wanted ∙ refused_place entry error (looked walk.tree entry.path true) is)
    (subst (λ t. Tells {A = Meta} entry.depth entry.path (Err error) (told_at entry.depth entry.path (looked t entry.path true))) (sym tree)
    (subst (λ p. Tells {A = Meta} entry.depth p (Err error) (told_at entry.depth p (looked (tree_of s) p true))) same_path
    (subst (λ n. Tells {A = Meta} n path (Err error) (told_at n path (looked (tree_of s) path true))) same_depth tells)))

-- ---- whether an entry is entered

pub dir_is : (walk : Walking) (entry : DirEntry) → is_dir entry ≡ true → entering walk entry ≡ enters_directory walk entry
unfolding entering
dir_is walk entry dir = ap (λ b. cond b (enters_directory walk entry) (cond (is_root_link entry && walk.options.follow_root_links)
    (enters_root_link entry (looked walk.tree entry.path true)) (Ok Stays))) dir

pub other_is : (walk : Walking) (entry : DirEntry) → is_dir entry ≡ false
    → entering walk entry ≡ cond (is_root_link entry && walk.options.follow_root_links) (enters_root_link entry (looked walk.tree entry.path true))
    (Ok Stays)
unfolding entering
other_is walk entry dir =
    ap (λ b. cond b (enters_directory walk entry) (cond (is_root_link entry && walk.options.follow_root_links)
    (enters_root_link entry (looked walk.tree entry.path true)) (Ok Stays))) dir

pub enters_dir : (state : Option State) (options : Options) (device : ℕ) (found : Found) (result : Result Entering Error) → is_dir found.entry ≡ true
    → EntersBy enters_directory state options device found result → EntersBy entering state options device found result
enters_dir None options device found result dir enters = tt
enters_dir (Some s) options device found result dir enters = λ walk tree same knows told.
    subst (λ t. Tells found.entry.depth found.entry.path result t) (sym (dir_is walk found.entry dir)) (enters walk tree same knows told)

pub enters_other : (state : Option State) (options : Options) (device : ℕ) (found : Found) → is_dir found.entry ≡ false
    → (is_root_link found.entry && options.follow_root_links) ≡ false
    → EntersBy entering state options device found (Ok Stays)
enters_other None options device found dir root = tt
enters_other (Some s) options device found dir root = λ walk tree same knows told.
    other_is walk found.entry dir
    ∙ ap (λ b. cond b (enters_root_link found.entry (looked walk.tree found.entry.path true)) (Ok Stays))
    (ap (λ (o : Options). is_root_link found.entry && o.follow_root_links) same ∙ root)

link_is : (walk : Walking) (options : Options) (entry : DirEntry) → walk.options ≡ options → is_dir entry ≡ false
    → (is_root_link entry && options.follow_root_links) ≡ true
    → entering walk entry ≡ enters_root_link entry (looked walk.tree entry.path true)
link_is walk options entry same dir root =
    other_is walk entry dir
    ∙ ap (λ b. cond b (enters_root_link entry (looked walk.tree entry.path true)) (Ok Stays))
    (ap (λ (o : Options). is_root_link entry && o.follow_root_links) same ∙ root)

refused_root : (entry : DirEntry) (error : Error) (told : Result Meta Refusal) → told_at entry.depth entry.path told ≡ Err error
    → enters_root_link entry told ≡ Err error
refused_root entry error (Ok meta) is = absurd cc
refused_root entry error (Err refusal) is = let same : io_error entry.depth entry.path (error_of refusal) ≡ error = cc in ap Err same

pub enters_refused : (state : Option State) (options : Options) (device : ℕ) (found : Found) (path : Path) (error : Error)
    → is_dir found.entry ≡ false
    → (is_root_link found.entry && options.follow_root_links) ≡ true → found.entry.depth ≡ 0 → path ≡ found.entry.path
    → IfSome state (λ s. Tells {A = Meta} 0 path (Err error) (told_at 0 path (looked (tree_of s) path true)))
    → EntersBy entering state options device found (Err error)
enters_refused None options device found path error dir root top same_path tells = tt
enters_refused (Some s) options device found path error dir root top same_path tells = λ walk tree same knows told.
    let entry = found.entry in
    passed_on entry.depth entry.path error (told_at entry.depth entry.path (looked walk.tree entry.path true)) (entering walk entry)
    (λ is. link_is walk options entry same dir root ∙ refused_root entry error (looked walk.tree entry.path true) is)
    (subst (λ t. Tells {A = Meta} entry.depth entry.path (Err error) (told_at entry.depth entry.path (looked t entry.path true))) (sym tree)
    (subst (λ p. Tells {A = Meta} entry.depth p (Err error) (told_at entry.depth p (looked (tree_of s) p true))) same_path
    (subst (λ n. Tells {A = Meta} n path (Err error) (told_at n path (looked (tree_of s) path true))) (sym top) tells)))

pub enters_link : (state : Option State) (options : Options) (device : ℕ) (found : Found) (path : Path) (meta : Meta) (entered : Entering)
    → is_dir found.entry ≡ false
    → (is_root_link found.entry && options.follow_root_links) ≡ true → path ≡ found.entry.path
    → IfSome state (λ s. Tells 0 path (Ok meta) (told_at 0 path (looked (tree_of s) path true)))
    → entered ≡ cond (is_dir_kind meta.kind) (Enters (Some (place_of meta))) Stays → EntersBy entering state options device found (Ok entered)
enters_link None options device found path meta entered dir root same_path tells is = tt
enters_link (Some s) options device found path meta entered dir root same_path tells is = λ walk tree same knows told.
    link_is walk options found.entry same dir root ∙ ap (enters_root_link found.entry)
    (looked_at s walk 0 path found.entry.path meta tree same_path tells) ∙ ap Ok (sym is)

-- whether an entry is entered, by the state and the answer that the code has
pub enters_as : (was now : Option State) → now ≡ was → (options : Options) (device : ℕ) (found : Found) (answer other : Entering) → answer ≡ other
    → EntersBy entering now options device found (Ok answer)
    → EntersBy entering was options device found (Ok other)
enters_as was now same options device found answer other is enters =
    subst (λ s. EntersBy entering s options device found (Ok other)) same (subst (λ e. EntersBy entering now options device found (Ok e)) is enters)
