-- What an entry is taken for: itself, or the target of a link that is followed.
use Rattle.std.proofs.Common.{◌≡◌, ℕ, ◌⊎◌, inl, inr, Bool, true, false, ◌&&◌, cond, List, [], ◌∷◌, map, reverse, Option, Some, None, Result, Ok, Err, IfSome, refl, sym, ap, subst, ◌∙◌}
use Rattle.std.specs.Prelude.{find}
use Rattle.std.specs.Option.{option_map}
use Rattle.odb_base.specs.Path.{Path}
use Rattle.odb_disk.specs.Ask.{error_of}
use Rattle.odb_disk.specs.Tree.{State, tree_of}
use Rattle.odb_disk.specs.Tree.Follow.{Refusal, looked}
use Rattle.odb_disk.specs.declared.meta.Meta.{Meta}
use Rattle.walkdir.specs.Entry.{is_dir_kind, is_link}
use Rattle.walkdir.specs.Error.{IsFromLoop, io_error, loop_error, no_memory}
use Rattle.walkdir.specs.Stack.{ancestors}
use Rattle.walkdir.specs.Turns.Taken.{ChecksLoop, Follows, standing_at}
use Rattle.walkdir.specs.Walk.{Walking, Ancestor, Tells, told_at}
use Rattle.walkdir.specs.Walk.Entries.{entry_by, loop_at, place_of, same_place, taken_for, through_link, unless_loop}
use Rattle.walkdir.specs.declared.builder.Options.{Options}
use Rattle.walkdir.specs.declared.dent.DirEntry.{DirEntry}
use Rattle.walkdir.specs.declared.error.Error.{Error}
use Rattle.walkdir.specs.declared.directory.DirList.{DirList}
use Rattle.walkdir.specs.declared.directory.Place.{Place}
use Rattle.walkdir.proofs.HandlesLemmas.{passed_on, told_is}

-- ---- what an entry is taken for

pub not_followed : (walk : Walking) (above : List Ancestor) (entry : DirEntry) → (walk.options.follow_links && is_link entry) ≡ false
    → taken_for walk above entry ≡ Ok entry
unfolding taken_for
not_followed walk above entry off = ap (λ b. cond b (through_link above entry (looked walk.tree entry.path true)) (Ok entry)) off

through : (walk : Walking) (above : List Ancestor) (entry : DirEntry) → (walk.options.follow_links && is_link entry) ≡ true
    → taken_for walk above entry ≡ through_link above entry (looked walk.tree entry.path true)
unfolding taken_for
through walk above entry on = ap (λ b. cond b (through_link above entry (looked walk.tree entry.path true)) (Ok entry)) on

unless_same : (entry taken : DirEntry) (meta : Meta) (found : Option Ancestor) → unless_loop entry meta found ≡ Ok taken → (taken.path ≡ entry.path)
    × (taken.depth ≡ entry.depth)
unless_same entry taken meta None is =
    let same : entry_by entry.path true entry.depth meta ≡ taken = cc in
    (ap (λ (e : DirEntry). e.path) (sym same), ap (λ (e : DirEntry). e.depth) (sym same))
unless_same entry taken meta (Some ancestor) is = absurd cc

through_same : (above : List Ancestor) (entry taken : DirEntry) (told : Result Meta Refusal) → through_link above entry told ≡ Ok taken
    → (taken.path ≡ entry.path) × (taken.depth ≡ entry.depth)
through_same above entry taken (Err refusal) is = absurd cc
through_same above entry taken (Ok meta) is = unless_same entry taken meta (loop_at above meta) is

pub taken_same : (walk : Walking) (above : List Ancestor) (entry taken : DirEntry) → taken_for walk above entry ≡ Ok taken → (taken.path ≡ entry.path)
    × (taken.depth ≡ entry.depth)
taken_same walk above entry taken is = elim (walk.options.follow_links && is_link entry) as (λ b. (walk.options.follow_links && is_link entry) ≡ b
    → (taken.path ≡ entry.path) × (taken.depth ≡ entry.depth)) [
      | true ↦ λ on. through_same above entry taken (looked walk.tree entry.path true) (sym (through walk above entry on) ∙ is)
      | false ↦ λ off.
          let both : Ok entry ≡ taken_for walk above entry = sym (not_followed walk above entry off) in
          let same : entry ≡ taken = cc in
          (ap (λ (e : DirEntry). e.path) (sym same), ap (λ (e : DirEntry). e.depth) (sym same))
    ] refl

-- ---- an entry is followed

pub follows_none : (state : Option State) (options : Options) (above : List Ancestor) (entry : DirEntry) → (options.follow_links && is_link entry)
    ≡ false
    → Follows state options above entry (Ok (record { entry = entry; place = None }))
follows_none None options above entry off = tt
follows_none (Some s) options above entry off =
    λ walk tree same. (not_followed walk above entry (ap (λ (o : Options). o.follow_links && is_link entry) same ∙ off), tt)

refused_link : (above : List Ancestor) (entry : DirEntry) (error : Error) (told : Result Meta Refusal)
    → told_at entry.depth entry.path told ≡ Err error → through_link above entry told ≡ Err error
refused_link above entry error (Ok meta) is = absurd cc
refused_link above entry error (Err refusal) is = let same : io_error entry.depth entry.path (error_of refusal) ≡ error = cc in ap Err same

follows_link : (walk : Walking) (options : Options) (entry : DirEntry) → walk.options ≡ options → options.follow_links ≡ true → is_link entry ≡ true
    → (walk.options.follow_links && is_link entry) ≡ true
follows_link walk options entry same follow link =
    ap (λ (o : Options). o.follow_links && is_link entry) same ∙ ap (λ b. b && is_link entry) follow ∙ link

-- the stat through a link fails
pub follows_refused : (state : Option State) (options : Options) (above : List Ancestor) (entry : DirEntry) (depth : ℕ) (path : Path) (error : Error)
    → options.follow_links ≡ true
    → is_link entry ≡ true → depth ≡ entry.depth → path ≡ entry.path
    → IfSome state (λ s. Tells {A = Meta} depth path (Err error) (told_at depth path (looked (tree_of s) path true)))
    → Follows state options above entry (Err error)
follows_refused None options above entry depth path error follow link same_depth same_path tells = tt
follows_refused (Some s) options above entry depth path error follow link same_depth same_path tells = λ walk tree same.
    passed_on entry.depth entry.path error (told_at entry.depth entry.path (looked walk.tree entry.path true)) (taken_for walk above entry)
    (λ is. through walk above entry (follows_link walk options entry same follow link)
    ∙ refused_link above entry error (looked walk.tree entry.path true) is)
    (subst (λ t. Tells {A = Meta} entry.depth entry.path (Err error) (told_at entry.depth entry.path (looked t entry.path true))) (sym tree)
    (subst (λ p. Tells {A = Meta} entry.depth p (Err error) (told_at entry.depth p (looked (tree_of s) p true))) same_path
    (subst (λ n. Tells {A = Meta} n path (Err error) (told_at n path (looked (tree_of s) path true))) same_depth tells)))

pub looked_at : (state : State) (walk : Walking) (depth : ℕ) (path : Path) (at : Path) (meta : Meta) → walk.tree ≡ tree_of state → path ≡ at
    → told_at depth path (looked (tree_of state) path true) ≡ Ok meta → looked walk.tree at true ≡ Ok meta
looked_at state walk depth path at meta tree same tells =
    ap (λ t. looked t at true) tree ∙ ap (λ p. looked (tree_of state) p true) (sym same)
    ∙ told_is depth path meta (looked (tree_of state) path true) tells

pub loop_where : (above : List Ancestor) (meta : Meta) → is_dir_kind meta.kind ≡ true → loop_at above meta ≡ standing_at above (place_of meta)
loop_where above meta dir = ap (λ b. cond b (standing_at above (place_of meta)) None) dir

pub loop_nowhere : (above : List Ancestor) (meta : Meta) → is_dir_kind meta.kind ≡ false → loop_at above meta ≡ None
loop_nowhere above meta dir = ap (λ b. cond b (standing_at above (place_of meta)) None) dir

-- it leads to a directory that the walk is in
pub follows_loop : (state : Option State) (options : Options) (above : List Ancestor) (entry : DirEntry) (depth : ℕ) (path : Path) (meta : Meta)
    (error : Error)
    → options.follow_links ≡ true → is_link entry ≡ true → depth ≡ entry.depth → path ≡ entry.path
    → IfSome state (λ s. Tells depth path (Ok meta) (told_at depth path (looked (tree_of s) path true))) → is_dir_kind meta.kind ≡ true
    → ChecksLoop depth path (standing_at above (place_of meta)) (Err error) → Follows state options above entry (Err error)
follows_loop None options above entry depth path meta error follow link same_depth same_path tells dir checks = tt
follows_loop (Some s) options above entry depth path meta error follow link same_depth same_path tells dir checks = λ walk tree same.
    let ancestor = checks.0 in
    let seen : looked walk.tree entry.path true ≡ Ok meta = looked_at s walk depth path entry.path meta tree same_path tells in
    let taken : taken_for walk above entry ≡ Err (loop_error entry.depth ancestor.path entry.path) =
    through walk above entry (follows_link walk options entry same follow link) ∙ ap (through_link above entry) seen
    ∙ ap (unless_loop entry meta) (loop_where above meta dir ∙ checks.1) in
    let told : IsFromLoop entry.depth ancestor.path entry.path error =
    subst (λ p. IsFromLoop entry.depth ancestor.path p error) same_path (subst (λ n. IsFromLoop n ancestor.path path error) same_depth checks.2) in
    looping (taken_for walk above entry) (loop_error entry.depth ancestor.path entry.path) taken told
  where
    looping : (more : Result DirEntry Error) (loops : Error) → more ≡ Err loops → (error ≡ loops) ⊎ (error ≡ no_memory)
        → Tells entry.depth entry.path (Err error) more
    looping more loops is (inl same) = inr (inr (is ∙ ap Err (sym same)))
    looping more loops is (inr lost) = inl lost

-- it is taken for its target
pub follows_found : (state : Option State) (options : Options) (above : List Ancestor) (entry : DirEntry) (depth : ℕ) (path : Path) (meta : Meta)
    → options.follow_links ≡ true → is_link entry ≡ true → depth ≡ entry.depth → path ≡ entry.path
    → IfSome state (λ s. Tells depth path (Ok meta) (told_at depth path (looked (tree_of s) path true))) → loop_at above meta ≡ None
    → Follows state options above entry (Ok (record { entry = entry_by path true depth meta; place = Some (place_of meta) }))
follows_found None options above entry depth path meta follow link same_depth same_path tells free = tt
follows_found (Some s) options above entry depth path meta follow link same_depth same_path tells free = λ walk tree same. (
  through walk above entry (follows_link walk options entry same follow link)
      ∙ ap (through_link above entry) (looked_at s walk depth path entry.path meta tree same_path tells)
      ∙ ap (unless_loop entry meta) free
      ∙ ap {B = Result DirEntry Error} (λ p. Ok (entry_by p true entry.depth meta)) (sym same_path)
      ∙ ap {B = Result DirEntry Error} (λ n. Ok (entry_by path true n meta)) (sym same_depth),
  record {
    meta = meta;
    follows = ap (λ (o : Options). o.follow_links) same ∙ follow;
    told = looked_at s walk depth path path meta tree refl tells;
    is = refl;
  },
)

-- ---- the nearest directory at a place

find_mapped : {A B : Type 0} (f : A → B) (test : B → Bool) (xs : List A) → find test (map f xs) ≡ option_map f (find (λ x. test (f x)) xs)
find_mapped f test [] = refl
find_mapped f test (x ∷ xs) =
    elim (test (f x)) as (λ b. cond b (Some (f x)) (find test (map f xs)) ≡ option_map f (cond b (Some x) (find (λ y. test (f y)) xs))) [
      | true ↦ refl
      | false ↦ find_mapped f test xs
    ]

abbrev pub as_ancestor : DirList → Ancestor
as_ancestor list = record { path = list.path; place = list.place }

pub standing_found : (lists : List DirList) (place : Place) (found : Option DirList) → find (λ list. same_place place list.place)
    (reverse lists) ≡ found
    → standing_at (ancestors (reverse lists)) place ≡ option_map as_ancestor found
standing_found lists place found is =
    find_mapped as_ancestor (λ ancestor. same_place place ancestor.place) (reverse lists) ∙ ap (option_map as_ancestor) is
