-- Laws of the root of a walk, and of its device.
use Rattle.std.proofs.Common.{◌≡◌, ℕ, inl, inr, Bool, true, false, List, [], ◌∷◌, ◌++◌, Option, Some, None, Result, Ok, Err, IfSome, refl, sym, ap, subst, ◌∙◌, append-nil}
use Rattle.std.specs.Option.{option_to_list}
use Rattle.odb_base.specs.Path.{Path}
use Rattle.odb_disk.specs.Ask.{error_of}
use Rattle.odb_disk.specs.Streams.{Streams}
use Rattle.odb_disk.specs.Tree.{State, tree_of}
use Rattle.odb_disk.specs.Tree.Follow.{Refusal, looked}
use Rattle.odb_disk.specs.Tree.Follow as trees
use Rattle.odb_disk.specs.declared.meta.Meta.{Meta}
use Rattle.odb_disk.specs.declared.disk_error.DiskError.{DiskError}
use Rattle.odb_disk.specs.declared.disk_error.DiskError.TheVariants as refusals
use Rattle.walkdir.specs.Error.{io_error, is_no_memory}
use Rattle.walkdir.specs.Progress.{Progress, Keeps}
use Rattle.walkdir.specs.Stack.{StandsFor, Nothing, ancestors}
use Rattle.walkdir.specs.Turns.Stands.{BeginsWalk, HandlesEntry, IsIn}
use Rattle.walkdir.specs.Turns.Taken.{FoundDevice, KnowsDevice}
use Rattle.walkdir.specs.Walk.{Walking, Ancestor, Item, HasDevice, IsWalk, Tells, WalkOf, told_at}
use Rattle.walkdir.specs.Walk.Answers.{IsRefused}
use Rattle.walkdir.specs.Walk.Entries.{around, entering, enters_directory, enters_root_link, entry_by, is_looked_at, is_root_link}
use Rattle.walkdir.specs.Walk.Entries.{loop_at, place_of, device_at, same_place, shown, taken_for, through_link, unless_loop}
use Rattle.walkdir.specs.Walk as walks
use Rattle.walkdir.specs.declared.builder.Options.{Options}
use Rattle.walkdir.specs.declared.error.Error.{Error}
use Rattle.walkdir.proofs.HandlesLemmas.{not_lost, told_is}

refused_look : (root : Path) (told : Result Meta Refusal) (error : Error) → is_no_memory error ≡ false → Tells {A = Meta} 0 root (Err error)
    (told_at 0 root told)
    → (cause : DiskError) × (error ≡ io_error 0 root cause) × IsRefused {A = Meta} cause told
refused_look root told error some (inl lost) = not_lost error some lost
refused_look root told error some (inr (inl failed)) = (refusals.Failed, failed, tt)
refused_look root (Ok found) error some (inr (inr is)) = absurd cc
refused_look root (Err refusal) error some (inr (inr is)) =
    let same : error ≡ io_error 0 root (error_of refusal) = cc in (error_of refusal, same, refusal_is refusal)
  where
    refusal_is : (r : Refusal) → IsRefused {A = Meta} (error_of r) (Err r)
    refusal_is trees.Absent = refl
    refusal_is trees.WrongKind = refl
    refusal_is trees.LinkLoop = refl

nothing_stands : {walk : Walking} {streams : Streams} {items : List Item} → StandsFor walk streams [] items → items ≡ []
nothing_stands Nothing = refl

nothing_on : (walk : Walking) (at : Progress) (items : List Item) → at.stack ≡ [] → StandsFor walk at.streams at.stack items → items ≡ []
nothing_on walk at items none left = nothing_stands (subst (λ s. StandsFor walk at.streams s items) none left)

pub device_wanted : (state : Option State) (options : Options) (root : Path) (meta : Meta)
    → IfSome state (λ s. Tells 0 root (Ok meta) (told_at 0 root (looked (tree_of s) root true)))
    → FoundDevice state options root meta.dev
device_wanted None options root meta tells = tt
device_wanted (Some s) options root meta tells = λ same. (meta, told_is 0 root meta (looked (tree_of s) root true) tells, refl)

pub device_unwanted : (state : Option State) (options : Options) (root : Path) (device : ℕ) → options.same_file_system ≡ false
    → FoundDevice state options root device
device_unwanted None options root device off = tt
device_unwanted (Some s) options root device off = λ same. absurd (let both : true ≡ false = sym same ∙ off in cc)

pub looked_root : (walk : Walking) (s : State) (root : Path) (follow : Bool) (told : Result Meta Refusal) → walk.tree ≡ tree_of s → walk.root ≡ root
    → looked (tree_of s) root follow ≡ told
    → looked walk.tree walk.root follow ≡ told
looked_root walk s root follow told tree same is = ap (λ t. looked t walk.root follow) tree ∙ ap (λ p. looked (tree_of s) p follow) same ∙ is

has_device : (walk : Walking) (s : State) (options : Options) (root : Path) (device : ℕ) → walk.tree ≡ tree_of s → walk.options ≡ options
    → walk.root ≡ root
    → FoundDevice (Some s) options root device → HasDevice walk
has_device walk s options root device tree is_options is_root found same =
    let at = found (ap (λ (o : Options). o.same_file_system) (sym is_options) ∙ same) in
    (at.0, looked_root walk s root true (Ok at.0) tree is_root at.1)

pub knows_device : (walk : Walking) (s : State) (options : Options) (root : Path) (device : ℕ) → walk.tree ≡ tree_of s → walk.options ≡ options
    → walk.root ≡ root
    → FoundDevice (Some s) options root device → KnowsDevice walk device
knows_device walk s options root device tree is_options is_root found same =
    let at = found (ap (λ (o : Options). o.same_file_system) (sym is_options) ∙ same) in
    ap device_at (looked_root walk s root true (Ok at.0) tree is_root at.1) ∙ ap Some at.2

-- the stack of a walk whose device was looked up is this walk's
pub in_begun : (walk : Walking) (s : State) (old mid : Progress) (root : Path) → mid.options ≡ old.options → mid.order ≡ old.order
    → walk.tree ≡ tree_of s → walk.options ≡ old.options → walk.order ≡ old.order → walk.root ≡ root
    → FoundDevice (Some s) old.options root mid.device → IsIn walk mid
in_begun walk s old mid root same_options same_order tree options order is_root found = record {
  options = same_options ∙ sym options;
  order = same_order ∙ sym order;
  device = knows_device walk s old.options root mid.device tree options is_root found;
}

-- the device couldn't be looked up
pub begins_lost : (state : Option State) (old new : Progress) (root : Path) (error : Error) → new.stack ≡ [] → old.options.same_file_system ≡ true
    → IfSome state (λ s. Tells {A = Meta} 0 root (Err error) (told_at 0 root (looked (tree_of s) root true)))
    → BeginsWalk state old root (Some (Err error)) new
begins_lost None old new root error none same tells = tt
begins_lost (Some s) old new root error none same tells = λ walk tree options order is_root before keeps lost.
    let cause = refused_look root (looked (tree_of s) root true) error lost tells in
    let refused : IsRefused {A = Meta} cause.0 (looked walk.tree walk.root true) =
    subst (λ t. IsRefused {A = Meta} cause.0 t) (sym (looked_root walk s root true (looked (tree_of s) root true) tree is_root refl)) cause.2 in
    let is : io_error 0 walk.root cause.0 ≡ error = ap (λ p. io_error 0 p cause.0) is_root ∙ sym cause.1 in (
      λ some wanted. absurd (some none),
      λ rest left.
          subst (λ r. IsWalk walk (Err error ∷ r)) (sym (nothing_on walk new rest none left))
          (subst (λ e. IsWalk walk (Err e ∷ [])) is (walks.NoDevice cause.0 (ap (λ (o : Options). o.same_file_system) options ∙ same) refused)),
    )

-- the root couldn't be statted
pub begins_nowhere : (state : Option State) (old new : Progress) (root : Path) (device : ℕ) (error : Error) → new.stack ≡ []
    → FoundDevice state old.options root device
    → IfSome state (λ s. Tells {A = Meta} 0 root (Err error) (told_at 0 root (looked (tree_of s) root false)))
    → BeginsWalk state old root (Some (Err error)) new
begins_nowhere None old new root device error none found tells = tt
begins_nowhere (Some s) old new root device error none found tells = λ walk tree options order is_root before keeps lost.
    let cause = refused_look root (looked (tree_of s) root false) error lost tells in
    let refused : IsRefused {A = Meta} cause.0 (looked walk.tree walk.root false) =
    subst (λ t. IsRefused {A = Meta} cause.0 t) (sym (looked_root walk s root false (looked (tree_of s) root false) tree is_root refl)) cause.2 in
    let is : io_error 0 walk.root cause.0 ≡ error = ap (λ p. io_error 0 p cause.0) is_root ∙ sym cause.1 in (
      λ some wanted. absurd (some none),
      λ rest left.
          subst (λ r. IsWalk walk (Err error ∷ r)) (sym (nothing_on walk new rest none left))
          (subst (λ e. IsWalk walk (Err e ∷ [])) is (walks.NoRoot cause.0 (has_device walk s old.options root device tree options is_root found)
          refused)),
    )

-- the root is handled
pub begins_root : (state : Option State) (old mid new : Progress) (root : Path) (meta : Meta) (item : Option Item) → mid.options ≡ old.options
    → mid.order ≡ old.order → mid.stack ≡ []
    → ((before : Streams) → Keeps before old → Keeps before mid) → FoundDevice state old.options root mid.device → new.device ≡ mid.device
    → IfSome state (λ s. Tells 0 root (Ok meta) (told_at 0 root (looked (tree_of s) root false)))
    → HandlesEntry state mid (entry_by root false 0 meta) item new
    → BeginsWalk state old root item new
begins_root None old mid new root meta item same_options same_order none keeps_on found device tells handles = tt
begins_root (Some s) old mid new root meta item same_options same_order none keeps_on found device tells handles =
    λ walk tree options order is_root before keeps lost.
    let is_in = in_begun walk s old mid root same_options same_order tree options order is_root found in (
      λ some wanted. is_in.device wanted ∙ ap Some (sym device),
      λ rest left.
          let parts = handles walk tree is_in before (keeps_on before keeps) lost rest left in
          let all : option_to_list item ++ rest ≡ parts.0 =
          parts.1.3 ∙ ap (λ l. parts.0 ++ l) (nothing_on walk mid parts.1.0 none parts.1.2) ∙ append-nil parts.0 in
          let here : WalkOf walk [] (entry_by walk.root false 0 meta) parts.0 =
          subst (λ p. WalkOf walk [] (entry_by p false 0 meta) parts.0) (sym is_root)
          (subst (λ l. WalkOf walk (ancestors l) (entry_by root false 0 meta) parts.0) none parts.1.1) in
          subst (IsWalk walk) (sym all)
          (walks.Root meta (has_device walk s old.options root mid.device tree options is_root found)
          (looked_root walk s root false (Ok meta) tree is_root (told_is 0 root meta (looked (tree_of s) root false) tells)) here),
    )
