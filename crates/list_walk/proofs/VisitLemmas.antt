-- What was written of one walk, and the walk that was built as chosen.
use Rattle.std.proofs.Common.{◌≡◌, Bool, true, false, List, [], ◌∷◌, Option, Some, None, Ok, Err, refl, sym, ap, subst, ◌∙◌}
use Rattle.std.proofs.lemmas.Bool.{or_parts}
use Rattle.std.specs.Prelude.{Result, IfSome}
use Rattle.std.specs.List.{list_any}
use Rattle.std.specs.Option.{option_map}
use Rattle.odb_base.specs.Path.{Path}
use Rattle.odb_disk.specs.Streams.{Streams}
use Rattle.odb_program.proofs.AddsLaws.{adds_nothing}
use Rattle.odb_disk.specs.Tree.{State, tree_of}
use Rattle.walkdir.proofs.WholeWalks.{NoneLost, if_told, whole_walk}
use Rattle.walkdir.specs.BuiltWalk.{walking}
use Rattle.walkdir.specs.Failures.{failures_among}
use Rattle.walkdir.specs.Options.{Built, default_options}
use Rattle.walkdir.specs.Progress.{Progress, Steps, begun}
use Rattle.walkdir.specs.Walk.{IsWalk, Item, Order}
use Rattle.walkdir.specs.declared.builder.Options.{Options}
use Rattle.walkdir.proofs.FailuresLaws.{costs_begun, fails_none}
use Rattle.list_walk.specs.Asked.{by_name, chosen_by, options_of, order_by, walk_of, walking_of}
use Rattle.list_walk.specs.Lines.{EndsWritten, GaveAll, IsFront, IsWhole, is_want}
use Rattle.list_walk.specs.Visits.{CutOff, EndsVisit, Listed, Moment, Visit, listing_at, listing_of, settled}
use Rattle.list_walk.specs.declared.line.LineError.{LineError}
use Rattle.list_walk.specs.declared.status.Status.{Status}
use Rattle.list_walk.specs.declared.status.Status.TheVariants as statuses
use Rattle.list_walk.specs.declared.words.Choices.{Choices}

-- ---- the items are those of the tree's walk

none_lost : (items : List Item) → list_any is_want items ≡ false → NoneLost items
none_lost [] known = tt
none_lost (item ∷ items) known =
    let parts = or_parts (is_want item) (list_any is_want items) known in (parts.0, none_lost items parts.1)

-- A walk that was run to its end on a disk whose tree is known, without running out of memory, gave the items of the tree's walk.
pub gave_walk : {T : Type 0} (order : T → Order) (built : Built T) (streams : Streams) (told : State) (items : List Item) → GaveAll (Some told) (begun order built streams) items
    → list_any is_want items ≡ false
    → IsWalk (walking order (tree_of told) built) items
gave_walk order built streams told items gave known =
    whole_walk (λ at. at) (λ _. Some told) (Steps (Some told)) (λ s item t step. (step, refl)) order built streams told
    (begun order built streams) items gave.at gave.now refl refl gave.gave gave.ended
    (none_lost items known)

walk_at : (sort : Bool) (root : Path) (options : Options) (streams : Streams) (told : State) (items : List Item)
    → GaveAll (Some told) (record { options = options; order = order_by sort; start = Some root; device = 0; stack = []; entered = false; streams = streams }) items → list_any is_want items ≡ false
    → IsWalk (record { tree = tree_of told; root = root; options = options; order = order_by sort }) items
walk_at true root options streams told items gave known =
    gave_walk {T = Unit {0}} (λ _. by_name) (record { root = root; options = options; sorter = Some tt }) streams told items gave known
walk_at false root options streams told items gave known =
    gave_walk {T = Unit {0}} (λ _. by_name) (record { root = root; options = options; sorter = None }) streams told items gave known

walks_of : (v : Visit) (status : Status) (wrote : IsWhole (listing_of v) status) → IfSome v.state (λ state. IsWalk (walking_of v.folder v.choices (tree_of state)) wrote.items)
walks_of v status wrote =
    if_told v.state (λ state. IsWalk (walking_of v.folder v.choices (tree_of state)) wrote.items)
    (λ told tells. walk_at v.choices.sort v.folder (options_of v.choices) v.before.streams told wrote.items
    (subst (λ state. GaveAll state (walk_of v.folder v.choices v.before.streams) wrote.items) tells wrote.gave) wrote.memory)

-- ---- how a walk ends

whole_listed : (v : Visit) (status : Status) → IsWhole (listing_of v) status → Listed v status
whole_listed v status wrote = record {
  wrote = wrote;
  walks = walks_of v status wrote;
  costs = costs_begun (walk_of v.folder v.choices v.before.streams) wrote.gave.now v.before.disk_faults v.after.disk_faults (failures_among wrote.items) refl wrote.fails;
}

front_cut : (v : Visit) → IsFront (listing_of v) → CutOff v
front_cut v wrote = record {
  wrote = wrote;
  costs = costs_begun (walk_of v.folder v.choices v.before.streams) wrote.gave.at v.before.disk_faults v.after.disk_faults (failures_among wrote.items) refl wrote.fails;
}

-- a walk that wasn't begun was cut off
pub nothing_cut : (choices : Choices) (state : Option State) (folder : Path) (at : Moment) → CutOff (record { choices = choices; state = state; folder = folder; before = at; after = at })
nothing_cut choices state folder at =
    front_cut (record { choices = choices; state = state; folder = folder; before = at; after = at }) (record {
      items = [];
      gave = record { at = walk_of folder choices at.streams; gave = refl };
      count = 0;
      added = adds_nothing at.held;
      error_count = 0;
      errors = adds_nothing at.told;
      fails = fails_none (walk_of folder choices at.streams) at.disk_faults;
    })

ends_visit : (v : Visit) (result : Result Status LineError) → EndsWritten (listing_of v) result → EndsVisit v (settled result)
ends_visit v (Ok statuses.Done) wrote = whole_listed v statuses.Done wrote
ends_visit v (Ok statuses.SomeErrors) wrote = whole_listed v statuses.SomeErrors wrote
ends_visit v (Ok statuses.NoMemory) wrote = front_cut v wrote
ends_visit v (Ok statuses.HelpSought) wrote = absurd wrote
ends_visit v (Ok (statuses.NotUnderstood told)) wrote = absurd wrote
ends_visit v (Ok statuses.WriteFault) wrote = absurd wrote
ends_visit v (Ok statuses.ErrorFault) wrote = absurd wrote
ends_visit v (Err error) wrote = front_cut v wrote

first_is : {T : Type 0} (order : T → Order) (folder : Path) (choices : Choices) (walk : Built T) (streams : Streams) → walk.root ≡ folder → walk.options ≡ options_of choices
    → option_map order walk.sorter ≡ order_by choices.sort
    → begun order walk streams ≡ walk_of folder choices streams
first_is order folder choices walk streams root options sorted =
    ap (λ x. with_parts x (option_map order walk.sorter) walk.root) options ∙ ap (λ x. with_parts (options_of choices) x walk.root) sorted
    ∙ ap (with_parts (options_of choices) (order_by choices.sort)) root
  where
    with_parts : Options → Option Order → Path → Progress
    with_parts options order root = record { options = options; order = order; start = Some root; device = 0; stack = []; entered = false; streams = streams }

-- a visit by a walk that was built as chosen
built_visit : {T : Type 0} (order : T → Order) (v : Visit) (walk : Built T) (result : Result Status LineError) → walk.root ≡ v.folder → walk.options ≡ options_of v.choices
    → option_map order walk.sorter ≡ order_by v.choices.sort → EndsWritten (listing_at v (begun order walk v.before.streams)) result → EndsVisit v (settled result)
built_visit order v walk result root options sorted wrote =
    ends_visit v result (subst (λ first. EndsWritten (listing_at v first) result) (first_is order v.folder v.choices walk v.before.streams root options sorted) wrote)

module _ {S T : Type 0} (order : T → Order) (v : Visit) (at chosen : Built S) (root : at.root ≡ v.folder) (options : at.options ≡ default_options)
    (chose : chosen ≡ record at { options = chosen_by v.choices at.options }) (result : Result Status LineError) where
  -- a walk that is sorted then
  pub sorted_visit : (sorter : T) (walk : Built T) → walk ≡ record { root = chosen.root; options = chosen.options; sorter = Some sorter } → order sorter ≡ by_name → v.choices.sort ≡ true
      → EndsWritten (listing_at v (begun order walk v.before.streams)) result → EndsVisit v (settled result)
  sorted_visit sorter walk is by sort wrote =
      built_visit order v walk result (ap (λ w. w.root) is ∙ ap (λ w. w.root) chose ∙ root) (ap (λ w. w.options) is ∙ ap (λ w. w.options) chose ∙ ap (chosen_by v.choices) options)
      (ap (λ w. option_map order w.sorter) is ∙ ap Some by ∙ ap order_by (sym sort)) wrote

module _ {T : Type 0} (order : T → Order) (v : Visit) (at chosen : Built T) (root : at.root ≡ v.folder) (options : at.options ≡ default_options) (none : at.sorter ≡ None)
    (chose : chosen ≡ record at { options = chosen_by v.choices at.options }) (result : Result Status LineError) where
  -- a walk that isn't sorted
  pub unsorted_visit : v.choices.sort ≡ false → EndsWritten (listing_at v (begun order chosen v.before.streams)) result → EndsVisit v (settled result)
  unsorted_visit sort wrote =
      built_visit order v chosen result (ap (λ w. w.root) chose ∙ root) (ap (λ w. w.options) chose ∙ ap (chosen_by v.choices) options)
      (ap (λ w. option_map order w.sorter) chose ∙ ap (option_map order) none ∙ ap order_by (sym sort)) wrote
