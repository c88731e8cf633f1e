-- What a walk that was run to its end gave, for its callers.
use Rattle.std.proofs.Common.{◌≡◌, ℕ, ◌+◌, ◌≤◌, zero, suc, true, false, List, [], ◌∷◌, ◌++◌, map, Option, Some, None, Ok, refl, sym, ap, subst, ◌∙◌, append-nil, arith}
use Rattle.std.specs.Prelude.{IfSome}
use Rattle.std.specs.Iterator.{Yields}
use Rattle.odb_base.specs.Faults.{Rose}
use Rattle.odb_disk.specs.declared.ask.DiskAsk.{DiskAsk}
use Rattle.odb_disk.specs.declared.ask.DiskAnswer.{DiskAnswer}
use Rattle.odb_disk.specs.Streams.{Streams}
use Rattle.odb_disk.specs.Tree.{State, Tree, tree_of}
use Rattle.walkdir.proofs.FailuresLaws.{costs_begun, costs_later, fails_none, fails_then}
use Rattle.walkdir.proofs.ProgressLemmas.{has_streams}
use Rattle.walkdir.proofs.StillGivesLemmas.{something_left}
use Rattle.walkdir.specs.BuiltWalk.{walking}
pub use Rattle.walkdir.specs.FilteredWalk.{NoneLost}
use Rattle.walkdir.specs.Failures.{RoseBy, failures_among, failures_of, waiting}
use Rattle.walkdir.specs.OnDisk as OnDisks
use Rattle.walkdir.specs.Options.{Built}
use Rattle.walkdir.specs.OwnStreams.{AreBack, AreBeside}
use Rattle.walkdir.specs.Progress.{Progress, FailsByFault, GivesNext, IsOf, Keeps, Steps, StillGives, begun, has_its_streams, is_lost, still_to_come}
use Rattle.walkdir.specs.Stack.{StandsFor, Nothing}
use Rattle.walkdir.specs.Walk.{Item, IsWalk, Order, Walking}
use Rattle.walkdir.specs.declared.builder.Options.{Options}
use Rattle.walkdir.specs.declared.dent.DirEntry.{DirEntry}
use Rattle.walkdir.specs.declared.iter.OnDisk.{OnDisk}

pub entries_kept : (entries : List DirEntry) → NoneLost (map Ok entries)
entries_kept [] = tt
entries_kept (entry ∷ entries) = (refl, entries_kept entries)

pub begun_keeps : {T : Type 0} (order : T → Order) (built : Built T) (streams : Streams) → Keeps streams (begun order built streams)
unfolding AreBeside
begun_keeps order built streams = record { beside = refl; few = omega arith; peak = omega arith }

pub begun_has : {T : Type 0} (order : T → Order) (built : Built T) (streams : Streams) → has_its_streams (begun order built streams) ≡ true
begun_has order built streams = has_streams streams (begun order built streams) (begun_keeps order built streams)

-- what had no fault had no failure
pub none_without_fault : (count before now : ℕ) → RoseBy count before now → (Rose before now → ⊥) → count ≡ 0
none_without_fault zero before now rose still = refl
none_without_fault (suc count) before now rose still = absurd (still (omega arith))

pub begun_of : {T : Type 0} (order : T → Order) (built : Built T) (streams : Streams) (tree : Tree) → IsOf (walking order tree built)
    (begun order built streams)
begun_of order built streams tree = record { options = refl; order = refl; start = refl; device = λ some same. absurd (some refl) }

-- calls of `next`, each of which takes a walk further
module _ {S : Type 0} (at : S → Progress) (state : S → Option State) (steps : S → Option Item → S → Type 0)
    (each : (s : S) (item : Option Item) (t : S) → steps s item t → Steps (state s) (at s) item (at t) × (state t ≡ state s)) where
  pub keeps_along : (before : Streams) (s : S) (items : List Item) (t : S) → Yields steps s items t → Keeps before (at s) → Keeps before (at t)
  keeps_along before s [] t is keeps = subst (λ x. Keeps before (at x)) is keeps
  keeps_along before s (item ∷ items) t along keeps =
      keeps_along before along.0 items t along.2 ((each s (Some item) along.0 along.1).0.keeps before keeps)

  pub options_along : (s : S) (items : List Item) (t : S) → Yields steps s items t → (at t).options ≡ (at s).options
  options_along s [] t is = subst (λ x. (at x).options ≡ (at s).options) is refl
  options_along s (item ∷ items) t along = options_along along.0 items t along.2 ∙ (each s (Some item) along.0 along.1).0.options

  pub state_along : (s : S) (items : List Item) (t : S) → Yields steps s items t → state t ≡ state s
  state_along s [] t is = subst (λ x. state x ≡ state s) is refl
  state_along s (item ∷ items) t along = state_along along.0 items t along.2 ∙ (each s (Some item) along.0 along.1).1

  gives_along : (told : State) (walk : Walking) (before : Streams) (s : S) (items : List Item) (t : S) → Yields steps s items t → state s ≡ Some told
      → walk.tree ≡ tree_of told
      → IsOf walk (at s) → Keeps before (at s) → NoneLost items → IsOf walk (at t) × ((rest : List Item) → StillGives walk (at t) rest
      → StillGives walk (at s) (items ++ rest))
  gives_along told walk before s [] t is tells tree of keeps lost =
      subst (λ x. IsOf walk (at x) × ((rest : List Item) → StillGives walk (at x) rest → StillGives walk (at s) rest)) is (of, λ rest left. left)
  gives_along told walk before s (item ∷ items) t along tells tree of keeps lost =
      let step = each s (Some item) along.0 along.1 in
      let first = subst (λ o. GivesNext o (at s) (Some item) (at along.0)) tells step.0.gives walk before tree of keeps lost.0 in
      let more = gives_along told walk before along.0 items t along.2 (step.1 ∙ tells) tree first.0 (step.0.keeps before keeps) lost.1 in
      (more.0, λ rest left. first.1 (items ++ rest) (more.1 rest left))

  -- at its end nothing is still to come
  nothing_left : (walk : Walking) (t u : S) → steps t None u → StillGives walk (at u) []
  nothing_left walk t u last =
      let ended = (each t None u last).0.ended refl in
      subst (λ start. still_to_come walk (at u) start []) (sym ended.1)
      (subst (λ stack. StandsFor walk (at u).streams stack []) (sym ended.0) Nothing)

  -- The items are those of the walk, if the disk's tree is known.
  pub whole_walk : {T : Type 0} (order : T → Order) (built : Built T) (streams : Streams) (told : State) (s : S) (items : List Item) (t u : S)
      → at s ≡ begun order built streams
      → state s ≡ Some told → Yields steps s items t → steps t None u → NoneLost items → IsWalk (walking order (tree_of told) built) items
  whole_walk order built streams told s items t u is tells along last lost =
      let walk = walking order (tree_of told) built in
      let keeps = subst (Keeps streams) (sym is) (begun_keeps order built streams) in
      let of = subst (IsOf walk) (sym is) (begun_of order built streams (tree_of told)) in
      let more = gives_along told walk streams s items t along tells refl of keeps lost in
      let step = each t None u last in
      let end = subst (λ o. GivesNext o (at t) None (at u)) (state_along s items t along ∙ tells) step.0.gives walk streams refl more.0
      (keeps_along streams s items t along keeps) refl in
      let all = more.1 [] (end.1 [] (nothing_left walk t u last)) in
      subst (λ x. StillGives walk x items) is (subst (StillGives walk (at s)) (append-nil items) all)

  -- An item that follows others is the next of the walk, if the disk's tree is known.
  pub begins_with : {T : Type 0} (order : T → Order) (built : Built T) (streams : Streams) (told : State) (s : S) (items : List Item) (t : S)
      (item : Item) (u : S) → at s ≡ begun order built streams
      → state s ≡ Some told → Yields steps s items t → steps t (Some item) u → NoneLost items → is_lost (Some item) ≡ false
      → (rest : List Item) × IsWalk (walking order (tree_of told) built) (items ++ item ∷ rest)
  begins_with order built streams told s items t item u is tells along last lost kept =
      let walk = walking order (tree_of told) built in
      let keeps = subst (Keeps streams) (sym is) (begun_keeps order built streams) in
      let of = subst (IsOf walk) (sym is) (begun_of order built streams (tree_of told)) in
      let more = gives_along told walk streams s items t along tells refl of keeps lost in
      let step = each t (Some item) u last in
      let still = keeps_along streams s items t along keeps in
      let end = subst (λ o. GivesNext o (at t) (Some item) (at u)) (state_along s items t along
      ∙ tells) step.0.gives walk streams refl more.0 still kept in
      let left = something_left walk streams (at u) (step.0.keeps streams still) in
      (left.0, subst (λ x. StillGives walk x (items ++ item ∷ left.0)) is (more.1 (item ∷ left.0) (end.1 left.0 left.1)))

-- A walk on a disk, by the meanings of the disk and of the walk's own state.
module _ {D W : Type 0} (state : D → Option State) (streams : D → Streams) (faults : D → ℕ) (answered : D → DiskAsk → DiskAnswer → D → Type 0)
    (progress : W → Streams → Progress) where
  abbrev at_walk : OnDisk D W → Progress
  at_walk s = OnDisks.at_walk state streams faults answered progress s

  abbrev NextOn : OnDisk D W → Option Item → OnDisk D W → Type 0
  NextOn s item t = OnDisks.NextOn state streams faults answered progress s item t

  -- The failures that calls of `next` give, and those still to be given, are no more than the count of faults rose by.
  pub failures_along : (s : OnDisk D W) (items : List Item) (t : OnDisk D W) → Yields NextOn s items t
      → FailsByFault (at_walk s) (faults s.disk.now) (failures_among items) (at_walk t) (faults t.disk.now)
  failures_along s [] t is =
      subst (λ x. FailsByFault (at_walk s) (faults s.disk.now) 0 (at_walk x) (faults x.disk.now)) is (fails_none (at_walk s) (faults s.disk.now))
  failures_along s (item ∷ items) t along =
      fails_then (at_walk s) (at_walk along.0) (at_walk t) (faults s.disk.now) (faults along.0.disk.now) (faults t.disk.now) (failures_of item)
      (failures_among items) along.1.2
      (failures_along along.0 items t along.2)

  -- A walk that was run to its end gave no more failures than the count of faults rose by.
  pub failures_on_disk : {T : Type 0} (order : T → Order) (built : Built T) (before : Streams) (s : OnDisk D W) (items : List Item) (t u : OnDisk D W)
      → at_walk s ≡ begun order built before → Yields NextOn s items t → NextOn t None u → RoseBy (failures_among items) (faults s.disk.now)
      (faults u.disk.now)
  failures_on_disk order built before s items t u is along last =
      let fails = failures_along s items t along in
      let none : waiting (at_walk s).stack ≡ 0 = ap (λ (p : Progress). waiting p.stack) is in
      let costs = costs_begun (at_walk s) (at_walk t) (faults s.disk.now) (faults t.disk.now) (failures_among items) none fails in
      (costs_later (failures_among items) (faults s.disk.now) (faults t.disk.now) (faults u.disk.now) costs last.2.later).rose

  next_step : (s : OnDisk D W) (item : Option Item) (t : OnDisk D W) → NextOn s item t → Steps (state s.disk.now) (at_walk s) item (at_walk t)
      × (state t.disk.now ≡ state s.disk.now)
  next_step s item t step = (step.1, step.3)

  -- what calls of `next` leave as it was
  pub record Went (s u : OnDisk D W) : Type 0 where
    pub tells : state u.disk.now ≡ state s.disk.now
    pub options : (at_walk u).options ≡ (at_walk s).options
    pub keeps : (before : Streams) → Keeps before (at_walk s) → Keeps before (at_walk u)

  pub went : (s : OnDisk D W) (items : List Item) (t : OnDisk D W) (item : Option Item) (u : OnDisk D W) → Yields NextOn s items t → NextOn t item u
      → Went s u
  went s items t item u along last = record {
    tells = last.3 ∙ state_along at_walk (λ x. state x.disk.now) NextOn next_step s items t along;
    options = last.1.options ∙ options_along at_walk (λ x. state x.disk.now) NextOn next_step s items t along;
    keeps = λ before keeps. last.1.keeps before (keeps_along at_walk (λ x. state x.disk.now) NextOn next_step before s items t along keeps);
  }

  -- what a walk leaves that is dropped after some calls of `next`
  pub left_back : {T : Type 0} (order : T → Order) (built : Built T) (before now : Streams) (s : OnDisk D W) (items : List Item) (t : OnDisk D W)
      (item : Option Item) (u : OnDisk D W)
      → at_walk s ≡ begun order built before → Yields NextOn s items t → NextOn t item u → ((other : Streams) → Keeps other (at_walk u)
      → AreBack other (at_walk u).options.max_open now)
      → AreBack before built.options.max_open now
  left_back order built before now s items t item u is along last dropped =
      let gone = went s items t item u along last in
      let keeps = subst (Keeps before) (sym is) (begun_keeps order built before) in
      subst (λ (o : Options). AreBack before o.max_open now) (gone.options ∙ ap (λ (p : Progress). p.options) is)
      (dropped before (gone.keeps before keeps))

  pub whole_on_disk : {T : Type 0} (order : T → Order) (built : Built T) (before : Streams) (told : State) (s : OnDisk D W) (items : List Item)
      (t u : OnDisk D W)
      → at_walk s ≡ begun order built before → state s.disk.now ≡ Some told → Yields NextOn s items t → NextOn t None u → NoneLost items
      → IsWalk (walking order (tree_of told) built) items
  whole_on_disk order built before told s items t u is tells along last lost =
      whole_walk at_walk (λ x. state x.disk.now) NextOn next_step order built before told s items t u is tells along last lost

  pub begins_on_disk : {T : Type 0} (order : T → Order) (built : Built T) (before : Streams) (told : State) (s : OnDisk D W) (items : List Item)
      (t : OnDisk D W) (item : Item) (u : OnDisk D W)
      → at_walk s ≡ begun order built before → state s.disk.now ≡ Some told → Yields NextOn s items t → NextOn t (Some item) u → NoneLost items
      → is_lost (Some item) ≡ false
      → (rest : List Item) × IsWalk (walking order (tree_of told) built) (items ++ item ∷ rest)
  begins_on_disk order built before told s items t item u is tells along last lost kept =
      begins_with at_walk (λ x. state x.disk.now) NextOn next_step order built before told s items t item u is tells along last lost kept

-- what holds of a value wherever there is one
pub if_told : {A : Type 0} (told : Option A) (Holds : A → Type 0) → ((x : A) → told ≡ Some x → Holds x) → IfSome told Holds
if_told None Holds each = tt
if_told (Some x) Holds each = each x refl
