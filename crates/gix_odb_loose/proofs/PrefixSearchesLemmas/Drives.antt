-- A look-up of a prefix that is driven on a disk: after a call, and where memory ran out.
use Rattle.std.specs.Prelude.{⊤}
use Rattle.std.proofs.Common.{◌≡◌, ℕ, Bool, false, arith, ◌<◌, ◌≤◌, [], Option, Some, None, Result, Ok, Err, IfOk, OnOk, refl, sym, subst}
use Rattle.odb_disk.specs.Streams.{Streams, with_closed}
use Rattle.odb_disk.specs.Tree.{State}
use Rattle.odb_base.specs.declared.no_memory.NoMemory.{NoMemory}
use Rattle.odb_disk.specs.declared.ask.DiskAnswer.{DiskAnswer}
use Rattle.odb_disk.specs.declared.ask.DiskAsk.{DiskAsk}
use Rattle.odb_base.specs.Path.{Path}
use Rattle.gix_hash.specs.Prefix.{IsPrefix, PrefixOf}
use Rattle.walkdir.specs.Error.{no_memory}
use Rattle.walkdir.specs.OwnStreams.{AreBack}
use Rattle.walkdir.specs.declared.error.Error.{Error}
use Rattle.gix_odb_loose.specs.PrefixCauses.{PrefixCause}
use Rattle.gix_odb_loose.specs.PrefixOrder.{ask_of, begun, fed}
use Rattle.gix_odb_loose.specs.PrefixSearches.{Began, IsAnswered, OwnsOne, Stands, StandsAfter, calls_after, calls_at, own_after}
use Rattle.gix_odb_loose.specs.declared.prefix_search.PrefixSearch.{PrefixSearch}
use Rattle.gix_odb_loose.specs.declared.prefix_search.SearchStage.TheVariants as stages
use Rattle.gix_odb_loose.specs.declared.prefix_search.SearchStep.{SearchStep}
use Rattle.gix_odb_loose.proofs.PrefixSearchesLemmas.Answered.{owns_after, turns}
use Rattle.gix_odb_loose.proofs.PrefixSearchesLemmas.Matches.{none_named}
use Rattle.gix_odb_loose.proofs.NameSetLemmas.{none_distinct}
use Rattle.gix_odb_loose.proofs.PrefixSearchesLemmas.Streams.{own_back, own_closed, own_same}

-- its stream was closed
pub closed_back : (own : Option ℕ) (dir : ℕ) (old new : Streams) → own ≡ Some dir → new ≡ with_closed old dir → (b : Began) → OwnsOne b own old → AreBack b.streams 1 new
closed_back own dir old new is closed b owns = own_back b new (own_closed b old new dir closed (subst (λ (o : Option ℕ). OwnsOne b o old) is owns))

-- it had none
pub unclosed_back : (own : Option ℕ) (old new : Streams) → own ≡ None → new ≡ old → (b : Began) → OwnsOne b own old → AreBack b.streams 1 new
unclosed_back own old new is same b owns =
    own_back b new (own_same b None old new same (subst (λ (o : Option ℕ). OwnsOne b o old) is owns))

pub back_by : (own known : Option ℕ) (old new : Streams) → own ≡ known → ((b : Began) → OwnsOne b own old → AreBack b.streams 1 new) → (b : Began) → OwnsOne b known old → AreBack b.streams 1 new
back_by own known old new is back b owns = back b (subst (λ (o : Option ℕ). OwnsOne b o old) (sym is) owns)

module _ (b : Began) (state : Option State) (is : b.state ≡ state) (old new : Streams) (before now : ℕ) (then : before ≤ now) (search : PrefixSearch) (answer : DiskAnswer) (stands : Stands b old before search)
    (answered : IsAnswered (ask_of search) state old new before now answer) where
  told : IsAnswered (ask_of search) b.state old new before now answer
  told = subst (λ (s : Option State). IsAnswered (ask_of search) s old new before now answer) (sym is) answered

  -- a step by the answer
  pub step_stands : (step : SearchStep) → step ≡ fed search answer → StandsAfter b new now step
  step_stands step by = subst (StandsAfter b new now) (sym by) (turns b old new before now then search answer stands told).0

  pub step_fewer : (step : SearchStep) → step ≡ fed search answer → calls_after new step < calls_at old search.stage
  step_fewer step by = subst (λ (s : SearchStep). calls_after new s < calls_at old search.stage) (sym by) (turns b old new before now then search answer stands told).1

  pub owns_then : OwnsOne b (own_after search.stage answer) new
  owns_then = owns_after b old new before now then search answer stands told

-- ---- a turn, where `mid` is the disk after the call

module _ {D : Type 0} (streams : D → Streams) (faults : D → ℕ) (b : Began) (state : Option State) (old : Streams) (before : ℕ) (mid newer : D) (search : PrefixSearch) (answer : DiskAnswer)
    (result : Result SearchStep NoMemory) (then : before ≤ faults mid) (answered : IsAnswered (ask_of search) state old (streams mid) before (faults mid) answer) (is : b.state ≡ state)
    (stands : Stands b old before search) where
  pub turn_stands : IfOk result (λ step. step ≡ fed search answer) → OnOk result (newer ≡ mid) → IfOk result (StandsAfter b (streams newer) (faults newer))
  turn_stands by same = go result by same
    where
      go : (r : Result SearchStep NoMemory) → IfOk r (λ step. step ≡ fed search answer) → OnOk r (newer ≡ mid) → IfOk r (StandsAfter b (streams newer) (faults newer))
      go (Ok step) step_by disk_same =
          subst (λ (d : D). StandsAfter b (streams d) (faults d) step) (sym disk_same) (step_stands b state is old (streams mid) before (faults mid) then search answer stands answered step step_by)
      go (Err error) step_by disk_same = tt

  pub turn_fewer : IfOk result (λ step. step ≡ fed search answer) → OnOk result (newer ≡ mid) → IfOk result (λ step. calls_after (streams newer) step < calls_at old search.stage)
  turn_fewer by same = go result by same
    where
      go : (r : Result SearchStep NoMemory) → IfOk r (λ step. step ≡ fed search answer) → OnOk r (newer ≡ mid) → IfOk r (λ step. calls_after (streams newer) step < calls_at old search.stage)
      go (Ok step) step_by disk_same =
          subst (λ (d : D). calls_after (streams d) step < calls_at old search.stage) (sym disk_same) (step_fewer b state is old (streams mid) before (faults mid) then search answer stands answered step step_by)
      go (Err error) step_by disk_same = tt

pub turn_asked : {D : Type 0} (Answered : D → DiskAsk → DiskAnswer → D → Type 0) (first mid newer : D) (search : PrefixSearch) (answer : DiskAnswer) (result : Result SearchStep NoMemory)
    → Answered first (ask_of search) answer mid → IfOk result (λ step. step ≡ fed search answer) → OnOk result (newer ≡ mid)
    → IfOk result (λ step. (given : DiskAnswer) × Answered first (ask_of search) given newer × (step ≡ fed search given))
turn_asked Answered first mid newer search answer (Ok step) was by same = (answer, subst (λ d. Answered first (ask_of search) answer d) (sym same) was, by)
turn_asked Answered first mid newer search answer (Err error) was by same = tt

-- ---- a new look-up

pub back_unmoved : (s : Streams) → AreBack s 1 s
back_unmoved s = record { same = refl; peak = omega arith }

pub stands_first : (state : Option State) (s : Streams) (faults : ℕ) (objects : Path) (prefix : PrefixOf) (gather : Bool) (search : PrefixSearch) → IsPrefix prefix → search ≡ begun objects prefix gather
    → Stands (record { state = state; streams = s; faults = faults; objects = objects; prefix = prefix; gather = gather }) s faults search
stands_first state s faults objects prefix gather search is begins =
    let b : Began = record { state = state; streams = s; faults = faults; objects = objects; prefix = prefix; gather = gather } in
    record {
      prefix = is;
      names = [];
      stage = stages.Statting false;
      is = begins;
      distinct = none_distinct;
      named = none_named b;
      own = record { beside = refl; peak = omega arith };
      at = λ s here. refl;
      breaks = tt;
      later = omega arith;
    }

pub memory_cause : (objects : Path) (prefix : PrefixOf) (state : Option State) (Failed : Type 0) (error : Error) → error ≡ no_memory → PrefixCause objects prefix state Failed ⊤ error
memory_cause objects prefix state Failed error is = subst (PrefixCause objects prefix state Failed ⊤) (sym is) tt
