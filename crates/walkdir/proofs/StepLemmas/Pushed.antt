-- A directory is entered, or left.
use Rattle.std.proofs.Common.{◌≡◌, ℕ, ◌+◌, ◌-◌, ◌*◌, ◌^◌, ◌≤◌, false, max, List, [], ◌∷◌, length, Option, Some, None, refl, sym, ap, subst, ◌∙◌, arith}
use Rattle.std.specs.List.{cons_option}
use Rattle.std.specs.FinMap as finite
use native.Mathlib.Nat.{mul-le-mul_right, one-le-pow}
use Rattle.odb_disk.specs.Streams.{Streams, open_count}
use Rattle.walkdir.specs.Failures.{Costs, failures_left, waiting}
use Rattle.walkdir.specs.OwnStreams.{OpenDirs, Owns}
use Rattle.walkdir.specs.Progress.{Progress, Keeps}
use Rattle.walkdir.specs.Directory.{is_skipped, left_in, many, stream_in, without_stream}
use Rattle.walkdir.specs.Stack.{own_streams, weight, work_in}
use Rattle.walkdir.specs.Turns.{GoesOn, LeavesLess, fresh}
use Rattle.walkdir.specs.Turns.Drawn.{OpensAtMost}
use Rattle.walkdir.specs.declared.directory.DirList.{DirList}
use Rattle.walkdir.proofs.OwnStreamsLemmas.{owns_closed, owns_opened, owns_same, remove_new}
use Rattle.walkdir.proofs.SkippedLemmas.{skips_popped, skips_pushed}
use Rattle.walkdir.proofs.WorkLemmas.{NoneMore, less_opened, less_same, none_without, work_less, work_none_more}
use Rattle.walkdir.proofs.FailuresLaws.{costs_none}
use Rattle.walkdir.proofs.StepLemmas.{Same, fails_by, goes_drawn, goes_then, keeps_open, most_of, owns_as, work_as}

-- ---- a directory that is entered

pushed_owns : (before : Streams) (most : ℕ) (own : List ℕ) (now new : Streams) (dir : Option ℕ) → Owns before most own now → length own + 1 ≤ most
    → OpensAtMost now dir new
    → Owns before most (cons_option dir own) new
pushed_owns before most own now new None owns room opens = owns_same before most own now new owns room opens.dirs opens.peak
pushed_owns before most own now new (Some dir) owns room opens =
    owns_opened before most own dir now new opens.dirs.0 owns room opens.dirs.1 opens.dirs.3 opens.peak

pub goes_pushed : (old new : Progress) (list : DirList) (before now : ℕ) → Same old new → new.stack ≡ list ∷ old.stack
    → OpensAtMost old.streams (stream_in list.items) new.streams
    → length (own_streams old.stack) + 1 ≤ old.options.max_open → left_in new.streams list.items ≤ 2 ^ 64
    → Costs (failures_left list.items) before now
    → is_skipped list.items ≡ false → GoesOn old before 0 (fresh old.options.max_depth (length old.stack)) new now
unfolding work_in
goes_pushed old new list before now same is opens room bounded costs unskipped =
    let there : waiting new.stack ≡ failures_left list.items + waiting old.stack = ap waiting is in
    record {
      options = same.options;
      order = same.order;
      start = same.start;
      keeps = λ streams keeps. owns_as streams old.options.max_open new.options.max_open (cons_option (stream_in list.items) (own_streams old.stack))
          (own_streams new.stack) new.streams new.streams
          (most_of old new same) (ap own_streams (sym is)) refl
          (pushed_owns streams old.options.max_open (own_streams old.stack) old.streams new.streams (stream_in list.items) keeps room opens);
      faults = fails_by old new (failures_left list.items) 0 before now costs (omega arith);
      skips = skips_pushed list old.stack new.stack is unskipped;
      work = λ streams k.
          let le : work_in old.options.max_depth new.streams old.stack ≤ work_in old.options.max_depth old.streams old.stack =
          work_less old.options.max_depth old.streams new.streams old.stack (keeps_open streams old k)
          (less_opened old.streams (stream_in list.items) new.streams opens) in
          let here : (left_in new.streams list.items + 1) * weight old.options.max_depth (length old.stack)
          ≤ (2 ^ 64 + 1) * weight old.options.max_depth (length old.stack) =
          mul-le-mul_right (weight old.options.max_depth (length old.stack)) (omega arith) in
          work_as old new (fresh old.options.max_depth (length old.stack)) same
          (subst (λ s. work_in old.options.max_depth new.streams s ≤ work_in old.options.max_depth old.streams old.stack + fresh old.options.max_depth
          (length old.stack)) (sym is) (omega arith));
    }

-- a directory was opened, but isn't put on the stack
pub goes_failed : (old new : Progress) (count before now : ℕ) → Same old new → new.stack ≡ old.stack → new.streams.open_dirs ≡ old.streams.open_dirs
    → new.streams.peak ≤ max old.streams.peak (open_count old.streams + 1) → length (own_streams old.stack) + 1 ≤ old.options.max_open
    → Costs count before now
    → GoesOn old before count 0 new now
goes_failed old new count before now same stack dirs peak room costs =
    goes_drawn old new count before now same stack (less_same old.streams new.streams dirs)
    (λ streams keeps. owns_as streams old.options.max_open new.options.max_open (own_streams old.stack)
    (own_streams new.stack) new.streams new.streams (most_of old new same)
    (ap own_streams (sym stack)) refl (owns_same streams old.options.max_open (own_streams old.stack) old.streams new.streams keeps room dirs peak))
    costs

pub reopened : (old : Streams) (dir : Option ℕ) (mid : Streams) → OpensAtMost old dir mid → (without_stream dir mid).open_dirs ≡ old.open_dirs
reopened old None mid opens = opens.dirs
reopened old (Some dir) mid opens = ap (λ (m : OpenDirs). finite.remove m dir) opens.dirs.3 ∙ remove_new old.open_dirs dir opens.dirs.0 opens.dirs.1

-- ---- a directory that is left

popped_owns : (before : Streams) (most : ℕ) (dir : Option ℕ) (own : List ℕ) (now : Streams) → Owns before most (cons_option dir own) now
    → Owns before most own (without_stream dir now)
popped_owns before most None own now owns = owns
popped_owns before most (Some dir) own now owns =
    owns_closed before most [] dir own now owns (let few : length (dir ∷ own) ≤ most = owns.few in omega arith)

pub weight_some : (most depth : ℕ) → 1 ≤ weight most depth
unfolding weight
weight_some most depth = one-le-pow (most - depth) many (omega arith)

work_popped : (old new : Progress) (list : DirList) → Same old new → old.stack ≡ list ∷ new.stack
    → new.streams ≡ without_stream (stream_in list.items) old.streams
    → (streams : Streams) → Keeps streams old
    → work_in new.options.max_depth new.streams new.stack + 1 ≤ work_in old.options.max_depth old.streams old.stack
unfolding work_in
work_popped old new list same was closed streams k =
    let none : NoneMore (own_streams new.stack) old.streams new.streams =
    subst (NoneMore (own_streams new.stack) old.streams) (sym closed) (none_without (own_streams new.stack) old.streams (stream_in list.items)) in
    let le : work_in old.options.max_depth new.streams new.stack ≤ work_in old.options.max_depth old.streams new.stack =
    work_none_more old.options.max_depth old.streams new.streams new.stack none in
    let there : work_in old.options.max_depth old.streams old.stack
    ≡ (left_in old.streams list.items + 1) * weight old.options.max_depth (length new.stack) + work_in old.options.max_depth old.streams new.stack =
    ap (work_in old.options.max_depth old.streams) was in
    let here : work_in new.options.max_depth new.streams new.stack ≡ work_in old.options.max_depth new.streams new.stack =
    ap (λ o. work_in o.max_depth new.streams new.stack) same.options in
    let one : 1 * weight old.options.max_depth (length new.stack)
    ≤ (left_in old.streams list.items + 1) * weight old.options.max_depth (length new.stack) =
    mul-le-mul_right (weight old.options.max_depth (length new.stack)) (omega arith) in
    let some = weight_some old.options.max_depth (length new.stack) in
    omega arith

pub pops_less : (old new : Progress) (list : DirList) → Same old new → old.stack ≡ list ∷ new.stack
    → new.streams ≡ without_stream (stream_in list.items) old.streams
    → (streams : Streams) → Keeps streams old → LeavesLess old new
pops_less old new list same was closed streams k = let le = work_popped old new list same was closed streams k in omega arith

pub goes_popped : (old new : Progress) (list : DirList) (at : ℕ) → Same old new → old.stack ≡ list ∷ new.stack
    → new.streams ≡ without_stream (stream_in list.items) old.streams
    → GoesOn old at 0 0 new at
unfolding work_in
goes_popped old new list at same was closed =
    let there : waiting old.stack ≡ failures_left list.items + waiting new.stack = ap waiting was in
    record {
      options = same.options;
      order = same.order;
      start = same.start;
      keeps = λ streams keeps. owns_as streams old.options.max_open new.options.max_open (own_streams new.stack) (own_streams new.stack)
          (without_stream (stream_in list.items) old.streams) new.streams
          (most_of old new same) refl (sym closed)
          (popped_owns streams old.options.max_open (stream_in list.items) (own_streams new.stack) old.streams
          (subst (λ s. Owns streams old.options.max_open (own_streams s) old.streams) was keeps));
      faults = fails_by old new 0 0 at at (costs_none at at (omega arith)) (omega arith);
      skips = skips_popped list old.stack new.stack was;
      work = λ streams k. let le = work_popped old new list same was closed streams k in omega arith;
    }

-- ---- a directory that is entered after room was made

pub goes_more : (a b : Progress) (x y given less more : ℕ) → less ≤ more → GoesOn a x given less b y → GoesOn a x given more b y
goes_more a b x y given less more le goes = record {
  options = goes.options;
  order = goes.order;
  start = goes.start;
  keeps = goes.keeps;
  faults = goes.faults;
  skips = goes.skips;
  work = λ streams keeps. let w = goes.work streams keeps in omega arith;
}

pub goes_in : (a b c : Progress) (x y z depth : ℕ) → length b.stack ≡ depth → GoesOn a x 0 0 b y
    → GoesOn b y 0 (fresh b.options.max_depth (length b.stack)) c z
    → GoesOn a x 0 (fresh a.options.max_depth depth) c z
goes_in a b c x y z depth at first second =
    let e : fresh b.options.max_depth (length b.stack) ≡ fresh a.options.max_depth depth = ap (λ o. fresh o.max_depth (length b.stack)) first.options
    ∙ ap (fresh a.options.max_depth) at in
    goes_then a b c x y z 0 0 0 0 (fresh b.options.max_depth (length b.stack)) (fresh a.options.max_depth depth) (omega arith)
    (omega arith) first second

pub goes_back : (a b c : Progress) (x y z more : ℕ) → GoesOn a x 0 0 b y → GoesOn b y 0 0 c z → GoesOn a x 0 more c z
goes_back a b c x y z more first second =
    goes_more a c x z 0 0 more (omega arith) (goes_then a b c x y z 0 0 0 0 0 0 (omega arith) (omega arith) first second)

pub peak_without : (dir : Option ℕ) (streams : Streams) → (without_stream dir streams).peak ≡ streams.peak
peak_without None streams = refl
peak_without (Some dir) streams = refl
