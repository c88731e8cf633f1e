-- What one turn gives.
use Rattle.std.proofs.Common.{◌≡◌, [], ◌∷◌, ◌++◌, map, Option, Some, None, Result, Ok, Err, refl, sym, ap, subst, ◌∙◌, ◌<◌, length, reverse, arith, false}
use Rattle.std.specs.Prelude.{◌≢◌, IfSome, IfErr}
use Rattle.std.specs.Option.{option_to_list, option_map}
use Rattle.odb_base.specs.Path.{Path}
use Rattle.odb_disk.specs.Streams.{Streams}
use Rattle.odb_disk.specs.Tree.{State}
use Rattle.walkdir.specs.Failures.{failures_given, failures_of}
use Rattle.walkdir.specs.Progress.{Progress, GivesNext, IsOf, Keeps, is_lost, still_to_come, is_innermost, work_left}
use Rattle.walkdir.specs.Stack.{StandsFor, ancestors}
use Rattle.walkdir.specs.Turns.Stands.{BeginsWalk, DrawsChild, HandlesEntry, IsIn, LeavesIt}
use Rattle.walkdir.specs.Turns.{handed, item_of, turn_given, turn_of, Turns}
use Rattle.walkdir.specs.Walk.{Walking, IsWalk, Order}
use Rattle.walkdir.specs.declared.dent.DirEntry.{DirEntry}
use Rattle.walkdir.specs.declared.error.Error.{Error}
use Rattle.walkdir.proofs.ProgressLemmas.{item_turn, ends_less}
use Rattle.walkdir.proofs.TurnsLemmas.{stands_for, still_gives}
use lib.ListN.{length-reverse}
use Rattle.walkdir.specs.StackProgress.{progress, KeepsStack}
use Rattle.walkdir.specs.declared.stack.Stack.{Stack}
use Rattle.walkdir.specs.Causes.{IsCausedAmong}
use Rattle.walkdir.specs.Innermost.{IsAfter, SkipsNone}
use Rattle.walkdir.specs.declared.stack.Turn.{Turn}
use Rattle.walkdir.proofs.CausesLemmas.{caused_turn}
use Rattle.walkdir.proofs.InnermostLemmas.{after_turn}

-- the root is handled
pub turn_begins : (state : Option State) (old mid new : Progress) (root : Path) (r : Result (Option DirEntry) Error) → old.start ≡ Some root
    → mid.options ≡ old.options → mid.order ≡ old.order
    → ((before : Streams) → Keeps before old → Keeps before mid) → new.options ≡ old.options → new.order ≡ old.order → new.start ≡ None
    → BeginsWalk state mid root (handed r) new → GivesNext state old (item_of (turn_of r)) new
turn_begins None old mid new root r start options order keeps same ordered begun begins = tt
turn_begins (Some s) old mid new root r start options order keeps same ordered begun begins = λ walk before tree of kept lost.
    let item = item_turn r in
    let is_root : root ≡ walk.root = subst (λ o. IfSome o (λ p. p ≡ walk.root)) start of.start in
    let all = begins walk tree (sym (options ∙ of.options)) (sym (order ∙ of.order)) (sym is_root) before (keeps before kept)
    (ap is_lost (sym item) ∙ lost) in (
      record {
        options = same ∙ of.options;
        order = ordered ∙ of.order;
        start = subst (λ o. IfSome o (λ p. p ≡ walk.root)) (sym begun) tt;
        device = all.0;
      },
      λ rest left.
          let whole : IsWalk walk (option_to_list (handed r) ++ rest) = all.1 rest (stands_for walk new rest begun left) in
          subst (λ o. still_to_come walk old o (option_to_list (item_of (turn_of r)) ++ rest)) (sym start)
          (subst (λ i. IsWalk walk (option_to_list i ++ rest)) (sym item) whole),
    )

-- what stays of a walk that has begun, and isn't over
pub record Runs (old new : Progress) : Type 0 where
  pub begun : old.start ≡ None
  pub some : old.stack ≢ []
  pub options : new.options ≡ old.options
  pub order : new.order ≡ old.order
  pub start : new.start ≡ None
  pub device : new.device ≡ old.device

-- a walk that has begun, and is in some directory, goes on if its stack is kept
pub runs_kept : {S : Type 0} (order : S → Order) (old new : Stack S) (a b : Streams) → old.start ≡ None → 0 < length old.lists.items
    → KeepsStack old new → new.start ≡ None → Runs (progress order old a) (progress order new b)
runs_kept order old new a b first some kept start = record {
  begun = first;
  some = λ empty. (let none : length (reverse old.lists.items) ≡ 0 = ap length empty in let same = length-reverse old.lists.items in omega arith);
  options = kept.options;
  order = ap (option_map order) kept.sorter;
  start = start;
  device = kept.device;
}

pub runs_on : (old mid new : Progress) → Runs old mid → new.options ≡ mid.options → new.order ≡ mid.order → new.start ≡ mid.start
    → new.device ≡ mid.device → Runs old new
runs_on old mid new there options order start device = record {
  begun = there.begun;
  some = there.some;
  options = options ∙ there.options;
  order = order ∙ there.order;
  start = start ∙ there.start;
  device = device ∙ there.device;
}

runs_of : (walk : Walking) (old new : Progress) → Runs old new → IsOf walk old → IsOf walk new
runs_of walk old new runs of = record {
  options = runs.options ∙ of.options;
  order = runs.order ∙ of.order;
  start = subst (λ o. IfSome o (λ p. p ≡ walk.root)) (sym runs.start) tt;
  device = λ _ same. of.device runs.some same ∙ ap Some (sym runs.device);
}

-- the stack of a walk that goes on is this walk's
pub in_after : (walk : Walking) (old new : Progress) → Runs old new → IsOf walk old → IsIn walk new
in_after walk old new runs of = record {
  options = runs.options ∙ of.options;
  order = runs.order ∙ of.order;
  device = λ same. of.device runs.some same ∙ ap Some (sym runs.device);
}

-- the walk of a child that was drawn
pub turn_handles : (state : Option State) (old mid new : Progress) (entry : DirEntry) (r : Result (Option DirEntry) Error) → Runs old mid
    → Runs old new
    → ((before : Streams) → Keeps before old → Keeps before mid) → DrawsChild old (Some (Ok entry)) mid → HandlesEntry state mid entry (handed r) new
    → GivesNext state old (item_of (turn_of r)) new
turn_handles None old mid new entry r runs goes keeps draws handles = tt
turn_handles (Some s) old mid new entry r runs goes keeps draws handles = λ walk before tree of kept lost.
    let item = item_turn r in
    let is_in = in_after walk old mid runs of in (
      runs_of walk old new goes of,
      λ rest left.
          let parts = handles walk tree is_in before (keeps before kept)
          (ap is_lost (sym item) ∙ lost) rest (stands_for walk new rest goes.start left) in
          let all : StandsFor walk old.streams old.stack (parts.0 ++ parts.1.0) = draws walk before kept parts.0 parts.1.0 parts.1.1 parts.1.2 in
          let joined : parts.0 ++ parts.1.0 ≡ option_to_list (item_of (turn_of r)) ++ rest = sym parts.1.3 ∙ ap (λ i. option_to_list i ++ rest)
          (sym item) in
          still_gives walk old (option_to_list (item_of (turn_of r)) ++ rest) goes.begun (subst (StandsFor walk old.streams old.stack) joined all),
    )

-- an error in place of a child
pub turn_fails : (state : Option State) (old new : Progress) (error : Error) → Runs old new → DrawsChild old (Some (Err error)) new
    → GivesNext state old (Some (Err error)) new
turn_fails None old new error runs draws = tt
turn_fails (Some s) old new error runs draws = λ walk before tree of kept lost. (
  runs_of walk old new runs of,
  λ rest left. still_gives walk old (Err error ∷ rest) runs.begun
      (draws walk before kept lost rest (stands_for walk new rest runs.start left)),
)

-- ---- the failures of a turn

pub failures_turned : (r : Result (Option DirEntry) Error) → failures_given (item_of (turn_of r)) ≡ failures_of r
failures_turned (Ok None) = refl
failures_turned (Ok (Some entry)) = refl
failures_turned (Err error) = refl

pub no_failure_given : (entry : Option DirEntry) → failures_given (item_of (turn_given entry)) ≡ 0
no_failure_given None = refl
no_failure_given (Some entry) = refl

-- ---- a directory that is left

given_list : (entry : Option DirEntry) → option_to_list (item_of (turn_given entry)) ≡ map Ok (option_to_list entry)
given_list None = refl
given_list (Some entry) = refl

-- a directory that is over
pub turn_leaves : (state : Option State) (old mid new : Progress) (entry : Option DirEntry) → Runs old new → mid.options ≡ old.options
    → ((before : Streams) → Keeps before old → Keeps before mid)
    → DrawsChild old None mid → LeavesIt mid entry new → GivesNext state old (item_of (turn_given entry)) new
turn_leaves None old mid new entry runs options keeps draws leaves = tt
turn_leaves (Some s) old mid new entry runs options keeps draws leaves = λ walk before tree of kept lost. (
  runs_of walk old new runs of,
  λ rest left.
      let over = draws before kept in
      let all : StandsFor walk mid.streams mid.stack (map Ok (option_to_list entry) ++ rest) =
      leaves walk before (sym (options ∙ of.options)) (keeps before kept) over.0 rest (stands_for walk new rest runs.start left) in
      still_gives walk old (option_to_list (item_of (turn_given entry)) ++ rest) runs.begun
      (subst (λ i. StandsFor walk old.streams old.stack (i ++ rest)) (sym (given_list entry))
      (over.1 walk (map Ok (option_to_list entry) ++ rest) all)),
)

-- a turn that gives what a call gave
pub turns_of : (old new : Progress) (turn : Turn) (r : Result (Option DirEntry) Error) → turn ≡ turn_of r → new.options ≡ old.options
    → ((before : Streams) → Keeps before old → Keeps before new)
    → (old.entered ≡ false → new.entered ≡ is_innermost new.stack (handed r)) → work_left new < work_left old
    → IfErr r (λ e. IsCausedAmong new.options (ancestors new.stack) e)
    → IsAfter new.options (handed r) new.stack → SkipsNone old.stack new.stack → Turns old turn new
turns_of old new turn r is options keeps entered less causes innermost skips = subst (λ t. Turns old t new) (sym is) (record {
  options = options;
  keeps = keeps;
  entered = λ no. entered no ∙ ap (is_innermost new.stack) (sym (item_turn r));
  ends = ends_less old new r less;
  causes = caused_turn new r causes;
  innermost = after_turn new.options r new.stack innermost;
  skips = skips;
})
