-- Laws of failures by the disk's count of faults: of calls, of what a walk gives, and of a walk that goes on.
use Rattle.std.proofs.Common.{◌≡◌, ℕ, ◌+◌, ◌≤◌, Bool, true, false, List, [], ◌∷◌, ◌++◌, map, Result, Ok, Err, refl, sym, ap, subst, arith}
use Rattle.std.specs.Prelude.{if◌then◌else◌}
use Rattle.std.specs.Result.{IsErrAnd}
use Rattle.walkdir.specs.Error.{failures, failures_in, is_no_memory, is_no_memory_inner}
use Rattle.walkdir.specs.Failures.{RoseBy, Costs, failures_among, failures_of, waiting}
use Rattle.walkdir.specs.Progress.{FailsByFault, Progress}
use Rattle.walkdir.specs.Skips.{skipped}
use Rattle.walkdir.specs.Directory.{is_skipped}
use Rattle.walkdir.specs.Walk.{Item}
use Rattle.walkdir.specs.declared.dent.DirEntry.{DirEntry}
use Rattle.walkdir.specs.declared.directory.DirList.{DirList}
use Rattle.walkdir.specs.declared.directory.Items.TheVariants.{Skipped}
use Rattle.walkdir.specs.declared.error.Error.{Error}
use Rattle.walkdir.specs.declared.error.ErrorInner.{ErrorInner}
use Rattle.walkdir.specs.declared.error.ErrorInner.TheVariants.{Io, Loop, NoMemory}

-- ---- of calls

pub costs_none : (before now : ℕ) → before ≤ now → Costs 0 before now
costs_none before now later = record { later = later; rose = omega arith }

pub costs_then : (a b x y z : ℕ) → Costs a x y → Costs b y z → Costs (a + b) x z
costs_then a b x y z first second =
    let later : x ≤ y = first.later in
    let more : y ≤ z = second.later in
    let rose : RoseBy a x y = first.rose in
    let again : RoseBy b y z = second.rose in
    record { later = omega arith; rose = omega arith }

-- fewer failures than the count rose by
pub costs_fewer : (count fewer before now : ℕ) → fewer ≤ count → Costs count before now → Costs fewer before now
costs_fewer count fewer before now less costs =
    let rose : RoseBy count before now = costs.rose in
    record { later = costs.later; rose = omega arith }

pub costs_zero : (count before now : ℕ) → Costs count before now → Costs 0 before now
costs_zero count before now costs = costs_none before now costs.later

pub costs_later : (count before now last : ℕ) → Costs count before now → now ≤ last → Costs count before last
costs_later count before now last costs later =
    let first : before ≤ now = costs.later in
    let rose : RoseBy count before now = costs.rose in
    record { later = omega arith; rose = omega arith }

pub costs_earlier : (count first before now : ℕ) → first ≤ before → Costs count before now → Costs count first now
costs_earlier count first before now less costs =
    let later : before ≤ now = costs.later in
    let rose : RoseBy count before now = costs.rose in
    record { later = omega arith; rose = omega arith }

-- the counts under other names
pub costs_as : (count first last before now : ℕ) → first ≡ before → now ≡ last → Costs count first last → Costs count before now
costs_as count first last before now is same costs = subst (λ n. Costs count n now) is (subst (Costs count first) (sym same) costs)

-- what the error of an answer costs, the answer costs
pub costs_of_error : {A : Type 0} (result : Result A Error) (error : Error) (before now : ℕ) → IsErrAnd result (λ e. e ≡ error)
    → Costs (failures error) before now → Costs (failures_of result) before now
costs_of_error (Ok x) error before now is costs = absurd is
costs_of_error (Err e) error before now is costs = subst (λ (e : Error). Costs (failures e) before now) (sym is) costs

-- ---- of what a walk gives

pub failures-append : (items more : List Item) → failures_among (items ++ more) ≡ failures_among items + failures_among more
failures-append [] more = omega arith
failures-append (item ∷ items) more = let rest = failures-append items more in omega arith

pub failures-push : (items : List Item) (item : Item) → failures_among (items ++ item ∷ []) ≡ failures_among items + failures_of item
failures-push items item = let e = failures-append items (item ∷ []) in omega arith

-- entries alone, and then an error
pub failures-last : (entries : List DirEntry) (error : Error) → failures_among (map Ok entries ++ Err error ∷ []) ≡ failures error
failures-last [] error = omega arith
failures-last (entry ∷ entries) error = let rest = failures-last entries error in omega arith

no_failure_in : (inner : ErrorInner) → is_no_memory_inner inner ≡ true → failures_in inner ≡ 0
no_failure_in (Io path error) is = absurd cc
no_failure_in (Loop ancestor child) is = absurd cc
no_failure_in NoMemory is = refl

-- out of memory is no failure of the disk
pub memory_is_no_failure : (error : Error) → is_no_memory error ≡ true → failures error ≡ 0
memory_is_no_failure error is = no_failure_in error.inner is

-- ---- of what a stack still has

pub waiting-append : (inner outer : List DirList) → waiting (inner ++ outer) ≡ waiting inner + waiting outer
waiting-append [] outer = omega arith
waiting-append (list ∷ inner) outer = let rest = waiting-append inner outer in omega arith

skip_waits : (b : Bool) (list : DirList) (outer : List DirList) → is_skipped list.items ≡ b → waiting (skipped outer) ≤ waiting outer
    → waiting (if b then list ∷ skipped outer else (record list { items = Skipped }) ∷ outer) ≤ waiting (list ∷ outer)
skip_waits true list outer is less = omega arith
skip_waits false list outer is less = omega arith

-- a skip leaves no more failures waiting
pub waiting_skipped : (stack : List DirList) → waiting (skipped stack) ≤ waiting stack
waiting_skipped [] = omega arith
waiting_skipped (list ∷ outer) = skip_waits (is_skipped list.items) list outer refl (waiting_skipped outer)

-- ---- of a walk that goes on

pub fails_none : (at : Progress) (count : ℕ) → FailsByFault at count 0 at count
fails_none at count = record {
  later = omega arith;
  rose = λ start given rose. subst (λ n. RoseBy n start count) (sum (waiting at.stack) given) rose;
}
  where
    sum : (left given : ℕ) → given + left ≡ given + 0 + left
    sum left given = omega arith

pub fails_then : (old mid new : Progress) (x y z first more : ℕ) → FailsByFault old x first mid y → FailsByFault mid y more new z
    → FailsByFault old x (first + more) new z
fails_then old mid new x y z first more one next = record {
  later = (let low : x ≤ y = one.later in let high : y ≤ z = next.later in omega arith);
  rose = λ start given rose. subst (λ n. RoseBy n start z) (sum given (waiting new.stack))
      (next.rose start (given + first) (one.rose start given rose));
}
  where
    sum : (given left : ℕ) → given + first + more + left ≡ given + (first + more) + left
    sum given left = omega arith

-- nothing failed so far
pub fails_next : (old mid new : Progress) (x y z more : ℕ) → FailsByFault old x 0 mid y → FailsByFault mid y more new z
    → FailsByFault old x more new z
fails_next old mid new x y z more one next =
    let same : 0 + more ≡ more = omega arith in
    subst (λ n. FailsByFault old x n new z) same (fails_then old mid new x y z 0 more one next)

pub fails_fewer : (old new : Progress) (x y count fewer : ℕ) → fewer ≤ count → FailsByFault old x count new y → FailsByFault old x fewer new y
fails_fewer old new x y count fewer less fails = record {
  later = fails.later;
  rose = λ start given rose. (let all : RoseBy (given + count + waiting new.stack) start y = fails.rose start given rose in omega arith);
}

-- nothing is given if nothing changes
pub fails_same : (old new : Progress) (at : ℕ) → new.stack ≡ old.stack → FailsByFault old at 0 new at
fails_same old new at stack =
    let same : waiting new.stack ≡ waiting old.stack = ap waiting stack in
    record {
      later = omega arith;
      rose = λ begun count was.
          let p : RoseBy (count + waiting old.stack) begun at = was in
          omega arith;
    }

-- a walk that is over has no failures left
pub fails_over : (old mid new : Progress) (x y given : ℕ) → FailsByFault old x given mid y → new.stack ≡ [] → FailsByFault old x given new y
fails_over old mid new x y given fails over =
    let none : waiting new.stack ≡ 0 = ap waiting over in
    record {
      later = fails.later;
      rose = λ begun count was.
          let p : RoseBy (count + given + waiting mid.stack) begun y = fails.rose begun count was in
          omega arith;
    }

pub fails_skipped : (old new : Progress) (x y : ℕ) → new.stack ≡ skipped old.stack → y ≡ x → FailsByFault old x 0 new y
fails_skipped old new x y stack same =
    let is : waiting new.stack ≡ waiting (skipped old.stack) = ap waiting stack in
    let less = waiting_skipped old.stack in
    record {
      later = omega arith;
      rose = λ start given rose. (let was : RoseBy (given + waiting old.stack) start x = rose in omega arith);
    }

-- the failures among the items that were given so far
module _ (first at new : Progress) (x y z : ℕ) (items : List Item) (so_far : FailsByFault first x (failures_among items) at y) where
  -- with one more item
  pub fails_more : (item : Item) → FailsByFault at y (failures_of item) new z → FailsByFault first x (failures_among (items ++ item ∷ [])) new z
  fails_more item step =
      subst (λ n. FailsByFault first x n new z) (sym (failures-push items item))
      (fails_then first at new x y z (failures_among items) (failures_of item) so_far step)

  -- at the end
  pub fails_end : FailsByFault at y 0 new z → FailsByFault first x (failures_among items) new z
  fails_end step = subst (λ n. FailsByFault first x n new z) (nothing (failures_among items))
      (fails_then first at new x y z (failures_among items) 0 so_far step)
    where
      nothing : (given : ℕ) → given + 0 ≡ given
      nothing given = omega arith

  -- where it is cut off before the next item
  pub fails_cut : (more : ℕ) → FailsByFault at y more new z → FailsByFault first x (failures_among items) at z
  fails_cut more step = record {
    later = (let low : x ≤ y = so_far.later in let high : y ≤ z = step.later in omega arith);
    rose = λ start count rose. rose_later (count + failures_among items + waiting at.stack) start (so_far.rose start count rose) step.later;
  }
    where
      rose_later : (count start : ℕ) → RoseBy count start y → y ≤ z → RoseBy count start z
      rose_later count start rose later = omega arith

-- What was given from the beginning: a walk that begins has no failure left to give, so its failures are no more than
-- the count of faults rose by.
pub costs_begun : (first at : Progress) (x y given : ℕ) → waiting first.stack ≡ 0 → FailsByFault first x given at y → Costs given x y
costs_begun first at x y given none fails =
    let none_yet : RoseBy (0 + waiting first.stack) x x = omega arith in
    let all : RoseBy (0 + given + waiting at.stack) x y = fails.rose x 0 none_yet in
    record { later = fails.later; rose = omega arith }
