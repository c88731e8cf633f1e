-- How often the disk's count of faults rose for what a walk gave, also if it isn't run to its end.
use Rattle.std.proofs.Common.{◌≡◌, ℕ, ◌+◌, ◌≤◌, Bool, true, false, List, [], ◌∷◌, map, Option, None, Result, Ok, Err, ◌⊎◌, inl, inr, sym, ap, subst, ◌∙◌, arith}
use Rattle.std.specs.Fn.{Mut}
use Rattle.std.specs.Iterator.{Yields, YieldsThen}
use Rattle.std.specs.Prelude.{MatchBool}
use Rattle.std.specs.Result.{IfErr, IfOk}
use denote.Ref.{Bor}
use Rattle.odb_disk.specs.declared.ask.DiskAsk.{DiskAsk}
use Rattle.odb_disk.specs.declared.ask.DiskAnswer.{DiskAnswer}
use Rattle.odb_disk.specs.Streams.{Streams}
use Rattle.odb_disk.specs.Tree.{State}
use Rattle.walkdir.proofs.FilteredWalks.{FiltersOn, Kept, kept_along, kept_filters, kept_then}
use Rattle.walkdir.proofs.FailuresLaws.{costs_begun, costs_fewer, fails_fewer, fails_next, fails_none, fails_skipped, fails_then, failures-last, memory_is_no_failure}
use Rattle.walkdir.proofs.WholeWalks.{failures_along}
use Rattle.walkdir.specs.Error.{failures, is_no_memory}
use Rattle.walkdir.specs.Failures.{Costs, failures_among, failures_given, failures_of, waiting}
use Rattle.walkdir.specs.Filter.{Accepts, Ends, Errs, Rejects}
use Rattle.walkdir.specs.OnDisk.{NextOn, SkipsOn, at_walk}
use Rattle.walkdir.specs.Options.{Built}
use Rattle.walkdir.specs.Progress.{FailsByFault, Progress, begun}
use Rattle.walkdir.specs.Walk.{Item, Order}
use Rattle.walkdir.specs.declared.dent.DirEntry.{DirEntry}
use Rattle.walkdir.specs.declared.error.Error.{Error}
use Rattle.walkdir.specs.declared.filter.FilterEntry.{FilterEntry}
use Rattle.walkdir.specs.declared.iter.OnDisk.{OnDisk}
use Rattle.walkdir_uses.specs.Found.{EndsWith}

-- the error at the end of what a walk gave is one of its failures
pub ends_within : (items : List Item) (error : Error) → EndsWith items error → failures error ≤ failures_among items
ends_within items error ends =
    let is : failures_among items ≡ failures error = ap failures_among ends.1 ∙ failures-last ends.0 error in
    omega arith

pub within_given : (items : List Item) (error : Error) → (is_no_memory error ≡ true) ⊎ EndsWith items error → failures error ≤ failures_among items
within_given items error (inl lost) = let none = memory_is_no_failure error lost in omega arith
within_given items error (inr ends) = ends_within items error ends

module _ {D W : Type 0} (state : D → Option State) (streams : D → Streams) (faults : D → ℕ) (answered : D → DiskAsk → DiskAnswer → D → Type 0) (progress : W → Streams → Progress) where
  -- what a walk gives last, it gives by faults since it began
  pub costs_of_next : {T : Type 0} (order : T → Order) (built : Built T) (before : Streams) (s : OnDisk D W) (items : List Item) (t : OnDisk D W) (item : Option Item) (u : OnDisk D W)
      → at_walk state streams faults answered progress s ≡ begun order built before → Yields (NextOn state streams faults answered progress) s items t
      → NextOn state streams faults answered progress t item u
      → Costs (failures_given item) (faults s.disk.now) (faults u.disk.now)
  costs_of_next order built before s items t item u is along last =
      let fails = fails_then (at_walk state streams faults answered progress s) (at_walk state streams faults answered progress t)
      (at_walk state streams faults answered progress u) (faults s.disk.now) (faults t.disk.now)
      (faults u.disk.now) (failures_among items) (failures_given item) (failures_along state streams faults answered progress s items t along) last.2 in
      costs_fewer (failures_among items + failures_given item) (failures_given item) (faults s.disk.now) (faults u.disk.now) (omega arith)
      (costs_begun (at_walk state streams faults answered progress s) (at_walk state streams faults answered progress u) (faults s.disk.now) (faults u.disk.now)
      (failures_among items + failures_given item)
      (ap (λ (p : Progress). waiting p.stack) is) fails)

  after_rejected : (entered : Bool) (s t : OnDisk D W) → MatchBool entered (SkipsOn state streams faults answered progress s t) (t ≡ s)
      → FailsByFault (at_walk state streams faults answered progress s) (faults s.disk.now) 0 (at_walk state streams faults answered progress t) (faults t.disk.now)
  after_rejected true s t skip = fails_skipped (at_walk state streams faults answered progress s) (at_walk state streams faults answered progress t) (faults s.disk.now)
      (faults t.disk.now) skip.0.stack skip.2
  after_rejected false s t is =
      subst (λ x. FailsByFault (at_walk state streams faults answered progress s) (faults s.disk.now) 0 (at_walk state streams faults answered progress x) (faults x.disk.now)) (sym is)
      (fails_none (at_walk state streams faults answered progress s) (faults s.disk.now))

  -- ---- of a filtered walk

  module _ {F : Type 0} {accepts : Mut F (Bor DirEntry × Unit {0}) Bool} where
    -- A call of `next` gives no more failures than the count of faults rose by, also if it skips entries.
    pub fails_filtered : {s t : OnDisk D W} {f h : F} {item : Option Item} → FiltersOn state streams faults answered progress accepts s f item t h
        → FailsByFault (at_walk state streams faults answered progress s) (faults s.disk.now) (failures_given item) (at_walk state streams faults answered progress t) (faults t.disk.now)
    fails_filtered (Ends step) = step.2
    fails_filtered (Errs step) = step.2
    fails_filtered (Accepts step called) = step.2
    fails_filtered {s} {t} {item = item} (Rejects m n g entry step called after rest) =
        fails_next (at_walk state streams faults answered progress s) (at_walk state streams faults answered progress m) (at_walk state streams faults answered progress t)
        (faults s.disk.now) (faults m.disk.now) (faults t.disk.now)
        (failures_given item) step.2
        (fails_next (at_walk state streams faults answered progress m) (at_walk state streams faults answered progress n) (at_walk state streams faults answered progress t)
        (faults m.disk.now) (faults n.disk.now) (faults t.disk.now)
        (failures_given item) (after_rejected (at_walk state streams faults answered progress m).entered m n after) (fails_filtered rest))

  pub fails_filtered_along : {F : Type 0} (accepts : Mut F (Bor DirEntry × Unit {0}) Bool) (s : FilterEntry (OnDisk D W) F) (items : List Item) (t : FilterEntry (OnDisk D W) F)
      → Yields (λ from item to. FiltersOn state streams faults answered progress accepts from.walk from.predicate item to.walk to.predicate) s items t
      → FailsByFault (at_walk state streams faults answered progress s.walk) (faults s.walk.disk.now) (failures_among items) (at_walk state streams faults answered progress t.walk)
      (faults t.walk.disk.now)
  fails_filtered_along accepts s [] t is =
      subst (λ x. FailsByFault (at_walk state streams faults answered progress s.walk) (faults s.walk.disk.now) 0 (at_walk state streams faults answered progress x.walk) (faults x.walk.disk.now)) is
      (fails_none (at_walk state streams faults answered progress s.walk) (faults s.walk.disk.now))
  fails_filtered_along accepts s (item ∷ items) t along =
      fails_then (at_walk state streams faults answered progress s.walk) (at_walk state streams faults answered progress along.0.walk)
      (at_walk state streams faults answered progress t.walk) (faults s.walk.disk.now)
      (faults along.0.walk.disk.now) (faults t.walk.disk.now) (failures_of item) (failures_among items) (fails_filtered along.1) (fails_filtered_along accepts along.0 items t along.2)

  -- what a filtered walk leaves as it was, and the failures in what it gave, up to its end or its first error
  pub record Passed (s t : OnDisk D W) (count : ℕ) : Type 0 where
    pub kept : Kept state streams faults answered progress s t
    pub fails : FailsByFault (at_walk state streams faults answered progress s) (faults s.disk.now) count (at_walk state streams faults answered progress t) (faults t.disk.now)

  pub passed : {F V : Type 0} (accepts : Mut F (Bor DirEntry × Unit {0}) Bool) (entries_in : V → List DirEntry) (result : Result V Error) (s t : FilterEntry (OnDisk D W) F)
      → IfOk result (λ found. YieldsThen (λ from item to. FiltersOn state streams faults answered progress accepts from.walk from.predicate item to.walk to.predicate) s
      (map Ok (entries_in found)) None t)
      → IfErr result (λ error. (items : List Item) × Yields (λ from item to. FiltersOn state streams faults answered progress accepts from.walk from.predicate item to.walk to.predicate) s items t
      × ((is_no_memory error ≡ true) ⊎ EndsWith items error)) → Passed s.walk t.walk (failures_of result)
  passed accepts entries_in (Ok found) s t whole part =
      let items : List Item = map Ok (entries_in found) in
      let mid = whole.0 in
      record {
        kept = kept_then state streams faults answered progress s.walk mid.walk t.walk (kept_along state streams faults answered progress accepts s items mid whole.1)
            (kept_filters state streams faults answered progress whole.2);
        fails = fails_fewer (at_walk state streams faults answered progress s.walk) (at_walk state streams faults answered progress t.walk) (faults s.walk.disk.now)
            (faults t.walk.disk.now) (failures_among items + 0) 0
            (omega arith)
            (fails_then (at_walk state streams faults answered progress s.walk) (at_walk state streams faults answered progress mid.walk)
            (at_walk state streams faults answered progress t.walk) (faults s.walk.disk.now)
            (faults mid.walk.disk.now) (faults t.walk.disk.now) (failures_among items) 0 (fails_filtered_along accepts s items mid whole.1) (fails_filtered whole.2));
      }
  passed accepts entries_in (Err error) s t whole part = record {
    kept = kept_along state streams faults answered progress accepts s part.0 t part.1;
    fails = fails_fewer (at_walk state streams faults answered progress s.walk) (at_walk state streams faults answered progress t.walk) (faults s.walk.disk.now)
        (faults t.walk.disk.now) (failures_among part.0)
        (failures error) (within_given part.0 error part.2) (fails_filtered_along accepts s part.0 t part.1);
  }
