-- What a filtered walk gives is what its filter leaves of the walk of its tree, whatever its predicate is.
use Rattle.std.proofs.Common.{◌≡◌, append-nil, ℕ, Bool, true, false, List, [], ◌∷◌, ◌++◌, Option, Some, None, refl, sym, ap, subst}
use Rattle.std.specs.Fn.{Mut, CalledAt}
use Rattle.std.specs.Iterator.{Yields}
use denote.Ref.{Bor}
use Rattle.odb_disk.specs.declared.ask.DiskAsk.{DiskAsk}
use Rattle.odb_disk.specs.declared.ask.DiskAnswer.{DiskAnswer}
use Rattle.odb_disk.specs.Streams.{Streams}
use Rattle.odb_disk.specs.Tree.{State, tree_of}
use Rattle.walkdir.proofs.FilteredWalkLemmas.{StillLeaves, unbegun_gives, unbegun_keeps, unbegun_of}
use Rattle.walkdir.proofs.StillGivesLemmas.{something_left}
use Rattle.walkdir.specs.Above.{AreEntered}
use Rattle.walkdir.specs.FilteredWalk.{AnswersBy, BeginsFilteredBy, FilteredOn, FiltersWalk, GivesFiltered, HasNotBegun, IsFilteredBy, LeavesOut, NoneLost, by_entry}
use Rattle.walkdir.specs.OnDisk.{at_walk}
use Rattle.walkdir.specs.Progress.{Progress}
use Rattle.walkdir.specs.Stack.{ancestors}
use Rattle.walkdir.specs.Walk.{Walking, Item, IsWalk}
use Rattle.walkdir.specs.declared.dent.DirEntry.{DirEntry}
use Rattle.walkdir.specs.declared.filter.FilterEntry.{FilterEntry}
use Rattle.walkdir.specs.declared.iter.OnDisk.{OnDisk}
use Rattle.walkdir.specs.declared.directory.DirList.{DirList}
use Rattle.walkdir.proofs.FilteredWalkLemmas.Calls.{Stays, leads}

-- ---- a filtered walk on a disk whose tree is known

module _ {D W : Type 0} (state : D → Option State) (streams : D → Streams) (faults : D → ℕ) (answered : D → DiskAsk → DiskAnswer → D → Type 0)
    (progress : W → Streams → Progress) where
  module _ {F : Type 0} (calls : Mut F (Bor DirEntry × Unit {0}) Bool) where
    -- what was given so far, and what still comes
    leads_along : (walk : Walking) (told : State) (before : Streams) (s : FilterEntry (OnDisk D W) F) (items : List Item)
        (t : FilterEntry (OnDisk D W) F) → walk.tree ≡ tree_of told
        → Stays state streams faults answered progress walk told before s.walk
        → Yields (FilteredOn state streams faults answered progress calls) s items t → NoneLost items
        → Stays state streams faults answered progress walk told before t.walk
        × ((last given : List Item) (k : F)
        → StillLeaves walk (CalledAt calls) (at_walk state streams faults answered progress t.walk) t.predicate last given k
        → StillLeaves walk (CalledAt calls) (at_walk state streams faults answered progress s.walk) s.predicate last (items ++ given) k)
    leads_along walk told before s [] t tree stays is lost =
        let same : t.walk ≡ s.walk = ap (λ (x : FilterEntry (OnDisk D W) F). x.walk) (sym is) in (
          subst (Stays state streams faults answered progress walk told before) (sym same) stays,
          λ last given k left.
              subst (λ (x : FilterEntry (OnDisk D W) F).
              StillLeaves walk (CalledAt calls) (at_walk state streams faults answered progress x.walk) x.predicate last given k) (sym is) left,
        )
    leads_along walk told before s (item ∷ items) t tree stays along lost =
        let at = leads state streams faults answered progress calls walk told before along.1 tree stays lost.0 in
        let more = leads_along walk told before along.0 items t tree (record { tells = at.tells; of = at.of; keeps = at.keeps; above = at.above })
        along.2 lost.1 in
        (more.0, λ last given k left. at.back last (items ++ given) k (more.1 last given k left))

    -- ---- from a walk that hasn't begun

    stays_begun : (walk : Walking) (told : State) (s : OnDisk D W) → state s.disk.now ≡ Some told
        → HasNotBegun walk (at_walk state streams faults answered progress s)
        → Stays state streams faults answered progress walk told (at_walk state streams faults answered progress s).streams s
    stays_begun walk told s tells at = record {
      tells = tells;
      of = unbegun_of walk (at_walk state streams faults answered progress s) at;
      keeps = unbegun_keeps walk (at_walk state streams faults answered progress s) at;
      above = subst (λ (l : List DirList). AreEntered walk (ancestors l)) (sym at.stack) tt;
    }

    filtered_begins : (walk : Walking) (told : State) (s : FilterEntry (OnDisk D W) F) (items : List Item) (t : FilterEntry (OnDisk D W) F)
        → walk.tree ≡ tree_of told
        → state s.walk.disk.now ≡ Some told → HasNotBegun walk (at_walk state streams faults answered progress s.walk)
        → Yields (FilteredOn state streams faults answered progress calls) s items t → NoneLost items
        → BeginsFilteredBy walk (CalledAt calls) s.predicate items t.predicate
    filtered_begins walk told s items t tree tells at along lost =
        let before = (at_walk state streams faults answered progress s.walk).streams in
        let led = leads_along walk told before s items t tree (stays_begun walk told s.walk tells at) along lost in
        let some = something_left walk before (at_walk state streams faults answered progress t.walk) led.0.keeps in
        let left = led.1 some.0 [] t.predicate (record { items = []; gives = some.1; leaves = LeavesOut.Ended }) in
        record {
          items = left.items;
          rest = some.0;
          is = unbegun_gives walk (at_walk state streams faults answered progress s.walk) (left.items ++ some.0) at left.gives;
          leaves = subst (λ l. LeavesOut walk (CalledAt calls) s.predicate left.items l t.predicate) (append-nil items) left.leaves;
        }

    filtered_whole : (walk : Walking) (told : State) (s : FilterEntry (OnDisk D W) F) (items : List Item) (t u : FilterEntry (OnDisk D W) F)
        → walk.tree ≡ tree_of told
        → state s.walk.disk.now ≡ Some told → HasNotBegun walk (at_walk state streams faults answered progress s.walk)
        → Yields (FilteredOn state streams faults answered progress calls) s items t
        → FilteredOn state streams faults answered progress calls t None u → NoneLost items
        → IsFilteredBy walk (CalledAt calls) s.predicate items u.predicate
    filtered_whole walk told s items t u tree tells at along last lost =
        let before = (at_walk state streams faults answered progress s.walk).streams in
        let led = leads_along walk told before s items t tree (stays_begun walk told s.walk tells at) along lost in
        let end = leads state streams faults answered progress calls walk told before last tree led.0 refl in
        let none = end.back [] [] u.predicate (record { items = []; gives = end.over refl; leaves = LeavesOut.Ended }) in
        let left = led.1 [] [] u.predicate none in
        record {
          items = left.items;
          is = subst (IsWalk walk) (append-nil left.items)
              (unbegun_gives walk (at_walk state streams faults answered progress s.walk) (left.items ++ []) at left.gives);
          leaves = subst (λ l. LeavesOut walk (CalledAt calls) s.predicate left.items l u.predicate) (append-nil items) left.leaves;
        }

    -- the law for any predicate
    pub filters_walk : (s : FilterEntry (OnDisk D W) F) → FiltersWalk state streams faults answered progress calls s
    filters_walk s = record {
      begins = λ walk told items t tree tells at along lost. filtered_begins walk told s items t tree tells at along lost;
      whole = λ walk told items t u tree tells at along last lost. filtered_whole walk told s items t u tree tells at along last lost;
    }

    -- ---- a predicate that answers by the entry alone

    leaves_by_entry : (walk : Walking) (accepts : DirEntry → Bool) → AnswersBy calls accepts → {f h : F} {items given : List Item}
        → LeavesOut walk (CalledAt calls) f items given h → LeavesOut {F = Unit {0}} walk (by_entry accepts) tt items given tt
    leaves_by_entry walk accepts answers LeavesOut.Ended = LeavesOut.Ended
    leaves_by_entry walk accepts answers (LeavesOut.Failed left) = LeavesOut.Failed (leaves_by_entry walk accepts answers left)
    leaves_by_entry walk accepts answers {f} (LeavesOut.Accepted {entry = entry} g asked left) =
        LeavesOut.Accepted tt (sym (answers f g entry true asked)) (leaves_by_entry walk accepts answers left)
    leaves_by_entry walk accepts answers {f} (LeavesOut.Alone {entry = entry} g asked out left) =
        LeavesOut.Alone tt (sym (answers f g entry false asked)) out (leaves_by_entry walk accepts answers left)
    leaves_by_entry walk accepts answers {f}
        (LeavesOut.WithContents {entry = entry} g place above contents behind asked dir first enters are contains is left) =
        LeavesOut.WithContents tt place above contents behind (sym (answers f g entry false asked)) dir first enters are contains is
        (leaves_by_entry walk accepts answers left)

    pub gives_filtered : (accepts : DirEntry → Bool) → AnswersBy calls accepts → (s : FilterEntry (OnDisk D W) F)
        → GivesFiltered state streams faults answered progress calls accepts s
    gives_filtered accepts answers s = record {
      begins = λ walk told items t tree tells at along lost.
          let left = filtered_begins walk told s items t tree tells at along lost in
          record { items = left.items; rest = left.rest; is = left.is; leaves = leaves_by_entry walk accepts answers left.leaves };
      whole = λ walk told items t u tree tells at along last lost.
          let left = filtered_whole walk told s items t u tree tells at along last lost in
          record { items = left.items; is = left.is; leaves = leaves_by_entry walk accepts answers left.leaves };
    }
