-- What the calls of a walk on a disk were answered since it began, for callers that take its items.
use Rattle.std.proofs.Common.{◌≡◌, ℕ, Bool, true, List, [], ◌∷◌, ◌++◌, map, Option, Some, Ok, Err, sym, subst}
use Rattle.std.specs.Iterator.{Yields}
use Rattle.odb_disk.specs.CallsMade.{Leads}
use Rattle.odb_disk.specs.declared.ask.DiskAsk.{DiskAsk}
use Rattle.odb_disk.specs.declared.ask.DiskAnswer.{DiskAnswer}
use Rattle.odb_disk.specs.Streams.{Streams}
use Rattle.odb_disk.specs.Tree.{State}
use Rattle.odb_base.specs.Path.{Path}
use Rattle.walkdir.proofs.AnsweredLemmas.{error_seen, error_wider, item_later, leads_still, leads_then}
use Rattle.walkdir.proofs.AnsweredLemmas.Calls.{look_refused, no_memory_told}
use Rattle.walkdir.specs.Answered.{AreTold, IsItemTold, IsRefusedAt, IsStackTold, IsToldIn, LooksBy}
use Rattle.walkdir.specs.Error.{is_no_memory}
use Rattle.walkdir.specs.OnDisk as OnDisks
use Rattle.walkdir.specs.Options.{Built}
use Rattle.walkdir.specs.Progress.{Progress, begun}
use Rattle.walkdir.specs.Walk.{Item, Order}
use Rattle.walkdir.specs.declared.dent.DirEntry.{DirEntry}
use Rattle.walkdir.specs.declared.error.Error.{Error}
use Rattle.walkdir.specs.declared.error.ErrorInner.{ErrorInner}
use Rattle.walkdir.specs.declared.iter.OnDisk.{OnDisk}

module _ {D W : Type 0} (state : D → Option State) (streams : D → Streams) (faults : D → ℕ) (answered : D → DiskAsk → DiskAnswer → D → Type 0)
    (progress : W → Streams → Progress) where
  abbrev at_walk : OnDisk D W → Progress
  at_walk s = OnDisks.at_walk state streams faults answered progress s

  abbrev NextOn : OnDisk D W → Option Item → OnDisk D W → Type 0
  NextOn s item t = OnDisks.NextOn state streams faults answered progress s item t

  -- Calls of `next` lead from one disk to another; what was reported before them still is, with all that they give.
  pub told_along : (s : OnDisk D W) (items : List Item) (t : OnDisk D W) → Yields NextOn s items t
      → Leads answered s.disk.now t.disk.now
      × ((first : D) → IsStackTold answered first s.disk.now (at_walk s).stack → IsStackTold answered first t.disk.now (at_walk t).stack
      × AreTold answered first t.disk.now items)
  told_along s [] t is =
      subst (λ (x : OnDisk D W). Leads answered s.disk.now x.disk.now
      × ((first : D) → IsStackTold answered first s.disk.now (at_walk s).stack → IsStackTold answered first x.disk.now (at_walk x).stack × Unit {0}))
      is
      (leads_still answered s.disk.now, λ first told. (told, tt))
  told_along s (item ∷ items) t along =
      let m = along.0 in
      let one = along.1.5 in
      let more = told_along m items t along.2 in (
        leads_then answered s.disk.now m.disk.now t.disk.now one.leads more.0,
        λ first told.
            let here = one.told first told in
            let there = more.1 first here.0 in
            (there.0, (item_later answered first m.disk.now t.disk.now (Some item) more.0 here.1, there.1)),
      )

  -- Calls lead from the disk before some items to the disk after the next.
  pub leads_next : (s : OnDisk D W) (items : List Item) (t : OnDisk D W) (item : Option Item) (u : OnDisk D W) → Yields NextOn s items t
      → NextOn t item u → Leads answered s.disk.now u.disk.now
  leads_next s items t item u along last = leads_then answered s.disk.now t.disk.now u.disk.now (told_along s items t along).0 last.5.leads

  -- A walk that begins keeps nothing, so all that it keeps was reported.
  pub nothing_told : {T : Type 0} (order : T → Order) (built : Built T) (before : Streams) (s : OnDisk D W) → at_walk s ≡ begun order built before
      → IsStackTold answered s.disk.now s.disk.now (at_walk s).stack
  nothing_told order built before s is =
      subst (λ (p : Progress). IsStackTold answered s.disk.now s.disk.now p.stack) (sym is)
      (record { leads = leads_still answered s.disk.now; lists = tt })

  -- Whatever a walk has given since it began: each error was answered by one of its calls since.
  pub told_on_disk : {T : Type 0} (order : T → Order) (built : Built T) (before : Streams) (s : OnDisk D W) (items : List Item) (t : OnDisk D W)
      → at_walk s ≡ begun order built before
      → Yields NextOn s items t → AreTold answered s.disk.now t.disk.now items
  told_on_disk order built before s items t is along = ((told_along s items t along).1 s.disk.now (nothing_told order built before s is)).1

  -- The next item alone, if it is an error, was answered by a call since the walk began.
  pub told_next : {T : Type 0} (order : T → Order) (built : Built T) (before : Streams) (s : OnDisk D W) (items : List Item) (t : OnDisk D W)
      (item : Option Item) (u : OnDisk D W)
      → at_walk s ≡ begun order built before → Yields NextOn s items t → NextOn t item u → IsItemTold answered s.disk.now u.disk.now item
  told_next order built before s items t item u is along last =
      (last.5.told s.disk.now ((told_along s items t along).1 s.disk.now (nothing_told order built before s is)).0).1

  -- If the next item is an error with a path: a stat of it was refused since the walk began, and it is in the innermost
  -- directory; or its opening was, and it is the innermost directory.
  pub refused_next : {T : Type 0} (order : T → Order) (built : Built T) (before : Streams) (s : OnDisk D W) (items : List Item) (t : OnDisk D W)
      (item : Option Item) (u : OnDisk D W)
      → at_walk s ≡ begun order built before → Yields NextOn s items t → NextOn t item u
      → IsRefusedAt answered s.disk.now u.disk.now item (at_walk u).stack
  refused_next order built before s items t item u is along last =
      last.5.refused s.disk.now ((told_along s items t along).1 s.disk.now (nothing_told order built before s is)).0

-- What a call was answered stays so when more calls are made.
pub told_later : {D : Type 0} (answered : D → DiskAsk → DiskAnswer → D → Type 0) (first now last : D) (item : Option Item) → Leads answered now last
    → IsItemTold answered first now item
    → IsItemTold answered first last item
told_later answered first now last item later told = item_later answered first now last item later told

module _ {D : Type 0} (answered : D → DiskAsk → DiskAnswer → D → Type 0) where
  -- An error that a call was answered stays so when more calls are made, before or after.
  pub told_wider : (first before after last : D) (inner : ErrorInner) → Leads answered first before → IsToldIn answered before after inner
      → Leads answered after last → IsToldIn answered first last inner
  told_wider first before after last inner earlier told later = error_wider answered first before after last inner earlier told later

  -- The error of a stat was answered by it.
  pub look_told : (first : D) (depth : ℕ) (path : Path) (follow : Bool) (old new : D) (error : Error) → Leads answered first old
      → LooksBy answered depth path follow old (Err error) new → IsToldIn answered first new error.inner
  look_told first depth path follow old new error earlier by =
      error_seen answered first new error (look_refused answered first depth path follow old new error earlier by)

  -- The walk may run out of memory itself.
  pub lost_told : (first now : D) (error : Error) → is_no_memory error ≡ true → IsToldIn answered first now error.inner
  lost_told first now error lost = no_memory_told answered first now error lost

  -- The error after entries.
  pub last_told : (first now : D) (entries : List DirEntry) (error : Error) → AreTold answered first now (map Ok entries ++ Err error ∷ [])
      → IsToldIn answered first now error.inner
  last_told first now [] error told = told.0
  last_told first now (entry ∷ entries) error told = last_told first now entries error told.1
