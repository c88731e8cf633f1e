-- What a filtered walk on a disk leaves as it was, and what it gives, for its callers.
use Rattle.std.proofs.Common.{◌≡◌, ℕ, Bool, true, false, List, [], ◌∷◌, map, Option, Some, None, Ok, refl, sym, ap, subst, ◌∙◌}
use Rattle.std.specs.Fn.{Mut, CalledAt}
use Rattle.std.specs.Iterator.{Yields}
use Rattle.std.specs.List.{All}
use Rattle.std.specs.Prelude.{MatchBool}
use Rattle.std.proofs.lemmas.List.Elements.{All-cons, All-nil}
use denote.Ref.{Bor}
use Rattle.odb_disk.specs.declared.ask.DiskAsk.{DiskAsk}
use Rattle.odb_disk.specs.declared.ask.DiskAnswer.{DiskAnswer}
use Rattle.odb_disk.specs.Streams.{Streams}
use Rattle.odb_disk.specs.Tree.{State}
use Rattle.odb_disk.specs.CallsMade.{Leads}
use Rattle.walkdir.proofs.AnsweredLemmas.{item_later, leads_still, leads_then}
use Rattle.walkdir.proofs.AnsweredLemmas.Steps.{tells_still, tells_then}
use Rattle.walkdir.proofs.WholeWalks.{begun_keeps}
use Rattle.walkdir.specs.Answered.{AreTold, IsStackTold, TellsOn}
use Rattle.walkdir.specs.FilteredWalk.{FilteredOn}
use Rattle.walkdir.specs.Filter.{Filters, Accepts, Ends, Errs, Rejects}
use Rattle.walkdir.specs.OnDisk.{NextOn, SkipsOn, at_walk}
use Rattle.walkdir.specs.Options.{Built}
use Rattle.walkdir.specs.OwnStreams.{AreBack}
use Rattle.walkdir.specs.Progress.{Keeps, Progress, begun}
use Rattle.walkdir.specs.Walk.{Item, Order}
use Rattle.walkdir.specs.declared.builder.Options.{Options}
use Rattle.walkdir.specs.declared.dent.DirEntry.{DirEntry}
use Rattle.walkdir.specs.declared.filter.FilterEntry.{FilterEntry}
use Rattle.walkdir.specs.declared.iter.OnDisk.{OnDisk}

module _ {D W : Type 0} (state : D → Option State) (streams : D → Streams) (faults : D → ℕ) (answered : D → DiskAsk → DiskAnswer → D → Type 0)
    (progress : W → Streams → Progress) where
  -- what stays as it was
  pub record Kept (s t : OnDisk D W) : Type 0 where
    pub tells : state t.disk.now ≡ state s.disk.now
    pub disk : t.disk.ghost_name ≡ s.disk.ghost_name
    pub options : (at_walk state streams faults answered progress t).options ≡ (at_walk state streams faults answered progress s).options
    pub keeps : (before : Streams) → Keeps before (at_walk state streams faults answered progress s)
        → Keeps before (at_walk state streams faults answered progress t)

  pub kept_first : (s : OnDisk D W) → Kept s s
  kept_first s = record { tells = refl; disk = refl; options = refl; keeps = λ before keeps. keeps }

  pub kept_then : (s t u : OnDisk D W) → Kept s t → Kept t u → Kept s u
  kept_then s t u first second = record {
    tells = second.tells ∙ first.tells;
    disk = second.disk ∙ first.disk;
    options = second.options ∙ first.options;
    keeps = λ before keeps. second.keeps before (first.keeps before keeps);
  }

  kept_step : (s : OnDisk D W) (item : Option Item) (t : OnDisk D W) → NextOn state streams faults answered progress s item t → Kept s t
  kept_step s item t step = record { tells = step.3; disk = step.4; options = step.1.options; keeps = step.1.keeps }

  kept_after : (entered : Bool) (s t : OnDisk D W) → MatchBool entered (SkipsOn state streams faults answered progress s t) (t ≡ s) → Kept s t
  kept_after true s t skip = record { tells = skip.1; disk = skip.3; options = skip.0.options; keeps = skip.0.keeps }
  kept_after false s t is = subst (Kept s) (sym is) (kept_first s)

  -- what a filtered walk leaves that is dropped
  pub filtered_back : {T : Type 0} (order : T → Order) (built : Built T) (before now : Streams) (s u : OnDisk D W)
      → at_walk state streams faults answered progress s ≡ begun order built before → Kept s u
      → ((other : Streams) → Keeps other (at_walk state streams faults answered progress u)
      → AreBack other (at_walk state streams faults answered progress u).options.max_open now)
      → AreBack before built.options.max_open now
  filtered_back order built before now s u is kept dropped =
      let keeps = subst (Keeps before) (sym is) (begun_keeps order built before) in
      subst (λ (o : Options). AreBack before o.max_open now) (kept.options ∙ ap (λ (p : Progress). p.options) is)
      (dropped before (kept.keeps before keeps))

  -- what a filtered walk gives there, part by part
  abbrev pub FiltersOn : {F : Type 0} → Mut F (Bor DirEntry × Unit {0}) Bool → OnDisk D W → F → Option Item → OnDisk D W → F → Type 0
  FiltersOn accepts s f item t h = Filters (NextOn state streams faults answered progress) (SkipsOn state streams faults answered progress)
      (λ x. (at_walk state streams faults answered progress x).entered) accepts s f item t h

  module _ {F : Type 0} {accepts : Mut F (Bor DirEntry × Unit {0}) Bool} where
    pub kept_filters : {s t : OnDisk D W} {f h : F} {item : Option Item} → FiltersOn accepts s f item t h → Kept s t
    kept_filters {s} {t} (Ends step) = kept_step s None t step
    kept_filters {s} {t} {item = item} (Errs step) = kept_step s item t step
    kept_filters {s} {t} {item = item} (Accepts step called) = kept_step s item t step
    kept_filters {s} {t} (Rejects m n g entry step called after rest) =
        kept_then s m t (kept_step s (Some (Ok entry)) m step)
        (kept_then m n t (kept_after (at_walk state streams faults answered progress m).entered m n after) (kept_filters rest))

    -- an entry that is given was accepted
    pub accepted : {s t : OnDisk D W} {f h : F} {item : Option Item} (entry : DirEntry) → item ≡ Some (Ok entry) → FiltersOn accepts s f item t h
        → (g : F) × (k : F) × CalledAt accepts g entry true k
    accepted entry is (Ends step) = absurd cc
    accepted entry is (Errs step) = absurd cc
    accepted entry is (Accepts {f = f} {h = h} {entry = other} step called) =
        let same : other ≡ entry = cc in
        (f, h, subst (λ e. CalledAt accepts f e true h) same called)
    accepted entry is (Rejects m n g other step called after rest) = accepted entry is rest

    -- what holds of each entry that was accepted holds of all that are given
    pub all_accepted : (Holds : DirEntry → Type 0) → ((g k : F) (entry : DirEntry) → CalledAt accepts g entry true k → Holds entry)
        → (entries : List DirEntry) (s t : FilterEntry (OnDisk D W) F)
        → Yields (λ from item to. FiltersOn accepts from.walk from.predicate item to.walk to.predicate) s (map Ok entries) t → All Holds entries
    all_accepted Holds each [] s t along = All-nil Holds
    all_accepted Holds each (entry ∷ entries) s t along =
        let passed = accepted entry refl along.1 in
        All-cons Holds entry entries (each passed.0 passed.1 entry passed.2) (all_accepted Holds each entries along.0 t along.2)

  -- ---- what calls of the walk reported

  tells_after : (entered : Bool) (m n : OnDisk D W) → MatchBool entered (SkipsOn state streams faults answered progress m n) (n ≡ m)
      → TellsOn answered m.disk.now (at_walk state streams faults answered progress m).stack None n.disk.now
      (at_walk state streams faults answered progress n).stack
  tells_after true m n skip = skip.4
  tells_after false m n is =
      subst (λ (x : OnDisk D W). TellsOn answered m.disk.now (at_walk state streams faults answered progress m).stack None x.disk.now
      (at_walk state streams faults answered progress x).stack) (sym is)
      (tells_still answered m.disk.now (at_walk state streams faults answered progress m).stack
      (at_walk state streams faults answered progress m).stack refl)

  module _ {F : Type 0} {accepts : Mut F (Bor DirEntry × Unit {0}) Bool} where
    pub tells_filters : {s t : OnDisk D W} {f h : F} {item : Option Item} → FiltersOn accepts s f item t h
        → TellsOn answered s.disk.now (at_walk state streams faults answered progress s).stack item t.disk.now
        (at_walk state streams faults answered progress t).stack
    tells_filters (Ends step) = step.5
    tells_filters (Errs step) = step.5
    tells_filters (Accepts step called) = step.5
    tells_filters {s} {t} {item = item} (Rejects m n g entry step called after rest) =
        let at = λ (x : OnDisk D W). (at_walk state streams faults answered progress x).stack in
        tells_then answered s.disk.now m.disk.now t.disk.now (at s) (at m) (at t) (Some (Ok entry)) item step.5
        (tells_then answered m.disk.now n.disk.now t.disk.now (at m) (at n) (at t) None item
        (tells_after (at_walk state streams faults answered progress m).entered m n after) (tells_filters rest))

  pub tells_along : {F : Type 0} (accepts : Mut F (Bor DirEntry × Unit {0}) Bool) (s : FilterEntry (OnDisk D W) F) (items : List Item)
      (t : FilterEntry (OnDisk D W) F)
      → Yields (FilteredOn state streams faults answered progress accepts) s items t
      → Leads answered s.walk.disk.now t.walk.disk.now
      × ((first : D) → IsStackTold answered first s.walk.disk.now (at_walk state streams faults answered progress s.walk).stack
      → IsStackTold answered first t.walk.disk.now (at_walk state streams faults answered progress t.walk).stack
      × AreTold answered first t.walk.disk.now items)
  tells_along accepts s [] t is =
      subst (λ (x : FilterEntry (OnDisk D W) _). Leads answered s.walk.disk.now x.walk.disk.now
      × ((first : D) → IsStackTold answered first s.walk.disk.now (at_walk state streams faults answered progress s.walk).stack
      → IsStackTold answered first x.walk.disk.now (at_walk state streams faults answered progress x.walk).stack × Unit {0})) is
      (leads_still answered s.walk.disk.now, λ first told. (told, tt))
  tells_along accepts s (item ∷ items) t along =
      let m = along.0 in
      let one = tells_filters along.1 in
      let more = tells_along accepts m items t along.2 in (
        leads_then answered s.walk.disk.now m.walk.disk.now t.walk.disk.now one.leads more.0,
        λ first told.
            let here = one.told first told in
            let there = more.1 first here.0 in
            (there.0, (item_later answered first m.walk.disk.now t.walk.disk.now (Some item) more.0 here.1, there.1)),
      )

  -- what calls of the walk reported, after many items
  pub kept_along : {F : Type 0} (accepts : Mut F (Bor DirEntry × Unit {0}) Bool) (s : FilterEntry (OnDisk D W) F) (items : List Item)
      (t : FilterEntry (OnDisk D W) F)
      → Yields (λ from item to. FiltersOn accepts from.walk from.predicate item to.walk to.predicate) s items t → Kept s.walk t.walk
  kept_along accepts s [] t is = subst (λ x. Kept s.walk x.walk) is (kept_first s.walk)
  kept_along accepts s (item ∷ items) t along =
      kept_then s.walk along.0.walk t.walk (kept_filters along.1) (kept_along accepts along.0 items t along.2)
